-- How many entries a list has, before and after a run.
use Rattle.std.proofs.Common.{◌≡◌, ℕ, zero, suc, ◌+◌, ◌-◌, ◌^◌, ◌<◌, ◌≤◌, min, Bool, true, false, cond, ◌++◌, length, Some, None, Option, refl, ap, ◌∙◌, subst, arith, length-append, pow_mono}
use Rattle.std.specs.List.{AllByRecursion as All}
use Rattle.table.specs.Meaning.{value_in}
use Rattle.model.specs.Entries.{Entries, cancel_refusal, run_of, within_run, without_run}
use Rattle.model.specs.History.{count_below, having}
use Rattle.model.specs.Laws.{Apart}
use Rattle.model.proofs.Runs.{held_cancelled, value_without}
use Rattle.model.proofs.Tallies.{count_every, count_join, count_list, count_run, count_same}

-- any number passes
abbrev any : ℕ → Bool
any w = true

-- no more numbers below n pass a test than there are
pub count_most : (p : ℕ → Bool) (n : ℕ) → count_below p n ≤ n
unfolding count_below
count_most p zero = omega arith
count_most p (suc n) = let more = count_most p n in let one = at_most (p n) in omega arith
  where
    at_most : (t : Bool) → cond t 1 0 ≤ 1
    at_most true = omega arith
    at_most false = omega arith

-- a list whose keys are apart and below n has as many entries as there are keys in it
pub counted_keys : (l : Entries) (n : ℕ) → Apart l → All (λ e. e.0 < n) l → count_below (λ m. having any (value_in l m)) n ≡ length l
counted_keys l n apart below = count_list any l n apart below ∙ count_every l

-- and so no more than n
pub few : (l : Entries) (n : ℕ) → Apart l → All (λ e. e.0 < n) l → length l ≤ n
few l n apart below = let e = counted_keys l n apart below in let most = count_most (λ m. having any (value_in l m)) n in omega arith

-- a run has n entries
pub length_run : (m w n : ℕ) → length (run_of m w n) ≡ n
length_run m w zero = refl
length_run m w (suc n) = ap suc (length_run (suc m) w n)

-- where a key is one of the run or not, and what it is held under
parted : (within : Bool) (w : ℕ) (o : Option ℕ) → (within ≡ true → o ≡ Some w)
    → cond (having any o) 1 0 ≡ cond (having any (cond within None o)) 1 0 + cond within 1 0
parted true w o held = rw (held refl) (omega arith)
parted false w o held = omega arith

-- a run that is cancelled has n entries of the list
pub length_without : (l : Entries) (m w n N : ℕ) → cancel_refusal l m w 0 n ≡ None → m + n ≤ N → Apart l → All (λ e. e.0 < N) l
    → Apart (without_run m n l) → All (λ e. e.0 < N) (without_run m n l) → length l ≡ length (without_run m n l) + n
length_without l m w n N none fits apart below apart-left Below-left =
    let before = counted_keys l N apart below in
    let after = counted_keys (without_run m n l) N apart-left Below-left in
    let same = count_same (λ x. having any (value_in (without_run m n l) x)) (λ x. having any (cond (within_run m n x) None (value_in l x))) (λ x. ap (having any) (value_without m n l x)) N in
    let split = count_join (λ x. having any (value_in l x)) (λ x. having any (cond (within_run m n x) None (value_in l x))) (within_run m n)
    (λ x. parted (within_run m n x) w (value_in l x) (held_cancelled l m w 0 n x none)) N in
    let run = count_run m n N fits in
    omega arith

-- the count after a take, as it is worked out in a word
pub more_counted : (l : Entries) (m w n k old new : ℕ) → old ≡ length l → new ≡ min (old + n) (2 ^ 64 - 1) → k ≤ 32 → Apart (l ++ run_of m w n) → All (λ e. e.0 < 2 ^ k) (l ++ run_of m w n)
    → new ≡ length (l ++ run_of m w n)
more_counted l m w n k old new was is narrow apart below =
    let long : length (l ++ run_of m w n) ≡ length l + n = length-append l (run_of m w n) ∙ ap (λ j. length l + j) (length_run m w n) in
    let most = few (l ++ run_of m w n) (2 ^ k) apart below in
    let word : 2 ^ k ≤ 2 ^ 32 = pow_mono narrow in
    omega arith

-- the count after a cancel; the width is the same before and after it
pub less_counted : (l : Entries) (m w n k k' old new : ℕ) → k' ≡ k → old ≡ length l → new ≡ old - n → cancel_refusal l m w 0 n ≡ None → m + n ≤ 2 ^ k → Apart l → All (λ e. e.0 < 2 ^ k) l
    → Apart (without_run m n l) → All (λ e. e.0 < 2 ^ k') (without_run m n l) → new ≡ length (without_run m n l)
less_counted l m w n k k' old new same was is none fits apart below apart-left Below-left =
    let split = length_without l m w n (2 ^ k) none fits apart below apart-left (subst (λ j. All (λ e. e.0 < 2 ^ j) (without_run m n l)) same Below-left) in omega arith
