-- How many numbers below a bound pass a test.
use Rattle.std.proofs.Common.{◌≡◌, ℕ, zero, suc, ◌+◌, ◌-◌, ◌<◌, ◌≤◌, min, Bool, true, false, cond, ◌&&◌, eqb, [], ◌∷◌, length, Some, None, refl, ap, ◌∙◌, subst, ⊎_elim, arith}
use Rattle.std.proofs.lemmas.Bool.{cases_eq, eq-eqb, ne_eqb}
use Rattle.std.proofs.lemmas.Bool.Decides.{nat_tests}
use Rattle.std.specs.List.{AllByRecursion as All}
use Rattle.table.specs.Meaning.{value_in}
use Rattle.model.specs.Entries.{Entries, count_if, within_run}
use Rattle.model.specs.History.{count_below, having}
use Rattle.model.specs.Laws.{Apart}

-- tests that agree
pub count_same : (p q : ℕ → Bool) → ((j : ℕ) → p j ≡ q j) → (n : ℕ) → count_below p n ≡ count_below q n
unfolding count_below
count_same p q h zero = refl
count_same p q h (suc n) = let one = h n in let ih = count_same p q h n in rw (one, ih)

-- a test that nothing passes
pub count_none : (p : ℕ → Bool) → ((j : ℕ) → p j ≡ false) → (n : ℕ) → count_below p n ≡ 0
unfolding count_below
count_none p h zero = refl
count_none p h (suc n) = let one = h n in let ih = count_none p h n in rw (one, ih)

-- a test that is one of two others, never both
pub count_join : (p q r : ℕ → Bool) → ((j : ℕ) → cond (p j) 1 0 ≡ cond (q j) 1 0 + cond (r j) 1 0) → (n : ℕ) → count_below p n ≡ count_below q n + count_below r n
unfolding count_below
count_join p q r h zero = refl
count_join p q r h (suc n) =
    sum (count_below p n) (count_below q n) (count_below r n) (cond (p n) 1 0) (cond (q n) 1 0) (cond (r n) 1 0) (count_join p q r h n) (h n)
  where
    sum : (a b c x y z : ℕ) → a ≡ b + c → x ≡ y + z → a + x ≡ b + y + (c + z)
    sum a b c x y z e d = omega arith

-- the numbers of a run
count_part : (m n N : ℕ) → count_below (within_run m n) N ≡ min n (N - m)
unfolding count_below
count_part m n zero = omega arith
count_part m n (suc N) = let ih = count_part m n N in rw ih (grind (arith, nat_tests))

-- all of them below the bound
pub count_run : (m n N : ℕ) → m + n ≤ N → count_below (within_run m n) N ≡ n
count_run m n N h = count_part m n N ∙ omega arith

-- nothing and a number
pub plus_none : (x : ℕ) → x ≡ 0 + x
plus_none x = omega arith

-- the same under a condition
pub count_run_if : (t : Bool) (m n N : ℕ) → m + n ≤ N → count_below (λ j. within_run m n j && t) N ≡ cond t n 0
count_run_if true m n N h = count_same (λ j. within_run m n j && true) (within_run m n) (λ j. yes' (within_run m n j)) N ∙ count_run m n N h
  where
    yes' : (u : Bool) → (u && true) ≡ u
    yes' true = refl
    yes' false = refl
count_run_if false m n N h = count_none (λ j. within_run m n j && false) (λ j. no' (within_run m n j)) N
  where
    no' : (u : Bool) → (u && false) ≡ false
    no' true = refl
    no' false = refl

-- the keys that a list says a value of that passes a test are as many as its entries with such a value
pub count_list : (p : ℕ → Bool) (l : Entries) (N : ℕ) → Apart l → All (λ e. e.0 < N) l → count_below (λ m. having p (value_in l m)) N ≡ count_if (λ e. p e.1) l
count_list p [] N a below = count_none (λ m. having p None) (λ m. refl) N
count_list p (e ∷ l) N a below =
    let ih = count_list p l N a.1 below.1 in
    let split = count_join (λ m. having p (value_in (e ∷ l) m)) (λ m. having p (value_in l m)) (λ m. within_run e.0 1 m && p e.1) (each a.0) N in
    let fits : e.0 + 1 ≤ N = let lt : e.0 < N = below.0 in omega arith in
    split ∙ sums (p e.1) (count_below (λ m. having p (value_in l m)) N) (count_if (λ e. p e.1) l) (count_below (λ m. within_run e.0 1 m && p e.1) N) ih (count_run_if (p e.1) e.0 1 N fits)
  where
    sums : (t : Bool) (x y z : ℕ) → x ≡ y → z ≡ cond t 1 0 → x + z ≡ cond t (suc y) y
    sums true x y z p q = omega arith
    sums false x y z p q = omega arith

    each : value_in l e.0 ≡ None → (m : ℕ) → cond (having p (cond (eqb e.0 m) (Some e.1) (value_in l m))) 1 0 ≡ cond (having p (value_in l m)) 1 0 + cond (within_run e.0 1 m && p e.1) 1 0
    each none m =
        ⊎_elim
        (λ same.
        let t : eqb e.0 m ≡ true = eq-eqb e.0 m same in
        let u : within_run e.0 1 m ≡ true = grind (arith, nat_tests) in
        let v : value_in l m ≡ None = subst (λ y. value_in l y ≡ None) same none in
        rw (t, u, v) (plus_none (cond (p e.1) 1 0)))
        (λ off.
        let t : eqb e.0 m ≡ false = ne_eqb e.0 m off in
        let u : within_run e.0 1 m ≡ false = grind (arith, nat_tests) in
        rw (t, u) (zero' (cond (having p (value_in l m)) 1 0)))
        (cases_eq e.0 m)
      where
        zero' : (x : ℕ) → x ≡ x + 0
        zero' x = omega arith

-- every entry passes the test that nothing fails
pub count_every : (l : Entries) → count_if (λ e. true) l ≡ length l
count_every [] = refl
count_every (e ∷ l) = ap suc (count_every l)
