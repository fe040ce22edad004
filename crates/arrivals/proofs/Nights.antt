-- The nights of a stay that exist, from the first one on.
use Rattle.std.proofs.Common.{◌≡◌, ℕ, zero, suc, ◌+◌, ◌^◌, ◌<◌, ◌≤◌, true, false, Option, None, Some, sym, ap, ◌∙◌, add-zero, arith, rules}
use Rattle.std.specs.Prelude.{unwrap_or}
use Rattle.std.specs.Option.{MatchOption}
use Rattle.coding.specs.Nights.{night_exists}
use Rattle.arrivals.specs.Stays.{existing}

-- the nights before place i exist, and that at i does not, or is past the stay
existing_is : (p t n i : ℕ) → i ≤ n → ((k : ℕ) → k < i → night_exists p (t + k) ≡ true) → (i < n → night_exists p (t + i) ≡ false) → existing p t n ≡ i
unfolding existing
existing_is p t zero i h before at = omega arith
existing_is p t (suc n) zero h before at = let e : night_exists p t ≡ false = rw add-zero at (at (omega arith)) in rw (existing, e)
existing_is p t (suc n) (suc i) h before at =
    let e : night_exists p t ≡ true = rw add-zero at (before 0 (omega arith)) in
    let next : (k : ℕ) → suc t + k ≡ t + suc k = λ k. omega arith in
    let rest = existing_is p (suc t) n i (omega arith) (λ k l. ap (night_exists p) (next k) ∙ before (suc k) (omega arith)) (λ l. ap (night_exists p) (next i) ∙ at (omega arith)) in
    rw (existing, e, rest)

last_night : (p t : ℕ) → night_exists p t ≡ true → t ≤ 731
last_night p t e = search rules

-- the place after nights that exist has a number
in_range : (p t i : ℕ) → t < 2 ^ 64 → ((k : ℕ) → k < i → night_exists p (t + k) ≡ true) → t + i < 2 ^ 64
in_range p t zero h before = omega arith
in_range p t (suc i) h before = omega (arith, last_night p (t + i) (before i (omega arith)))

-- what `find` gives
pub listed : (p t n : ℕ) (r : Option ℕ) → t < 2 ^ 64 → MatchOption r ((k : ℕ) → 0 ≤ k → k < n → night_exists p (t + k) ≡ true) (λ i. (0 ≤ i) × (i < n) × (night_exists p (t + i) ≡ false) × ((k : ℕ) → 0 ≤ k → k < i → night_exists p (t + k) ≡ true)) → (unwrap_or r n ≡ existing p t n) × (t + unwrap_or r n < 2 ^ 64)
listed p t n None h all =
    let before : (k : ℕ) → k < n → night_exists p (t + k) ≡ true = λ k l. all k (omega arith) l in
    (sym (existing_is p t n n (omega arith) before (λ l. absurd (omega arith))), in_range p t n h before)
listed p t n (Some i) h found =
    let before : (k : ℕ) → k < i → night_exists p (t + k) ≡ true = λ k l. found.3 k (omega arith) l in
    (sym (existing_is p t n i (omega (arith, found.1)) before (λ l. found.2)), in_range p t i h before)
