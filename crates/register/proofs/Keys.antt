-- The first place of a run whose number is no key's.
use Rattle.std.proofs.Common.{◌≡◌, ℕ, zero, suc, ◌+◌, ◌-◌, ◌<◌, ◌≤◌, ◌≢◌, Some, None, Option, sym, refl, ap, ◌∙◌, subst, arith}
use Rattle.std.specs.Option.{MatchOption}
use Rattle.model.specs.Model.{Fixed}
use Rattle.model.specs.Step.{no_key, no_key_next}

module _ {K V : Type 0} (f : Fixed K V) (m n : ℕ) where
  -- nothing was found at the first i places
  abbrev pub Keyed : ℕ → Type 0
  Keyed i = no_key f m 0 n ≡ no_key f (m + i) i (n - i)

  -- before the first turn
  pub keyed_none : Keyed 0
  keyed_none = let z : n - 0 ≡ n = omega arith in let y : m + 0 ≡ m = omega arith in rw (z, y)

  module _ (i : ℕ) (within : i < n) (before : Keyed i) where
    -- place i, and those after it
    opens : no_key f (m + i) i (n - i) ≡ no_key_next i (no_key f (suc (m + i)) (suc i) (n - (i + 1))) (f.keys.item (m + i))
    opens = let e : n - i ≡ suc (n - (i + 1)) = omega arith in ap (no_key f (m + i) i) e

    -- there is no key at place i
    pub keyed_stop : f.keys.item (m + i) ≡ None → Some i ≡ no_key f m 0 n
    keyed_stop none = sym (before ∙ opens ∙ rw none)

    -- there is one
    pub keyed_more : (key : K) → f.keys.item (m + i) ≡ Some key → Keyed (i + 1)
    keyed_more key some = let one : i + 1 ≡ suc i = omega arith in let next : m + (i + 1) ≡ suc (m + i) = omega arith in before ∙ opens ∙ rw (some, next, one)

  -- after the last turn
  pub keyed_all : (i : ℕ) → i ≡ n → Keyed i → None ≡ no_key f m 0 n
  keyed_all i e before = let z : n - n ≡ 0 = omega arith in sym (subst (λ k. Keyed k) e before ∙ rw z)

  -- keys at the first i places
  keyed_upto : (i : ℕ) → i ≤ n → ((k : ℕ) → k < i → f.keys.item (m + k) ≢ None) → Keyed i
  keyed_upto zero h keys = keyed_none
  keyed_upto (suc i) h keys =
      let one : i + 1 ≡ suc i = omega arith in
      let before = keyed_upto i (omega arith) (λ k less. keys k (omega arith)) in
      subst Keyed one (by (f.keys.item (m + i)) refl (keys i (omega arith)) before)
    where
      by : (o : Option K) → f.keys.item (m + i) ≡ o → (f.keys.item (m + i) ≢ None) → Keyed i → Keyed (i + 1)
      by None at some before = absurd (some at)
      by (Some key) at some before = keyed_more i (omega arith) before key at

  -- the place that a search for it finds
  pub first_none : (r : Option ℕ) → MatchOption r ((k : ℕ) → 0 ≤ k → k < n → f.keys.item (m + k) ≢ None) (λ i. (0 ≤ i) × (i < n) × (f.keys.item (m + i) ≡ None) × ((k : ℕ) → 0 ≤ k → k < i → f.keys.item (m + k) ≢ None)) → r ≡ no_key f m 0 n
  first_none None h = keyed_all n refl (keyed_upto n (omega arith) (λ k less. h k (omega arith) less))
  first_none (Some i) h = keyed_stop i h.1 (keyed_upto i (omega (arith, h.1)) (λ k less. h.3 k (omega arith) less)) h.2
