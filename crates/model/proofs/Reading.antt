-- A take or a cancel is refused on sight, or its numbers are good.
use Rattle.std.proofs.Common.{◌≡◌, ℕ, zero, suc, ◌+◌, ◌^◌, ◌<◌, ◌≤◌, Bool, true, false, Some, None, Option, refl, arith}
use Rattle.model.specs.declared.refusal.Refusal.TheVariants.{RunLength, UnknownKey, UnknownValue}
use Rattle.model.specs.declared.run_refusal.RunRefusal.{RunRefusal}
use Rattle.model.specs.Model.{Fixed, declined_at}
use Rattle.model.specs.Step.{Asked, at_place, no_key, no_key_next, no_run, read_key, read_keys, read_run, read_value, run_length}
use Rattle.model.specs.History.{answers_four}
use Rattle.model.specs.Laws.{LawfulCoding}

module _ {K V : Type 0} (f : Fixed K V) where
  -- what holds of every refusal on sight, and of the call where its numbers are good, holds of the call as it comes
  module _ (make : (m n w : ℕ) → Asked) (key : Option ℕ) (n : ℕ) (value : Option ℕ) (P : Asked → Type 0)
      (bad : (e : RunRefusal) → answers_four (declined_at e) ≡ false → P (no_run e))
      (good : (m w : ℕ) → key ≡ Some m → value ≡ Some w → no_key f m 0 n ≡ None → P (make m n w)) where
    -- the value
    on_value : (m : ℕ) → key ≡ Some m → no_key f m 0 n ≡ None → (o : Option ℕ) → value ≡ o → P (read_value (make m n) o)
    on_value m km keys None e = bad (at_place 0 UnknownValue) refl
    on_value m km keys (Some w) e = good m w km e keys

    -- the later places
    on_keys : (m : ℕ) → key ≡ Some m → (o : Option ℕ) → no_key f m 0 n ≡ o → P (read_keys make m n value o)
    on_keys m km (Some i) e = bad (at_place i UnknownKey) refl
    on_keys m km None e = on_value m km e value refl

    -- the key
    on_key : (o : Option ℕ) → key ≡ o → P (read_key f make n value o)
    on_key None e = bad (at_place 0 UnknownKey) refl
    on_key (Some m) e = on_keys m e (no_key f m 0 n) refl

    -- the length
    on_run : (t : Bool) → P (read_run f make key n value t)
    on_run false = bad (at_place 0 RunLength) refl
    on_run true = on_key key refl

    -- all of it
    pub read_cases : P (read_run f make key n value (run_length n))
    read_cases = on_run (run_length n)

  -- the same of two kinds of call at once
  module _ (make make' : (m n w : ℕ) → Asked) (key : Option ℕ) (n : ℕ) (value : Option ℕ) (P : Asked → Asked → Type 0)
      (bad : (e : RunRefusal) → P (no_run e) (no_run e))
      (good : (m w : ℕ) → P (make m n w) (make' m n w)) where
    -- the value
    both_value : (m : ℕ) (o : Option ℕ) → P (read_value (make m n) o) (read_value (make' m n) o)
    both_value m None = bad (at_place 0 UnknownValue)
    both_value m (Some w) = good m w

    -- the later places
    both_keys : (m : ℕ) (o : Option ℕ) → P (read_keys make m n value o) (read_keys make' m n value o)
    both_keys m (Some i) = bad (at_place i UnknownKey)
    both_keys m None = both_value m value

    -- the key
    both_key : (o : Option ℕ) → P (read_key f make n value o) (read_key f make' n value o)
    both_key None = bad (at_place 0 UnknownKey)
    both_key (Some m) = both_keys m (no_key f m 0 n)

    -- the length
    both_run : (t : Bool) → P (read_run f make key n value t) (read_run f make' key n value t)
    both_run false = bad (at_place 0 RunLength)
    both_run true = both_key key

    -- all of it
    pub read_both : P (read_run f make key n value (run_length n)) (read_run f make' key n value (run_length n))
    read_both = both_run (run_length n)

  module _ (law : LawfulCoding f.keys) where
    -- one place of a run whose number is a key's
    key_fits : (m i : ℕ) (later : Option ℕ) (o : Option K) → f.keys.item m ≡ o → no_key_next i later o ≡ None → (m < 2 ^ f.keys.width) × (later ≡ None)
    key_fits m i later None e h = let z : ◌≡◌ {A = ℕ} 0 1 = cc in absurd (omega arith)
    key_fits m i later (Some key) e h = (law.below key m (law.forth key m e), h)

    -- the numbers of a run of keys stay below 2^k
    pub keys_fit : (m i n : ℕ) → no_key f m i n ≡ None → m ≤ 2 ^ f.keys.width → m + n ≤ 2 ^ f.keys.width
    keys_fit m i zero h le = omega arith
    keys_fit m i (suc n) h le =
        let both = key_fits m i (no_key f (suc m) (suc i) n) (f.keys.item m) refl h in
        let lt : suc m ≤ 2 ^ f.keys.width = both.0 in
        let ih = keys_fit (suc m) (suc i) n both.1 lt in
        omega arith
