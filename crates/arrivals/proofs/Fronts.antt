-- The front of a text: where its first byte of a kind stands.
use Rattle.std.proofs.Common.{◌≡◌, ◌≤◌, ℕ, ◌-◌, Bool, true, false, cond, ltb, List, length, take, drop, sym, ap, ◌∙◌, length-drop, arith, rules}
use Rattle.std.specs.Prelude.{unwrap_or, Option, None, Some}
use Rattle.std.specs.List.{position_or_len}
use Rattle.std.proofs.Math.Seq.{take-length}
use Rattle.std.proofs.lemmas.List.Sums.{prefix_len-le-length}

-- the place of the first that passes, and the length where there is none
first_or_length : (n l : ℕ) (t : Bool) → ltb n l ≡ t → n ≤ l → unwrap_or (cond t (Some n) None) l ≡ n
first_or_length n l true e h = search rules
first_or_length n l false e h = grind (arith, rules)

pub place_or_length : {X : Type 0} (p : X → Bool) (xs : List X) (r : Option ℕ) → r ≡ cond (ltb (position_or_len p xs) (length xs)) (Some (position_or_len p xs)) None
    → unwrap_or r (length xs) ≡ position_or_len p xs
place_or_length p xs r e =
    ap (λ o. unwrap_or o (length xs)) e ∙ first_or_length (position_or_len p xs) (length xs) _ (search rules) (prefix_len-le-length _ xs)

-- all that is left after n elements
pub take-drop_all : {X : Type 0} (n : ℕ) (xs : List X) → take (length xs - n) (drop n xs) ≡ drop n xs
take-drop_all n xs = ap (λ k. take k (drop n xs)) (sym (length-drop n xs)) ∙ take-length (drop n xs)
