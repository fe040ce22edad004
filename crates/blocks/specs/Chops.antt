-- A list cut into pieces of given sizes, and pieces joined.
use Rattle.std.specs.Prelude.{◌≡◌, ℕ, zero, suc, ◌+◌, ◌<◌, ◌≤◌, List, [], ◌∷◌, ◌++◌, map, length, get_or, take, drop, sum, slice_index, slice_index_or}
use Rattle.std.proofs.Math.Path.{refl, sym, ap, ap₂}
use Rattle.std.proofs.Common.{◌∙◌}
use native.Mathlib.Omega.{arith}
use Rattle.std.specs.List.{flat_map}
use Rattle.std.proofs.lemmas.List.Sums.{sum_by-cons}
use Rattle.std.proofs.lemmas.List.{length-drop, length-take-le, take_at, drop_at, take-append-drop, get_or-take, get_or-drop, nil_from_length}
use Rattle.blocks.specs.PackedLayout.{chop}

-- the sum of a list, from its first on
pub sum_cons : (s : ℕ) (ss : List ℕ) → sum (s ∷ ss) ≡ s + sum ss
sum_cons s ss = sum_by-cons (λ x. x) s ss

module _ {X : Type 0} where
  -- the pieces have the sizes
  pub sizes_chop : (ss : List ℕ) (xs : List X) → sum ss ≤ length xs → map length (chop ss xs) ≡ ss
  unfolding chop
  sizes_chop [] xs h = refl
  sizes_chop (s ∷ ss) xs h =
      let c = sum_cons s ss in
      let l : s ≤ length xs = omega arith in
      ap₂ (λ (u : ℕ) (us : List ℕ). u ∷ us) (length-take-le s xs l) (sizes_chop ss (drop s xs) (omega (arith, length-drop s xs)))

  -- there are as many as sizes
  pub length_chop : (ss : List ℕ) (xs : List X) → length (chop ss xs) ≡ length ss
  unfolding chop
  length_chop [] xs = refl
  length_chop (s ∷ ss) xs = ap suc (length_chop ss (drop s xs))

  -- the pieces joined are the list
  pub joined_chop : (ss : List ℕ) (xs : List X) → sum ss ≡ length xs → flat_map (λ s. s) (chop ss xs) ≡ xs
  unfolding chop
  joined_chop [] xs h = sym (nil_from_length xs (sym h))
  joined_chop (s ∷ ss) xs h =
      let c = sum_cons s ss in
      ap (λ (t : List X). take s xs ++ t) (joined_chop ss (drop s xs) (omega (arith, length-drop s xs))) ∙ take-append-drop s xs

  -- joined pieces are cut into these
  pub chop_joined : (G : List (List X)) → chop (map length G) (flat_map (λ s. s) G) ≡ G
  unfolding chop
  chop_joined [] = refl
  chop_joined (x ∷ G) =
      let E = flat_map (λ s. s) G in
      ap₂ (λ (u v : List X). u ∷ chop (map length G) v) (take_at x E (length x) refl) (drop_at x E (length x) refl) ∙ ap (λ (t : List (List X)). x ∷ t) (chop_joined G)

  -- place d of piece j, in the list
  pub getD_chop : (ss : List ℕ) (xs : List X) (j d : ℕ) (z : X) → j < length ss → d < slice_index ss j → slice_index_or (slice_index_or (chop ss xs) j []) d z ≡ slice_index_or xs (sum (take j ss) + d) z
  unfolding chop
  getD_chop [] xs j d z h g = absurd (omega arith)
  getD_chop (s ∷ ss) xs zero d z h g = let e : d ≡ 0 + d = omega arith in get_or-take s xs d z g ∙ ap (λ (u : ℕ). get_or xs u z) e
  getD_chop (s ∷ ss) xs (suc j) d z h g =
      let e : s + (sum (take j ss) + d) ≡ sum (take (suc j) (s ∷ ss)) + d = omega (arith, sum_cons s (take j ss)) in
      getD_chop ss (drop s xs) j d z (omega arith) g ∙ get_or-drop s xs (sum (take j ss) + d) z ∙ ap (λ (u : ℕ). get_or xs u z) e

-- a place of piece j is one of the list
pub place_below : (ss : List ℕ) (j d : ℕ) → j < length ss → d < slice_index ss j → sum (take j ss) + d < sum ss
place_below [] j d h g = absurd (omega arith)
place_below (s ∷ ss) zero d h g = let c = sum_cons s ss in let e : sum (take zero (s ∷ ss)) ≡ 0 = refl in omega arith
place_below (s ∷ ss) (suc j) d h g =
    let i = place_below ss j d (omega arith) g in
    omega (arith, sum_cons s ss, sum_cons s (take j ss))
