-- Pieces of equal length one after the other: one read, one replaced.
use Rattle.std.proofs.Common.{◌≡◌, ℕ, zero, suc, ◌+◌, ◌*◌, ◌<◌, ◌≤◌, List, [], ◌∷◌, ◌++◌, map, length, get_or, take, drop, set, sym, refl, ap, ◌∙◌, ap₂, add-mul, one-mul, zero-mul, add-one, arith, take-add}
use borrow.Rule.Slice.PartMut.{put_mid}
use Rattle.std.specs.List.{range_with_len, flat_map, AllByRecursion as All}
use Rattle.std.proofs.lemmas.List.{append_assoc, length-append, take-append-drop, drop_more, take_at, drop_at, drop-drop, length-take-le, set_split}
use Rattle.std.proofs.ByRecursion.{All-take, All-get_or}

module _ {X A : Type 0} (w : ℕ) (f : X → List A) where
  pub joined_append : (xs ys : List X) → flat_map f (xs ++ ys) ≡ flat_map f xs ++ flat_map f ys
  joined_append [] ys = refl
  joined_append (x ∷ xs) ys = ap (λ t. f x ++ t) (joined_append xs ys) ∙ sym (append_assoc (f x) (flat_map f xs) (flat_map f ys))

  pub length_joined : (xs : List X) → All (λ x. length (f x) ≡ w) xs → length (flat_map f xs) ≡ length xs * w
  length_joined [] h = sym (zero-mul w)
  length_joined (x ∷ xs) h =
      let ih = length_joined xs h.1 in
      let e : suc (length xs) * w ≡ length xs * w + w = ap (λ t. t * w) (sym (add-one (length xs))) ∙ add-mul (length xs) 1 w ∙ ap (λ t. length xs * w + t) (one-mul w) in
      length-append (f x) (flat_map f xs) ∙ omega (arith, ih, e, h.0)

  module _ (xs : List X) (even : All (λ x. length (f x) ≡ w) xs) (s : ℕ) (d : X) (h : s < length xs) (rest : List A) where
    split : xs ≡ take s xs ++ (get_or xs s d ∷ drop (s + 1) xs)
    split = sym (take-append-drop s xs) ∙ ap (λ t. take s xs ++ t) (drop_more xs s d h)

    front : length (flat_map f (take s xs)) ≡ s * w
    front =
        let le : s ≤ length xs = omega arith in
        length_joined (take s xs) (All-take (λ x. length (f x) ≡ w) s xs even) ∙ ap (λ t. t * w) (length-take-le s xs le)

    view : (y : X) → flat_map f (take s xs ++ (y ∷ drop (s + 1) xs)) ++ rest ≡ flat_map f (take s xs) ++ (f y ++ (flat_map f (drop (s + 1) xs) ++ rest))
    view y =
        ap (λ t. t ++ rest) (joined_append (take s xs) (y ∷ drop (s + 1) xs))
        ∙ append_assoc (flat_map f (take s xs)) (f y ++ flat_map f (drop (s + 1) xs)) rest
        ∙ ap (λ t. flat_map f (take s xs) ++ t) (append_assoc (f y) (flat_map f (drop (s + 1) xs)) rest)

    whole : flat_map f xs ++ rest ≡ flat_map f (take s xs) ++ (f (get_or xs s d) ++ (flat_map f (drop (s + 1) xs) ++ rest))
    whole = ap (λ t. flat_map f t ++ rest) split ∙ view (get_or xs s d)

    pub piece : take w (drop (s * w) (flat_map f xs ++ rest)) ≡ f (get_or xs s d)
    piece =
        let tail = flat_map f (drop (s + 1) xs) ++ rest in
        let y = f (get_or xs s d) in
        ap (λ t. take w (drop (s * w) t)) whole
        ∙ ap (take w) (drop_at (flat_map f (take s xs)) (y ++ tail) (s * w) front)
        ∙ take_at y tail w (All-get_or (λ x. length (f x) ≡ w) xs s d h even)

    pub put_piece : (y : X) → put_mid (s * w) w (flat_map f xs ++ rest) (f y) ≡ flat_map f (set xs s y) ++ rest
    put_piece y =
        let tail = flat_map f (drop (s + 1) xs) ++ rest in
        let old = f (get_or xs s d) in
        let J = flat_map f (take s xs) in
        let a : take (s * w) (flat_map f xs ++ rest) ≡ J = ap (take (s * w)) whole ∙ take_at J (old ++ tail) (s * w) front in
        let b : drop w (drop (s * w) (flat_map f xs ++ rest)) ≡ tail =
        ap (λ t. drop w (drop (s * w) t)) whole ∙ ap (drop w) (drop_at J (old ++ tail) (s * w) front)
        ∙ drop_at old tail w (All-get_or (λ x. length (f x) ≡ w) xs s d h even) in
        let e : set xs s y ≡ take s xs ++ (y ∷ drop (s + 1) xs) = set_split xs s y h ∙ ap (λ t. take s xs ++ (y ∷ drop t xs)) (sym (add-one s)) in
        ap₂ (λ u v. u ++ (f y ++ v)) a b ∙ sym (view y) ∙ ap (λ t. flat_map f t ++ rest) (sym e)

-- the words read piece by piece, where each piece is what it reads as
module _ {X A : Type 0} (w : ℕ) (f : X → List A) (d : List A → X) (ws : List A) where
  pub joined_read : (a n : ℕ) → ((g : ℕ) → a ≤ g → g < a + n → f (d (take w (drop (g * w) ws))) ≡ take w (drop (g * w) ws))
      → flat_map f (map (λ g. d (take w (drop (g * w) ws))) (range_with_len a n)) ≡ take (n * w) (drop (a * w) ws)
  joined_read a zero h = ap (λ t. take t (drop (a * w) ws)) (sym (zero-mul w))
  joined_read a (suc n) h =
      let first = h a (omega arith) (omega arith) in
      let rest = joined_read (a + 1) n (λ g l u. h g (omega arith) (omega arith)) in
      let e : suc n * w ≡ w + n * w = ap (λ t. t * w) (sym (add-one n)) ∙ add-mul n 1 w ∙ ap (λ t. n * w + t) (one-mul w) ∙ omega arith in
      let s : (a + 1) * w ≡ a * w + w = add-mul a 1 w ∙ ap (λ t. a * w + t) (one-mul w) in
      ap₂ (λ u v. u ++ v) first (rest ∙ ap (λ t. take (n * w) (drop t ws)) s ∙ ap (take (n * w)) (sym (drop-drop w (a * w) ws)))
      ∙ sym (ap (λ t. take t (drop (a * w) ws)) e ∙ take-add w (n * w) (drop (a * w) ws))
