-- Words that are blocks of w words one after the other, then zeros: one proof for every way f of writing a block and d of reading it.
use Rattle.std.proofs.Common.{◌≡◌, ℕ, ◌+◌, ◌-◌, ◌*◌, ◌<◌, ◌≤◌, List, ◌++◌, map, length, get_or, take, drop, set, replicate, sym, ap, ◌∙◌, subst, ap₂, ⊎_elim, zero-mul, arith}
use borrow.Rule.Slice.PartMut.{put_mid}
use Rattle.std.specs.List.{range_with_len, flat_map, AllByRecursion as All}
use Rattle.std.proofs.lemmas.Bool.{cases_eq}
use Rattle.std.proofs.lemmas.List.{ext_get_or, length-append, length-replicate, get_or-set_same, get_or-set_other, drop_at, take-append-drop}
use Rattle.std.proofs.ByRecursion.{All-from_get_or}
use Rattle.std.proofs.lemmas.List.FromFn.{get_or-map-range_with_len, length-map-range_with_len}
use Rattle.table.proofs.Runs.{length_joined, piece, put_piece, joined_read}

module _ {X : Type 0} (none : X) (w : ℕ) (f : X → List ℕ) (d : List ℕ → X) (Fine : X → Type 0)
    (long : (x : X) → Fine x → length (f x) ≡ w) (back : (x : X) → Fine x → d (f x) ≡ x) (n m : ℕ) (room : m * w ≤ n) where
  module _ (xs : List X) (count : length xs ≡ m) (fine : (g : ℕ) → g < m → Fine (get_or xs g none)) where
    even : All (λ x. length (f x) ≡ w) xs
    even = All-from_get_or (λ x. length (f x) ≡ w) xs none (λ i h. let l : i < m = omega arith in long (get_or xs i none) (fine i l))

    front : length (flat_map f xs) ≡ m * w
    front = length_joined w f xs even ∙ ap (λ t. t * w) count

    pub length_words : length (flat_map f xs ++ replicate (n - m * w) 0) ≡ n
    length_words = length-append (flat_map f xs) (replicate (n - m * w) 0) ∙ omega (arith, front, length-replicate {A = ℕ} (n - m * w) 0)

    pub block_words : (g : ℕ) → g < m → take w (drop (g * w) (flat_map f xs ++ replicate (n - m * w) 0)) ≡ f (get_or xs g none)
    block_words g h = piece w f xs even g none (omega arith) (replicate (n - m * w) 0)

    pub tail_words : drop (m * w) (flat_map f xs ++ replicate (n - m * w) 0) ≡ replicate (n - m * w) 0
    tail_words = drop_at (flat_map f xs) (replicate (n - m * w) 0) (m * w) front

    pub put_words : (g : ℕ) → g < m → (y : X) → put_mid (g * w) w (flat_map f xs ++ replicate (n - m * w) 0) (f y) ≡ flat_map f (set xs g y) ++ replicate (n - m * w) 0
    put_words g h y = put_piece w f xs even g none (omega arith) (replicate (n - m * w) 0) y

    pub set_fine : (g : ℕ) → g < m → (y : X) → Fine y → (i : ℕ) → i < m → Fine (get_or (set xs g y) i none)
    set_fine g h y fy i l =
        ⊎_elim
        (λ at. subst Fine (sym (ap (λ t. get_or (set xs g y) t none) at ∙ get_or-set_same xs g y none (omega arith))) fy)
        (λ off. subst Fine (sym (get_or-set_other xs g i y none off)) (fine i l))
        (cases_eq i g)

    pub read_words : map (λ g. d (take w (drop (g * w) (flat_map f xs ++ replicate (n - m * w) 0)))) (range_with_len 0 m) ≡ xs
    read_words =
        let ws = flat_map f xs ++ replicate (n - m * w) 0 in
        let F : ℕ → X = λ g. d (take w (drop (g * w) ws)) in
        ext_get_or none (map F (range_with_len 0 m)) xs (length-map-range_with_len F 0 m ∙ sym count) (λ i h.
        let l : i < m = omega (arith, length-map-range_with_len F 0 m) in
        get_or-map-range_with_len F 0 m i i none l (omega arith) ∙ ap d (block_words i l) ∙ back (get_or xs i none) (fine i l))

  -- words whose blocks are each some group's, with zeros after them, are the words of what they read as
  pub words_read : (ws : List ℕ) → ((g : ℕ) → g < m → (x : X) × (Fine x × (take w (drop (g * w) ws) ≡ f x)))
      → drop (m * w) ws ≡ replicate (n - m * w) 0
      → ws ≡ flat_map f (map (λ g. d (take w (drop (g * w) ws))) (range_with_len 0 m)) ++ replicate (n - m * w) 0
  words_read ws each zeros =
      let same : (i : ℕ) → 0 ≤ i → i < 0 + m → f (d (take w (drop (i * w) ws))) ≡ take w (drop (i * w) ws) =
      λ i z l. let k : i < m = omega arith in let x = each i k in
      ap (λ t. f (d t)) x.1.1 ∙ ap f (back x.0 x.1.0) ∙ sym x.1.1 in
      let start : take (m * w) (drop (0 * w) ws) ≡ take (m * w) ws = ap (λ t. take (m * w) (drop t ws)) (zero-mul w) in
      sym (take-append-drop (m * w) ws) ∙ ap₂ (λ x y. x ++ y) (sym (joined_read w f d ws 0 m same ∙ start)) zeros
