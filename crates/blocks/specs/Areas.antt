-- The areas of a block: what they hold, how long they are, and how a block is cut into them.
use Rattle.std.specs.Prelude.{◌≡◌, ℕ, ◌+◌, ◌-◌, ◌*◌, ◌/◌, ◌^◌, ◌<◌, ◌≤◌, List, [], ◌∷◌, ◌++◌, map, length, take, drop, sum, slice_index, slice_index_or, refl}
use Rattle.std.proofs.Math.Path.{sym, ap, ap₂}
use Rattle.std.proofs.Common.{◌∙◌, mod-eq_of_lt, lt_of_lt_of_le, mul-le-mul_right, pow_mono, pow_pos}
use native.Mathlib.Omega.{arith}
use Rattle.std.specs.List.{range_with_len}
use Rattle.std.proofs.lemmas.Bool.{leb-true}
use Rattle.std.proofs.lemmas.List.{length-append, length-map, length-drop, length-take-le, take_at, drop_at, drop-drop, take-append-drop, ext_get_or, get_or-map}
use Rattle.std.proofs.lemmas.List.FromFn.{get_or-map-range_with_len, length-map-range_with_len}
use Rattle.bits.specs.Area.{number, words_of, field, packed}
use Rattle.bits.specs.Laws.{Below}
use Rattle.bits.specs.Marks.{marks, mark_words, sizes}
use Rattle.bits.proofs.Numbers.{length_words, number_words_fit}
use Rattle.bits.proofs.Packs.{packed_lt}
use Rattle.bits.proofs.Lists.{read_packed}
use Rattle.bits.proofs.Unary.{marks_lt, sizes_marks}
use Rattle.table.specs.Meaning.{total}
use Rattle.table.specs.Layout.{GoodGroup}
use Rattle.blocks.specs.PackedLayout.{room, width, entries, areas, block_of, chop, quotient_area, value_area, mark_number, pairs, slots_of}
use Rattle.blocks.specs.Chops.{chop_joined}
use Rattle.blocks.specs.Entries.{sum_sizes, length_entries, below_entries}

-- an area has room for the fields of a full group
pub area_holds : (w : ℕ) (xs : List ℕ) → length xs ≤ 48 → packed w xs < 2 ^ (64 * room 1 w)
unfolding room
area_holds w xs h =
    let m : length xs * w ≤ 48 * w = mul-le-mul_right w h in
    let l : length xs * w ≤ 64 * ((48 * w + 63) / 64) = omega arith in
    lt_of_lt_of_le (packed_lt w xs) (pow_mono l)

-- so its number is that of the fields
pub area_number : (w : ℕ) (xs : List ℕ) → length xs ≤ 48 → number (words_of (room 1 w) (packed w xs)) ≡ packed w xs
area_number w xs h = number_words_fit (room 1 w) (packed w xs) (area_holds w xs h)

-- ---- the parts of a block

module _ (k v b : ℕ) (P Q V : List ℕ) (one : length P ≡ 1) (qs : length Q ≡ room 1 (k - b)) where
  quotient_part : quotient_area 1 k b (P ++ (Q ++ V)) ≡ Q
  quotient_part = ap (take (room 1 (k - b))) (drop_at P (Q ++ V) 1 one) ∙ take_at Q V (room 1 (k - b)) qs

  value_part : value_area 1 k b (P ++ (Q ++ V)) ≡ V
  value_part = sym (drop-drop (room 1 (k - b)) 1 (P ++ (Q ++ V))) ∙ ap (drop (room 1 (k - b))) (drop_at P (Q ++ V) 1 one) ∙ drop_at Q V (room 1 (k - b)) qs

-- a block is its three parts
pub block_parts : (k v b : ℕ) (block : List ℕ) → block ≡ take 1 block ++ (quotient_area 1 k b block ++ value_area 1 k b block)
block_parts k v b block =
    sym (take-append-drop 1 block)
    ∙ ap (λ t. take 1 block ++ t) (sym (take-append-drop (room 1 (k - b)) (drop 1 block)) ∙ ap (λ t. quotient_area 1 k b block ++ t) (drop-drop (room 1 (k - b)) 1 block))

-- the lengths of the parts of a block
pub record Parts (k v b : ℕ) (block : List ℕ) : Type 0 where
  pub one : length (take 1 block) ≡ 1
  pub quotients : length (quotient_area 1 k b block) ≡ room 1 (k - b)
  pub values : length (value_area 1 k b block) ≡ room 1 v

pub parts_of : (k v b : ℕ) (block : List ℕ) → length block ≡ width 1 k v b → Parts k v b block
parts_of k v b block e =
    let a : 1 ≤ length block = omega arith in
    let c : room 1 (k - b) ≤ length (drop 1 block) = omega (arith, length-drop 1 block) in
    record {
      one = length-take-le 1 block a;
      quotients = length-take-le (room 1 (k - b)) (drop 1 block) c;
      values = length-drop (1 + room 1 (k - b)) block ∙ omega arith;
    }

-- ---- the block of a good group

module _ (k v b : ℕ) (G : List (List (ℕ × ℕ))) (g : GoodGroup 16 48 (k - b) v G) where
  pub few : total G ≤ 48
  few = leb-true (total G) 48 g.limited

  pub few_entries : (f : ℕ × ℕ → ℕ) → length (map f (entries G)) ≤ 48
  few_entries f = omega (arith, length-map (entries G) f, length_entries G, few)

  -- the quotients are below 2^q, the values below 2^v
  pub quotients_below : Below (2 ^ (k - b)) (map (λ e. e.0) (entries G))
  quotients_below = below_entries (λ e. e.0) (2 ^ (k - b)) (pow_pos (k - b)) G (λ j i h l. (g.good j (omega (arith, g.whole))).quotients i l)

  pub values_below : Below (2 ^ v) (map (λ e. e.1) (entries G))
  values_below = below_entries (λ e. e.1) (2 ^ v) (pow_pos v) G (λ j i h l. (g.good j (omega (arith, g.whole))).values i l)

  -- the marks fit into a word
  pub marks_fit : marks (map length G) < 2 ^ 64
  marks_fit =
      let l : sum (map length G) + length (map length G) ≤ 64 = omega (arith, sum_sizes G, length-map G (λ (x : List (ℕ × ℕ)). length x), g.whole, few) in
      lt_of_lt_of_le (marks_lt (map length G)) (pow_mono l)

  -- the parts of the block
  pub mark_word : mark_words 1 (map length G) ≡ marks (map length G) ∷ []
  unfolding words_of
  mark_word = ap (λ t. t ∷ []) (mod-eq_of_lt marks_fit)

  pub block_is : block_of 1 k v b G ≡ (marks (map length G) ∷ []) ++ (words_of (room 1 (k - b)) (packed (k - b) (map (λ e. e.0) (entries G))) ++ words_of (room 1 v) (packed v (map (λ e. e.1) (entries G))))
  unfolding block_of areas
  block_is = ap (λ t. t ++ areas 1 k v b (entries G)) mark_word

  pub first_word : slice_index_or (block_of 1 k v b G) 0 0 ≡ marks (map length G)
  first_word = ap (λ t. slice_index t 0) block_is

  pub block_long : length (block_of 1 k v b G) ≡ width 1 k v b
  block_long =
      let Q = words_of (room 1 (k - b)) (packed (k - b) (map (λ e. e.0) (entries G))) in
      let V = words_of (room 1 v) (packed v (map (λ e. e.1) (entries G))) in
      ap length block_is ∙ omega (arith, length-append Q V, length_words (room 1 (k - b)) (packed (k - b) (map (λ e. e.0) (entries G))), length_words (room 1 v) (packed v (map (λ e. e.1) (entries G))))

  pub block_quotients : quotient_area 1 k b (block_of 1 k v b G) ≡ words_of (room 1 (k - b)) (packed (k - b) (map (λ e. e.0) (entries G)))
  block_quotients = ap (quotient_area 1 k b) block_is ∙ quotient_part k v b (marks (map length G) ∷ []) _ _ refl (length_words (room 1 (k - b)) _)

  pub block_values : value_area 1 k b (block_of 1 k v b G) ≡ words_of (room 1 v) (packed v (map (λ e. e.1) (entries G)))
  block_values = ap (value_area 1 k b) block_is ∙ value_part k v b (marks (map length G) ∷ []) _ _ refl (length_words (room 1 (k - b)) _)

  -- and as numbers
  pub block_marks : mark_number 1 (block_of 1 k v b G) ≡ marks (map length G)
  block_marks = ap (λ t. number (take 1 t)) block_is ∙ omega (arith, mod-eq_of_lt marks_fit)

  pub quotient_number : number (quotient_area 1 k b (block_of 1 k v b G)) ≡ packed (k - b) (map (λ e. e.0) (entries G))
  quotient_number = ap number block_quotients ∙ area_number (k - b) (map (λ e. e.0) (entries G)) (few_entries (λ e. e.0))

  pub value_number : number (value_area 1 k b (block_of 1 k v b G)) ≡ packed v (map (λ e. e.1) (entries G))
  value_number = ap number block_values ∙ area_number v (map (λ e. e.1) (entries G)) (few_entries (λ e. e.1))

  -- its marks are those of its slots' sizes
  pub sizes_here : sizes 16 (marks (map length G)) ≡ map length G
  sizes_here =
      let n : length (map length G) ≡ 16 = length-map G (λ (x : List (ℕ × ℕ)). length x) ∙ g.whole in
      ap (λ t. sizes t (marks (map length G))) (sym n) ∙ sizes_marks (map length G)

  -- its fields are its entries
  pub pairs_here : pairs (total G) (k - b) v (packed (k - b) (map (λ e. e.0) (entries G))) (packed v (map (λ e. e.1) (entries G))) ≡ entries G
  unfolding pairs
  pairs_here =
      let es = entries G in
      let A = packed (k - b) (map (λ e. e.0) es) in
      let B = packed v (map (λ e. e.1) es) in
      let F : ℕ → (ℕ × ℕ) = λ t. (field (k - b) A t, field v B t) in
      let n = length-map-range_with_len F 0 (total G) in
      ext_get_or (0, 0) (map F (range_with_len 0 (total G))) es (n ∙ sym (length_entries G)) (λ i h.
      let l : i < total G = omega arith in
      let m : i < length es = omega (arith, length_entries G) in
      let a = read_packed (k - b) (map (λ e. e.0) es) quotients_below i (omega (arith, length-map es (λ (e : ℕ × ℕ). e.0))) ∙ get_or-map (λ e. e.0) es i (0, 0) 0 m in
      let c = read_packed v (map (λ e. e.1) es) values_below i (omega (arith, length-map es (λ (e : ℕ × ℕ). e.1))) ∙ get_or-map (λ e. e.1) es i (0, 0) 0 m in
      get_or-map-range_with_len F 0 (total G) i i (0, 0) l (omega arith) ∙ ap₂ (λ (x y : ℕ). (x, y)) a c)

  -- so the block reads back
  pub read_back : slots_of 1 k v b (block_of 1 k v b G) ≡ G
  unfolding slots_of
  read_back =
      let bl = block_of 1 k v b G in
      let ss : sizes 16 (mark_number 1 bl) ≡ map length G = ap (sizes 16) block_marks ∙ sizes_here in
      ap (λ (t : List ℕ). chop t (pairs (sum t) (k - b) v (number (quotient_area 1 k b bl)) (number (value_area 1 k b bl)))) ss
      ∙ ap (λ (n : ℕ). chop (map length G) (pairs n (k - b) v (number (quotient_area 1 k b bl)) (number (value_area 1 k b bl)))) (sum_sizes G)
      ∙ ap₂ (λ (x y : ℕ). chop (map length G) (pairs (total G) (k - b) v x y)) quotient_number value_number
      ∙ ap (chop (map length G)) pairs_here ∙ chop_joined G
