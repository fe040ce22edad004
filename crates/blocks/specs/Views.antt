-- What a block with marks reads as: its slots, their sizes, and the fields of each entry.
use Rattle.std.specs.Prelude.{◌≡◌, ℕ, zero, suc, ◌+◌, ◌-◌, ◌^◌, ◌<◌, ◌≤◌, List, [], ◌∷◌, map, length, get_or, take, sum, count_ones, slice_index, slice_index_or, refl}
use Rattle.std.proofs.Math.Path.{sym, ap, ap₂}
use Rattle.std.proofs.Common.{subst, ◌∙◌, mod-eq_of_lt, lt_of_lt_of_le, pow_mono}
use native.Mathlib.Omega.{arith}
use Rattle.std.proofs.lemmas.List.{get_or-map}
use Rattle.std.proofs.lemmas.List.FromFn.{get_or-map-range_with_len, length-map-range_with_len}
use Rattle.bits.specs.Area.{number, field, wide}
use Rattle.bits.specs.Marks.{marks, sizes, entries_before, size_of}
use Rattle.bits.proofs.Unary.{marks_lt, ones_marks, sizes_marks, sizes_front, size_marks}
use Rattle.bits.proofs.Lists.{wide_is}
use Rattle.table.specs.Meaning.{total}
use Rattle.blocks.specs.PackedLayout.{entries, chop, quotient_area, value_area, mark_number, pairs, slots_of, MarkedBlock}
use Rattle.blocks.specs.Chops.{sizes_chop, length_chop, joined_chop, getD_chop, place_below}
use Rattle.blocks.specs.Entries.{sum_sizes}

module _ (k v b : ℕ) (block : List ℕ) (mb : MarkedBlock k v b block) where
  ss : List ℕ
  ss = mb.marked.0

  sixteen : length ss ≡ 16
  unfolding ss
  sixteen = mb.marked.1

  few : sum ss ≤ 48
  unfolding ss
  few = mb.marked.2

  word_is : get_or block 0 0 ≡ marks ss
  unfolding ss
  word_is = mb.marked.3

  word_fits : get_or block 0 0 < 2 ^ 64
  word_fits =
      let l : sum ss + length ss ≤ 64 = omega (arith, sixteen, few) in
      let h : marks ss < 2 ^ 64 = lt_of_lt_of_le (marks_lt ss) (pow_mono l) in
      subst (λ t. t < 2 ^ 64) (sym word_is) h

  number_one : (xs : List ℕ) → slice_index xs 0 < 2 ^ 64 → 0 < length xs → number (take 1 xs) ≡ slice_index xs 0
  number_one [] h l = absurd (omega arith)
  number_one (x ∷ xs) h l = omega (arith, mod-eq_of_lt h)

  mark_is : mark_number 1 block ≡ slice_index block 0
  mark_is = number_one block word_fits (omega (arith, mb.long))

  -- the sizes of the slots
  sizes_is : sizes 16 (mark_number 1 block) ≡ ss
  sizes_is = ap₂ sizes (sym sixteen) (mark_is ∙ word_is) ∙ sizes_marks ss

  -- the quotients' and the values' numbers
  unfoldable pub A : ℕ
  A = number (quotient_area 1 k b block)

  unfoldable pub B : ℕ
  B = number (value_area 1 k b block)

  all : List (ℕ × ℕ)
  all = pairs (sum ss) (k - b) v A B

  all_long : length all ≡ sum ss
  unfolding all pairs
  all_long = length-map-range_with_len (λ t. (field (k - b) A t, field v B t)) 0 (sum ss)

  -- the slots are the fields cut at the sizes
  slots_are : slots_of 1 k v b block ≡ chop ss all
  unfolding slots_of all A B
  slots_are = ap (λ (t : List ℕ). chop t (pairs (sum t) (k - b) v A B)) sizes_is

  slot_sizes : map length (slots_of 1 k v b block) ≡ ss
  slot_sizes = ap (map length) slots_are ∙ sizes_chop ss all (omega (arith, all_long))

  -- the first word is the marks of the slots' sizes
  pub word_marks : get_or block 0 0 ≡ marks (map length (slots_of 1 k v b block))
  word_marks = word_is ∙ ap marks (sym slot_sizes)

  -- a group has 16 slots
  pub slots_sixteen : length (slots_of 1 k v b block) ≡ 16
  slots_sixteen = ap length slots_are ∙ length_chop ss all ∙ sixteen

  total_is : total (slots_of 1 k v b block) ≡ sum ss
  total_is = sym (sum_sizes (slots_of 1 k v b block)) ∙ ap sum slot_sizes

  -- its entries are the fields
  pub entries_are : entries (slots_of 1 k v b block) ≡ pairs (total (slots_of 1 k v b block)) (k - b) v A B
  unfolding all
  entries_are = ap entries slots_are ∙ joined_chop ss all (sym all_long) ∙ ap (λ n. pairs n (k - b) v A B) (sym total_is)

  -- and at most 48 entries
  pub total_few : total (slots_of 1 k v b block) ≤ 48
  total_few = omega (arith, total_is, few)

  -- the ones are its load
  pub load_is : count_ones (slice_index block 0) ≡ total (slots_of 1 k v b block)
  load_is = ap count_ones word_is ∙ ones_marks ss ∙ sym total_is

  module _ (j : ℕ) (h : j < 16) where
    size_is : length (slice_index_or (slots_of 1 k v b block) j []) ≡ slice_index ss j
    size_is = sym (get_or-map length (slots_of 1 k v b block) j [] 0 (omega (arith, slots_sixteen))) ∙ ap (λ t. slice_index t j) slot_sizes

    -- the marks of a slot are its size
    pub size_here : size_of j (slice_index block 0) ≡ length (slice_index_or (slots_of 1 k v b block) j [])
    size_here = ap (size_of j) word_is ∙ size_marks ss j (omega (arith, sixteen)) ∙ sym size_is

    before_is : entries_before j (slice_index block 0) ≡ sum (take j ss)
    before_is = ap (entries_before j) word_is ∙ ap sum (sizes_front ss j (omega (arith, sixteen)))

    -- the marks before it are the sizes of the slots before it
    pub before_here : entries_before j (slice_index block 0) ≡ sum (take j (map length (slots_of 1 k v b block)))
    before_here = before_is ∙ ap (λ t. sum (take j t)) (sym slot_sizes)

    -- a slot has at most as many entries as its group
    pub size_few : length (slice_index_or (slots_of 1 k v b block) j []) ≤ 48
    size_few = sub_few (slice_index ss j) refl
      where
        sub_few : (n : ℕ) → slice_index ss j ≡ n → length (slice_index_or (slots_of 1 k v b block) j []) ≤ 48
        sub_few zero e = omega (arith, size_is)
        sub_few (suc n) e = let p = place_below ss j n (omega (arith, sixteen)) (omega arith) in omega (arith, size_is, few)

    module _ (i : ℕ) (l : i < length (slice_index_or (slots_of 1 k v b block) j [])) where
      place_in : entries_before j (slice_index block 0) + i < sum ss
      place_in = omega (arith, before_is, place_below ss j i (omega (arith, sixteen)) (omega (arith, size_is)))

      -- the place is one of the group's
      pub place_few : entries_before j (slice_index block 0) + i < 48
      place_few = omega (arith, place_in, few)

      -- the entry at a place: the fields from the entries before the slot on
      pub entry_is : get_or (slice_index_or (slots_of 1 k v b block) j []) i (0, 0) ≡ (field (k - b) A (entries_before j (slice_index block 0) + i), field v B (entries_before j (slice_index block 0) + i))
      unfolding all pairs
      entry_is =
          let t = entries_before j (slice_index block 0) + i in
          let e : sum (take j ss) + i ≡ t = omega (arith, before_is) in
          ap (λ u. get_or (slice_index_or u j []) i (0, 0)) slots_are
          ∙ getD_chop ss all j i (0, 0) (omega (arith, sixteen)) (omega (arith, size_is))
          ∙ ap (λ u. get_or all u (0, 0)) e
          ∙ get_or-map-range_with_len (λ u. (field (k - b) A u, field v B u)) 0 (sum ss) t t (0, 0) place_in (omega arith)

      -- read from the quotients
      pub quotient_read : (area : List ℕ) → area ≡ quotient_area 1 k b block → (w : ℕ) → w ≡ k - b → w ≤ 32 → (t : ℕ) → t ≡ entries_before j (slice_index block 0) → (r : ℕ) → r ≡ field (wide w) (number area) (t + i)
          → r ≡ (get_or (slice_index_or (slots_of 1 k v b block) j []) i (0, 0)).0
      unfolding A
      quotient_read area is w we small t te r e =
          let w64 : w ≤ 64 = omega arith in
          e ∙ ap (λ u. field u (number area) (t + i)) (wide_is w w64 ∙ we) ∙ ap₂ (λ (x : List ℕ) (y : ℕ). field (k - b) (number x) (y + i)) is te
          ∙ sym (ap (λ x. x.0) entry_is)

      -- and from the values
      pub value_read : (area : List ℕ) → area ≡ value_area 1 k b block → v ≤ 32 → (t : ℕ) → t ≡ entries_before j (slice_index block 0) → (r : ℕ) → r ≡ field (wide v) (number area) (t + i)
          → r ≡ (get_or (slice_index_or (slots_of 1 k v b block) j []) i (0, 0)).1
      unfolding B
      value_read area is small t te r e =
          let v64 : v ≤ 64 = omega arith in
          e ∙ ap (λ u. field u (number area) (t + i)) (wide_is v v64) ∙ ap₂ (λ (x : List ℕ) (y : ℕ). field v (number x) (y + i)) is te
          ∙ sym (ap (λ x. x.1) entry_is)
