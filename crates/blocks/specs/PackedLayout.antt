-- The words of a group, and the reading back: marks, then the quotients, then the values. Over M words of marks; the table built has one.
--   group_slots, group_limit   how many slots make a group, and how many entries it may hold
--   room                     how many words the fields of a full group take
--   width                    how many words a block has
--   entries                  the entries of a group, slot by slot
--   areas, block_of          the quotients and the values of entries; the words of a group
--   chop                     a list cut into pieces of given sizes
--   quotient_area, value_area, mark_number   the parts of a block
--   pairs, slots_of          the fields of two areas side by side; the slots that a block reads as
--   with_areas               a block with other areas
--   fits                     which widths fit n words
--   packed_table             the layout
--   MarkedBlock              a block with the marks of some sizes, whatever its fields are
use Rattle.std.specs.Prelude.{◌≡◌, ℕ, ◌+◌, ◌-◌, ◌*◌, ◌/◌, ◌^◌, Bool, ◌&&◌, List, [], ◌∷◌, ◌++◌, map, length, take, drop, sum, nat_le, slice_index}
use Rattle.std.specs.List.{range_with_len, flat_map}
use Rattle.bits.specs.Area.{number, words_of, field, packed}
use Rattle.bits.specs.Marks.{mark_words, sizes, Marked}
use Rattle.table.specs.Widths.{bounded}
use Rattle.table.specs.Layout.{Layout}

-- how many slots make a group
abbrev pub group_slots : (M : ℕ) → ℕ
group_slots M = 16 * M

-- how many entries a group may hold: with its slots' zeros, as many bits as the marks have
abbrev pub group_limit : (M : ℕ) → ℕ
group_limit M = 48 * M

-- how many words the fields of a full group take, w bits each
unfoldable pub room : (M w : ℕ) → ℕ
room M w = (group_limit M * w + 63) / 64

-- how many words a block has: the marks, the quotients, the values
abbrev pub width : (M k v b : ℕ) → ℕ
width M k v b = M + (room M (k - b) + room M v)

-- the entries of a group, slot by slot, each slot's in its order
abbrev pub entries : List (List (ℕ × ℕ)) → List (ℕ × ℕ)
entries G = flat_map (λ s. s) G

-- the quotients of entries, packed, then their values, packed; each area starts on a word and is zero past its fields
unfoldable pub areas : (M k v b : ℕ) → List (ℕ × ℕ) → List ℕ
areas M k v b es = words_of (room M (k - b)) (packed (k - b) (map (λ e. e.0) es)) ++ words_of (room M v) (packed v (map (λ e. e.1) es))

-- the words of a group
unfoldable pub block_of : (M k v b : ℕ) → List (List (ℕ × ℕ)) → List ℕ
block_of M k v b G = mark_words M (map length G) ++ areas M k v b (entries G)

-- a list cut into pieces of given sizes
unfoldable pub chop : {X : Type 0} → List ℕ → List X → List (List X)
chop [] xs = []
chop (s ∷ ss) xs = take s xs ∷ chop ss (drop s xs)

-- the marks of a block, as one number
abbrev pub mark_number : (M : ℕ) → List ℕ → ℕ
mark_number M block = number (take M block)

-- the words of a block's quotients
abbrev pub quotient_area : (M k b : ℕ) → List ℕ → List ℕ
quotient_area M k b block = take (room M (k - b)) (drop M block)

-- the words of a block's values
abbrev pub value_area : (M k b : ℕ) → List ℕ → List ℕ
value_area M k b block = drop (M + room M (k - b)) block

-- the first n fields of two numbers side by side, of q and of v bits
unfoldable pub pairs : (n q v A B : ℕ) → List (ℕ × ℕ)
pairs n q v A B = map (λ t. (field q A t, field v B t)) (range_with_len 0 n)

-- the slots that a block reads as: as many entries as there are ones in its marks, cut at the sizes
unfoldable pub slots_of : (M k v b : ℕ) → List ℕ → List (List (ℕ × ℕ))
slots_of M k v b block =
    chop (sizes (group_slots M) (mark_number M block))
    (pairs (sum (sizes (group_slots M) (mark_number M block))) (k - b) v (number (quotient_area M k b block)) (number (value_area M k b block)))

-- a block with other quotients and values, its marks as they are
abbrev pub with_areas : (k v b : ℕ) → List ℕ → (A B : ℕ) → List ℕ
with_areas k v b block A B = take 1 block ++ (words_of (room 1 (k - b)) A ++ words_of (room 1 v) B)

-- which widths fit n words: b from 4 to 20, and a block for each of the 2^(b-4) groups
unfoldable pub fits : (n k v b : ℕ) → Bool
fits n k v b = (nat_le 4 b && nat_le b 20) && (bounded k v b && nat_le (2 ^ (b - 4) * width 1 k v b) n)

-- a group is 16 slots, of at most 48 entries together; group g's block is run number g of as many words as a block has
abbrev pub packed_table : Layout
packed_table = record {
  S = group_slots 1;
  C = group_limit 1;
  fits = fits;
  count = λ b. 2 ^ (b - 4);
  width = width 1;
  block = block_of 1;
  read = slots_of 1;
}

-- a block of the right length whose first word is the marks of 16 sizes, of at most 48 entries
pub record MarkedBlock (k v b : ℕ) (block : List ℕ) : Type 0 where
  pub long : length block ≡ width 1 k v b
  pub marked : Marked 16 48 (slice_index block 0)
