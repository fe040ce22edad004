-- The words of a slot, and the reading back.
--   word_of, entry_of        an entry as a word, a word as an entry
--   block_of, entries_of     the 16 words of a slot, the entries of 16 words
--   block_of_group           the block of a group, which is one slot
--   Stored                   a block that is the block of what it reads as
--   fits                     which widths fit n words
--   plain                    the layout
use Rattle.std.specs.Prelude.{◌≡◌, ℕ, ◌+◌, ◌-◌, ◌*◌, ◌/◌, ◌%◌, ◌^◌, ◌≤◌, Bool, ◌&&◌, List, [], ◌∷◌, ◌++◌, map, length, take, drop, replicate, nat_le, slice_index, slice_index_or}
use Rattle.table.specs.Widths.{bounded}
use Rattle.table.specs.Layout.{Layout}

-- an entry (quotient, value) as a word
abbrev pub word_of : (ℕ × ℕ) → ℕ
word_of e = e.1 * 2 ^ 32 + e.0

-- a word as an entry
abbrev pub entry_of : ℕ → (ℕ × ℕ)
entry_of w = (w % 2 ^ 32, w / 2 ^ 32)

-- the 16 words of a slot: how many entries, the entries, zeros
unfoldable pub block_of : List (ℕ × ℕ) → List ℕ
block_of es = length es ∷ (map word_of es ++ replicate (15 - length es) 0)

-- the entries of a block, as many as its first word says
unfoldable pub entries_of : List ℕ → List (ℕ × ℕ)
entries_of block = map entry_of (take (slice_index block 0) (drop 1 block))

-- the block of a group, which is one slot
abbrev pub block_of_group : List (List (ℕ × ℕ)) → List ℕ
block_of_group G = block_of (slice_index_or G 0 [])

-- a block that is the block of what it reads as
pub record Stored (block : List ℕ) : Type 0 where
  pub few : length (entries_of block) ≤ 15
  pub exact : block ≡ block_of (entries_of block)

-- which widths fit n words: b up to 20, and 16 words for each of the 2^b slots
unfoldable pub fits : (n k v b : ℕ) → Bool
fits n k v b = (nat_le b 20 && nat_le (2 ^ b * 16) n) && bounded k v b

-- a group is one slot, of at most 15 entries; slot g's block is run number g of 16 words
abbrev pub plain : Layout
plain = record {
  S = 1;
  C = 15;
  fits = fits;
  count = λ b. 2 ^ b;
  width = λ k v b. 16;
  block = λ k v b G. block_of_group G;
  read = λ k v b block. entries_of block ∷ [];
}
