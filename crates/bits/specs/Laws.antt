-- The laws of areas, fields and marks: what a caller may use of the words in Area and Marks.
--   Below b xs             each of xs is below b
--   AreaLaws               areas of n words and numbers of 64 × n bits are the same thing
--   FieldLaws              packing and reading back are inverse; what writing, inserting and removing do to the list of fields
--   MarkLaws               sizes and their marks are read from each other; what the bits of each slot are; which numbers are marks
use Rattle.std.specs.Prelude.{◌≡◌, ℕ, ◌+◌, ◌-◌, ◌*◌, ◌/◌, ◌%◌, ◌^◌, ◌<◌, ◌≤◌, List, [], ◌∷◌, ◌++◌, length, take, sum, count_ones, slice_index, slice_set}
use Rattle.std.specs.List.{insert, remove}
use Rattle.bits.specs.Area.{number, words_of, bits, wide, field, fields, packed, field_written, field_inserted, field_removed}
use Rattle.bits.specs.Marks.{marks, mark_words, sizes, entries_before, begins, size_of, ends, one_more, one_less}

-- Each of xs is below b.
abbrev pub Below : ℕ → List ℕ → Type 0
Below b xs = (i : ℕ) → slice_index xs i < b

pub record AreaLaws : Type 0 where
  -- bit u of an area is bit u mod 64 of its word u div 64
  pub bit : (ws : List ℕ) (u : ℕ) → Below (2 ^ 64) ws → bits (number ws) u 1 ≡ bits (slice_index ws (u / 64)) (u % 64) 1
  -- an area of n words is a number below 2^(64 n)
  pub bound : (ws : List ℕ) → number ws < 2 ^ (64 * length ws)
  -- the words of its number are the area
  pub area_back : (ws : List ℕ) → Below (2 ^ 64) ws → words_of (length ws) (number ws) ≡ ws
  -- the number of these words is the number, and its bits past them are dropped
  pub number_back : (n a : ℕ) → number (words_of n a) ≡ a % 2 ^ (64 * n)
  -- they are n
  pub len : (n a : ℕ) → length (words_of n a) ≡ n
  -- and each is a word
  pub words : (n a : ℕ) → Below (2 ^ 64) (words_of n a)

pub record FieldLaws : Type 0 where
  -- a width up to 64 counts as it is
  pub width : (w : ℕ) → w ≤ 64 → wide w ≡ w
  -- the list of the first n fields has n, and field t at place t
  pub len : (n w a : ℕ) → length (fields n w a) ≡ n
  pub place : (n w a t : ℕ) → t < n → slice_index (fields n w a) t ≡ field w a t
  -- a list packed and read back is the list
  pub list_back : (w : ℕ) (xs : List ℕ) → Below (2 ^ w) xs → fields (length xs) w (packed w xs) ≡ xs
  -- fields read and packed again are the low bits
  pub bits_back : (n w a : ℕ) → packed w (fields n w a) ≡ a % 2 ^ (n * w)
  -- a list packed takes w bits for each field
  pub bound : (w : ℕ) (xs : List ℕ) → packed w xs < 2 ^ (length xs * w)
  -- a number is determined by its first n fields and by the bits past them
  pub determined : (n w a b : ℕ) → fields n w a ≡ fields n w b → a / 2 ^ (n * w) ≡ b / 2 ^ (n * w) → a ≡ b
  -- a field written is that place of the list set, and every other bit stays
  pub written : (n w a t v : ℕ) → t < n → fields n w (field_written w a t v) ≡ slice_set (fields n w a) t (v % 2 ^ w)
  pub written_past : (w a t v : ℕ) → field_written w a t v / 2 ^ (t * w + w) ≡ a / 2 ^ (t * w + w)
  -- a field inserted among the first n is put into the list, and every bit past field n stays
  pub inserts : (n w a t v : ℕ) → fields (n + 1) w (field_inserted w n a t v) ≡ insert (fields n w a) t (v % 2 ^ w)
  pub inserts_past : (n w a t v : ℕ) → field_inserted w n a t v / 2 ^ ((n + 1) * w) ≡ a / 2 ^ ((n + 1) * w)
  -- a field removed from the first n is taken out of the list, a zero comes after the others, and every bit past them stays
  pub removes : (n w a t : ℕ) → t < n → fields n w (field_removed w n a t) ≡ remove (fields n w a) t ++ 0 ∷ []
  pub removes_past : (n w a t : ℕ) → field_removed w n a t / 2 ^ (n * w) ≡ a / 2 ^ (n * w)
  -- the same where the area holds a list and nothing else
  pub read_packed : (w : ℕ) (xs : List ℕ) (t : ℕ) → Below (2 ^ w) xs → t < length xs → field w (packed w xs) t ≡ slice_index xs t
  pub insert_packed : (w : ℕ) (xs : List ℕ) (t v : ℕ) → Below (2 ^ w) xs → field_inserted w (length xs) (packed w xs) t v ≡ packed w (insert xs t v)
  pub remove_packed : (w : ℕ) (xs : List ℕ) (t : ℕ) → Below (2 ^ w) xs → field_removed w (length xs) (packed w xs) t ≡ packed w (remove xs t)

pub record MarkLaws : Type 0 where
  -- the ones are as many as the entries
  pub load : (ss : List ℕ) → count_ones (marks ss) ≡ sum ss
  -- marks take a bit for each entry and each slot
  pub bound : (ss : List ℕ) → marks ss < 2 ^ (sum ss + length ss)
  -- so n words hold them where these are 64 n at most
  pub words : (n : ℕ) (ss : List ℕ) → sum ss + length ss ≤ 64 * n → number (mark_words n ss) ≡ marks ss
  -- the sizes are read back from their marks, so that marks of as many slots are of the same sizes
  pub sizes_back : (ss : List ℕ) → sizes (length ss) (marks ss) ≡ ss
  pub one_list : (ss ts : List ℕ) → length ss ≡ length ts → marks ss ≡ marks ts → ss ≡ ts
  -- exactly the numbers with nothing above the zero of their last slot are marks of n sizes
  pub marks_back : (n m : ℕ) → m / 2 ^ begins n m ≡ 0 → marks (sizes n m) ≡ m
  pub nothing_above : (ss : List ℕ) → marks ss / 2 ^ begins (length ss) (marks ss) ≡ 0
  -- the bits of slot j of any number: ones from where its marks begin, and a zero where they end
  pub slot_ones : (m j : ℕ) → bits m (begins j m) (size_of j m) ≡ 2 ^ size_of j m - 1
  pub slot_zero : (m j : ℕ) → bits m (ends j m) 1 ≡ 0
  -- the ones below the slot's beginning are the entries before it
  pub ones_below : (m j : ℕ) → count_ones (m % 2 ^ begins j m) ≡ entries_before j m
  -- of marks, these are the sizes' own
  pub before : (ss : List ℕ) (j : ℕ) → j ≤ length ss → entries_before j (marks ss) ≡ sum (take j ss)
  pub size : (ss : List ℕ) (j : ℕ) → j < length ss → size_of j (marks ss) ≡ slice_index ss j
  -- slot j's marks end at bit j plus the entries of the slots up to and with j
  pub end : (ss : List ℕ) (j : ℕ) → j < length ss → ends j (marks ss) ≡ j + sum (take (j + 1) ss)
  -- one entry more or less
  pub more : (ss : List ℕ) (j : ℕ) → j < length ss → one_more j (marks ss) ≡ marks (slice_set ss j (slice_index ss j + 1))
  pub less : (ss : List ℕ) (j : ℕ) → j < length ss → one_less j (marks ss) ≡ marks (slice_set ss j (slice_index ss j - 1))
