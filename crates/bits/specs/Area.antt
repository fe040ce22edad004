-- An area of 64-bit words as one number, its bits and its fields, and what a change of a field leaves.
--   number ws              the area as one number, the first word the lowest
--   words_of n a           the n words that hold the low 64 × n bits of a
--   bits a p k             the k bits of a from bit p up
--   splice a p k v         a with these k bits replaced by v
--   wide w                 the width that a function takes w for
--   field w a t            field t of width w
--   fields n w a           the first n fields, as a list
--   packed w xs            the number whose fields are xs, with zeros above them
--   field_written ..       a with field t replaced
--   field_inserted ..      a with a field put in at place t among the first n
--   field_removed ..       a with the field at place t among the first n taken out
use Rattle.std.specs.Prelude.{ℕ, zero, suc, ◌+◌, ◌*◌, ◌/◌, ◌%◌, ◌^◌, cond, List, [], ◌∷◌, nat_le}
use Rattle.std.specs.List.{insert, remove}

-- The words of an area as one number: bit u of it is bit u mod 64 of word u div 64. (In a contract a list has numbers of any size; a word is taken at its 64 bits.)
abbrev pub number : List ℕ → ℕ
number [] = 0
number (x ∷ xs) = number xs * 2 ^ 64 + x % 2 ^ 64

-- The n words that hold a number; its bits past them are dropped.
unfoldable pub words_of : ℕ → ℕ → List ℕ
words_of zero a = []
words_of (suc n) a = a % 2 ^ 64 ∷ words_of n (a / 2 ^ 64)

-- The k bits of a from bit p up.
unfoldable pub bits : ℕ → ℕ → ℕ → ℕ
bits a p k = a / 2 ^ p % 2 ^ k

-- a with its k bits from bit p up replaced by v, every other bit as before.
unfoldable pub splice : ℕ → ℕ → ℕ → ℕ → ℕ
splice a p k v = a / 2 ^ (k + p) * 2 ^ (k + p) + (v * 2 ^ p + a % 2 ^ p)

-- A width above 64 counts as 0: such a field reads 0, and writing, inserting or removing it changes nothing.
unfoldable pub wide : ℕ → ℕ
wide w = cond (nat_le w 64) w 0

-- Field t of width w: bits t × w to t × w + w − 1.
abbrev pub field : ℕ → ℕ → ℕ → ℕ
field w a t = bits a (t * w) w

-- The first n fields of width w, as a list.
unfoldable pub fields : ℕ → ℕ → ℕ → List ℕ
fields zero w a = []
fields (suc n) w a = a % 2 ^ w ∷ fields n w (a / 2 ^ w)

-- The number whose fields of width w are xs, each by its low w bits, and whose bits above these are zero.
unfoldable pub packed : ℕ → List ℕ → ℕ
packed w [] = 0
packed w (x ∷ xs) = packed w xs * 2 ^ w + x % 2 ^ w

-- a with field t replaced by the low w bits of v, every other bit as before.
abbrev pub field_written : ℕ → ℕ → ℕ → ℕ → ℕ
field_written w a t v = splice a (t * w) w (v % 2 ^ w)

-- a with v put in at place t among its first n fields: these n + 1 are then the list with v put in, so what was field n is overwritten, and every bit past it stays. A place above n counts as n.
unfoldable pub field_inserted : ℕ → ℕ → ℕ → ℕ → ℕ → ℕ
field_inserted w n a t v = splice a 0 ((n + 1) * w) (packed w (insert (fields n w a) t v))

-- a with the field at place t among its first n taken out: these n are then the list without it and a zero, and every bit past them stays. A place of n or more takes nothing out.
unfoldable pub field_removed : ℕ → ℕ → ℕ → ℕ → ℕ
field_removed w n a t = splice a 0 (n * w) (packed w (remove (fields n w a) t))
