-- The sizes of a group's slots in unary: from bit 0 up, each slot gives as many ones as it has entries, then one zero. Any number of slots, in a number of any length.
--   marks ss               the marks of the sizes ss
--   mark_words n ss        the same in n words
--   run m                  how many ones m ends in
--   sizes n m              the sizes of the first n slots of m
--   entries_before j m     the entries of the slots before slot j
--   begins j m             where the marks of slot j begin
--   size_of j m            how many entries slot j has
--   ends j m               where they end: the place of its zero
--   one_more j m           m with one entry more in slot j
--   one_less j m           m with one entry less in slot j
--   Marked n c m           m is the marks of n sizes of at most c in all
use Rattle.std.specs.Prelude.{◌≡◌, ℕ, zero, suc, ◌+◌, ◌-◌, ◌*◌, ◌/◌, ◌%◌, ◌^◌, ◌≤◌, cond, List, [], ◌∷◌, length, sum, ◌==◌}
use Rattle.std.specs.Int.Count.{count_trailing_zeros}
use Rattle.bits.specs.Area.{words_of}

-- The marks of some sizes, as one number.
unfoldable pub marks : List ℕ → ℕ
marks [] = 0
marks (s ∷ ss) = marks ss * 2 ^ (s + 1) + (2 ^ s - 1)

-- The marks of some sizes in n words.
abbrev pub mark_words : ℕ → List ℕ → List ℕ
mark_words n ss = words_of n (marks ss)

-- How many ones m ends in: as many as m + 1 ends in zeros, which are m at most.
unfoldable pub run : ℕ → ℕ
run m = count_trailing_zeros m (suc m)

-- The sizes of the first n slots, read from the marks: any number has some, since it has zeros without end above its last one.
unfoldable pub sizes : ℕ → ℕ → List ℕ
sizes zero m = []
sizes (suc n) m = run m ∷ sizes n (m / 2 ^ (run m + 1))

-- How many entries the slots before slot j have together.
abbrev pub entries_before : ℕ → ℕ → ℕ
entries_before j m = sum (sizes j m)

-- Where the marks of slot j begin: each slot before it has its ones and a zero.
abbrev pub begins : ℕ → ℕ → ℕ
begins j m = sum (sizes j m) + j

-- How many entries slot j has: the ones from there up.
abbrev pub size_of : ℕ → ℕ → ℕ
size_of j m = run (m / 2 ^ begins j m)

-- Where the marks of slot j end: the place of its zero.
abbrev pub ends : ℕ → ℕ → ℕ
ends j m = begins j m + size_of j m

-- m with a one put in at bit p, all bits from there on one place up.
abbrev pub one_at : ℕ → ℕ → ℕ
one_at p m = (m / 2 ^ p * 2 + 1) * 2 ^ p + m % 2 ^ p

-- m with bit p taken out, all bits above it one place down.
abbrev pub bit_out : ℕ → ℕ → ℕ
bit_out p m = m / 2 ^ p / 2 * 2 ^ p + m % 2 ^ p

-- m with one entry more in slot j.
abbrev pub one_more : ℕ → ℕ → ℕ
one_more j m = one_at (begins j m) m

-- m with one entry less in slot j; an empty slot stays empty.
abbrev pub one_less : ℕ → ℕ → ℕ
one_less j m = cond (size_of j m == 0) m (bit_out (begins j m) m)

-- m is the marks of n sizes of at most c in all.
abbrev pub Marked : ℕ → ℕ → ℕ → Type 0
Marked n c m = (ss : List ℕ) × (length ss ≡ n) × (sum ss ≤ c) × (m ≡ marks ss)
