-- The words of blocks, of the entries of a group, slots upwards.
--
-- area          how many words 48 fields of a width take
-- entry_word    the word of an entry in a plain table: 32 bits of its quotient, and above them 32 of its value
-- plain_word    the word at a place of a plain table's block: the number of the slot's entries, then a word to each
-- has_bit       whether bit i of a number of 64 bits is one
-- is_mark       whether bit u of a packed block's marks is one: the mark of entry t, in slot j of the group, is bit j + t
-- field_bit     whether bit u of an area of fields is one: field u / w is the number there, and bit u % w is its own
-- values_at     where the values of a packed block begin, in bits: after the word of marks and the area of quotients
-- packed_bit    whether bit u of a packed block is one
-- packed_block  how many words a packed block has
-- number        the number whose ones below place n are those of a test
-- packed_word   the word at a place of a packed block: its 64 bits
use Rattle.std.specs.Prelude.{ℕ, zero, suc, ◌+◌, ◌-◌, ◌*◌, ◌/◌, ◌%◌, ◌^◌, Bool, false, ◌&&◌, ◌==◌, nat_lt, if◌then◌else◌, List, length, slice_get, Option, Some, None}
use Rattle.std.specs.List.{list_any, enumerate_from}
use Rattle.expected.specs.declared.layout.Entry.{Entry}

abbrev pub area : ℕ → ℕ
area width = (width * 48 + 63) / 64

abbrev pub entry_word : Option Entry → ℕ
entry_word (Some e) = e.quotient % 2 ^ 32 + e.value % 2 ^ 32 * 2 ^ 32
entry_word None = 0

abbrev pub plain_word : List Entry → ℕ → ℕ
plain_word slot place = if place == 0 then length slot else entry_word (slice_get slot (place - 1))

abbrev pub has_bit : ℕ → ℕ → Bool
has_bit n i = nat_lt i 64 && (n / 2 ^ i % 2 == 1)

abbrev pub is_mark : List Entry → ℕ → Bool
is_mark group u = list_any (λ p. (p.0 + p.1.slot % 16) == u) (enumerate_from 0 group)

abbrev pub field_bit : (Entry → ℕ) → Option Entry → ℕ → Bool
field_bit f (Some e) i = has_bit (f e) i
field_bit f None i = false

abbrev pub values_at : ℕ → ℕ
values_at q = 64 + 64 * area q

abbrev pub packed_bit : (q v : ℕ) → List Entry → ℕ → Bool
packed_bit q v group u =
    if nat_lt u 64 then is_mark group u
    else if nat_lt u (values_at q) then field_bit (λ e. e.quotient) (slice_get group ((u - 64) / q)) ((u - 64) % q)
    else field_bit (λ e. e.value) (slice_get group ((u - values_at q) / v)) ((u - values_at q) % v)

abbrev pub packed_block : (q v : ℕ) → ℕ
packed_block q v = 1 + area q + area v

unfoldable pub number : (ℕ → Bool) → ℕ → ℕ
number b zero = 0
number b (suc n) = number b n + (if b n then 2 ^ n else 0)

abbrev pub packed_word : (q v : ℕ) → List Entry → ℕ → ℕ
packed_word q v group place = if nat_lt place (packed_block q v) then number (λ i. packed_bit q v group (64 * place + i)) 64 else 0
