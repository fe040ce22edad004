-- The words of whole tables, of entries in order of their slots.
--
-- part      the entries of group g: those in groups of so many slots that come right after all of lower groups
-- word_at   the word at an index: that of its place in its group's block
use Rattle.std.specs.Prelude.{ℕ, ◌/◌, ◌%◌, ◌==◌, nat_lt, List, length, drop, take_while}
use Rattle.expected.specs.declared.layout.Entry.{Entry}

abbrev pub part : List Entry → (size g : ℕ) → List Entry
part entries size g = take_while (λ e. e.slot / size == g) (drop (length (take_while (λ e. nat_lt (e.slot / size) g) entries)) entries)

abbrev pub word_at : (List Entry → ℕ → ℕ) → (group block : ℕ) → List Entry → ℕ → ℕ
word_at word group block entries index = word (part entries group (index / block)) (index % block)
