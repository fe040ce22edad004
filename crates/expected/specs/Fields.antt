-- The fields of packed blocks.
--
-- field_of   the number of an entry that stands in a field
use Rattle.std.specs.Prelude.{ℕ}
use Rattle.expected.specs.declared.layout.Entry.{Entry}
use Rattle.expected.specs.declared.packed_words.Field.{Field}
use Rattle.expected.specs.declared.packed_words.Field.TheVariants.{Quotient, Value}

abbrev pub field_of : Field → Entry → ℕ
field_of Quotient e = e.quotient
field_of Value e = e.value
