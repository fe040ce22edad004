-- The numbers of refusals, written down once more for the runs.
--
-- table_number   of a table's refusal
-- number         of a register's; of a table's refusal, the table's own
use Rattle.std.specs.Prelude.{ℕ}
use Rattle.model.specs.declared.refusal.Refusal.{Refusal}
use Rattle.model.specs.declared.refusal.Refusal.TheVariants.{UnknownKey, UnknownValue, RunLength, Closed, AlreadyOpen, PermutationWidth, OtherValue, NoSuchPlace, Unreached, Table}
use Rattle.table.specs.declared.refusal.TableRefusal.{TableRefusal}
use Rattle.table.specs.declared.refusal.TableRefusal.TheVariants.{Unformed, OutOfRange, Held, Full, Absent, DoesNotFit}

abbrev pub table_number : TableRefusal → ℕ
table_number Unformed = 1
table_number OutOfRange = 2
table_number Held = 3
table_number Full = 4
table_number Absent = 5
table_number DoesNotFit = 6

abbrev pub number : Refusal → ℕ
number UnknownKey = 11
number UnknownValue = 12
number RunLength = 13
number Closed = 14
number AlreadyOpen = 15
number PermutationWidth = 16
number OtherValue = 17
number NoSuchPlace = 18
number Unreached = 99
number (Table e) = table_number e
