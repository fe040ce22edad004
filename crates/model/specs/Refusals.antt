-- The number of each refusal of a register, and what it carries.
--   says       of a register's refusal: its number, and the table's own number inside where there is one
--   run_says   of a run's refusal: its place, its number, and the table's own number inside where there is one
use Rattle.std.specs.Prelude.{ℕ, Some, None, Option}
use Rattle.table.specs.Refusals.{table_says}
use Rattle.model.specs.declared.refusal.Refusal.{Refusal}
use Rattle.model.specs.declared.refusal.Refusal.TheVariants.{UnknownKey, UnknownValue, RunLength, Closed, AlreadyOpen, PermutationWidth, OtherValue, NoSuchPlace, Unreached, Table}
use Rattle.model.specs.declared.run_refusal.RunRefusal.{RunRefusal}

-- the number of a register's refusal, and the table's own number inside
abbrev pub says : Refusal → (ℕ × Option ℕ)
says UnknownKey = (11, None)
says UnknownValue = (12, None)
says RunLength = (13, None)
says Closed = (14, None)
says AlreadyOpen = (15, None)
says PermutationWidth = (16, None)
says OtherValue = (17, None)
says NoSuchPlace = (18, None)
says Unreached = (99, None)
says (Table e) = ((table_says e).0, Some (table_says e).0)

-- the place of a run's refusal, its number, and the table's own number inside
abbrev pub run_says : RunRefusal → (ℕ × ℕ × Option ℕ)
run_says e = (e.place, (says e.why).0, (says e.why).1)
