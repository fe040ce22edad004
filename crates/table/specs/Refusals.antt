-- The number of each refusal, and the values that it carries.
--   table_says   of a table's refusal
--   check_says   of a check's refusal
use Rattle.std.specs.Prelude.{ℕ, List, [], ◌∷◌}
use Rattle.table.specs.declared.refusal.TableRefusal.{TableRefusal}
use Rattle.table.specs.declared.refusal.TableRefusal.TheVariants.{Unformed, OutOfRange, Held, Full, Absent, DoesNotFit}
use Rattle.table.specs.declared.check_refusal.CheckRefusal.{CheckRefusal}
use Rattle.table.specs.declared.check_refusal.CheckRefusal.TheVariants as check

-- the number of a table's refusal; it carries nothing
abbrev pub table_says : TableRefusal → (ℕ × List ℕ)
table_says Unformed = (1, [])
table_says OutOfRange = (2, [])
table_says Held = (3, [])
table_says Full = (4, [])
table_says Absent = (5, [])
table_says DoesNotFit = (6, [])

-- the number of a check's refusal, and the block that it names
abbrev pub check_says : CheckRefusal → (ℕ × List ℕ)
check_says check.DoesNotFit = (6, [])
check_says (check.WrongBlock g) = (7, g ∷ [])
