use Rattle.std.proofs.Common.{◌≡◌, ◌+◌, length}
use Rattle.model.specs.Entries.{Entries, walk}
use Rattle.dictionary.specs.Stored.{Holds, slot_by}
use Rattle.dictionary.proofs.addressing.Addressing.entry_at.Given as goal

abbrev pub invariant-loop-slot : goal.invariant-loop-slot
invariant-loop-slot g l = (es : Entries) → Holds g.P.Permutation g.T.Table l.self l.table es → l.left + length (walk (slot_by g.P.Permutation l.self) l.slot es) ≡ l.i
