use Rattle.std.proofs.Common.{◌≡◌, ℕ, ◌<◌, None}
use Rattle.model.specs.Entries.{Entries}
use Rattle.dictionary.specs.Stored.{Holds, slot_by}
use Rattle.dictionary.proofs.Scans.{take_at}
use Rattle.dictionary.proofs.reached.Reached.may_take.Given as goal

abbrev pub invariant-loop-i : goal.invariant-loop-i
invariant-loop-i g l = (es : Entries) → Holds g.P.Permutation g.T.Table l.self.by l.table es
    → (j : ℕ) → j < l.i-counter → take_at (slot_by g.P.Permutation l.self.by) g.T.Table.group g.T.Table.limit es l.self.run.first l.self.run.value j ≡ None
