use Rattle.std.proofs.Common.{◌≡◌, ◌++◌, length, None}
use Rattle.model.specs.Entries.{Entries, run_of, take_refusal}
use Rattle.dictionary.specs.Stored.{Holds, slot_by}
use Rattle.dictionary.proofs.reached.Reached.take.Given as goal

abbrev pub invariant-loop-i : goal.invariant-loop-i
invariant-loop-i g l =
    (length (g.T.Table.words l.table) ≡ length (g.T.Table.words l.initial.table))
    × (g.T.Table.fits l.table ≡ g.T.Table.fits l.initial.table)
    × ((es : Entries) → Holds g.P.Permutation g.T.Table l.self.by l.initial.table es
    → take_refusal (slot_by g.P.Permutation l.self.by) g.T.Table.group g.T.Table.limit es l.self.run.first l.self.run.value 0 l.self.run.length ≡ None
    → Holds g.P.Permutation g.T.Table l.self.by l.table (es ++ run_of l.self.run.first l.self.run.value l.i-counter))
