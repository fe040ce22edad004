use Rattle.std.proofs.Common.{◌≡◌, length, None}
use Rattle.model.specs.Entries.{Entries, cancel_refusal, without_run}
use Rattle.dictionary.specs.Stored.{Holds}
use Rattle.dictionary.proofs.reached.Reached.cancel.Given as goal

abbrev pub invariant-loop-i : goal.invariant-loop-i
invariant-loop-i g l =
    (length (g.T.Table.words l.table) ≡ length (g.T.Table.words l.initial.table))
    × (g.T.Table.fits l.table ≡ g.T.Table.fits l.initial.table)
    × ((es : Entries) → Holds g.P.Permutation g.T.Table l.self.by l.initial.table es → cancel_refusal es l.self.run.first l.self.run.value 0 l.self.run.length ≡ None
    → Holds g.P.Permutation g.T.Table l.self.by l.table (without_run l.self.run.first l.i-counter es))
