use Rattle.std.proofs.Common.{◌≡◌, ℕ, ◌<◌, None}
use Rattle.model.specs.Entries.{Entries}
use Rattle.dictionary.specs.Stored.{Holds}
use Rattle.dictionary.proofs.Scans.{cancel_at}
use Rattle.dictionary.proofs.reached.Reached.may_cancel.Given as goal

abbrev pub invariant-loop-i : goal.invariant-loop-i
invariant-loop-i g l = (es : Entries) → Holds g.P.Permutation g.T.Table l.self.by l.table es → (j : ℕ) → j < l.i-counter → cancel_at es l.self.run.first l.self.run.value j ≡ None
