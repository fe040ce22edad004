use Rattle.register.proofs.Replayed.{Put}
use Rattle.register.proofs.replays.replay.Given as goal

-- the promise of the calls put so far, and the answers after them as they were
abbrev pub invariant-loop-i : goal.invariant-loop-i
invariant-loop-i g l =
    Put g.K.Coding g.V.Coding g.P.Permutation g.A.Table g.B.Table l.initial.register l.register l.call-items l.initial.answers l.answers l.i
