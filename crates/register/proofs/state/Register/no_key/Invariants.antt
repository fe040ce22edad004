use Rattle.register.specs.Fixed.{fixed}
use Rattle.register.proofs.Keys.{Keyed}
use Rattle.register.proofs.state.Register.no_key.Given as goal

abbrev pub invariant-loop-i : goal.invariant-loop-i
invariant-loop-i g l = Keyed (fixed g.K.Coding g.V.Coding g.P.Permutation g.A.Table g.B.Table l.self) l.m l.n l.i
