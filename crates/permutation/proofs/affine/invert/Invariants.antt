use Rattle.permutation.specs.Formulas.{Inverse}
use Rattle.permutation.proofs.affine.invert.Given as goal

abbrev pub invariant-loop-bit : goal.invariant-loop-bit
invariant-loop-bit l = Inverse l.bit l.odd l.inverse
