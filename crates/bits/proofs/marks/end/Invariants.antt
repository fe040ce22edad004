use Rattle.std.proofs.Common.{◌≡◌, ◌<◌}
use Rattle.bits.specs.Marks.{begins}
use Rattle.bits.proofs.marks.end.Given as goal

abbrev pub invariant-loop-slot : goal.invariant-loop-slot
invariant-loop-slot l = (l.at < 64) × (l.at ≡ begins l._slot l.word)
