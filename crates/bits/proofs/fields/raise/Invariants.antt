use Rattle.std.proofs.Common.{◌+◌, ◌*◌, min}
use Rattle.bits.specs.Area.{number}
use Rattle.bits.proofs.Moves.{Raised}
use Rattle.bits.proofs.fields.raise.Given as goal

abbrev pub invariant-loop-part : goal.invariant-loop-part
invariant-loop-part l = Raised (number l.area) (number l.initial.area) (min (l.from + 64 * l.part) l.end) l.end l.by.bits

abbrev pub decreases-loop-part : goal.decreases-loop-part
decreases-loop-part l = l.part
