use Rattle.std.proofs.Common.{◌+◌, ◌*◌, min}
use Rattle.bits.specs.Area.{number}
use Rattle.bits.proofs.Moves.{Lowered}
use Rattle.bits.proofs.fields.lower.Given as goal

abbrev pub invariant-loop-part : goal.invariant-loop-part
invariant-loop-part l = Lowered (number l.area) (number l.initial.area) l.from (min (l.from + 64 * l.part) l.end) l.by.bits
