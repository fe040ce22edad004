use Rattle.std.proofs.Common.{◌≡◌, ◌%◌, ◌^◌, ◌<◌}
use Rattle.expected.proofs.layout.lowest.Given as goal

-- the bits below i, so far
abbrev pub invariant-loop-i : goal.invariant-loop-i
invariant-loop-i l = record { low : l.low ≡ l.n % 2 ^ l.i; room : l.low < 2 ^ l.i }
