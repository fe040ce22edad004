use Rattle.table.proofs.Loads.{Summed}
use Rattle.table.proofs.table.Table.load.Given as goal

abbrev pub invariant-loop-i : goal.invariant-loop-i
invariant-loop-i g l = g.Self.Table.sound l.self → Summed g.Self.Table.group (g.Self.Table.means l.self) l.slot l.i l.sum
