use Rattle.std.proofs.Common.{ℕ, ◌<◌}
use Rattle.table.specs.Layout.{part}
use Rattle.table.specs.Checking.{Given}
use Rattle.blocks.proofs.state.BlockTable.scan.Given as goal

-- every block so far is given
abbrev pub invariant-loop-g : goal.invariant-loop-g
invariant-loop-g g l = (i : ℕ) → i < l.g → Given g.L.Blocks.layout l.shape.k l.shape.v l.shape.b (part (g.L.Blocks.layout.width l.shape.k l.shape.v l.shape.b) i l.words)
