use Rattle.std.proofs.Common.{refl, arith}
use Rattle.blocks.specs.PackedLayout.{room}
use Rattle.blocks.proofs.packed.parts.area.Goals as goal

pub returns : goal.returns
unfolding room
returns c = record { value = refl; bound = omega arith }
