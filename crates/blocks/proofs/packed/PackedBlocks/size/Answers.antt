use Rattle.std.proofs.Common.{◌∙◌}
use Rattle.blocks.specs.Views.{size_here}
use Rattle.blocks.proofs.Readable.{bare_marked}
use Rattle.blocks.proofs.packed.PackedBlocks.size.Goals as goal

pub returns : goal.returns
returns c =
    let t = c.args.at.now in let s = t.shape in
    record { value = c.size.ensures.value ∙ size_here s.k s.v s.b t.block.now (bare_marked s.k s.v s.b t.block.now t.readable) t.slot t.inside }
