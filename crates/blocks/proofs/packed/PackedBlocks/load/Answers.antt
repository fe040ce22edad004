use Rattle.std.proofs.Common.{◌∙◌}
use Rattle.blocks.specs.Views.{load_is}
use Rattle.blocks.proofs.Readable.{bare_marked}
use Rattle.blocks.proofs.packed.PackedBlocks.load.Goals as goal

pub returns : goal.returns
returns c =
    let t = c.args.at.now in let s = t.shape in
    record { value = c.load.ensures.value ∙ load_is s.k s.v s.b t.block.now (bare_marked s.k s.v s.b t.block.now t.readable) }
