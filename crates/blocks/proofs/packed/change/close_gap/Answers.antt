use Rattle.std.proofs.Common.{arith}
use Rattle.bits.specs.Area.{field_removed}
use Rattle.blocks.proofs.Gaps.{both_areas}
use Rattle.blocks.proofs.packed.change.close_gap.Goals as goal

pub returns : goal.returns
returns c =
    let s = c.args.shape in
    record {
      after = both_areas s.k s.v s.b c.args.block.now c.requires (omega arith) (omega arith) c.middle-middle.result c.middle-middle.ensures.value
          (λ w a. field_removed w c.args.count a c.args.place) c.remove.new.area c.remove.ensures
          (λ w a. field_removed w c.args.count a c.args.place) c.remove-2.new.area c.remove-2.ensures;
    }
