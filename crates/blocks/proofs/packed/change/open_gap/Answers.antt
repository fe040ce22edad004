use Rattle.std.proofs.Common.{arith}
use Rattle.bits.specs.Area.{field_inserted}
use Rattle.blocks.proofs.Gaps.{both_areas}
use Rattle.blocks.proofs.packed.change.open_gap.Goals as goal

pub returns : goal.returns
returns c =
    let s = c.args.shape in
    record {
      after = both_areas s.k s.v s.b c.args.block.now c.requires (omega arith) (omega arith) c.middle-middle.result c.middle-middle.ensures.value
          (λ w a. field_inserted w c.args.count a c.args.place c.args.quotient) c.insert.new.area c.insert.ensures
          (λ w a. field_inserted w c.args.count a c.args.place c.args.value) c.insert-2.new.area c.insert-2.ensures;
    }
