use Rattle.std.proofs.Common.{◌∙◌}
use Rattle.blocks.specs.Views.{load_is}
use Rattle.blocks.proofs.PackedJudged.{past_clean, past_dirty}
use Rattle.blocks.proofs.packed.judge.clean.Goals as goal

pub returns-then-not-is_zero_from : goal.returns-then-not-is_zero_from
returns-then-not-is_zero_from c =
    let s = c.args.shape in
    record {
      value = past_dirty s.k s.v s.b c.args.block.now c.load-count.result (c.load-count.ensures.value ∙ load_is s.k s.v s.b c.args.block.now c.requires) c.quotients.result.now c.quotients.ensures.value
          c.is_zero_from.result c.is_zero_from.ensures c.if-not-is_zero_from.true;
    }

pub returns : goal.returns
returns c =
    let s = c.args.shape in
    record {
      value = past_clean s.k s.v s.b c.args.block.now c.load-count.result (c.load-count.ensures.value ∙ load_is s.k s.v s.b c.args.block.now c.requires) c.quotients.result.now c.quotients.ensures.value
          c.is_zero_from.result c.is_zero_from.ensures c.if-not-is_zero_from.false c.values.result.now c.values.ensures.value c.is_zero_from-2.result c.is_zero_from-2.ensures;
    }
