use Rattle.std.proofs.Common.{rules}
use Rattle.bits.proofs.Puts.{put_one, put_two}
use Rattle.bits.proofs.words.write_bits.Goals as goal

pub returns-then-bit-width-gt-WORD : goal.returns-then-bit-width-gt-WORD
returns-then-bit-width-gt-WORD c =
    put_two c.args.area.now c.merge_word.new.area c.args.at c.args.width.bits c.args.value c.ones-mask.result (λ i. search rules)
    c.ones-mask.ensures c.merge_word.ensures _ c.if-bit-width-gt-WORD.true c.args.width.narrow c.merge_word-then-bit-width-gt-WORD.ensures

pub returns-else-bit-width-gt-WORD : goal.returns-else-bit-width-gt-WORD
returns-else-bit-width-gt-WORD c =
    put_one c.args.area.now c.merge_word.new.area c.args.at c.args.width.bits c.args.value c.ones-mask.result (λ i. search rules)
    c.ones-mask.ensures c.merge_word.ensures c.if-bit-width-gt-WORD.false
