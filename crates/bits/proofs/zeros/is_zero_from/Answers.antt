use Rattle.bits.proofs.Tails.{later_decide, first_decides}
use Rattle.bits.proofs.zeros.is_zero_from.Goals as goal

pub returns-then-word_at-bit-eq0 : goal.returns-then-word_at-bit-eq0
returns-then-word_at-bit-eq0 c =
    later_decide c.args.from _ c.args.area.now _ (λ i. (c.type_inv.area i).fits) c.word_at.ensures c.if-word_at-bit-eq0.true c.are_zero_from.ensures

pub returns-else-word_at-bit-eq0 : goal.returns-else-word_at-bit-eq0
returns-else-word_at-bit-eq0 c = first_decides c.args.from _ c.args.area.now (λ i. (c.type_inv.area i).fits) c.word_at.ensures c.if-word_at-bit-eq0.false
