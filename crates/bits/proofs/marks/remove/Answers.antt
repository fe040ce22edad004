use Rattle.bits.proofs.Scans.{taken, begins_in}
use Rattle.bits.proofs.marks.remove.Goals as goal

pub overflow_shr-result : goal.overflow_shr-result
overflow_shr-result c = begins_in c.args.word c.args.slot _ _ c.ranges.word.fits c.size.ensures.value c.if-size-eq0.false c.begin-first.ensures.value

pub overflow_shl-result : goal.overflow_shl-result
overflow_shl-result c = begins_in c.args.word c.args.slot _ _ c.ranges.word.fits c.size.ensures.value c.if-size-eq0.false c.begin-first.ensures.value

pub returns : goal.returns
returns c =
    taken c.args.word c.args.slot _ c.begin-first.result c.low-under.result c.ranges.word.fits c.size.ensures.value c.if-size-eq0.false
    c.begin-first.ensures.value c.low-under.ensures
