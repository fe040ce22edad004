use Rattle.bits.proofs.Scans.{add_past, added}
use Rattle.bits.proofs.marks.add.Goals as goal

pub returns-then-at-ge-BITS : goal.returns-then-at-ge-BITS
returns-then-at-ge-BITS c = add_past c.args.word c.args.slot _ c.ranges.word.fits c.begin-at.ensures.value c.if-at-ge-BITS.true

pub returns : goal.returns
returns c = added c.args.word c.args.slot c.begin-at.result c.low-under.result c.begin-at.ensures.value c.if-at-ge-BITS.false c.low-under.ensures
