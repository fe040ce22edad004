use Rattle.bits.proofs.Scans.{begin_first, begin_next}
use Rattle.bits.proofs.marks.begin.Goals as goal

pub returns-then-slot-eq0 : goal.returns-then-slot-eq0
returns-then-slot-eq0 c = begin_first c.args.word c.args.slot c.if-slot-eq0.true

pub returns : goal.returns
returns c = begin_next c.args.word c.args.slot _ _ c.if-slot-eq0.false c.end.ensures.value c.min.ensures
