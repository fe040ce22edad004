use Rattle.bits.proofs.Scans.{size_is}
use Rattle.bits.proofs.marks.size.Goals as goal

pub returns : goal.returns
returns c = size_is c.args.word c.args.slot _ _ c.ranges.word.fits c.end.ensures.value c.begin.ensures.value
