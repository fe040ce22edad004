use Rattle.bits.proofs.Scans.{before_is}
use Rattle.bits.proofs.marks.before.Goals as goal

pub returns : goal.returns
returns c = before_is c.args.word c.args.slot _ _ _ c.ranges.word.fits c.begin.ensures.value c.low.ensures c.load.ensures.value c.load.ensures.bound
