use Rattle.std.proofs.Common.{rules, tests}
use Rattle.std.proofs.lemmas.Iterator.{YieldsList-from_slice}
use Rattle.arrivals.proofs.Digits.{number_read}
use Rattle.arrivals.proofs.lines.number.Goals as goal

pub returns : goal.returns
returns c = record { value = number_read _ _ _ c.try_fold.ensures.ran (YieldsList-from_slice c.args.text.now cc) (λ n x w q k. search (rules, tests)) }
