use Rattle.std.proofs.Common.{arith}
use Rattle.std.proofs.lemmas.Bool.{leb-true, leb-false, eqb-true}
use Rattle.bits.proofs.Scans.{decides, marked_from, marked_below, marked_few}
use Rattle.bits.proofs.marks.is_marks.Goals as goal

pub returns-then-low-word : goal.returns-then-low-word
returns-then-low-word c =
    let m = c.args.word in
    decides _ _
    (λ t. marked_from c.args.slots c.args.limit m _ _ c.ranges.word.fits c.begin.ensures.value c.low.ensures c.if-low-word.true
    (omega (arith, leb-true _ _ t, c.load.ensures.value)))
    (λ t k. omega (arith, leb-false _ _ t, c.load.ensures.value, marked_few c.args.slots c.args.limit m k))

pub returns-else-low-word : goal.returns-else-low-word
returns-else-low-word c =
    decides _ _ (λ t. absurd (c.if-low-word.false (eqb-true _ _ t)))
    (λ t k. c.if-low-word.false (marked_below c.args.slots c.args.limit c.args.word _ _ c.ranges.word.fits c.begin.ensures.value c.low.ensures k))
