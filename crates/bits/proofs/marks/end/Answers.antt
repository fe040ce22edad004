use Rattle.std.proofs.Common.{◌≡◌, sym, ap, ◌∙◌, arith}
use Rattle.bits.specs.Marks.{begins}
use Rattle.bits.proofs.Unary.{begins_zero}
use Rattle.bits.proofs.Scans.{scan_more, end_past, end_here}
use Rattle.bits.proofs.marks.end.Goals as goal

pub loop-slot-init : goal.loop-slot-init
loop-slot-init c = (omega arith, sym (begins_zero c.args.word))

pub returns-then-at-ge-BITS : goal.returns-then-at-ge-BITS
returns-then-at-ge-BITS c =
    end_past c.args.word c.loop-slot._slot c.args.slot _ (omega arith)
    (scan_more c.args.word c.loop-slot._slot _ _ c.ranges.word.fits c.loop-slot.invariant.1 c.trailing_ones.ensures) c.if-at-ge-BITS.true

pub loop-slot-preserved : goal.loop-slot-preserved
loop-slot-preserved c = (c.if-at-ge-BITS.false, scan_more c.args.word c.loop-slot._slot _ _ c.ranges.word.fits c.loop-slot.invariant.1 c.trailing_ones.ensures)

pub returns : goal.returns
returns c =
    let k = c.loop-slot._slot in
    let e : k ≡ c.args.slot = omega arith in
    end_here c.args.word c.args.slot _ _ c.ranges.word.fits c.loop-slot.invariant.0
    (c.loop-slot.invariant.1 ∙ ap (λ u. begins u c.args.word) e) c.trailing_ones-2.ensures
