use Rattle.std.proofs.Common.{◌≡◌, ◌+◌, ◌-◌, ◌*◌, ◌≤◌, min, length, ap, ◌∙◌, subst, arith}
use Rattle.bits.specs.Area.{number, splice}
use Rattle.bits.proofs.Puts.{put_inside}
use Rattle.bits.proofs.Moves.{Raised, raised_none, raised_more}
use Rattle.bits.proofs.fields.raise.Goals as goal

pub loop-part-init : goal.loop-part-init
loop-part-init c =
    let start : c.args.end ≡ min (c.args.from + 64 * c.div_ceil-part.result) c.args.end = omega arith in
    subst (λ u. Raised (number c.args.area.now) (number c.args.area.now) u c.args.end c.args.by.bits) start (raised_none _ _ _)

pub loop-part-preserved : goal.loop-part-preserved
loop-part-preserved c =
    let k = c.up_to-size.result.bits in
    let p = c.loop-part.part - 1 in
    let m = c.args.from + p * 64 in
    let at : min (c.args.from + 64 * c.loop-part.part) c.args.end ≡ m + k = omega arith in
    let next : m ≡ min (c.args.from + 64 * p) c.args.end = omega arith in
    let h : m + c.bits.result + k ≤ 64 * length c.loop-part.area = omega (arith, c.bits.ensures, c.requires.inside (omega arith), c.loop-part.auto.area) in
    let w = put_inside c.loop-part.area _ (m + c.bits.result) k _ h c.read_bits-moved.ensures.bound c.write_bits.ensures
    ∙ ap (λ u. splice (number c.loop-part.area) (m + u) k c.read_bits-moved.result) c.bits.ensures in
    let i = subst (λ u. Raised (number c.loop-part.area) (number c.args.area.now) u c.args.end c.args.by.bits) at c.loop-part.invariant in
    subst (λ u. Raised (number c.write_bits.new.area) (number c.args.area.now) u c.args.end c.args.by.bits) next
    (raised_more _ _ _ _ _ _ _ _ (omega arith) i c.read_bits-moved.ensures.value w)
