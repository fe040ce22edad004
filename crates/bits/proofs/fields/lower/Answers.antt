use Rattle.std.proofs.Common.{◌≡◌, ◌+◌, ◌*◌, ◌≤◌, min, length, ap, ◌∙◌, subst, arith}
use Rattle.bits.specs.Area.{number, bits}
use Rattle.bits.proofs.Puts.{put_inside}
use Rattle.bits.proofs.Moves.{Lowered, lowered_none, lowered_more}
use Rattle.bits.proofs.fields.lower.Goals as goal

pub loop-part-init : goal.loop-part-init
loop-part-init c =
    let start : c.args.from ≡ min (c.args.from + 64 * 0) c.args.end = omega arith in
    subst (λ u. Lowered (number c.args.area.now) (number c.args.area.now) c.args.from u c.args.by.bits) start (lowered_none _ _ _)

pub loop-part-preserved : goal.loop-part-preserved
loop-part-preserved c =
    let k = c.up_to-size.result.bits in
    let m = c.args.from + c.loop-part.part * 64 in
    let at : min (c.args.from + 64 * c.loop-part.part) c.args.end ≡ m = omega arith in
    let next : m + k ≡ min (c.args.from + 64 * (c.loop-part.part + 1)) c.args.end = omega arith in
    let h : m + k ≤ 64 * length c.loop-part.area = omega (arith, c.requires.inside (omega arith), c.loop-part.auto.area) in
    let r = c.read_bits-moved.ensures.value ∙ ap (λ u. bits (number c.loop-part.area) (m + u) k) c.bits.ensures in
    let w = put_inside c.loop-part.area _ m k _ h c.read_bits-moved.ensures.bound c.write_bits.ensures in
    let i = subst (λ u. Lowered (number c.loop-part.area) (number c.args.area.now) c.args.from u c.args.by.bits) at c.loop-part.invariant in
    subst (λ u. Lowered (number c.write_bits.new.area) (number c.args.area.now) c.args.from u c.args.by.bits) next
    (lowered_more _ _ _ _ _ _ _ _ (omega arith) i r w)
