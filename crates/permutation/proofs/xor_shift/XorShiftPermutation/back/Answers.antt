use Rattle.std.proofs.Common.{◌+◌, sym, refl, zero-mul, add-mul, arith}
use Rattle.permutation.specs.Formulas.{xor_below}
use Rattle.permutation.specs.Shifts.{turn_by, turns_all}
use Rattle.permutation.proofs.xor_shift.XorShiftPermutation.back.Goals as goal

pub loop-shift-init : goal.loop-shift-init
unfolding xor_below
loop-shift-init c = (0, sym (zero-mul c.args.self.now.shift), refl)

pub loop-shift-preserved : goal.loop-shift-preserved
loop-shift-preserved c =
    let (j, at, found) = c.loop-shift.invariant in
    let p = c.args.self.now in
    (j + 1, omega (arith, at, add-mul j 1 p.shift), turn_by p.width.bits p.shift c.args.y j c.loop-shift.shift _ at (omega arith) found)

pub returns-else-y-size : goal.returns-else-y-size
returns-else-y-size c =
    let (j, at, found) = c.loop-shift.invariant in
    let p = c.args.self.now in
    turns_all p.width.bits p.shift c.args.y j _ (omega (arith, c.size.ensures.value)) p.moves (omega (arith, at)) found

-- the shift after this turn's is past the width
pub returns-else-y-size-2 : goal.returns-else-y-size-2
returns-else-y-size-2 c =
    let (j, at, found) = c.loop-shift.invariant in
    let p = c.args.self.now in
    turns_all p.width.bits p.shift c.args.y (j + 1) _ (omega (arith, c.size.ensures.value)) p.moves
    (omega (arith, at, add-mul j 1 p.shift)) (turn_by p.width.bits p.shift c.args.y j c.loop-shift.shift _ at (omega arith) found)
