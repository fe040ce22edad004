use Rattle.std.proofs.Common.{◌≡◌, ◌*◌, ◌-◌, ℕ}
use Rattle.permutation.specs.Formulas.{xor_below}
use Rattle.permutation.specs.Shifts.{term}
use Rattle.permutation.proofs.xor_shift.XorShiftPermutation.back.Given as goal

abbrev pub invariant-loop-shift : goal.invariant-loop-shift
invariant-loop-shift l =
    (j : ℕ) × (l.shift ≡ j * l.self.shift) × (l.found ≡ xor_below j (term l.self.width.bits l.self.shift l.y))

abbrev pub decreases-loop-shift : goal.decreases-loop-shift
decreases-loop-shift l = l.shift-end - l.shift
