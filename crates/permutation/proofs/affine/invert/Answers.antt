use Rattle.std.proofs.Common.{ℕ, ◌+◌, ◌<◌, ap, ◌∙◌, arith}
use Rattle.std.proofs.lemmas.Nat.{one_shl}
use Rattle.permutation.proofs.Inverses.{turn_set, turn_clear}
use Rattle.permutation.proofs.affine.invert.Goals as goal
use Rattle.permutation.proofs.affine.invert.Goals.{then-odd-inverse-eq1, else-odd-inverse-eq1}

pub loop-bit-preserved : goal.loop-bit-preserved
loop-bit-preserved c =
    let short : c.loop-bit.bit < 64 = omega arith in
    elim c.if-odd-inverse-eq1.branch [
      | then-odd-inverse-eq1 w ↦
          turn_set c.args.odd c.loop-bit.inverse c.loop-bit.bit c.if-odd-inverse-eq1.inverse (omega arith) c.loop-bit.invariant
          w.if-odd-inverse-eq1.true (w.inverse-is ∙ ap (λ (x : ℕ). c.loop-bit.inverse + x) (one_shl c.loop-bit.bit 64 short))
      | else-odd-inverse-eq1 w ↦
          turn_clear c.args.odd c.loop-bit.inverse c.loop-bit.bit c.if-odd-inverse-eq1.inverse c.loop-bit.invariant
          w.if-odd-inverse-eq1.false w.inverse-is
    ]
