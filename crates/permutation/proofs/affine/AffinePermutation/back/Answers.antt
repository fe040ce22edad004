use Rattle.permutation.specs.Modulo.{affine_back_is}
use Rattle.permutation.proofs.affine.AffinePermutation.back.Goals as goal

pub returns-then-y-size : goal.returns-then-y-size
returns-then-y-size c =
    affine_back_is c.args.self.now.width.bits c.args.self.now.inverse c.args.self.now.increment c.args.y c.size-size.result
    c.size-size.ensures.value c.if-y-size.true
