use Rattle.std.proofs.Common.{◌-◌, sym, ap, ◌∙◌, lt_of_lt_of_le, mod-eq_of_lt, pow_mono}
use lib.Bits.{bit_and, and_mask}
use Rattle.std.proofs.lemmas.Nat.{one_shl}
use Rattle.bits.proofs.marks.low.Goals as goal

pub returns-then-at-ge-BITS : goal.returns-then-at-ge-BITS
returns-then-at-ge-BITS c = sym (mod-eq_of_lt (lt_of_lt_of_le c.ranges.word.fits (pow_mono c.if-at-ge-BITS.true)))

pub returns : goal.returns
returns c = ap (λ u. bit_and c.args.word (u - 1)) (one_shl c.args.at 64 c.if-at-ge-BITS.false) ∙ and_mask c.args.word c.args.at
