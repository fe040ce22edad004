use Rattle.std.proofs.Common.{◌-◌, ◌*◌, ◌/◌, ◌%◌, ◌^◌, ap, ◌∙◌, ap₂}
use lib.Bits.{bit_and, bit_or}
use Rattle.bits.proofs.Gets.{read_one, read_two}
use Rattle.bits.proofs.words.read_bits.Goals as goal

pub returns-then-bit-width-le-WORD-clause-value : goal.returns-then-bit-width-le-WORD-clause-value
returns-then-bit-width-le-WORD-clause-value c =
    let p = c.args.at in
    ap₂ (λ x m. bit_and (x / 2 ^ (p % 64)) m) c.word_at.ensures c.ones-mask.ensures
    ∙ read_one c.args.area.now p c.args.width.bits c.if-bit-width-le-WORD.true (c.type_inv.area (p / 64)).fits

pub returns-else-bit-width-le-WORD-clause-value : goal.returns-else-bit-width-le-WORD-clause-value
returns-else-bit-width-le-WORD-clause-value c =
    let p = c.args.at in
    ap₂ (λ x y. bit_and (bit_or (x / 2 ^ (p % 64)) ((y * 2 ^ (64 - p % 64)) % 2 ^ 64)) c.ones-mask.result) c.word_at.ensures c.word_at-else-bit-width-le-WORD.ensures
    ∙ ap (bit_and _) c.ones-mask.ensures
    ∙ read_two c.args.area.now p c.args.width.bits c.if-bit-width-le-WORD.false c.args.width.narrow (λ i. (c.type_inv.area i).fits)
