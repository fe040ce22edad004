use Rattle.std.proofs.Common.{◌≤◌, ◌∙◌, arith}
use Rattle.dictionary.proofs.Walked.{entry_told, joined_told, none_of}
use Rattle.dictionary.proofs.shaped.Shaped.permuted_at.Goals as goal

pub returns-in_err-quotient : goal.returns-in_err-quotient
returns-in_err-quotient g c mix l st here = c.from_residual.ensures ∙ none_of _ _ _ (c.in_err-quotient.ensures.value ∙ entry_told st c.args.slot c.args.i here c.entry.result c.entry.ensures.value)

pub returns : goal.returns
returns g c mix l st here =
    let narrow : c.args.self.now.shape.b ≤ 32 = omega (arith, c.args.self.now.shape.below, c.args.self.now.shape.narrow) in
    joined_told st c.args.slot c.args.i c.in_ok-quotient.quotient c.in_ok-quotient.w c.join.result here narrow
    (c.in_ok-quotient.ensures.value ∙ entry_told st c.args.slot c.args.i here c.entry.result c.entry.ensures.value) c.join.ensures.value
