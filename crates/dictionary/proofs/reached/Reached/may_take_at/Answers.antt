use Rattle.std.proofs.Common.{◌≤◌, Err, sym, ap, ◌∙◌, arith}
use Rattle.std.proofs.lemmas.Result.{err_from_is_err_and}
use Rattle.dictionary.specs.Results.{reply}
use Rattle.dictionary.proofs.Lawful.{lawful}
use Rattle.dictionary.proofs.Asked.{judged}
use Rattle.dictionary.proofs.Judged.{told}
use Rattle.dictionary.proofs.reached.Reached.may_take_at.Goals as goal

pub returns-in_err-admits : goal.returns-in_err-admits
returns-in_err-admits g c l st =
    let law = lawful g.P.Permutation g.T.Table g.met.P.Permutation.within g.met.P.Permutation.returns g.met.P.Permutation.beyond g.met.T.Table.grouped in
    let narrow : c.args.self.now.by.shape.b ≤ c.args.self.now.by.shape.k = omega (arith, c.args.self.now.by.shape.below) in
    let there = c.args.self.now.there c.args.i c.requires in
    let e = err_from_is_err_and c.from_residual.result c.from_residual.ensures.1 in
    e.1 ∙ ap Err e.2
    ∙ ap reply (sym (ap told c.in_err-admits.was)
    ∙ judged law st narrow c.args.self.now.run.first c.args.i c.args.self.now.run.value (record { slot = c.place-place.ensures.slot; quotient = c.place-place.ensures.quotient }) there.0 there.1
    c.group.result c.earlier-earlier.result c.group.ensures.value c.earlier-earlier.ensures c.admits.result c.admits.ensures.value)

pub returns : goal.returns
returns g c l st =
    let law = lawful g.P.Permutation g.T.Table g.met.P.Permutation.within g.met.P.Permutation.returns g.met.P.Permutation.beyond g.met.T.Table.grouped in
    let narrow : c.args.self.now.by.shape.b ≤ c.args.self.now.by.shape.k = omega (arith, c.args.self.now.by.shape.below) in
    let there = c.args.self.now.there c.args.i c.requires in
    ap reply (sym (ap told c.in_ok-admits.was)
    ∙ judged law st narrow c.args.self.now.run.first c.args.i c.args.self.now.run.value (record { slot = c.place-place.ensures.slot; quotient = c.place-place.ensures.quotient }) there.0 there.1
    c.group.result c.earlier-earlier.result c.group.ensures.value c.earlier-earlier.ensures c.admits.result c.admits.ensures.value)
