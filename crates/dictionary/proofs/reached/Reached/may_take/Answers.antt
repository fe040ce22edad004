use borrow.Author.Tests.{tests}
use Rattle.std.proofs.Common.{◌≡◌, ℕ, Err, sym, ap, ◌∙◌, rules}
use Rattle.std.proofs.lemmas.Result.{err_from_is_err_and}
use Rattle.dictionary.specs.Stored.{slot_by}
use Rattle.dictionary.specs.Results.{reply}
use Rattle.dictionary.proofs.Scans.{take_at, take_scan, run_goes, run_stops, turned}
use Rattle.dictionary.proofs.reached.Reached.may_take.Goals as goal

pub returns-in_err-map_err : goal.returns-in_err-map_err
returns-in_err-map_err g c es st =
    let slot : ℕ → ℕ = slot_by g.P.Permutation c.args.self.now.by in
    let m = c.args.self.now.run.first in
    let w = c.args.self.now.run.value in
    let n = c.args.self.now.run.length in
    let at = turned _ c.may_take_at.result c.map_err.result c.in_err-map_err.field-0.0 c.in_err-map_err.was c.map_err.ensures.cases in
    let out = err_from_is_err_and c.from_residual.result c.from_residual.ensures.1 in
    let is : c.in_err-map_err.field-0.0 ≡ record { place = c.loop-i.i-counter; why = at.0 } = search (rules, tests) in
    out.1 ∙ ap Err out.2
    ∙ run_stops (take_at slot g.T.Table.group g.T.Table.limit es m w) n c.loop-i.i-counter c.in_err-map_err.field-0.0 at.0 c.loop-i-test.true (c.loop-i.invariant es st) c.may_take_at.result (c.may_take_at.ensures es st) at.1 is
    ∙ ap reply (sym (take_scan slot g.T.Table.group g.T.Table.limit es m w n))

pub returns : goal.returns
returns g c es st =
    let slot : ℕ → ℕ = slot_by g.P.Permutation c.args.self.now.by in
    let m = c.args.self.now.run.first in
    let w = c.args.self.now.run.value in
    let n = c.args.self.now.run.length in
    run_goes (take_at slot g.T.Table.group g.T.Table.limit es m w) n c.loop-i.i-counter c.loop-i-test.false (c.loop-i.invariant es st) ∙ ap reply (sym (take_scan slot g.T.Table.group g.T.Table.limit es m w n))
