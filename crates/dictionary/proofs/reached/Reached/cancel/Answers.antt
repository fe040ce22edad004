use Rattle.std.proofs.Common.{◌≡◌, ℕ, suc, ◌+◌, sym, refl, ap, ◌∙◌, subst, arith}
use Rattle.model.specs.Entries.{Entries, without_run}
use Rattle.model.proofs.Removals.{without_none}
use Rattle.dictionary.specs.Stored.{Holds}
use Rattle.dictionary.proofs.Runs.{not_both}
use Rattle.dictionary.proofs.Removed.{held_still, without_last}
use Rattle.dictionary.proofs.Scans.{turned}
use Rattle.dictionary.proofs.reached.Reached.cancel.Goals as goal

pub loop-i-init : goal.loop-i-init
loop-i-init g c = (refl, refl, λ es st none. subst (λ (x : Entries). Holds g.P.Permutation g.T.Table c.args.self.now.by c.args.table.now x) (sym (without_none es c.args.self.now.run.first)) st)

pub loop-i-preserved : goal.loop-i-preserved
loop-i-preserved g c = (
  c.remove_key.ensures.len ∙ c.loop-i.invariant.0,
  c.remove_key.ensures.fits ∙ c.loop-i.invariant.1,
  λ es st none.
      let m = c.args.self.now.run.first in
      let w = c.args.self.now.run.value in
      let i = c.loop-i.i-counter in
      let there = c.args.self.now.there i c.loop-i-test.true in
      let e : suc i ≡ i + 1 = omega arith in
      subst (λ (x : Entries). Holds g.P.Permutation g.T.Table c.args.self.now.by c.remove_key.new.table x) (sym (without_last es m i) ∙ ap (λ x. without_run m x es) e)
      (c.remove_key.ensures.after (without_run m i es) (c.loop-i.invariant.2 es st none) there.0 w (held_still es m w c.args.self.now.run.length i c.loop-i-test.true none)),
)

pub returns-in_err-map_err : goal.returns-in_err-map_err
returns-in_err-map_err g c =
    let never : (es : Entries) (st : _) (none : _) → ⊥ = λ es st none.
    let m = c.args.self.now.run.first in
    let w = c.args.self.now.run.value in
    let i = c.loop-i.i-counter in
    let there = c.args.self.now.there i c.loop-i-test.true in
    let at = turned _ c.remove_key.result c.map_err.result c.in_err-map_err.field-0.0 c.in_err-map_err.was c.map_err.ensures.cases in
    not_both c.remove_key.result w at.0
    (c.remove_key.ensures.value (without_run m i es) (c.loop-i.invariant.2 es st none) there.0 w (held_still es m w c.args.self.now.run.length i c.loop-i-test.true none)) at.1 in
    record {
      value = λ es st none. absurd (never es st none);
      after = λ es st none. absurd (never es st none);
      len = c.remove_key.ensures.len ∙ c.loop-i.invariant.0;
      fits = c.remove_key.ensures.fits ∙ c.loop-i.invariant.1;
    }

pub returns-clause-after : goal.returns-clause-after
returns-clause-after g c es st none =
    let e : c.loop-i.i-counter ≡ c.args.self.now.run.length = omega (arith, c.loop-i-test.false, c.loop-i.auto.i-counter-end) in
    subst (λ (x : ℕ). Holds g.P.Permutation g.T.Table c.args.self.now.by c.loop-i.table (without_run c.args.self.now.run.first x es)) e (c.loop-i.invariant.2 es st none)
