use Rattle.std.proofs.Common.{◌≡◌, ℕ, suc, ◌+◌, ◌++◌, sym, ap, ◌∙◌, subst, arith}
use Rattle.model.specs.Entries.{Entries, run_of}
use Rattle.dictionary.specs.Stored.{Holds, slot_by}
use Rattle.dictionary.proofs.Runs.{not_both}
use Rattle.dictionary.proofs.Scans.{list_snoc, run_clear, take_at, take_scan, turned}
use Rattle.dictionary.proofs.reached.Reached.take.Goals as goal

pub loop-i-preserved : goal.loop-i-preserved
loop-i-preserved g c = (
  c.add_key.ensures.len ∙ c.loop-i.invariant.0,
  c.add_key.ensures.fits ∙ c.loop-i.invariant.1,
  λ es st none.
      let slot : ℕ → ℕ = slot_by g.P.Permutation c.args.self.now.by in
      let m = c.args.self.now.run.first in
      let w = c.args.self.now.run.value in
      let n = c.args.self.now.run.length in
      let i = c.loop-i.i-counter in
      let there = c.args.self.now.there i c.loop-i-test.true in
      let free = run_clear (take_at slot g.T.Table.group g.T.Table.limit es m w) n (sym (take_scan slot g.T.Table.group g.T.Table.limit es m w n) ∙ none) i c.loop-i-test.true in
      let e : suc i ≡ i + 1 = omega arith in
      subst (λ (x : Entries). Holds g.P.Permutation g.T.Table c.args.self.now.by c.add_key.new.table x) (sym (list_snoc es m w i) ∙ ap (λ x. es ++ run_of m w x) e)
      (c.add_key.ensures.after (es ++ run_of m w i) (c.loop-i.invariant.2 es st none) there.0 there.1 free),
)

pub returns-in_err-map_err : goal.returns-in_err-map_err
returns-in_err-map_err g c =
    let never : (es : Entries) (st : _) (none : _) → ⊥ = λ es st none.
    let slot : ℕ → ℕ = slot_by g.P.Permutation c.args.self.now.by in
    let m = c.args.self.now.run.first in
    let w = c.args.self.now.run.value in
    let n = c.args.self.now.run.length in
    let i = c.loop-i.i-counter in
    let there = c.args.self.now.there i c.loop-i-test.true in
    let free = run_clear (take_at slot g.T.Table.group g.T.Table.limit es m w) n (sym (take_scan slot g.T.Table.group g.T.Table.limit es m w n) ∙ none) i c.loop-i-test.true in
    let at = turned _ c.add_key.result c.map_err.result c.in_err-map_err.field-0.0 c.in_err-map_err.was c.map_err.ensures.cases in
    not_both c.add_key.result tt at.0 (c.add_key.ensures.value (es ++ run_of m w i) (c.loop-i.invariant.2 es st none) there.0 there.1 free) at.1 in
    record {
      value = λ es st none. absurd (never es st none);
      after = λ es st none. absurd (never es st none);
      len = c.add_key.ensures.len ∙ c.loop-i.invariant.0;
      fits = c.add_key.ensures.fits ∙ c.loop-i.invariant.1;
    }

pub returns-clause-after : goal.returns-clause-after
returns-clause-after g c es st none =
    let e : c.loop-i.i-counter ≡ c.args.self.now.run.length = omega (arith, c.loop-i-test.false, c.loop-i.auto.i-counter-end) in
    subst (λ (x : ℕ). Holds g.P.Permutation g.T.Table c.args.self.now.by c.loop-i.table (es ++ run_of c.args.self.now.run.first c.args.self.now.run.value x)) e (c.loop-i.invariant.2 es st none)
