use Rattle.std.proofs.Common.{ap, ◌∙◌}
use Rattle.model.specs.declared.call.Call.TheVariants.{Cancel}
use Rattle.model.specs.Entries.{cancel_refusal, without_run}
use Rattle.model.specs.Model.{opened}
use Rattle.model.specs.Step.{answer, to_cancel}
use Rattle.dictionary.proofs.Scans.{kept_ok}
use Rattle.register.specs.Fixed.{fixed}
use Rattle.register.specs.Numbers.{Reached, RunEnds}
use Rattle.register.proofs.OnSides.{same_but}
use Rattle.register.proofs.Ends.{carried, keys_end, passed_on, reached, read_good, read_ok, run_done, run_refused}
use Rattle.register.proofs.Lengths.{less_counted}
use Rattle.register.proofs.Lawful.{lawful_coding}
use Rattle.register.proofs.state.Register.cancel.Goals as goal

pub returns-in_err-cancel_numbers : goal.returns-in_err-cancel_numbers
returns-in_err-cancel_numbers g c =
    let r = c.args.self.now in
    let f = fixed g.K.Coding g.V.Coding g.P.Permutation g.A.Table g.B.Table r in
    let n = c.args.n in
    let run = c.in_ok-run.run' in
    let good = read_ok f c.args.key n c.args.value c.read_run.result run c.read_run.ensures c.in_ok-run.was in
    let keys = lawful_coding g.K.Coding g.met.K.Coding.below g.met.K.Coding.back g.met.K.Coding.forth r.keys in
    let values = lawful_coding g.V.Coding g.met.V.Coding.below g.met.V.Coding.back g.met.V.Coding.forth r.values in
    record {
      same = c.cancel_numbers.ensures.same;
      step = run_refused r c.in_use.result c.in_ok-used.used (kept_ok _ c.in_use.result c.map_err.result c.in_ok-used.used c.in_ok-used.was c.map_err.ensures.cases) c.in_use.ensures c.cancel_numbers.new.self (Cancel c.args.key n c.args.value) n c.cancel_numbers.result
          (λ t. without_run run.first n t.list) (λ t. cancel_refusal t.list run.first run.value 0 n)
          (λ t. ap (answer f (opened t)) (read_good f to_cancel c.args.key n c.args.value run good))
          (λ t st chosen. carried (λ y. Reached f run.first y run.value) (λ y. RunEnds g.K.Coding g.V.Coding g.P.Permutation g.A.Table g.B.Table r c.cancel_numbers.new.self t (without_run run.first y t.list) (cancel_refusal t.list run.first run.value 0 y) c.cancel_numbers.result) good.whole
          (c.cancel_numbers.ensures.ends t st chosen) (reached f keys values c.args.key n c.args.value run good))
          c.in_err-cancel_numbers.field-0.0 c.in_err-cancel_numbers.was c.from_residual-in_err-cancel_numbers.result
          (passed_on c.from_residual-in_err-cancel_numbers.result c.in_err-cancel_numbers.field-0.0 c.from_residual-in_err-cancel_numbers.ensures.1);
    }

pub returns : goal.returns
returns g c =
    let r = c.args.self.now in
    let f = fixed g.K.Coding g.V.Coding g.P.Permutation g.A.Table g.B.Table r in
    let n = c.args.n in
    let run = c.in_ok-run.run' in
    let good = read_ok f c.args.key n c.args.value c.read_run.result run c.read_run.ensures c.in_ok-run.was in
    let keys = lawful_coding g.K.Coding g.met.K.Coding.below g.met.K.Coding.back g.met.K.Coding.forth r.keys in
    let values = lawful_coding g.V.Coding g.met.V.Coding.below g.met.V.Coding.back g.met.V.Coding.forth r.values in
    record {
      same = same_but c.cancel_numbers.ensures.same c.cancel_numbers.new.self.opened c.saturating_sub-self.result;
      step = run_done r c.in_use.result c.in_ok-used.used (kept_ok _ c.in_use.result c.map_err.result c.in_ok-used.used c.in_ok-used.was c.map_err.ensures.cases) c.in_use.ensures c.cancel_numbers.new.self (Cancel c.args.key n c.args.value) n c.cancel_numbers.result
          (λ t. without_run run.first n t.list) (λ t. cancel_refusal t.list run.first run.value 0 n)
          (λ t. ap (answer f (opened t)) (read_good f to_cancel c.args.key n c.args.value run good))
          (λ t st chosen. carried (λ y. Reached f run.first y run.value) (λ y. RunEnds g.K.Coding g.V.Coding g.P.Permutation g.A.Table g.B.Table r c.cancel_numbers.new.self t (without_run run.first y t.list) (cancel_refusal t.list run.first run.value 0 y) c.cancel_numbers.result) good.whole
          (c.cancel_numbers.ensures.ends t st chosen) (reached f keys values c.args.key n c.args.value run good))
          c.saturating_sub-self.result c.in_ok-cancel_numbers.was
          (λ t st clear kept after. less_counted t.list run.first run.value n f.keys.width (g.K.Coding.width c.cancel_numbers.new.self.keys) c.cancel_numbers.new.self.count c.saturating_sub-self.result
          (ap (λ x. x.keys.width) c.cancel_numbers.ensures.same.parts) (kept ∙ st.count) c.saturating_sub-self.ensures clear
          (keys_end f keys c.args.key n c.args.value run good) st.listed.apart st.listed.below after.listed.apart after.listed.below);
    }
