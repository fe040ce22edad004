use Rattle.std.proofs.Common.{◌++◌, ap, ◌∙◌}
use Rattle.model.specs.declared.call.Call.TheVariants.{Take}
use Rattle.model.specs.Entries.{run_of}
use Rattle.model.specs.Model.{opened}
use Rattle.model.specs.Step.{answer, take_judged, to_take}
use Rattle.dictionary.proofs.Scans.{kept_ok}
use Rattle.register.specs.Fixed.{fixed}
use Rattle.register.specs.Numbers.{Reached, RunEnds}
use Rattle.register.proofs.OnSides.{same_but}
use Rattle.register.proofs.Ends.{carried, passed_on, reached, read_good, read_ok, run_done, run_refused}
use Rattle.register.proofs.Lengths.{more_counted}
use Rattle.register.proofs.Lawful.{lawful_coding}
use Rattle.register.proofs.state.Register.take.Goals as goal

pub returns-in_err-take_numbers : goal.returns-in_err-take_numbers
returns-in_err-take_numbers g c =
    let r = c.args.self.now in
    let f = fixed g.K.Coding g.V.Coding g.P.Permutation g.A.Table g.B.Table r in
    let n = c.args.n in
    let run = c.in_ok-run.run' in
    let good = read_ok f c.args.key n c.args.value c.read_run.result run c.read_run.ensures c.in_ok-run.was in
    let keys = lawful_coding g.K.Coding g.met.K.Coding.below g.met.K.Coding.back g.met.K.Coding.forth r.keys in
    let values = lawful_coding g.V.Coding g.met.V.Coding.below g.met.V.Coding.back g.met.V.Coding.forth r.values in
    record {
      same = c.take_numbers.ensures.same;
      step = run_refused r c.in_use.result c.in_ok-used.used (kept_ok _ c.in_use.result c.map_err.result c.in_ok-used.used c.in_ok-used.was c.map_err.ensures.cases) c.in_use.ensures c.take_numbers.new.self (Take c.args.key n c.args.value) n c.take_numbers.result
          (λ t. t.list ++ run_of run.first run.value n) (λ t. take_judged f t run.first n run.value)
          (λ t. ap (answer f (opened t)) (read_good f to_take c.args.key n c.args.value run good))
          (λ t st chosen. carried (λ y. Reached f run.first y run.value) (λ y. RunEnds g.K.Coding g.V.Coding g.P.Permutation g.A.Table g.B.Table r c.take_numbers.new.self t (t.list ++ run_of run.first run.value y) (take_judged f t run.first y run.value) c.take_numbers.result) good.whole
          (c.take_numbers.ensures.ends t st chosen) (reached f keys values c.args.key n c.args.value run good))
          c.in_err-take_numbers.field-0.0 c.in_err-take_numbers.was c.from_residual-in_err-take_numbers.result
          (passed_on c.from_residual-in_err-take_numbers.result c.in_err-take_numbers.field-0.0 c.from_residual-in_err-take_numbers.ensures.1);
    }

pub returns : goal.returns
returns g c =
    let r = c.args.self.now in
    let f = fixed g.K.Coding g.V.Coding g.P.Permutation g.A.Table g.B.Table r in
    let n = c.args.n in
    let run = c.in_ok-run.run' in
    let good = read_ok f c.args.key n c.args.value c.read_run.result run c.read_run.ensures c.in_ok-run.was in
    let keys = lawful_coding g.K.Coding g.met.K.Coding.below g.met.K.Coding.back g.met.K.Coding.forth r.keys in
    let values = lawful_coding g.V.Coding g.met.V.Coding.below g.met.V.Coding.back g.met.V.Coding.forth r.values in
    record {
      same = same_but c.take_numbers.ensures.same c.take_numbers.new.self.opened c.saturating_add-self.result;
      step = run_done r c.in_use.result c.in_ok-used.used (kept_ok _ c.in_use.result c.map_err.result c.in_ok-used.used c.in_ok-used.was c.map_err.ensures.cases) c.in_use.ensures c.take_numbers.new.self (Take c.args.key n c.args.value) n c.take_numbers.result
          (λ t. t.list ++ run_of run.first run.value n) (λ t. take_judged f t run.first n run.value)
          (λ t. ap (answer f (opened t)) (read_good f to_take c.args.key n c.args.value run good))
          (λ t st chosen. carried (λ y. Reached f run.first y run.value) (λ y. RunEnds g.K.Coding g.V.Coding g.P.Permutation g.A.Table g.B.Table r c.take_numbers.new.self t (t.list ++ run_of run.first run.value y) (take_judged f t run.first y run.value) c.take_numbers.result) good.whole
          (c.take_numbers.ensures.ends t st chosen) (reached f keys values c.args.key n c.args.value run good))
          c.saturating_add-self.result c.in_ok-take_numbers.was
          (λ t st clear kept after. more_counted t.list run.first run.value n (g.K.Coding.width c.take_numbers.new.self.keys) c.take_numbers.new.self.count c.saturating_add-self.result (kept ∙ st.count) c.saturating_add-self.ensures
          (g.met.K.Coding.narrow c.take_numbers.new.self.keys) after.listed.apart after.listed.below);
    }
