use Rattle.std.proofs.Common.{sym, ◌∙◌}
use Rattle.model.specs.declared.refusal.Refusal.TheVariants.{Table, Unreached}
use Rattle.register.proofs.Ends.{passed_on}
use Rattle.register.proofs.Finding.{find_absent, find_found, find_known}
use Rattle.register.proofs.state.Register.find.Goals as goal

pub returns-in_err-w : goal.returns-in_err-w
returns-in_err-w g c =
    let r = c.args.self.now in
    let km = sym c.number.ensures.value ∙ c.in-Some.is in
    record {
      step = find_absent r c.in_use.result c.in_ok-used.used c.in_ok-used.was c.in_use.ensures c.args.key c.in-Some.m km (g.met.K.Coding.below r.keys c.args.key c.in-Some.m km)
          c.value_number.result c.value_number.ensures c.in_err-w.field-0.0 c.in_err-w.was c.from_residual-in_err-w.result
          (passed_on c.from_residual-in_err-w.result (Table c.in_err-w.field-0.0) c.from_residual-in_err-w.ensures.1);
    }

pub returns-in_default-item : goal.returns-in_default-item
returns-in_default-item g c =
    let r = c.args.self.now in
    let km = sym c.number.ensures.value ∙ c.in-Some.is in
    record {
      step = find_known r c.in_use.result c.in_ok-used.used c.in_ok-used.was c.in_use.ensures c.args.key c.in-Some.m km (g.met.K.Coding.below r.keys c.args.key c.in-Some.m km)
          c.value_number.result c.value_number.ensures c.in_ok-w.w c.in_ok-w.was (g.met.V.Coding.back r.values) (sym c.item.ensures.value ∙ c.in_default-item.is) Unreached;
    }

pub returns : goal.returns
returns g c =
    let r = c.args.self.now in
    let km = sym c.number.ensures.value ∙ c.in-Some.is in
    record {
      step = find_found r c.in_use.result c.in_ok-used.used c.in_ok-used.was c.in_use.ensures c.args.key c.in-Some.m km (g.met.K.Coding.below r.keys c.args.key c.in-Some.m km)
          c.value_number.result c.value_number.ensures c.in_ok-w.w c.in_ok-w.was c.in-Some-item.value
          (g.met.V.Coding.forth r.values c.in-Some-item.value c.in_ok-w.w (sym c.item.ensures.value ∙ c.in-Some-item.is));
    }
