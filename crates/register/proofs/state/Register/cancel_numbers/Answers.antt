use Rattle.std.proofs.Common.{refl, ap}
use Rattle.model.specs.Entries.{without_run}
use Rattle.register.proofs.OnSides.{chose_first, chose_second, first_stored, same_both, second_stored, with_first, with_second}
use Rattle.register.proofs.Runs.{cancel_ends, first_relisted, second_relisted}
use Rattle.register.proofs.state.Register.cancel_numbers.Goals as goal

pub returns-in-First : goal.returns-in-First
returns-in-First g c = record {
  same = same_both c.args.self.now c.cancel_run.new.table c.args.self.now.second c.cancel_run.ensures.fits c.cancel_run.ensures.len refl refl;
  ends = λ t st chosen reached.
      let r = c.args.self.now in
      let e = chose_first chosen c.in-First.is in
      cancel_ends g.A.Table r (with_first r c.cancel_run.new.table) t c.args.used c.args.run.first c.args.run.length c.args.run.value c.cancel_run.result r.first c.cancel_run.new.table
      chosen reached (first_stored st e) c.cancel_run.ensures.value c.cancel_run.ensures.after c.cancel_run.ensures.kept (ap (with_first r))
      (first_relisted r t c.cancel_run.new.table (without_run c.args.run.first c.args.run.length t.list) st e) refl st.listed.known;
}

pub returns-in-Second : goal.returns-in-Second
returns-in-Second g c = record {
  same = same_both c.args.self.now c.args.self.now.first c.cancel_run-in-Second.new.table refl refl c.cancel_run-in-Second.ensures.fits c.cancel_run-in-Second.ensures.len;
  ends = λ t st chosen reached.
      let r = c.args.self.now in
      let e = chose_second chosen c.in-Second.is in
      cancel_ends g.B.Table r (with_second r c.cancel_run-in-Second.new.table) t c.args.used c.args.run.first c.args.run.length c.args.run.value c.cancel_run-in-Second.result r.second c.cancel_run-in-Second.new.table
      chosen reached (second_stored st e) c.cancel_run-in-Second.ensures.value c.cancel_run-in-Second.ensures.after c.cancel_run-in-Second.ensures.kept (ap (with_second r))
      (second_relisted r t c.cancel_run-in-Second.new.table (without_run c.args.run.first c.args.run.length t.list) st e) refl st.listed.known;
}
