use Rattle.std.proofs.Common.{◌++◌, refl, ap}
use Rattle.model.specs.Entries.{run_of}
use Rattle.model.specs.Model.{on_first, on_second}
use Rattle.register.specs.Fixed.{fixed}
use Rattle.register.proofs.OnSides.{chose_first, chose_second, first_stored, same_both, second_stored, with_first, with_second}
use Rattle.register.proofs.Runs.{first_relisted, on_side_judged, second_relisted, take_ends}
use Rattle.register.proofs.state.Register.take_numbers.Goals as goal

pub returns-in-First : goal.returns-in-First
returns-in-First g c = record {
  same = same_both c.args.self.now c.take_run.new.table c.args.self.now.second c.take_run.ensures.fits c.take_run.ensures.len refl refl;
  ends = λ t st chosen reached.
      let r = c.args.self.now in
      let e = chose_first chosen c.in-First.is in
      take_ends g.A.Table r (with_first r c.take_run.new.table) t c.args.used c.args.run.first c.args.run.length c.args.run.value c.take_run.result r.first c.take_run.new.table
      chosen reached (first_stored st e) c.take_run.ensures.value c.take_run.ensures.after c.take_run.ensures.kept (on_side_judged (fixed g.K.Coding g.V.Coding g.P.Permutation g.A.Table g.B.Table r) t c.args.run.first c.args.run.length c.args.run.value on_first e) (ap (with_first r))
      (first_relisted r t c.take_run.new.table (t.list ++ run_of c.args.run.first c.args.run.value c.args.run.length) st e) refl st.listed.known;
}

pub returns-in-Second : goal.returns-in-Second
returns-in-Second g c = record {
  same = same_both c.args.self.now c.args.self.now.first c.take_run-in-Second.new.table refl refl c.take_run-in-Second.ensures.fits c.take_run-in-Second.ensures.len;
  ends = λ t st chosen reached.
      let r = c.args.self.now in
      let e = chose_second chosen c.in-Second.is in
      take_ends g.B.Table r (with_second r c.take_run-in-Second.new.table) t c.args.used c.args.run.first c.args.run.length c.args.run.value c.take_run-in-Second.result r.second c.take_run-in-Second.new.table
      chosen reached (second_stored st e) c.take_run-in-Second.ensures.value c.take_run-in-Second.ensures.after c.take_run-in-Second.ensures.kept (on_side_judged (fixed g.K.Coding g.V.Coding g.P.Permutation g.A.Table g.B.Table r) t c.args.run.first c.args.run.length c.args.run.value on_second e) (ap (with_second r))
      (second_relisted r t c.take_run-in-Second.new.table (t.list ++ run_of c.args.run.first c.args.run.value c.args.run.length) st e) refl st.listed.known;
}
