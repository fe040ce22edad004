use Rattle.std.proofs.Common.{Some, sym, refl, rules, ◌∙◌}
use Rattle.std.proofs.lemmas.Bool.{eqb-true}
use Rattle.register.specs.declared.side.Side.TheVariants.{First}
use Rattle.register.proofs.OnSides.{same_both, same_but}
use Rattle.register.proofs.Opening.{opens}
use Rattle.register.proofs.state.Register.open.Goals as goal

pub returns : goal.returns
returns g c = record {
  same = same_but (same_both c.args.self.now c.form.new.self c.args.self.now.second c.form.ensures.fits c.form.ensures.len refl refl)
      (Some (record { side = First; b = c.args.b })) c.args.self.now.count;
  step = opens c.args.self.now c.form.new.self c.width.result c.width-2.result c.args.b c.form.result (search rules)
      c.width.ensures.value c.width-2.ensures.value
      (eqb-true (g.P.Permutation.width c.args.self.now.permutation) (g.K.Coding.width c.args.self.now.keys) (sym c.widths_agree.ensures ∙ c.if-not-widths_agree.false))
      c.form.ensures.sound c.form.ensures.after c.form.ensures.value c.in_ok-form.was;
}
