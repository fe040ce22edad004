use Rattle.std.proofs.Common.{◌≡◌, Some, sym, ap, ◌∙◌, rules}
use Rattle.table.specs.Widths.{widths}
use Rattle.table.proofs.Setting.{form_step}
use Rattle.blocks.specs.Means.{means}
use Rattle.blocks.proofs.state.BlockTable.form.Goals as goal

pub invariant_of-self : goal.invariant_of-self
invariant_of-self g c =
    let e : c.shape_for.result ≡ Some c.in_ok-shape.shape = search rules in
    let made = ap widths (sym e) ∙ c.shape_for.ensures.value in
    let t = c.args.self.now in
    let st = (form_step g.L.Blocks.layout g.met.L.Blocks.lawful c.args.k c.args.v c.args.b t.words (means t) c.in_ok-shape.shape c.len.result c.len.ensures made
    c.deref_mut.result.now c.deref_mut.ensures.value c.zero.new.words c.zero.ensures.after).stands in
    record { well = ∣ st.well ∣₁; exact = st.exact }

pub returns : goal.returns
returns g c =
    let e : c.shape_for.result ≡ Some c.in_ok-shape.shape = search rules in
    let made = ap widths (sym e) ∙ c.shape_for.ensures.value in
    let t = c.args.self.now in
    let step = form_step g.L.Blocks.layout g.met.L.Blocks.lawful c.args.k c.args.v c.args.b t.words (means t) c.in_ok-shape.shape c.len.result c.len.ensures made
    c.deref_mut.result.now c.deref_mut.ensures.value c.zero.new.words c.zero.ensures.after in
    record { after = step.stands.means; value = step.value; len = step.stands.long }
