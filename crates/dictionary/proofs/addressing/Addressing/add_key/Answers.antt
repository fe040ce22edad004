use Rattle.std.proofs.Common.{◌≤◌, arith}
use Rattle.dictionary.proofs.Cut.{Placed}
use Rattle.dictionary.proofs.Lawful.{grouped, lawful, mixes}
use Rattle.dictionary.proofs.Added.{added_ok, added_stores}
use Rattle.dictionary.proofs.addressing.Addressing.add_key.Goals as goal

pub returns : goal.returns
returns g c =
    let law = lawful g.P.Permutation g.T.Table g.met.P.Permutation.within g.met.P.Permutation.returns g.met.P.Permutation.beyond g.met.T.Table.grouped in
    let narrow : c.args.self.now.shape.b ≤ c.args.self.now.shape.k = omega (arith, c.args.self.now.shape.below) in
    let at : Placed (g.P.Permutation.forth c.args.self.now.permutation.now) c.args.self.now.shape.k c.args.self.now.shape.b c.args.m c.place-place.result.slot c.place-place.result.quotient =
    record { slot = c.place-place.ensures.slot; quotient = c.place-place.ensures.quotient } in
    record {
      value = λ l st inside small free.
          added_ok (grouped law) (mixes law c.args.self.now.permutation.now c.args.self.now.shape.k st.widths) st narrow c.args.w at inside small free c.add.result c.add.ensures.value;
      after = λ l st inside small free.
          added_stores (grouped law) (mixes law c.args.self.now.permutation.now c.args.self.now.shape.k st.widths) st narrow c.args.w at inside small free c.add.new.self c.add.ensures.sound c.add.ensures.after;
      len = c.add.ensures.len;
      fits = c.add.ensures.fits;
    }
