use Rattle.std.proofs.Common.{◌≤◌, arith}
use Rattle.dictionary.proofs.Lawful.{lawful}
use Rattle.dictionary.proofs.Asked.{looked}
use Rattle.dictionary.proofs.addressing.Addressing.look_up.Goals as goal

pub returns : goal.returns
returns g c = record {
  value = λ l st.
      let law = lawful g.P.Permutation g.T.Table g.met.P.Permutation.within g.met.P.Permutation.returns g.met.P.Permutation.beyond g.met.T.Table.grouped in
      let narrow : c.args.self.now.shape.b ≤ c.args.self.now.shape.k = omega (arith, c.args.self.now.shape.below) in
      looked law st narrow (record { slot = c.place-place.ensures.slot; quotient = c.place-place.ensures.quotient }) c.find.result c.find.ensures.value;
}
