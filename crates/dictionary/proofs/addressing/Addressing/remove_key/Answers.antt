use Rattle.std.proofs.Common.{◌≤◌, arith}
use Rattle.dictionary.proofs.Cut.{Placed}
use Rattle.dictionary.proofs.Lawful.{lawful}
use Rattle.dictionary.proofs.Removed.{removed_ok, removed_stores}
use Rattle.dictionary.proofs.addressing.Addressing.remove_key.Goals as goal

pub returns : goal.returns
returns g c =
    let law = lawful g.P.Permutation g.T.Table g.met.P.Permutation.within g.met.P.Permutation.returns g.met.P.Permutation.beyond g.met.T.Table.grouped in
    let narrow : c.args.self.now.shape.b ≤ c.args.self.now.shape.k = omega (arith, c.args.self.now.shape.below) in
    let at : Placed (g.P.Permutation.forth c.args.self.now.permutation.now) c.args.self.now.shape.k c.args.self.now.shape.b c.args.m c.place-place.result.slot c.place-place.result.quotient =
    record { slot = c.place-place.ensures.slot; quotient = c.place-place.ensures.quotient } in
    record {
      value = λ l st inside u held. removed_ok law st narrow at inside u held c.remove.result c.remove.ensures.value;
      after = λ l st inside u held. removed_stores law st narrow at inside u held c.remove.new.self c.remove.ensures.sound c.remove.ensures.after;
      len = c.remove.ensures.len;
      fits = c.remove.ensures.fits;
    }
