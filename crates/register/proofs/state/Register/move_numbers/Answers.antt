use Rattle.model.specs.Model.{on_first, on_second}
use Rattle.register.specs.Fixed.{fixed}
use Rattle.register.proofs.OnSides.{chose_first, chose_second, first_idle, first_stored, same_both, second_idle, second_stored, with_both}
use Rattle.register.proofs.Moves.{both_same, fits_as, move_ends, moved_first, moved_second, room_as}
use Rattle.register.proofs.state.Register.move_numbers.Goals as goal

pub returns-in-First : goal.returns-in-First
returns-in-First g c =
    let r = c.args.self.now in
    let a = c.redistribute.new.first in
    let b = c.redistribute.new.second in
    let done = c.redistribute.ensures in
    record {
      same = same_both r a b done.fits.0 done.len.0 done.fits.1 done.len.1;
      ends = λ t st chosen.
          let e = chose_first chosen c.in-First.is in
          let f = fixed g.K.Coding g.V.Coding g.P.Permutation g.A.Table g.B.Table r in
          move_ends g.A.Table g.B.Table r (with_both r a b) t c.args.used c.redistribute.result r.first a r.second b
          (record { below = g.met.P.Permutation.within r.permutation; returns = λ m h. g.met.P.Permutation.returns r.permutation m })
          chosen (first_stored st e) (second_idle st e).sound done.value done.after done.cleared done.kept
          (fits_as f t on_first e) (room_as f t on_first e) (both_same r a b) (moved_second r a b t st e);
    }

pub returns-in-Second : goal.returns-in-Second
returns-in-Second g c =
    let r = c.args.self.now in
    let a = c.redistribute-in-Second.new.second in
    let b = c.redistribute-in-Second.new.first in
    let done = c.redistribute-in-Second.ensures in
    record {
      same = same_both r a b done.fits.1 done.len.1 done.fits.0 done.len.0;
      ends = λ t st chosen.
          let e = chose_second chosen c.in-Second.is in
          let f = fixed g.K.Coding g.V.Coding g.P.Permutation g.A.Table g.B.Table r in
          move_ends g.B.Table g.A.Table r (with_both r a b) t c.args.used c.redistribute-in-Second.result r.second b r.first a
          (record { below = g.met.P.Permutation.within r.permutation; returns = λ m h. g.met.P.Permutation.returns r.permutation m })
          chosen (second_stored st e) (first_idle st e).sound done.value done.after done.cleared done.kept
          (fits_as f t on_second e) (room_as f t on_second e) (λ p q. both_same r a b q p) (moved_first r a b t st e);
    }
