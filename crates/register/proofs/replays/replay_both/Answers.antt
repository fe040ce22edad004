use Rattle.std.proofs.Common.{◌≡◌, ◌≤◌, length, take, drop, subst, arith}
use Rattle.register.specs.Fixed.{fixed_of}
use Rattle.register.proofs.Replayed.{part_number, part_promise, both_agree}
use Rattle.register.proofs.replays.replay_both.Goals as goal

pub returns : goal.returns
returns g c =
    let calls = c.args.calls.now in
    let one = c.args.one in
    let other = c.args.other in
    let r = c.replay-register.result.0 in
    let s = c.replay-another.result.0 in
    let answers = c.replay-register.new.answers in
    let others = c.replay-another.new.answers in
    let n = c.min-number.result in
    let a : n ≤ length calls = omega (arith, c.min.ensures, c.min-number.ensures) in
    let b : n ≤ length c.args.answers.now = omega (arith, c.min.ensures, c.min-number.ensures) in
    let d : n ≤ length c.args.others.now = omega (arith, c.min-number.ensures) in
    let m = part_number calls n (length c.args.answers.now) c.replay-register.result.1 a b c.replay-register.ensures.number in
    let k = part_number calls n (length c.args.others.now) c.replay-another.result.1 a d c.replay-another.ensures.number in
    let p = part_promise g.K.Coding g.V.Coding g.P.Permutation g.A.Table g.B.Table r calls answers n c.replay-register.result.1 m c.replay-register.ensures.promise in
    let q = part_promise g.L.Coding g.W.Coding g.Q.Permutation g.C.Table g.D.Table s calls others n c.replay-another.result.1 k c.replay-another.ensures.promise in
    record {
      number = omega (arith, c.min.ensures, c.min-number.ensures);
      parts = (c.replay-register.ensures.parts, c.replay-another.ensures.parts);
      promise = (p, q);
      alike = both_agree g.K.Coding g.V.Coding g.P.Permutation g.A.Table g.B.Table g.L.Coding g.W.Coding g.Q.Permutation g.C.Table g.D.Table r s
          (fixed_of g.K.Coding g.V.Coding g.P.Permutation g.A.Table g.B.Table one)
          (fixed_of g.L.Coding g.W.Coding g.Q.Permutation g.C.Table g.D.Table other)
          (take n calls) (take n answers) (take n others) c.replay-register.ensures.parts.parts c.replay-another.ensures.parts.parts p q;
      rest = (
        subst (λ j. drop j answers ≡ drop j c.args.answers.now) m c.replay-register.ensures.rest,
        subst (λ j. drop j others ≡ drop j c.args.others.now) k c.replay-another.ensures.rest,
      );
    }
