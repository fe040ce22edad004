use Rattle.std.proofs.Common.{◌≡◌, ◌<◌, length, take, drop, refl, subst, arith, rules}
use Rattle.std.proofs.lemmas.List.{length-take-le}
use Rattle.register.proofs.Replayed.{part_promise, put_more, same_self, still_made}
use Rattle.register.proofs.replays.replay.Goals as goal

pub loop-i-init : goal.loop-i-init
loop-i-init g c = record {
  same = same_self g.K.Coding g.V.Coding g.P.Permutation g.A.Table g.B.Table c.assemble-register.result;
  promise = c.assemble-register.ensures.promise;
  rest = refl;
}

pub offset_bounds-answers-i : goal.offset_bounds-answers-i
offset_bounds-answers-i g c =
    let whole = length-take-le c.min-number.result c.args.calls.now (omega arith) in
    let h : c.loop-i.i < length c.args.answers.now = omega arith in
    search rules

pub loop-i-preserved : goal.loop-i-preserved
loop-i-preserved g c =
    let whole = length-take-le c.min-number.result c.args.calls.now (omega arith) in
    put_more g.K.Coding g.V.Coding g.P.Permutation g.A.Table g.B.Table c.assemble-register.result c.loop-i.register c.put.new.self
    (take c.min-number.result c.args.calls.now) c.args.answers.now c.loop-i.answers c.loop-i.i c.call-item.result c.put.result
    (omega arith) (omega arith) c.call-item.is c.put.ensures.same c.put.ensures.promise c.loop-i.invariant

pub returns : goal.returns
returns g c =
    let n = c.min-number.result in
    let whole = length-take-le n c.args.calls.now (omega arith) in
    let e : c.loop-i.i ≡ n = omega arith in
    record {
      number = c.min-number.ensures;
      parts = still_made g.K.Coding g.V.Coding g.P.Permutation g.A.Table g.B.Table c.assemble-register.result c.loop-i.register
          c.args.parts c.assemble-register.ensures.parts c.loop-i.invariant.same;
      promise = part_promise g.K.Coding g.V.Coding g.P.Permutation g.A.Table g.B.Table c.loop-i.register c.args.calls.now c.loop-i.answers n c.loop-i.i e c.loop-i.invariant.promise;
      rest = subst (λ j. drop j c.loop-i.answers ≡ drop j c.args.answers.now) e c.loop-i.invariant.rest;
    }
