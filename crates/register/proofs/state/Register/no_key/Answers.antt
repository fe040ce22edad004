use Rattle.std.proofs.Common.{◌≡◌, sym, ◌∙◌, arith}
use Rattle.register.specs.Fixed.{fixed}
use Rattle.register.proofs.Keys.{keyed_all, keyed_more, keyed_none, keyed_stop}
use Rattle.register.proofs.state.Register.no_key.Goals as goal

pub loop-i-init : goal.loop-i-init
loop-i-init g c = keyed_none (fixed g.K.Coding g.V.Coding g.P.Permutation g.A.Table g.B.Table c.args.self.now) c.args.m c.args.n

pub loop-i-preserved : goal.loop-i-preserved
loop-i-preserved g c = keyed_more (fixed g.K.Coding g.V.Coding g.P.Permutation g.A.Table g.B.Table c.args.self.now) c.args.m c.args.n c.loop-i.i c.loop-i-test.true c.loop-i.invariant
    c.in_default.field-0 (sym c.item.ensures.value ∙ c.in_default.is)

pub returns-in-None : goal.returns-in-None
returns-in-None g c = keyed_stop (fixed g.K.Coding g.V.Coding g.P.Permutation g.A.Table g.B.Table c.args.self.now) c.args.m c.args.n c.loop-i.i c.loop-i-test.true c.loop-i.invariant
    (sym c.item.ensures.value ∙ c.in-None.is)

pub returns : goal.returns
returns g c =
    let e : c.loop-i.i ≡ c.args.n = omega (arith, c.loop-i-test.false, c.loop-i.auto.i-end) in
    keyed_all (fixed g.K.Coding g.V.Coding g.P.Permutation g.A.Table g.B.Table c.args.self.now) c.args.m c.args.n c.loop-i.i e c.loop-i.invariant
