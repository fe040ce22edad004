use Rattle.std.proofs.Common.{◌≡◌, sym, subst, rules}
use Rattle.register.specs.Answers.{either}
use Rattle.register.specs.Promise.{Continues}
use Rattle.register.specs.Fixed.{parts_of}
use Rattle.register.proofs.Lawful.{lawful_coding, lawful_mixing, lawful_kind, lawful}
use Rattle.register.proofs.Promised.{continues}
use Rattle.register.proofs.state.Register.put.Goals as goal

pub returns-clause-promise : goal.returns-clause-promise
returns-clause-promise g c =
    let r = c.args.self.now in
    let s = c.made.new.self in
    let law =
    lawful g.K.Coding g.V.Coding g.P.Permutation g.A.Table g.B.Table
    (lawful_coding g.K.Coding g.met.K.Coding.below g.met.K.Coding.back g.met.K.Coding.forth)
    (lawful_coding g.V.Coding g.met.V.Coding.below g.met.V.Coding.back g.met.V.Coding.forth)
    (lawful_mixing g.P.Permutation g.met.P.Permutation.within g.met.P.Permutation.returns)
    (lawful_kind g.A.Table g.met.A.Table.grouped g.met.A.Table.limited g.met.A.Table.fitting)
    (lawful_kind g.B.Table g.met.B.Table.grouped g.met.B.Table.limited g.met.B.Table.fitting)
    (parts_of s) in
    let is : c.unwrap_or_else.result ≡ either c.made.result = search rules in
    subst (λ a. Continues g.K.Coding g.V.Coding g.P.Permutation g.A.Table g.B.Table r s c.args.call a) (sym is)
    (continues g.K.Coding g.V.Coding g.P.Permutation g.A.Table g.B.Table r s c.args.call (either c.made.result) law c.made.ensures.same c.made.ensures.step)
