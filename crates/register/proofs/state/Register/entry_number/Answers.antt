use Rattle.std.proofs.Common.{◌∙◌}
use Rattle.register.proofs.OnSides.{chose_first, chose_second, first_stored, second_stored, stores_at}
use Rattle.register.proofs.Looks.{listed_as}
use Rattle.register.proofs.state.Register.entry_number.Goals as goal

pub returns-in-First : goal.returns-in-First
returns-in-First g c t st chosen =
    let u = c.args.used.shape in
    c.entry_at.ensures.value t.list (stores_at u.k u.v u.b chosen.k chosen.v chosen.b (first_stored st (chose_first chosen c.in-First.is)))
    ∙ listed_as (g.P.Permutation.forth c.args.self.now.permutation) (g.K.Coding.width c.args.self.now.keys) t.b u.k u.b t.list c.args.i chosen.k chosen.b

pub returns-in-Second : goal.returns-in-Second
returns-in-Second g c t st chosen =
    let u = c.args.used.shape in
    c.entry_at-in-Second.ensures.value t.list (stores_at u.k u.v u.b chosen.k chosen.v chosen.b (second_stored st (chose_second chosen c.in-Second.is)))
    ∙ listed_as (g.P.Permutation.forth c.args.self.now.permutation) (g.K.Coding.width c.args.self.now.keys) t.b u.k u.b t.list c.args.i chosen.k chosen.b
