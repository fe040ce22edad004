use Rattle.std.proofs.Common.{◌∙◌}
use Rattle.register.proofs.OnSides.{chose_first, chose_second, first_stored, second_stored, stores_at}
use Rattle.register.proofs.Looks.{looked_below}
use Rattle.register.proofs.state.Register.value_number.Goals as goal

pub returns-in-First : goal.returns-in-First
returns-in-First g c t st chosen below =
    c.look_up.ensures.value t.list (stores_at c.args.used.shape.k c.args.used.shape.v c.args.used.shape.b chosen.k chosen.v chosen.b (first_stored st (chose_first chosen c.in-First.is)))
    ∙ looked_below c.args.used.shape.k (g.K.Coding.width c.args.self.now.keys) t.list c.args.m chosen.k below

pub returns-in-Second : goal.returns-in-Second
returns-in-Second g c t st chosen below =
    c.look_up-in-Second.ensures.value t.list (stores_at c.args.used.shape.k c.args.used.shape.v c.args.used.shape.b chosen.k chosen.v chosen.b (second_stored st (chose_second chosen c.in-Second.is)))
    ∙ looked_below c.args.used.shape.k (g.K.Coding.width c.args.self.now.keys) t.list c.args.m chosen.k below
