use Rattle.std.proofs.Common.{◌≡◌, Some, None, rules}
use Rattle.register.proofs.Uses.{finds_used, never_none}
use Rattle.register.proofs.state.Register.in_use.Goals as goal

pub returns-in_err-shape : goal.returns-in_err-shape
returns-in_err-shape g c =
    let opened : c.args.self.now.opened ≡ Some c.in_ok-opened.opened = search rules in
    let none : c.new.result ≡ None = search rules in
    never_none g.met.A.Table.fitting g.met.A.Table.well g.met.B.Table.fitting g.met.B.Table.well c.args.self.now c.in_ok-opened.opened opened
    c.width.result c.width-2.result c.width.ensures.value c.width-2.ensures.value c.new.result c.new.ensures.value none c.from_residual-in_err-shape.result

pub returns : goal.returns
returns g c =
    let opened : c.args.self.now.opened ≡ Some c.in_ok-opened.opened = search rules in
    let made : c.new.result ≡ Some c.in_ok-shape.shape = search rules in
    finds_used g.met.A.Table.fitting g.met.A.Table.well g.met.B.Table.fitting g.met.B.Table.well c.args.self.now c.in_ok-opened.opened opened
    c.width.result c.width-2.result c.width.ensures.value c.width-2.ensures.value c.new.result c.new.ensures.value c.in_ok-shape.shape made
