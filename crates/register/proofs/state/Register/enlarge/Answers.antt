use Rattle.std.proofs.Common.{◌+◌, Some}
use Rattle.register.proofs.OnSides.{same_but}
use Rattle.register.proofs.Ends.{move_done, move_refused, passed_on}
use Rattle.register.proofs.state.Register.enlarge.Goals as goal

pub returns-in_err-move_numbers : goal.returns-in_err-move_numbers
returns-in_err-move_numbers g c = record {
  same = c.move_numbers.ensures.same;
  step = move_refused c.args.self.now c.in_use.result c.in_ok-used.used c.in_ok-used.was c.in_use.ensures c.move_numbers.new.self c.move_numbers.result c.move_numbers.ensures.ends
      c.in_err-move_numbers.field-0.0 c.in_err-move_numbers.was c.from_residual-in_err-move_numbers.result
      (passed_on c.from_residual-in_err-move_numbers.result c.in_err-move_numbers.field-0.0 c.from_residual-in_err-move_numbers.ensures.1);
}

pub returns : goal.returns
returns g c = record {
  same = same_but c.move_numbers.ensures.same (Some (record { side = c.other.result; b = c.in_ok-used.used.shape.b + 1 })) c.move_numbers.new.self.count;
  step = move_done c.args.self.now c.in_use.result c.in_ok-used.used c.in_ok-used.was c.in_use.ensures c.move_numbers.new.self c.move_numbers.result c.move_numbers.ensures.ends
      c.in_ok-move_numbers.was c.other.result c.other.ensures;
}
