use Rattle.model.proofs.laws.held.Goals as goal
use Rattle.model.proofs.Lasts.{held_last}

pub returns : goal.returns
returns g c = λ f h m w. held_last f h m w
