use Rattle.model.proofs.laws.fair.Goals as goal
use Rattle.model.proofs.Fairness.{fair}

pub returns : goal.returns
returns g c = λ f law calls. fair f law calls
