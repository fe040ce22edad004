use Rattle.model.proofs.laws.counts.Goals as goal
use Rattle.model.proofs.Stored.{counts}

pub returns : goal.returns
returns g c = λ f law calls w. counts f law calls w
