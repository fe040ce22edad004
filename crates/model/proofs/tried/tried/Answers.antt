use Rattle.model.proofs.tried.tried.Goals as goal
use Rattle.model.proofs.Trials.{tried}

pub returns : goal.returns
returns c = tried
