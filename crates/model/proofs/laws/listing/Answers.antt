use Rattle.model.proofs.laws.listing.Goals as goal
use Rattle.model.proofs.Cuts.{cut_lists}

pub returns : goal.returns
returns g c = λ f law calls before middle after h q. cut_lists f law calls before middle after h q
