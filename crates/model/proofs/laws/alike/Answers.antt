use Rattle.model.proofs.laws.alike.Goals as goal
use Rattle.model.proofs.Agreement.{follows}
use Rattle.model.proofs.Alikeness.{alike}

pub returns : goal.returns
returns g c = record { replies = λ f h same b rest p q. alike f h same b rest p q; follows = λ f h same. follows f h same }
