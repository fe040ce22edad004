use Rattle.model.proofs.laws.enlarging.Goals as goal
use Rattle.model.proofs.Moving.{always_enlarged, content_moves}

pub returns : goal.returns
returns g c = record { moves = λ f b narrow l. content_moves f b narrow l; after = λ f law calls. always_enlarged f law calls }
