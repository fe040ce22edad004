use Rattle.std.proofs.Common.{◌≡◌, ◌-◌, ◌^◌, ◌<◌, ◌≤◌, min, ◌∙◌, arith}
use Rattle.std.proofs.lemmas.Nat.{one_shl}
use Rattle.dictionary.proofs.Runs.{reach_keys, reach_value}
use Rattle.dictionary.proofs.addressing.Addressing.reach.Goals as goal

pub returns-then-run-self-clause-value : goal.returns-then-run-self-clause-value
returns-then-run-self-clause-value g c =
    let over : 2 ^ c.args.self.now.shape.v ≤ c.args.run.value = omega (arith, one_shl c.args.self.now.shape.v 64 (omega (arith, c.args.self.now.shape.thin))) in
    reach_value c.args.self.now.shape.k c.args.self.now.shape.v c.args.run.first c.args.run.length c.args.run.value over

pub returns-clause-value : goal.returns-clause-value
returns-clause-value g c =
    let small : c.args.run.value < 2 ^ c.args.self.now.shape.v = omega (arith, one_shl c.args.self.now.shape.v 64 (omega (arith, c.args.self.now.shape.thin))) in
    let all : c.min.result ≡ min c.args.run.length (2 ^ c.args.self.now.shape.k - c.args.run.first) = omega (arith, one_shl c.args.self.now.shape.k 64 (omega (arith, c.args.self.now.shape.narrow)), c.min.ensures, c.saturating_sub.ensures) in
    all ∙ reach_keys c.args.self.now.shape.k c.args.self.now.shape.v c.args.run.first c.args.run.length c.args.run.value small
