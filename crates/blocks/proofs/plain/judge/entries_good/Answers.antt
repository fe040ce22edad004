use Rattle.std.proofs.Common.{◌-◌, rules}
use Rattle.std.proofs.lemmas.Iterator.{cases_from_all, YieldsList-from_slice}
use Rattle.std.proofs.lemmas.Iterator.Consumers.{YieldsList-from_enumerate}
use Rattle.std.proofs.lemmas.Bool.Decides.{not_from_Decides}
use borrow.Author.Tests.{tests}
use Rattle.blocks.proofs.PlainJudged.{Fine, good_decided}
use Rattle.blocks.proofs.plain.judge.entries_good.Goals as goal

pub returns : goal.returns
returns c =
    let xs = c.args.entries.now in let s = c.args.shape in
    let all = cases_from_all _ _ c.all.result (λ x. Fine xs (s.k - s.b) s.v x.0 x.1) (λ x. Fine xs (s.k - s.b) s.v x.0 x.1 → ⊥)
    c.all.ensures.ran (YieldsList-from_enumerate (YieldsList-from_slice xs cc) cc) (λ x q k. search (rules, tests)) (λ x q k. search (rules, tests, not_from_Decides)) in
    record { value = good_decided xs (s.k - s.b) s.v c.all.result all }
