use Rattle.std.proofs.Common.{◌-◌, [], get_or, refl, rules}
use Rattle.std.proofs.lemmas.Iterator.{cases_from_all, YieldsList-from_range}
use Rattle.std.proofs.lemmas.Bool.Decides.{not_from_Decides}
use borrow.Author.Tests.{tests}
use Rattle.table.specs.Meaning.{Good}
use Rattle.blocks.specs.PackedLayout.{slots_of}
use Rattle.blocks.proofs.PackedJudged.{below_decided}
use Rattle.blocks.proofs.packed.judge.all_apart.Goals as goal

pub returns : goal.returns
returns c =
    let s = c.args.shape in let R = slots_of 1 s.k s.v s.b c.args.block.now in
    let all = cases_from_all {v = λ x. x} _ _ c.all.result (λ j. Good (s.k - s.b) s.v (get_or R j [])) (λ j. Good (s.k - s.b) s.v (get_or R j []) → ⊥)
    c.all.ensures.ran (YieldsList-from_range 0 16 16 refl refl) (λ x q k. search (rules, tests)) (λ x q k. search (rules, tests, not_from_Decides)) in
    record { value = below_decided (λ j. Good (s.k - s.b) s.v (get_or R j [])) 16 c.all.result all }
