use Rattle.std.proofs.Common.{get_or, refl, arith, rules}
use Rattle.std.proofs.lemmas.Iterator.{cases_from_all, YieldsList-from_range}
use borrow.Author.Tests.{tests}
use Rattle.table.specs.Places.{First}
use Rattle.blocks.specs.Slots.{entries_in}
use Rattle.blocks.proofs.Weighing.{at_first, not_first}
use Rattle.blocks.proofs.Readable.{bare_marked}
use Rattle.blocks.proofs.PackedJudged.{apart_decided}
use Rattle.blocks.proofs.packed.judge.apart.Goals as goal

pub returns : goal.returns
returns c =
    let t = c.args.at.now in let s = t.shape in let es = entries_in t in let n = c.size.result in
    let all = cases_from_all {v = λ x. x} _ _ c.all.result (λ x. First es (get_or es x (0, 0)).0 x) (λ x. First es (get_or es x (0, 0)).0 x → ⊥)
    c.all.ensures.ran (YieldsList-from_range 0 n n refl (omega arith)) (λ x q k. search (rules, tests, at_first)) (λ x q k. search (rules, tests, not_first)) in
    record { value = apart_decided s.k s.v s.b t.block.now (bare_marked s.k s.v s.b t.block.now t.readable) t.slot t.inside n c.size.ensures.value c.all.result all }
