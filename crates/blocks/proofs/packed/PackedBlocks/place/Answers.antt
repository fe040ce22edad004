use Rattle.std.proofs.Common.{◌≡◌, get_or, refl, arith, rules}
use Rattle.std.proofs.lemmas.Iterator.{first_from_find, YieldsList-from_range}
use borrow.Author.Tests.{tests}
use Rattle.blocks.specs.Slots.{entries_in}
use Rattle.blocks.proofs.Weighing.{placed_found}
use Rattle.blocks.proofs.packed.PackedBlocks.place.Goals as goal

pub returns : goal.returns
returns c =
    let es = entries_in c.args.at.now in let sought = c.args.quotient in let n = c.size.result in
    let first = first_from_find {v = λ x. x} _ _ c.find.result (λ x. (get_or es x (0, 0)).0 ≡ sought) (λ x. (get_or es x (0, 0)).0 ≡ sought → ⊥)
    c.find.ensures.ran (YieldsList-from_range 0 n n refl (omega arith)) (λ x q k. search (rules, tests)) (λ x q k. search (rules, tests)) in
    record { value = placed_found es sought n c.size.ensures.value c.find.result first }
