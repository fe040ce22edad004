use Rattle.std.proofs.Common.{◌≡◌, ◌%◌, ◌^◌, rules}
use Rattle.std.proofs.lemmas.Iterator.{YieldsList-from_slice, IsFirst-from_position}
use borrow.Author.Tests.{tests}
use Rattle.blocks.proofs.PlainPlaces.{placed}
use Rattle.blocks.proofs.plain.block.place.Goals as goal

pub returns : goal.returns
returns c =
    let q = c.args.quotient in
    let first = IsFirst-from_position _ _ c.position.result (λ w. w % 2 ^ 32 ≡ q) (λ w. w % 2 ^ 32 ≡ q → ⊥) c.position.ensures.ran (YieldsList-from_slice c.args.entries.now cc)
    (λ x q k. search (rules, tests)) (λ x q k. search (rules, tests)) in
    record { value = placed c.args.entries.now q c.position.result first }
