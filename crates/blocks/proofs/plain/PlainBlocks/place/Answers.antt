use Rattle.std.proofs.Common.{◌≡◌, subst, arith, rules}
use Rattle.table.specs.Places.{Placed}
use Rattle.blocks.specs.PlainLayout.{entries_of}
use Rattle.blocks.proofs.PlainPlaces.{placed_block}
use Rattle.blocks.proofs.plain.PlainBlocks.place.Goals as goal

pub returns : goal.returns
returns c =
    let t = c.args.at.now in
    let e : t.slot ≡ 0 = omega (arith, t.inside) in
    let same : c.place.result ≡ c.map.result = search rules in
    let p = placed_block t.block.now c.args.quotient c.held.result.now c.held.ensures.value c.place.result c.place.ensures.value in
    record { value = rw e (subst (Placed (entries_of t.block.now) c.args.quotient) same p) }
