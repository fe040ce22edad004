use Rattle.std.proofs.Common.{◌≡◌, arith}
use Rattle.blocks.specs.PlainBlocks.{stored_count, stored_length}
use Rattle.blocks.proofs.Readable.{bare_stored}
use Rattle.blocks.proofs.plain.PlainBlocks.size.Goals as goal

pub bounds-at-0 : goal.bounds-at-0
bounds-at-0 c =
    let block = c.args.at.now.block.now in
    omega (arith, stored_length block (bare_stored block c.args.at.now.readable))

pub returns : goal.returns
returns c =
    let block = c.args.at.now.block.now in
    let e : c.args.at.now.slot ≡ 0 = omega (arith, c.args.at.now.inside) in
    record { value = rw e (stored_count block (bare_stored block c.args.at.now.readable)) }
