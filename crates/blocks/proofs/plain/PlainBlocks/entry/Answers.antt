use Rattle.std.proofs.Common.{◌≡◌, ◌<◌, length, sym, arith}
use Rattle.blocks.specs.PlainLayout.{entries_of}
use Rattle.blocks.specs.PlainBlocks.{stored_count, stored_length, entry_at}
use Rattle.blocks.proofs.Readable.{bare_stored}
use Rattle.blocks.proofs.plain.PlainBlocks.entry.Goals as goal

pub bounds-at-i : goal.bounds-at-i
bounds-at-i c =
    let block = c.args.at.now.block.now in
    let st = bare_stored block c.args.at.now.readable in
    let e : c.args.at.now.slot ≡ 0 = omega (arith, c.args.at.now.inside) in
    let r = c.requires in
    let h : c.args.i < length (entries_of block) = rw e at r in
    omega (arith, h, stored_length block st, st.few)

pub returns : goal.returns
returns c =
    let block = c.args.at.now.block.now in
    let st = bare_stored block c.args.at.now.readable in
    let e : c.args.at.now.slot ≡ 0 = omega (arith, c.args.at.now.inside) in
    let r = c.requires in
    let h : c.args.i < length (entries_of block) = rw e at r in
    record { value = rw e (sym (entry_at block st c.args.i (omega (arith, h, stored_count block st)))) }
