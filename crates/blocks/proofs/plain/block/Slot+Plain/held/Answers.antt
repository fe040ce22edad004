use Rattle.std.proofs.Common.{arith}
use Rattle.blocks.specs.PlainBlocks.{stored_count, stored_length}
use Rattle.blocks.proofs.Readable.{bare_stored}
use Rattle.blocks.proofs.plain.block.Slot+Plain.held.Goals as goal

pub bounds-self-0 : goal.bounds-self-0
bounds-self-0 c =
    let block = c.args.self.now.block.now in
    omega (arith, stored_length block (bare_stored block c.args.self.now.readable))

pub overflow_add-result : goal.overflow_add-result
overflow_add-result c =
    let block = c.args.self.now.block.now in
    let st = bare_stored block c.args.self.now.readable in
    omega (arith, stored_count block st, st.few)

pub slice_bounds-result-end : goal.slice_bounds-result-end
slice_bounds-result-end c =
    let block = c.args.self.now.block.now in
    let st = bare_stored block c.args.self.now.readable in
    omega (arith, stored_length block st, stored_count block st, st.few)
