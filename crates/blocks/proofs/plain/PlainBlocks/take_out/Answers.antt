use Rattle.std.proofs.Common.{◌≡◌, ◌<◌, get_or, length, ◌≤◌, arith, rules}
use Rattle.blocks.specs.PlainLayout.{entries_of}
use Rattle.blocks.specs.PlainBlocks.{stored_count, stored_length}
use Rattle.blocks.specs.PlainLaws.{given_stored}
use Rattle.blocks.proofs.PlainRemoving.{out_block, out_value}
use Rattle.blocks.proofs.plain.PlainBlocks.take_out.Goals as goal

pub bounds-block-0 : goal.bounds-block-0
bounds-block-0 c =
    let s = c.args._shape in
    let block = c.args.block.now in
    let st = given_stored s.k s.v s.b block s.narrow c.requires.given in
    let e : c.args._slot ≡ 0 = omega (arith, c.requires.slot) in
    let place = c.requires.place in
    let among : c.args.i < length (entries_of block) = rw e at place in
    omega (arith, stored_length block st, stored_count block st, st.few, among)

pub overflow_add-first : goal.overflow_add-first
overflow_add-first c =
    let s = c.args._shape in
    let block = c.args.block.now in
    let st = given_stored s.k s.v s.b block s.narrow c.requires.given in
    let e : c.args._slot ≡ 0 = omega (arith, c.requires.slot) in
    let place = c.requires.place in
    let among : c.args.i < length (entries_of block) = rw e at place in
    omega (arith, stored_length block st, stored_count block st, st.few, among)

pub offset_bounds-block-first : goal.offset_bounds-block-first
offset_bounds-block-first c =
    let s = c.args._shape in
    let block = c.args.block.now in
    let st = given_stored s.k s.v s.b block s.narrow c.requires.given in
    let e : c.args._slot ≡ 0 = omega (arith, c.requires.slot) in
    let place = c.requires.place in
    let among : c.args.i < length (entries_of block) = rw e at place in
    omega (arith, stored_length block st, stored_count block st, st.few, among)

pub bounds-block-first : goal.bounds-block-first
bounds-block-first c =
    let s = c.args._shape in
    let block = c.args.block.now in
    let st = given_stored s.k s.v s.b block s.narrow c.requires.given in
    let e : c.args._slot ≡ 0 = omega (arith, c.requires.slot) in
    let place = c.requires.place in
    let among : c.args.i < length (entries_of block) = rw e at place in
    omega (arith, stored_length block st, stored_count block st, st.few, among)

pub overflow_add-count : goal.overflow_add-count
overflow_add-count c =
    let s = c.args._shape in
    let block = c.args.block.now in
    let st = given_stored s.k s.v s.b block s.narrow c.requires.given in
    let e : c.args._slot ≡ 0 = omega (arith, c.requires.slot) in
    let place = c.requires.place in
    let among : c.args.i < length (entries_of block) = rw e at place in
    omega (arith, stored_length block st, stored_count block st, st.few, among)

pub offset_bounds-block-first-2 : goal.offset_bounds-block-first-2
offset_bounds-block-first-2 c =
    let s = c.args._shape in
    let block = c.args.block.now in
    let st = given_stored s.k s.v s.b block s.narrow c.requires.given in
    let e : c.args._slot ≡ 0 = omega (arith, c.requires.slot) in
    let place = c.requires.place in
    let among : c.args.i < length (entries_of block) = rw e at place in
    omega (arith, stored_length block st, stored_count block st, st.few, among)

pub slice_bounds-close-count : goal.slice_bounds-close-count
slice_bounds-close-count c =
    let s = c.args._shape in
    let block = c.args.block.now in
    let st = given_stored s.k s.v s.b block s.narrow c.requires.given in
    let e : c.args._slot ≡ 0 = omega (arith, c.requires.slot) in
    let place = c.requires.place in
    let among : c.args.i < length (entries_of block) = rw e at place in
    omega (arith, stored_length block st, stored_count block st, st.few, among)

pub slice_bounds-close-start : goal.slice_bounds-close-start
slice_bounds-close-start c =
    let s = c.args._shape in
    let block = c.args.block.now in
    let st = given_stored s.k s.v s.b block s.narrow c.requires.given in
    let e : c.args._slot ≡ 0 = omega (arith, c.requires.slot) in
    let place = c.requires.place in
    let among : c.args.i < length (entries_of block) = rw e at place in
    omega (arith, stored_length block st, stored_count block st, st.few, among)

pub slice_bounds-close-end : goal.slice_bounds-close-end
slice_bounds-close-end c =
    let s = c.args._shape in
    let block = c.args.block.now in
    let st = given_stored s.k s.v s.b block s.narrow c.requires.given in
    let e : c.args._slot ≡ 0 = omega (arith, c.requires.slot) in
    let place = c.requires.place in
    let among : c.args.i < length (entries_of block) = rw e at place in
    omega (arith, stored_length block st, stored_count block st, st.few, among)

pub close-requires : goal.close-requires
close-requires c =
    let s = c.args._shape in
    let block = c.args.block.now in
    let st = given_stored s.k s.v s.b block s.narrow c.requires.given in
    let e : c.args._slot ≡ 0 = omega (arith, c.requires.slot) in
    let place = c.requires.place in
    let among : c.args.i < length (entries_of block) = rw e at place in
    let h : c.args.i < get_or block 0 0 = omega (arith, stored_count block st, among) in
    let l = stored_length block st in
    let f : get_or block 0 0 ≤ 15 = omega (arith, stored_count block st, st.few) in
    search rules

pub returns : goal.returns
returns c =
    let s = c.args._shape in
    let block = c.args.block.now in
    let st = given_stored s.k s.v s.b block s.narrow c.requires.given in
    let e : c.args._slot ≡ 0 = omega (arith, c.requires.slot) in
    let place = c.requires.place in
    let among : c.args.i < length (entries_of block) = rw e at place in
    let h : c.args.i < get_or block 0 0 = omega (arith, stored_count block st, among) in
    record {
      after = rw e (out_block block st c.args.i h c.close.new.part c.close.ensures.after);
      value = rw e (out_value block st c.args.i h);
    }
