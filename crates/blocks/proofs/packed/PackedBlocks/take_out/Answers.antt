use Rattle.std.proofs.Common.{arith}
use Rattle.blocks.specs.Views.{place_few}
use Rattle.blocks.specs.Stored.{marked_given, out_block}
use Rattle.blocks.proofs.packed.PackedBlocks.take_out.Goals as goal

pub invariant_of-value : goal.invariant_of-value
invariant_of-value c =
    let s = c.args.shape in
    record { readable = ∣ marked_given s.k s.v s.b c.args.block.now c.requires.given ∣₁; inside = c.requires.slot }

pub bounds-block-0 : goal.bounds-block-0
bounds-block-0 c =
    let s = c.args.shape in
    omega (arith, (marked_given s.k s.v s.b c.args.block.now c.requires.given).long)

pub overflow_add-place : goal.overflow_add-place
overflow_add-place c =
    let s = c.args.shape in
    let m = marked_given s.k s.v s.b c.args.block.now c.requires.given in
    omega (arith, c.before-2.ensures.value, place_few s.k s.v s.b c.args.block.now m c.args.slot c.requires.slot c.args.i c.requires.place)

pub close_gap-requires : goal.close_gap-requires
close_gap-requires c =
    let s = c.args.shape in
    (marked_given s.k s.v s.b c.args.block.now c.requires.given).long

pub bounds-block-0-2 : goal.bounds-block-0-2
bounds-block-0-2 c =
    let s = c.args.shape in
    omega (arith, (marked_given s.k s.v s.b c.args.block.now c.requires.given).long)

pub returns : goal.returns
returns c =
    let s = c.args.shape in
    record {
      after = out_block s.k s.v s.b c.args.block.now c.requires.given c.args.slot c.requires.slot c.args.i c.requires.place c.load.result c.before-2.result c.load.ensures.value c.before-2.ensures.value
          c.close_gap.new.block c.close_gap.ensures.after c.remove.result c.remove.ensures;
      value = c.value-value.ensures.value;
    }
