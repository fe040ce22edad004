use Rattle.std.proofs.Common.{[], get_or, Ok, sym, refl, ap, ◌∙◌, add-zero, arith}
use Rattle.table.specs.Meaning.{total, value_in, weigh_held}
use Rattle.blocks.specs.PackedLayout.{slots_of}
use Rattle.blocks.specs.Stored.{marked_given, put_case}
use Rattle.blocks.proofs.packed.PackedBlocks.put.Goals as goal

pub bounds-block-0 : goal.bounds-block-0
bounds-block-0 c =
    let s = c.args.shape in
    omega (arith, (marked_given s.k s.v s.b c.args.block.now c.requires.given).long)

pub open_gap-requires : goal.open_gap-requires
open_gap-requires c =
    let s = c.args.shape in
    (marked_given s.k s.v s.b c.args.block.now c.requires.given).long

pub bounds-block-0-2 : goal.bounds-block-0-2
bounds-block-0-2 c =
    let s = c.args.shape in
    omega (arith, (marked_given s.k s.v s.b c.args.block.now c.requires.given).long)

pub returns : goal.returns
returns c =
    let s = c.args.shape in
    let R = slots_of 1 s.k s.v s.b c.args.block.now in
    let weighs = sym c.requires.free ∙ ap (λ t. weigh_held 48 t (value_in (get_or R c.args.slot []) c.args.quotient)) (sym (add-zero (total R))) in
    let a = put_case s.k s.v s.b c.args.block.now c.requires.given c.args.slot c.requires.slot c.args.quotient c.args.value c.requires.fits.0 c.requires.fits.1
    (Ok tt) weighs tt refl c.load.result c.before-2.result c.size.result c.load.ensures.value c.before-2.ensures.value c.size.ensures.value
    c.open_gap.new.block c.open_gap.ensures.after c.add.result c.add.ensures in
    record { after = a.after }
