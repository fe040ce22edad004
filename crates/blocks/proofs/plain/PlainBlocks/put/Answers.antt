use Rattle.std.proofs.Common.{◌≡◌, ℕ, ◌+◌, ◌-◌, ◌^◌, ◌<◌, length, Ok, sym, refl, arith}
use Rattle.std.proofs.lemmas.List.{length-set}
use Rattle.table.specs.Meaning.{value_in, weigh_held}
use Rattle.blocks.specs.PlainLayout.{entries_of}
use Rattle.blocks.specs.PlainBlocks.{stored_length}
use Rattle.blocks.specs.PlainLaws.{given_stored, below_32}
use Rattle.blocks.proofs.PlainAdding.{room_left, push_case}
use Rattle.blocks.proofs.plain.PlainBlocks.put.Goals as goal

pub bounds-block-0 : goal.bounds-block-0
bounds-block-0 c =
    let s = c.args._shape in
    let block = c.args.block.now in
    let st = given_stored s.k s.v s.b block s.narrow c.requires.given in
    let e : c.args._slot ≡ 0 = omega (arith, c.requires.slot) in
    let free = c.requires.free in
    let weighs : Ok tt ≡ weigh_held 15 (length (entries_of block) + 0) (value_in (entries_of block) c.args.quotient) = sym (rw e at free) in
    let q : c.args.quotient < 2 ^ 32 = below_32 (s.k - s.b) c.args.quotient (omega arith) c.requires.fits.0 in
    let v : c.args.value < 2 ^ 32 = below_32 s.v c.args.value s.thin c.requires.fits.1 in
    omega (arith, stored_length block st, room_left block st c.args.quotient c.args.value (Ok tt) weighs tt refl)

pub overflow_add-block-2 : goal.overflow_add-block-2
overflow_add-block-2 c =
    let s = c.args._shape in
    let block = c.args.block.now in
    let st = given_stored s.k s.v s.b block s.narrow c.requires.given in
    let e : c.args._slot ≡ 0 = omega (arith, c.requires.slot) in
    let free = c.requires.free in
    let weighs : Ok tt ≡ weigh_held 15 (length (entries_of block) + 0) (value_in (entries_of block) c.args.quotient) = sym (rw e at free) in
    let q : c.args.quotient < 2 ^ 32 = below_32 (s.k - s.b) c.args.quotient (omega arith) c.requires.fits.0 in
    let v : c.args.value < 2 ^ 32 = below_32 s.v c.args.value s.thin c.requires.fits.1 in
    omega (arith, stored_length block st, room_left block st c.args.quotient c.args.value (Ok tt) weighs tt refl)

pub offset_bounds-block-count : goal.offset_bounds-block-count
offset_bounds-block-count c =
    let s = c.args._shape in
    let block = c.args.block.now in
    let st = given_stored s.k s.v s.b block s.narrow c.requires.given in
    let e : c.args._slot ≡ 0 = omega (arith, c.requires.slot) in
    let free = c.requires.free in
    let weighs : Ok tt ≡ weigh_held 15 (length (entries_of block) + 0) (value_in (entries_of block) c.args.quotient) = sym (rw e at free) in
    let q : c.args.quotient < 2 ^ 32 = below_32 (s.k - s.b) c.args.quotient (omega arith) c.requires.fits.0 in
    let v : c.args.value < 2 ^ 32 = below_32 s.v c.args.value s.thin c.requires.fits.1 in
    omega (arith, stored_length block st, room_left block st c.args.quotient c.args.value (Ok tt) weighs tt refl)

pub bounds-block-count : goal.bounds-block-count
bounds-block-count c =
    let s = c.args._shape in
    let block = c.args.block.now in
    let st = given_stored s.k s.v s.b block s.narrow c.requires.given in
    let e : c.args._slot ≡ 0 = omega (arith, c.requires.slot) in
    let free = c.requires.free in
    let weighs : Ok tt ≡ weigh_held 15 (length (entries_of block) + 0) (value_in (entries_of block) c.args.quotient) = sym (rw e at free) in
    let q : c.args.quotient < 2 ^ 32 = below_32 (s.k - s.b) c.args.quotient (omega arith) c.requires.fits.0 in
    let v : c.args.value < 2 ^ 32 = below_32 s.v c.args.value s.thin c.requires.fits.1 in
    omega (arith, stored_length block st, room_left block st c.args.quotient c.args.value (Ok tt) weighs tt refl)

pub overflow_add-block-3 : goal.overflow_add-block-3
overflow_add-block-3 c =
    let s = c.args._shape in
    let block = c.args.block.now in
    let st = given_stored s.k s.v s.b block s.narrow c.requires.given in
    let e : c.args._slot ≡ 0 = omega (arith, c.requires.slot) in
    let free = c.requires.free in
    let weighs : Ok tt ≡ weigh_held 15 (length (entries_of block) + 0) (value_in (entries_of block) c.args.quotient) = sym (rw e at free) in
    let q : c.args.quotient < 2 ^ 32 = below_32 (s.k - s.b) c.args.quotient (omega arith) c.requires.fits.0 in
    let v : c.args.value < 2 ^ 32 = below_32 s.v c.args.value s.thin c.requires.fits.1 in
    omega (arith, stored_length block st, room_left block st c.args.quotient c.args.value (Ok tt) weighs tt refl)

pub bounds-block-0-2 : goal.bounds-block-0-2
bounds-block-0-2 c =
    let s = c.args._shape in
    let block = c.args.block.now in
    let st = given_stored s.k s.v s.b block s.narrow c.requires.given in
    let e : c.args._slot ≡ 0 = omega (arith, c.requires.slot) in
    let free = c.requires.free in
    let weighs : Ok tt ≡ weigh_held 15 (length (entries_of block) + 0) (value_in (entries_of block) c.args.quotient) = sym (rw e at free) in
    let q : c.args.quotient < 2 ^ 32 = below_32 (s.k - s.b) c.args.quotient (omega arith) c.requires.fits.0 in
    let v : c.args.value < 2 ^ 32 = below_32 s.v c.args.value s.thin c.requires.fits.1 in
    omega (arith, length-set {A = ℕ}, stored_length block st, room_left block st c.args.quotient c.args.value (Ok tt) weighs tt refl)

pub returns : goal.returns
returns c =
    let s = c.args._shape in
    let block = c.args.block.now in
    let st = given_stored s.k s.v s.b block s.narrow c.requires.given in
    let e : c.args._slot ≡ 0 = omega (arith, c.requires.slot) in
    let free = c.requires.free in
    let weighs : Ok tt ≡ weigh_held 15 (length (entries_of block) + 0) (value_in (entries_of block) c.args.quotient) = sym (rw e at free) in
    record { after = rw e (push_case block st c.args.quotient c.args.value (Ok tt) weighs tt refl _ refl).after }
