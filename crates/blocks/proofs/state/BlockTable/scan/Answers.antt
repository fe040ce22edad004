use Rattle.std.proofs.Common.{arith}
use Rattle.std.proofs.lemmas.Bool.Decides.{not_from_Decides}
use Rattle.table.proofs.Checks.{wrong_tail, all_right}
use Rattle.blocks.proofs.Scans.{rest_is, given_next, wrong_first}
use Rattle.blocks.proofs.state.BlockTable.scan.Goals as goal

pub returns-then-not-is_given : goal.returns-then-not-is_given
returns-then-not-is_given g c =
    let s = c.args.shape in let ws = c.args.words.now in let n = c.count-blocks.result in let w = c.width-width.result in
    let a = wrong_first g.L.Blocks.layout g.met.L.Blocks.lawful ws s.k s.v s.b c.requires n w c.count-blocks.ensures.value c.width-width.ensures.value c.loop-g.g c.loop-g-test.true c.loop-g.invariant
    (not_from_Decides c.is_given.result c.is_given.ensures.value c.if-not-is_given.true) in
    record { value = a.value; passes = a.passes }

pub loop-g-preserved : goal.loop-g-preserved
loop-g-preserved g c =
    let s = c.args.shape in let ws = c.args.words.now in let n = c.count-blocks.result in let w = c.width-width.result in
    given_next g.L.Blocks.layout g.met.L.Blocks.lawful ws s.k s.v s.b c.requires n w c.count-blocks.ensures.value c.width-width.ensures.value c.loop-g.g c.loop-g.invariant
    (c.is_given.ensures.value.0 c.if-not-is_given.false)

pub returns-then-not-all_zero : goal.returns-then-not-all_zero
returns-then-not-all_zero g c =
    let s = c.args.shape in let ws = c.args.words.now in let n = c.count-blocks.result in let w = c.width-width.result in
    let a = wrong_tail g.L.Blocks.layout g.met.L.Blocks.lawful ws s.k s.v s.b c.requires n c.count-blocks.ensures.value (λ i l. c.loop-g.invariant i (omega arith))
    _ (rest_is g.L.Blocks.layout g.met.L.Blocks.lawful ws s.k s.v s.b c.requires n w c.count-blocks.ensures.value c.width-width.ensures.value) c.all_zero.result c.all_zero.ensures.value c.if-not-all_zero.true in
    record { value = a.value; passes = a.passes }

pub returns : goal.returns
returns g c =
    let s = c.args.shape in let ws = c.args.words.now in let n = c.count-blocks.result in let w = c.width-width.result in
    let a = all_right g.L.Blocks.layout g.met.L.Blocks.lawful ws s.k s.v s.b c.requires n c.count-blocks.ensures.value (λ i l. c.loop-g.invariant i (omega arith))
    _ (rest_is g.L.Blocks.layout g.met.L.Blocks.lawful ws s.k s.v s.b c.requires n w c.count-blocks.ensures.value c.width-width.ensures.value) c.all_zero.result c.all_zero.ensures.value c.if-not-all_zero.false in
    record { value = a.value; passes = a.passes }
