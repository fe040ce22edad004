use Rattle.std.proofs.Common.{length, replicate, None, vec_items, sym, ap, ◌∙◌}
use Rattle.table.specs.Meaning.{unformed}
use Rattle.table.proofs.Standing.{stands_none, refilled_stands}
use Rattle.blocks.proofs.state.BlockTable.clear.Goals as goal

pub invariant_of-self : goal.invariant_of-self
invariant_of-self g c =
    let t = c.args.self.now in
    let same = ap length c.deref_mut.ensures.value in
    let st = stands_none g.L.Blocks.layout g.met.L.Blocks.lawful (length (vec_items t.words)) c.zero.new.words (c.zero.ensures.after ∙ ap (λ n. replicate n 0) same) in
    let full = refilled_stands g.L.Blocks.layout g.met.L.Blocks.lawful t.words None unformed c.zero.new.words (sym same ∙ c.deref_mut.ensures.len) st in
    record { well = ∣ full.well ∣₁; exact = full.exact }
