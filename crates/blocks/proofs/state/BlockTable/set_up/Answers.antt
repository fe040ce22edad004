use Rattle.std.proofs.Common.{◌≡◌, length, vec_items, ap, ◌∙◌}
use Rattle.std.specs.Vec.{with_items}
use Rattle.std.proofs.lemmas.List.{with_items_is, length-replicate}
use Rattle.table.proofs.Standing.{stands_none}
use Rattle.blocks.proofs.state.BlockTable.set_up.Goals as goal

pub invariant_of-result : goal.invariant_of-result
invariant_of-result g c =
    let v = c.args.words in
    let ws = c.zero.new.words in
    let n = length c.deref_mut.result.now in
    let len : length ws ≡ v.len = ap length c.zero.ensures.after ∙ length-replicate n 0 ∙ c.deref_mut.ensures.len in
    let st = stands_none g.L.Blocks.layout g.met.L.Blocks.lawful n (vec_items (with_items v ws)) (with_items_is v ws len ∙ c.zero.ensures.after) in
    record { well = ∣ st.well ∣₁; exact = st.exact }
