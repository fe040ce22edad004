use Rattle.blocks.specs.Means.{items}
use Rattle.blocks.proofs.Called.{given_here, slot_below}
use Rattle.blocks.proofs.state.BlockTable.slot_at.Goals as goal

pub invariant_of-result : goal.invariant_of-result
invariant_of-result g c =
    let t = c.args.self.now in
    let at = c.args.at in
    let r = c.requires in
    let given = given_here g.L.Blocks.layout g.met.L.Blocks.lawful (items t) t.shape t.well t.exact r.s r.q r.w at r.reached c.deref.result.now c.deref.ensures.value in
    record {
      readable = ∣ g.met.L.Blocks.given_readable at.shape.k at.shape.v at.shape.b _ at.shape.narrow given ∣₁;
      inside = slot_below g.L.Blocks.layout g.met.L.Blocks.lawful (items t) t.shape t.well t.exact r.s r.q r.w at r.reached;
    }
