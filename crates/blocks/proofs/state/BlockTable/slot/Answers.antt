use Rattle.std.proofs.Common.{refl}
use Rattle.blocks.specs.Means.{items}
use Rattle.blocks.proofs.Called.{read_copy}
use Rattle.blocks.proofs.state.BlockTable.slot.Goals as goal

pub returns : goal.returns
returns g c =
    let t = c.args.self.now in
    let r = c.slot_at.result in
    record {
      value = read_copy g.L.Blocks.layout g.met.L.Blocks.lawful (items t) t.shape t.well t.exact c.args.slot c.args.quotient c.args.value c.in_ok-at.at c.in_ok-at.ensures.value
          (items t) refl r.shape r.slot r.block.now c.slot_at.ensures.block c.slot_at.ensures.shape c.slot_at.ensures.slot;
    }
