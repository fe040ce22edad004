use Rattle.std.proofs.Common.{sym, ◌∙◌}
use Rattle.blocks.specs.Slots.{entries_in}
use Rattle.blocks.proofs.Weighing.{held_some}
use Rattle.blocks.proofs.slot.Slot.weigh.Goals as goal

pub returns-then-is_some : goal.returns-then-is_some
returns-then-is_some g c =
    record { value = held_some _ _ (entries_in c.args.self.now) c.args.quotient c.place.result c.place.ensures.value (sym c.is_some.ensures ∙ c.if-is_some.true) }
