use Rattle.std.proofs.Common.{◌≡◌, Some, Ok, subst, sym, ap, ◌∙◌, rules}
use Rattle.table.specs.Meaning.{answer_of}
use Rattle.table.specs.Places.{First, Placed}
use Rattle.table.proofs.Slots.{first_value}
use Rattle.blocks.specs.Slots.{entries_in}
use Rattle.blocks.proofs.slot.Slot.find.Goals as goal

pub returns : goal.returns
returns g c =
    let es = entries_in c.args.self.now in
    let e : c.place.result ≡ Some c.in_ok-i.i = search rules in
    let f : First es c.args.quotient c.in_ok-i.i = subst (Placed es c.args.quotient) e c.place.ensures.value in
    record { value = ap (λ x. Ok x.1) c.entry.ensures.value ∙ ap answer_of (sym (first_value es c.args.quotient c.in_ok-i.i f)) }
