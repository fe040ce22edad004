use borrow.Author.Tests.{tests}
use Rattle.std.proofs.Common.{ℕ, ◌+◌, Bool, false, eqb, ap, ◌∙◌, rules}
use Rattle.std.specs.Option.{option_map, unwrap_or}
use Rattle.std.specs.List.{slice_get}
use Rattle.table.specs.Slots.{slot}
use Rattle.dictionary.specs.Stored.{in_slot, slot_of}
use Rattle.dictionary.proofs.Counted.{test_map, test_says}
use Rattle.dictionary.proofs.shaped.Shaped.goes_to.Goals as goal

pub returns : goal.returns
returns g c mix l st here =
    let goes : ℕ × ℕ → Bool = λ e. eqb (slot c.args.self.now.shape.k (c.args.self.now.shape.b + 1) e.0) c.args.slot in
    test_says goes c.permuted_at.result c.is_some_and.result c.is_some_and.ensures (λ x k. search (rules, tests))
    ∙ ap (λ o. unwrap_or (option_map goes o) false) (c.permuted_at.ensures mix l st here)
    ∙ test_map (λ e. (mix.forth e.0, e.1)) goes (slice_get (in_slot (slot_of mix.forth c.args.self.now.shape.k c.args.self.now.shape.b) c.args.from l) c.args.i)
