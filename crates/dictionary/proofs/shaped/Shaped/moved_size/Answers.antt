use borrow.Author.Tests.{tests}
use Rattle.std.proofs.Common.{◌≡◌, ℕ, ◌+◌, ◌/◌, Bool, false, eqb, length, Some, sym, ap, ◌∙◌, rules, arith}
use Rattle.std.specs.Option.{option_map, unwrap_or}
use Rattle.std.specs.List.{slice_get}
use Rattle.std.proofs.lemmas.Iterator.{YieldsList-from_range}
use Rattle.std.proofs.lemmas.Iterator.Consumers.{YieldsList-from_filter, count_from_yields_List}
use Rattle.dictionary.specs.Stored.{in_slot, slot_of}
use Rattle.dictionary.proofs.Counted.{count_places, test_at}
use Rattle.dictionary.proofs.Halves.{count_half}
use Rattle.dictionary.proofs.Moving.{half_below}
use Rattle.std.specs.Result.{result_ok}
use Rattle.dictionary.proofs.Walked.{same_some, size_told, some_none}
use Rattle.dictionary.proofs.shaped.Shaped.moved_size.Goals as goal

pub returns : goal.returns
returns g c mix es st h =
    let here = half_below c.args.slot c.args.self.now.shape.b h in
    let kept = in_slot (slot_of mix.forth c.args.self.now.shape.k c.args.self.now.shape.b) (c.args.slot / 2) es in
    let goes : ℕ × ℕ → Bool = λ e. eqb (slot_of mix.forth c.args.self.now.shape.k (c.args.self.now.shape.b + 1) e.0) c.args.slot in
    let size : c.in_ok-size.size ≡ length kept = same_some (c.in_ok-size.ensures.value ∙ ap result_ok (size_told st (c.args.slot / 2) here c.size.result c.size.ensures.value)) in
    ap Some
    (count_from_yields_List _ _ c.count-count.ensures.ran
    (YieldsList-from_filter _ (λ i. unwrap_or (option_map goes (slice_get kept i)) false) (YieldsList-from_range 0 c.in_ok-size.size (length kept) c.filter.ensures.source (omega (arith, size))) c.filter.ensures.closure (λ x b q k. search (rules, tests)))
    ∙ count_places (λ i. unwrap_or (option_map goes (slice_get kept i)) false) goes 0 kept (λ i less. let e : 0 + i ≡ i = omega arith in ap (λ x. unwrap_or (option_map goes (slice_get kept x)) false) e ∙ test_at goes kept i less)
    ∙ count_half mix.forth c.args.self.now.shape.k c.args.self.now.shape.b c.args.self.now.shape.below es c.args.slot)

pub returns-in_err-size : goal.returns-in_err-size
returns-in_err-size g c mix es st h =
    absurd (some_none _ _ (ap result_ok (size_told st (c.args.slot / 2) (half_below c.args.slot c.args.self.now.shape.b h) c.size.result c.size.ensures.value)) (sym c.in_err-size.ensures.value))
