use borrow.Author.Tests.{tests}
use Rattle.std.proofs.Common.{ℕ, ◌+◌, ◌/◌, eqb, ◌∙◌, rules, arith}
use Rattle.std.proofs.lemmas.Iterator.{YieldsList-from_range}
use Rattle.std.proofs.lemmas.Iterator.Consumers.{YieldsList-from_filter, count_from_yields_List}
use Rattle.dictionary.specs.Stored.{slot_by}
use Rattle.dictionary.proofs.Counted.{count_run}
use Rattle.dictionary.proofs.reached.Reached.earlier.Goals as goal

pub returns : goal.returns
returns g c =
    let slot : ℕ → ℕ = slot_by g.P.Permutation c.args.self.now.by in
    let m = c.args.self.now.run.first in
    count_from_yields_List _ _ c.count.ensures.ran
    (YieldsList-from_filter _ (λ j. eqb (slot (m + j) / c.args.size) (c.args.slot / c.args.size)) (YieldsList-from_range 0 c.args.i c.args.i c.filter.ensures.source (omega arith)) c.filter.ensures.closure (λ x b q k. search (rules, tests)))
    ∙ count_run slot c.args.size m c.args.self.now.run.value c.args.i (c.args.slot / c.args.size)
