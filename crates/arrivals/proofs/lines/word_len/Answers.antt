use Rattle.std.proofs.Common.{◌∙◌, rules, tests}
use Rattle.std.proofs.lemmas.Iterator.{YieldsList-from_slice}
use Rattle.std.proofs.lemmas.Iterator.Search.{position_from_yields_List}
use Rattle.arrivals.specs.Lines.{is_blank}
use Rattle.arrivals.proofs.Fronts.{place_or_length}
use Rattle.arrivals.proofs.lines.word_len.Goals as goal

pub returns-clause-value : goal.returns-clause-value
returns-clause-value c =
    c.unwrap_or.ensures ∙ place_or_length is_blank c.args.text.now c.position-size.result
    (position_from_yields_List is_blank _ _ c.position-size.result c.position-size.ensures.ran (YieldsList-from_slice c.args.text.now cc) (λ x b q k. search (rules, tests)))
