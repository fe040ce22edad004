use Rattle.std.proofs.Common.{◌∙◌, ap, drop, rules, tests}
use Rattle.std.specs.Prelude.{not}
use Rattle.std.proofs.lemmas.Iterator.{YieldsList-from_slice}
use Rattle.std.proofs.lemmas.Iterator.Search.{position_from_yields_List}
use Rattle.arrivals.specs.Lines.{is_blank}
use Rattle.arrivals.proofs.Fronts.{place_or_length, take-drop_all}
use Rattle.arrivals.proofs.lines.skipped.Goals as goal

pub returns : goal.returns
returns c =
    let e = c.unwrap_or.ensures ∙ place_or_length (λ b. not (is_blank b)) c.args.text.now c.position-blanks.result
    (position_from_yields_List (λ b. not (is_blank b)) _ _ c.position-blanks.result c.position-blanks.ensures.ran (YieldsList-from_slice c.args.text.now cc) (λ x b q k. search (rules, tests))) in
    record { value = take-drop_all c.unwrap_or.result c.args.text.now ∙ ap (λ k. drop k c.args.text.now) e }
