use Rattle.std.proofs.Common.{◌≡◌, true, false, ◌+◌, ◌∙◌, arith, rules, tests}
use Rattle.coding.specs.Nights.{night_exists}
use Rattle.std.proofs.lemmas.Iterator.{first_from_Range}
use Rattle.arrivals.proofs.Nights.{listed}
use Rattle.arrivals.proofs.stay.Stay.nights_listed.Goals as goal

pub returns : goal.returns
returns c =
    let s = c.args.self in
    let found = first_from_Range _ _ _ c.find.result (λ k. night_exists s.pitch (s.first + k) ≡ false) (λ k. night_exists s.pitch (s.first + k) ≡ true) c.find.ensures.ran (λ x q k. search (rules, tests)) (λ x q k. search (rules, tests)) in
    let h = listed s.pitch s.first s.nights _ (omega arith) found in
    record { value = c.unwrap_or.ensures ∙ h.0; bound = omega (arith, h.1, c.unwrap_or.ensures) }
