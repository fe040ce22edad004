use Rattle.std.proofs.Common.{◌≡◌, ℕ, ◌-◌, List, length, take, drop, min, ◌==◌, sym, ap, ◌∙◌, length-drop}
use Rattle.std.specs.List.{list_all}
use Rattle.std.proofs.Math.Seq.{take-length}
use Rattle.std.proofs.lemmas.List.{drop_min}
use Rattle.bits.proofs.zeros.are_zero_from.Goals as goal

-- all that is left after n elements
take-drop_all : {X : Type 0} (n : ℕ) (xs : List X) → take (length xs - n) (drop n xs) ≡ drop n xs
take-drop_all n xs = ap (λ k. take k (drop n xs)) (sym (length-drop n xs)) ∙ take-length (drop n xs)

pub returns : goal.returns
returns c =
    let area = c.args.area.now in
    let m : c.min.result ≡ min c.args.first (length area) = c.min.ensures in
    c.are_zero.ensures ∙ ap (list_all (λ word. word == 0)) (take-drop_all c.min.result area ∙ ap (λ k. drop k area) m ∙ drop_min c.args.first area)
