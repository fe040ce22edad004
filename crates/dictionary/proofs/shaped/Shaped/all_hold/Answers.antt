use borrow.Author.Tests.{tests}
use Rattle.std.proofs.Common.{◌≡◌, ℕ, ◌+◌, ◌*◌, ◌/◌, ◌%◌, ◌^◌, ◌<◌, ◌≤◌, Bool, true, false, sym, ap, ◌∙◌, subst, rules, arith}
use Rattle.std.proofs.lemmas.Iterator.{YieldsList-from_range, cases_from_all}
use Rattle.std.specs.List.{AllByRecursion as All}
use Rattle.table.specs.Slots.{within}
use Rattle.model.specs.Entries.{group_load}
use Rattle.dictionary.specs.Stored.{range_load, slot_of}
use Rattle.dictionary.proofs.Cut.{slots_below}
use Rattle.dictionary.proofs.Lawful.{some_slot}
use Rattle.dictionary.proofs.Moving.{lawful_mixes}
use Rattle.dictionary.proofs.Ranges.{all_told, by_cases, group_inside, group_told, hold_told, two_shl, whole_groups}
use Rattle.dictionary.proofs.shaped.Shaped.all_hold.Goals as goal

pub returns : goal.returns
returns g c mix es law st fit =
    let slot : ℕ → ℕ = slot_of mix.forth c.args.self.now.shape.k (c.args.self.now.shape.b + 1) in
    let size = c.group-size.result in
    let limit = c.limit-limit.result in
    let S = g.B.Table.group in
    let whole = whole_groups (2 ^ (c.args.self.now.shape.b + 1)) S (g.met.B.Table.fitting c.args.second.now c.args.self.now.shape.k c.args.self.now.shape.v (c.args.self.now.shape.b + 1) fit).whole in
    let wide : c.args.self.now.shape.b + 1 ≤ c.args.self.now.shape.k = omega (arith, c.args.self.now.shape.below) in
    let below = slots_below (lawful_mixes mix law c.args.self.now.shape.k st.widths) (c.args.self.now.shape.b + 1) wide es st.below in
    let twice = two_shl c.args.self.now.shape.b (omega (arith, c.args.self.now.shape.below, c.args.self.now.shape.narrow)) in
    let groups = (2 * 2 ^ c.args.self.now.shape.b) % 2 ^ 64 / size in
    let Says : Bool → ℕ → Type 0 = λ t x. x * size + size ≤ 2 ^ (c.args.self.now.shape.b + 1) → t ≡ within limit (range_load slot (x * size) size es) in
    let cases = all_told (Says true) (Says false) groups c.all.result (cases_from_all _ _ c.all.result (Says true) (Says false) c.all.ensures.ran (YieldsList-from_range 0 groups groups (search rules) (omega arith)) (λ x q k. search (rules, tests)) (λ x q k. search (rules, tests))) in
    let groups_is : groups ≡ 2 ^ (c.args.self.now.shape.b + 1) / S = ap (λ n. n / size) twice ∙ ap (λ n. 2 ^ (c.args.self.now.shape.b + 1) / n) c.group-size.ensures.value in
    let inside : (x : ℕ) → x < groups → x * size + size ≤ 2 ^ (c.args.self.now.shape.b + 1) = λ x less.
    let here = group_inside ((2 * 2 ^ c.args.self.now.shape.b) % 2 ^ 64) size x less in omega (arith, twice, here) in
    let told : (t : Bool) (x : ℕ) → x < groups → Says t x → t ≡ within g.B.Table.limit (group_load slot S es x) = λ t x less says.
    group_told slot es S g.B.Table.limit size limit x (some_slot S g.met.B.Table.grouped) c.group-size.ensures.value c.limit-limit.ensures.value t (says (inside x less)) in
    hold_told slot S g.B.Table.limit es groups (some_slot S g.met.B.Table.grouped) (subst (λ n. All (λ (e : ℕ × ℕ). slot e.0 < n) es) (whole ∙ ap (λ n. n * S) (sym groups_is)) below) c.all.result
    (by_cases c.all.result (Says true) (Says false) groups _ _ (λ x less says. told true x less says) (λ x less says. told false x less says) cases)
