use Rattle.std.proofs.Common.{rules, ◌≡◌, ℕ, Bool, true, false, ◌&&◌, List, sym, ◌∙◌, ap, length}
use Rattle.std.proofs.lemmas.List.{nil_from_length}
use Rattle.std.specs.List.{list_all, enumerate_from}
use Rattle.expected.specs.Kinds.{word}
use Rattle.expected.proofs.Groups.{parts_left, block_tells}
use Rattle.expected.proofs.layout.Layout.has_words.Goals as goal

none_left : (P : ℕ × ℕ → Bool) (n : ℕ) (xs : List ℕ) (total : Bool) → length xs ≡ 0 → list_all P (enumerate_from n xs) ≡ total → true ≡ total
none_left P n xs total e w = ap (λ ys. list_all P (enumerate_from n ys)) (sym (nil_from_length xs e)) ∙ w

go_on : (r rest total : Bool) → r ≡ true → total ≡ (r && rest) → rest ≡ total
go_on r rest total e h = sym (h ∙ ap (λ b. b && rest) e)

give_up : (r rest total : Bool) → r ≡ false → total ≡ (r && rest) → false ≡ total
give_up r rest total e h = sym (h ∙ ap (λ b. b && rest) e)

pub loop-g-preserved : goal.loop-g-preserved
loop-g-preserved c =
    let s = c.in-Some.ensures.steps in
    record {
      can = search rules;
      finite = search rules;
      size = s.0.0 ∙ c.loop-g.invariant.size;
      parts = parts_left c.args.entries.now c.loop-g.others.now c.cut.result.1.now _ c.group.result _ _ c.in-Some.g c.group.ensures.value s.1 s.2 c.loop-g.invariant.parts c.cut.ensures.after;
      rest = go_on _ _ _ c.if-not-has_block.false (block_tells (word c.args.self.kind c.args.self.quotient c.args.self.value) c.args.entries.now c.loop-g.others.now c.cut.result.0.now _ c.group.result _ _ _ _ c.in-Some.g _ c.in-Some.words.now _ c.has_block.result _
          c.group.ensures.value c.loop-g.invariant.size s.1 s.2 c.loop-g.invariant.parts c.cut.ensures.own s.0.1.0 s.0.1.1 c.has_block.ensures c.loop-g.invariant.rest);
    }

pub returns-then-not-has_block : goal.returns-then-not-has_block
returns-then-not-has_block c =
    let s = c.in-Some.ensures.steps in
    record {
      value = give_up _ _ _ c.if-not-has_block.true (block_tells (word c.args.self.kind c.args.self.quotient c.args.self.value) c.args.entries.now c.loop-g.others.now c.cut.result.0.now _ c.group.result _ _ _ _ c.in-Some.g _ c.in-Some.words.now _ c.has_block.result _
          c.group.ensures.value c.loop-g.invariant.size s.1 s.2 c.loop-g.invariant.parts c.cut.ensures.own s.0.1.0 s.0.1.1 c.has_block.ensures c.loop-g.invariant.rest);
    }

pub returns : goal.returns
returns c = record { value = none_left _ _ _ _ c.in-None.ensures.steps.0.1.0 c.loop-g.invariant.rest }
