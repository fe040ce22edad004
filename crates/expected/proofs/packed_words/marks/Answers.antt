use Rattle.std.proofs.Common.{◌≡◌, ℕ, ◌+◌, ◌-◌, ◌*◌, ◌%◌, ◌==◌, ◌||◌, ◌^◌, ◌<◌, ◌≤◌, List, length, take, get_or, min, bit_or, refl, sym, ◌∙◌, ap, arith}
use Rattle.std.proofs.lemmas.List.{take_all}
use Rattle.expected.specs.Blocks.{is_mark, number}
use Rattle.expected.specs.declared.layout.Entry.{Entry}
use Rattle.expected.proofs.Bits.{number-none, is_mark-more, one_more, none_more}
use Rattle.expected.proofs.packed_words.marks.Goals as goal
use Rattle.expected.proofs.packed_words.marks.Goals.{then-mark-lt64, else-mark-lt64}

mark_set : (group : List Entry) (t mark word new : ℕ) (d : Entry) → t < length group → mark ≡ min (t + (get_or group t d).slot % 16) (2 ^ 64 - 1) → mark < 64
    → word ≡ number (λ i. is_mark (take t group) i) 64 → new ≡ bit_or word (1 * 2 ^ mark % 2 ^ 64) → new ≡ number (λ i. is_mark (take (t + 1) group) i) 64
mark_set group t mark word new d l e m w n =
    let at : t + (get_or group t d).slot % 16 ≡ mark = omega arith in
    n ∙ ap (λ x. bit_or x (1 * 2 ^ mark % 2 ^ 64)) w
    ∙ one_more (λ i. is_mark (take t group) i) (λ i. is_mark (take (t + 1) group) i) mark m (λ i. is_mark-more group t i d l ∙ ap (λ k. is_mark (take t group) i || (k == i)) at)

mark_past : (group : List Entry) (t mark word : ℕ) (d : Entry) → t < length group → mark ≡ min (t + (get_or group t d).slot % 16) (2 ^ 64 - 1) → 64 ≤ mark
    → word ≡ number (λ i. is_mark (take t group) i) 64 → word ≡ number (λ i. is_mark (take (t + 1) group) i) 64
mark_past group t mark word d l e m w =
    let far : 64 ≤ t + (get_or group t d).slot % 16 = omega arith in
    w ∙ none_more (λ i. is_mark (take t group) i) (λ i. is_mark (take (t + 1) group) i) (t + (get_or group t d).slot % 16) far (λ i. is_mark-more group t i d l)

pub loop-t-init : goal.loop-t-init
loop-t-init c = sym (number-none _ 64 (λ i. refl))

pub loop-t-preserved : goal.loop-t-preserved
loop-t-preserved c = elim c.if-mark-lt64.branch [
  | then-mark-lt64 w ↦ mark_set c.args.group.now c.loop-t.t c.saturating_add-mark.result c.loop-t.word c.if-mark-lt64.word _ c.loop-t-test.true c.saturating_add-mark.ensures w.if-mark-lt64.true c.loop-t.invariant w.word-is
  | else-mark-lt64 w ↦ w.word-is ∙ mark_past c.args.group.now c.loop-t.t c.saturating_add-mark.result c.loop-t.word _ c.loop-t-test.true c.saturating_add-mark.ensures w.if-mark-lt64.false c.loop-t.invariant
]

pub returns : goal.returns
returns c = c.loop-t.invariant ∙ ap (λ g. number (λ i. is_mark g i) 64) (take_all c.loop-t.t c.args.group.now c.loop-t-test.false)
