use Rattle.std.proofs.Common.{◌≡◌, ℕ, ◌+◌, ◌-◌, ◌*◌, ◌/◌, ◌%◌, ◌<◌, ◌≤◌, nat_lt, Bool, false, cond, if◌then◌else◌, List, slice_get, sym, ◌∙◌, ap, ap₂, arith}
use Rattle.std.proofs.lemmas.Bool.{lt-ltb}
use Rattle.std.proofs.lemmas.Bool.Decides.{nat_tests}
use Rattle.expected.specs.Blocks.{area, field_bit, is_mark, number, packed_bit, packed_block, packed_word, values_at}
use Rattle.expected.specs.declared.layout.Entry.{Entry}
use Rattle.expected.proofs.Bits.{number-alike}
use Rattle.expected.proofs.packed_words.packed_word.Goals as goal

not_below : (a b : ℕ) → b ≤ a → nat_lt a b ≡ false
not_below a b l = grind (arith, nat_tests)

mark_bit : (q v : ℕ) (group : List Entry) (u : ℕ) → u < 64 → packed_bit q v group u ≡ is_mark group u
mark_bit q v group u l = ap (λ b. cond b (is_mark group u) (if nat_lt u (values_at q) then field_bit (λ e. e.quotient) (slice_get group ((u - 64) / q)) ((u - 64) % q) else field_bit (λ e. e.value) (slice_get group ((u - values_at q) / v)) ((u - values_at q) % v))) (lt-ltb u 64 l)

quotient_bit : (q v : ℕ) (group : List Entry) (u : ℕ) → 64 ≤ u → u < values_at q → packed_bit q v group u ≡ field_bit (λ e. e.quotient) (slice_get group ((u - 64) / q)) ((u - 64) % q)
quotient_bit q v group u l m = ap₂ (λ a b. if a then is_mark group u else if b then field_bit (λ e. e.quotient) (slice_get group ((u - 64) / q)) ((u - 64) % q) else field_bit (λ e. e.value) (slice_get group ((u - values_at q) / v)) ((u - values_at q) % v)) (not_below u 64 l) (lt-ltb u (values_at q) m)

value_bit : (q v : ℕ) (group : List Entry) (u : ℕ) → values_at q ≤ u → packed_bit q v group u ≡ field_bit (λ e. e.value) (slice_get group ((u - values_at q) / v)) ((u - values_at q) % v)
value_bit q v group u l = ap₂ (λ a b. if a then is_mark group u else if b then field_bit (λ e. e.quotient) (slice_get group ((u - 64) / q)) ((u - 64) % q) else field_bit (λ e. e.value) (slice_get group ((u - values_at q) / v)) ((u - values_at q) % v)) (not_below u 64 (omega arith)) (not_below u (values_at q) l)

-- a word within the block
word_is : (q v : ℕ) (group : List Entry) (place word : ℕ) (b : ℕ → Bool) → place < packed_block q v → word ≡ number b 64 → ((i : ℕ) → i < 64 → packed_bit q v group (64 * place + i) ≡ b i) → word ≡ packed_word q v group place
word_is q v group place word b l w h =
    w ∙ sym (ap (λ t. if t then number (λ i. packed_bit q v group (64 * place + i)) 64 else 0) (lt-ltb place (packed_block q v) l) ∙ number-alike (λ i. packed_bit q v group (64 * place + i)) b 64 h)

marks_are : (q v : ℕ) (group : List Entry) (place word wide tall : ℕ) → wide ≡ area q → tall ≡ area v → place < 1 + wide + tall → place ≡ 0 → word ≡ number (λ i. is_mark group i) 64 → word ≡ packed_word q v group place
marks_are q v group place word wide tall e f l z w =
    word_is q v group place word (λ i. is_mark group i) (omega arith) w
    (λ i k. let at : 64 * place + i ≡ i = omega arith in ap (packed_bit q v group) at ∙ mark_bit q v group i k)

quotients_are : (q v : ℕ) (group : List Entry) (place word wide tall wide_again width : ℕ) → wide ≡ area q → tall ≡ area v → wide_again ≡ area q → width ≡ q
    → place < 1 + wide + tall → (place ≡ 0 → ⊥) → place < 1 + wide_again
    → word ≡ number (λ i. field_bit (λ e. e.quotient) (slice_get group ((64 * (place - 1) + i) / width)) ((64 * (place - 1) + i) % width)) 64 → word ≡ packed_word q v group place
quotients_are q v group place word wide tall wide_again width e f g h l d m w =
    word_is q v group place word (λ i. field_bit (λ e. e.quotient) (slice_get group ((64 * (place - 1) + i) / width)) ((64 * (place - 1) + i) % width)) (omega arith) w
    (λ i k.
    let at : 64 * place + i - 64 ≡ 64 * (place - 1) + i = omega arith in
    quotient_bit q v group (64 * place + i) (omega arith) (omega arith) ∙ ap₂ (λ u n. field_bit (λ e. e.quotient) (slice_get group (u / n)) (u % n)) at (sym h))

values_are : (q v : ℕ) (group : List Entry) (place word wide tall wide_again width : ℕ) → wide ≡ area q → tall ≡ area v → wide_again ≡ area q → width ≡ v
    → place < 1 + wide + tall → 1 + wide_again ≤ place
    → word ≡ number (λ i. field_bit (λ e. e.value) (slice_get group ((64 * (place - (1 + wide_again)) + i) / width)) ((64 * (place - (1 + wide_again)) + i) % width)) 64 → word ≡ packed_word q v group place
values_are q v group place word wide tall wide_again width e f g h l m w =
    word_is q v group place word (λ i. field_bit (λ e. e.value) (slice_get group ((64 * (place - (1 + wide_again)) + i) / width)) ((64 * (place - (1 + wide_again)) + i) % width)) (omega arith) w
    (λ i k.
    let at : 64 * place + i - values_at q ≡ 64 * (place - (1 + wide_again)) + i = omega arith in
    value_bit q v group (64 * place + i) (omega arith) ∙ ap₂ (λ u n. field_bit (λ e. e.value) (slice_get group (u / n)) (u % n)) at (sym h))

pub returns-then-place-eq0 : goal.returns-then-place-eq0
returns-then-place-eq0 c = marks_are c.args.q c.args.v c.args.group.now c.args.place c.marks.result c.area.result c.area-2.result c.area.ensures.value c.area-2.ensures.value c.if-place-area.false c.if-place-eq0.true c.marks.ensures

pub returns-then-place-values : goal.returns-then-place-values
returns-then-place-values c =
    quotients_are c.args.q c.args.v c.args.group.now c.args.place c.field_bits.result c.area.result c.area-2.result c.area-values.result c.from.result c.area.ensures.value c.area-2.ensures.value c.area-values.ensures.value c.from.ensures
    c.if-place-area.false c.if-place-eq0.false c.if-place-values.true c.field_bits.ensures

pub returns : goal.returns
returns c =
    values_are c.args.q c.args.v c.args.group.now c.args.place c.field_bits-2.result c.area.result c.area-2.result c.area-values.result c.from-2.result c.area.ensures.value c.area-2.ensures.value c.area-values.ensures.value c.from-2.ensures
    c.if-place-area.false c.if-place-values.false c.field_bits-2.ensures
