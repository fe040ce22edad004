use Rattle.std.proofs.Common.{◌≡◌, ℕ, ◌+◌, ◌*◌, ◌==◌, nat_lt, Bool, true, false, ◌&&◌, List, [], ◌∷◌, refl, sym, ◌∙◌, ap, ap₂, length, cond, arith, if◌then◌else◌}
use Rattle.std.proofs.lemmas.Bool.{eqb-true}
use Rattle.std.proofs.lemmas.Bool.Decides.{nat_tests}
use Rattle.std.proofs.lemmas.List.{nil_from_length}
use Rattle.std.specs.List.{list_all, enumerate_from}
use Rattle.expected.specs.Kinds.{word}
use Rattle.expected.specs.Blocks.{packed_bit, packed_block, values_at}
use Rattle.expected.specs.declared.kind.Kind.{Kind}
use Rattle.expected.specs.declared.kind.Kind.TheVariants.{Plain, Packed}
use Rattle.expected.specs.declared.layout.Entry.{Entry}
use Rattle.expected.proofs.Bits.{number-none}
use Rattle.expected.proofs.layout.Layout.has_block.Goals as goal

either : {X : Type 0} (b : Bool) (x : X) → cond b x x ≡ x
either b x = elim b as (λ b. cond b x x ≡ x) [ true ↦ refl | false ↦ refl ]

-- no bit of a block with no entries is one
no_bit : (q v u : ℕ) → packed_bit q v [] u ≡ false
no_bit q v u = ap (λ b. cond (nat_lt u 64) false b) (either (nat_lt u (values_at q)) false) ∙ either (nat_lt u 64) false

-- each word of a group with no entries is zero
no_word : (kind : Kind) (q v place : ℕ) → word kind q v [] place ≡ 0
no_word Plain q v place = either (place == 0) 0
no_word Packed q v place = ap (λ n. if (nat_lt place (packed_block q v)) then n else 0) (number-none _ 64 (λ i. no_bit q v (64 * place + i))) ∙ either (nat_lt place (packed_block q v)) 0

eqb_turn : (a b : ℕ) → (a == b) ≡ (b == a)
eqb_turn a b = grind (arith, nat_tests)

zeros : (kind : Kind) (q v n : ℕ) (xs : List ℕ) → list_all (λ x. x == 0) xs ≡ list_all (λ p. word kind q v [] p.0 == p.1) (enumerate_from n xs)
zeros kind q v n [] = refl
zeros kind q v n (x ∷ xs) = ap₂ (λ a b. a && b) (eqb_turn x 0 ∙ ap (λ k. k == x) (sym (no_word kind q v n))) (zeros kind q v (n + 1) xs)

empty_words : (kind : Kind) (q v : ℕ) (group : List Entry) (words : List ℕ) (r b : Bool) → b ≡ (length group == 0) → b ≡ true → r ≡ list_all (λ x. x == 0) words
    → r ≡ list_all (λ p. word kind q v group p.0 == p.1) (enumerate_from 0 words)
empty_words kind q v group words r b e t h =
    let none : group ≡ [] = nil_from_length group (eqb-true (length group) 0 (sym e ∙ t)) in
    h ∙ zeros kind q v 0 words ∙ ap (λ es. list_all (λ p. word kind q v es p.0 == p.1) (enumerate_from 0 words)) (sym none)

pub returns-then-is_empty : goal.returns-then-is_empty
returns-then-is_empty c = empty_words _ _ _ c.args.group.now c.args.words.now _ _ c.is_empty.ensures c.if-is_empty.true c.is_clear.ensures.value
