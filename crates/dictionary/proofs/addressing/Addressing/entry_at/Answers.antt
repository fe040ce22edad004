use Rattle.std.proofs.Common.{◌≡◌, ℕ, ◌+◌, ◌-◌, ◌^◌, ◌<◌, ◌≤◌, length, get_or, sym, ap, ◌∙◌, subst, arith}
use Rattle.std.proofs.lemmas.Nat.{one_shl}
use Rattle.std.specs.Result.{result_ok}
use Rattle.model.specs.Entries.{walk}
use Rattle.dictionary.specs.Stored.{in_slot, mixing, quotient_of, slot_of}
use Rattle.dictionary.proofs.Cut.{slots_below}
use Rattle.dictionary.proofs.Lawful.{lawful, mixes}
use Rattle.dictionary.proofs.Walked.{listed_none, listed_there, permuted_told, same_some, size_told, some_none, taken_back, walk_next, walk_zero}
use Rattle.dictionary.proofs.addressing.Addressing.entry_at.Goals as goal

pub loop-slot-init : goal.loop-slot-init
loop-slot-init g c es st = omega (arith, walk_zero (slot_of (g.P.Permutation.forth c.args.self.now.permutation.now) c.args.self.now.shape.k c.args.self.now.shape.b) es)

pub loop-slot-preserved : goal.loop-slot-preserved
loop-slot-preserved g c es st =
    let slot : ℕ → ℕ = slot_of (g.P.Permutation.forth c.args.self.now.permutation.now) c.args.self.now.shape.k c.args.self.now.shape.b in
    let s = c.loop-slot.slot in
    let here : s < 2 ^ c.args.self.now.shape.b = omega (arith, one_shl c.args.self.now.shape.b 64 (omega (arith, c.args.self.now.shape.below, c.args.self.now.shape.narrow)), c.loop-slot-test.true) in
    let size : c.in_ok-size.size ≡ length (in_slot slot s es) = same_some (c.in_ok-size.ensures.value ∙ ap result_ok (size_told st s here c.size.result c.size.ensures.value)) in
    stepped c.loop-slot.left c.in_ok-size.size (length (walk slot s es)) (length (walk slot (s + 1) es)) (length (in_slot slot s es)) c.args.i (c.loop-slot.invariant es st) size (walk_next slot es s) c.if-left-size.false
  where
    stepped : (left size before after here i : ℕ) → left + before ≡ i → size ≡ here → after ≡ before + here → size ≤ left → left - size + after ≡ i
    stepped left size before after here i a b d e = omega arith

pub returns-in_err-y : goal.returns-in_err-y
returns-in_err-y g c = record {
  value = λ es st.
      let forth = g.P.Permutation.forth c.args.self.now.permutation.now in
      let slot : ℕ → ℕ = slot_of forth c.args.self.now.shape.k c.args.self.now.shape.b in
      let s = c.loop-slot.slot in
      let here : s < 2 ^ c.args.self.now.shape.b = omega (arith, one_shl c.args.self.now.shape.b 64 (omega (arith, c.args.self.now.shape.below, c.args.self.now.shape.narrow)), c.loop-slot-test.true) in
      let size : c.in_ok-size.size ≡ length (in_slot slot s es) = same_some (c.in_ok-size.ensures.value ∙ ap result_ok (size_told st s here c.size.result c.size.ensures.value)) in
      let less : c.loop-slot.left < length (in_slot slot s es) = subst (λ n. c.loop-slot.left < n) size c.if-left-size.true in
      absurd (some_none c.permuted_at.result _ (permuted_told forth (in_slot slot s es) c.loop-slot.left less c.permuted_at.result (c.permuted_at.ensures (mixing g.P.Permutation c.args.self.now.permutation.now) es st here)) c.in_err-y.was);
}

pub returns-in_err-size : goal.returns-in_err-size
returns-in_err-size g c = record {
  value = λ es st.
      let s = c.loop-slot.slot in
      let here : s < 2 ^ c.args.self.now.shape.b = omega (arith, one_shl c.args.self.now.shape.b 64 (omega (arith, c.args.self.now.shape.below, c.args.self.now.shape.narrow)), c.loop-slot-test.true) in
      absurd (some_none _ _ (ap result_ok (size_told st s here c.size.result c.size.ensures.value)) (sym c.in_err-size.ensures.value));
}

pub returns-then-left-size : goal.returns-then-left-size
returns-then-left-size g c = record {
  value = λ es st.
      let forth = g.P.Permutation.forth c.args.self.now.permutation.now in
      let slot : ℕ → ℕ = slot_of forth c.args.self.now.shape.k c.args.self.now.shape.b in
      let quotient : ℕ → ℕ = quotient_of forth c.args.self.now.shape.k c.args.self.now.shape.b in
      let law = lawful g.P.Permutation g.T.Table g.met.P.Permutation.within g.met.P.Permutation.returns g.met.P.Permutation.beyond g.met.T.Table.grouped in
      let narrow : c.args.self.now.shape.b ≤ c.args.self.now.shape.k = omega (arith, c.args.self.now.shape.below) in
      let s = c.loop-slot.slot in
      let here : s < 2 ^ c.args.self.now.shape.b = omega (arith, one_shl c.args.self.now.shape.b 64 (omega (arith, c.args.self.now.shape.below, c.args.self.now.shape.narrow)), c.loop-slot-test.true) in
      let size : c.in_ok-size.size ≡ length (in_slot slot s es) = same_some (c.in_ok-size.ensures.value ∙ ap result_ok (size_told st s here c.size.result c.size.ensures.value)) in
      let less : c.loop-slot.left < length (in_slot slot s es) = subst (λ n. c.loop-slot.left < n) size c.if-left-size.true in
      let e = get_or (in_slot slot s es) c.loop-slot.left (0, 0) in
      taken_back forth (g.P.Permutation.back c.args.self.now.permutation.now) e c.in_ok-y.y c.in_ok-y.w c.back.result (g.met.P.Permutation.returns c.args.self.now.permutation.now e.0)
      (sym c.in_ok-y.was ∙ permuted_told forth (in_slot slot s es) c.loop-slot.left less c.permuted_at.result (c.permuted_at.ensures (mixing g.P.Permutation c.args.self.now.permutation.now) es st here)) c.back.ensures
      ∙ sym (listed_there slot es c.args.self.now.shape.b (slots_below (mixes law c.args.self.now.permutation.now c.args.self.now.shape.k st.widths) c.args.self.now.shape.b narrow es st.below)
      quotient s c.loop-slot.left c.args.i here less (c.loop-slot.invariant es st));
}

pub returns : goal.returns
returns g c = record {
  value = λ es st.
      let slot : ℕ → ℕ = slot_of (g.P.Permutation.forth c.args.self.now.permutation.now) c.args.self.now.shape.k c.args.self.now.shape.b in
      let law = lawful g.P.Permutation g.T.Table g.met.P.Permutation.within g.met.P.Permutation.returns g.met.P.Permutation.beyond g.met.T.Table.grouped in
      let narrow : c.args.self.now.shape.b ≤ c.args.self.now.shape.k = omega (arith, c.args.self.now.shape.below) in
      let all : c.loop-slot.slot ≡ 2 ^ c.args.self.now.shape.b = omega (arith, one_shl c.args.self.now.shape.b 64 (omega (arith, c.args.self.now.shape.below, c.args.self.now.shape.narrow)), c.loop-slot-test.false, c.loop-slot.auto.slot-end) in
      sym (listed_none slot es c.args.self.now.shape.b (slots_below (mixes law c.args.self.now.permutation.now c.args.self.now.shape.k st.widths) c.args.self.now.shape.b narrow es st.below)
      c.loop-slot.left c.args.i (subst (λ n. c.loop-slot.left + length (walk slot n es) ≡ c.args.i) all (c.loop-slot.invariant es st)));
}
