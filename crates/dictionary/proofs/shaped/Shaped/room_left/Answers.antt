use Rattle.std.proofs.Common.{◌≡◌, ℕ, ◌+◌, ◌-◌, ◌^◌, ◌<◌, ◌≤◌, eqb, sym, ap, ◌∙◌, arith}
use Rattle.std.proofs.lemmas.Bool.{lt-leb}
use Rattle.model.specs.Entries.{count_if}
use Rattle.std.specs.Option.{is_some}
use Rattle.dictionary.specs.Stored.{range_load, slot_of}
use Rattle.dictionary.proofs.Ranges.{range_grows, range_more, range_zero}
use Rattle.dictionary.proofs.Walked.{same_some}
use Rattle.dictionary.proofs.shaped.Shaped.room_left.Goals as goal

pub loop-i-init : goal.loop-i-init
loop-i-init g c mix es st h = omega (arith, range_zero (slot_of mix.forth c.args.self.now.shape.k (c.args.self.now.shape.b + 1)) es c.args.start)

pub loop-i-preserved : goal.loop-i-preserved
loop-i-preserved g c mix es st h =
    let slot : ℕ → ℕ = slot_of mix.forth c.args.self.now.shape.k (c.args.self.now.shape.b + 1) in
    let i = c.loop-i.i in
    let inside : c.args.start + i < 2 ^ (c.args.self.now.shape.b + 1) = omega (arith, c.loop-i-test.true) in
    let n_is = same_some (sym c.in_ok-moved_size.was ∙ c.moved_size.ensures mix es st inside) in
    let taken : (c.in_ok-moved_size.field-0 ≤ c.loop-i.room) × (c.in_ok-room.room ≡ c.loop-i.room - c.in_ok-moved_size.field-0) = c.in_ok-room.ensures in
    stepped c.loop-i.room c.in_ok-moved_size.field-0 c.in_ok-room.room (range_load slot c.args.start i es) (range_load slot c.args.start (i + 1) es) (count_if (λ e. eqb (slot e.0) (c.args.start + i)) es) c.args.limit
    (c.loop-i.invariant mix es st h) n_is (range_more slot es c.args.start i) taken.0 taken.1
  where
    stepped : (room n next before after here limit : ℕ) → room + before ≡ limit → n ≡ here → after ≡ before + here → n ≤ room → next ≡ room - n → next + after ≡ limit
    stepped room n next before after here limit a b d e f = omega arith

pub returns-in_err-room : goal.returns-in_err-room
returns-in_err-room g c mix es st h =
    let slot : ℕ → ℕ = slot_of mix.forth c.args.self.now.shape.k (c.args.self.now.shape.b + 1) in
    let i = c.loop-i.i in
    let inside : c.args.start + i < 2 ^ (c.args.self.now.shape.b + 1) = omega (arith, c.loop-i-test.true) in
    let n_is = same_some (sym c.in_ok-moved_size.was ∙ c.moved_size.ensures mix es st inside) in
    let most : i + 1 ≤ c.args.size = omega (arith, c.loop-i-test.true) in
    ap is_some c.from_residual-in_err-room.ensures
    ∙ sym (lt-leb (range_load slot c.args.start c.args.size es) c.args.limit
    (over c.loop-i.room c.in_ok-moved_size.field-0 (range_load slot c.args.start i es) (range_load slot c.args.start (i + 1) es) (range_load slot c.args.start c.args.size es) (count_if (λ e. eqb (slot e.0) (c.args.start + i)) es) c.args.limit
    (c.loop-i.invariant mix es st h) n_is (range_more slot es c.args.start i) c.in_err-room.ensures (range_grows slot es c.args.start (i + 1) c.args.size most)))
  where
    over : (room n before after whole here limit : ℕ) → room + before ≡ limit → n ≡ here → after ≡ before + here → (n ≤ room → ⊥) → after ≤ whole → limit < whole
    over room n before after whole here limit a b d e f = omega arith
