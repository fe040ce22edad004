use Rattle.std.proofs.Common.{◌≡◌, ℕ, ◌+◌, ◌^◌, ◌<◌, length, take, sym, refl, ap, ◌∙◌, subst, arith}
use Rattle.std.proofs.lemmas.Nat.{one_shl}
use Rattle.table.specs.Meaning.{formed_at}
use Rattle.model.specs.Entries.{walk}
use Rattle.dictionary.specs.Stored.{Stores, slot_of}
use Rattle.dictionary.proofs.Moving.{filled_stores, formed_stores}
use Rattle.dictionary.proofs.Runs.{not_both}
use Rattle.dictionary.proofs.Scans.{turned}
use Rattle.dictionary.proofs.Walked.{walk_zero}
use Rattle.dictionary.proofs.shaped.Shaped.fill.Goals as goal

pub loop-slot-init : goal.loop-slot-init
loop-slot-init g c = (
  refl,
  refl,
  λ mix es law st hold to.
      let slot : ℕ → ℕ = slot_of mix.forth c.args.self.now.shape.k c.args.self.now.shape.b in
      subst (λ n. Stores g.B.Table mix c.form.new.self c.args.self.now.shape.k c.args.self.now.shape.v (c.args.self.now.shape.b + 1) (take n (walk slot (2 ^ c.args.self.now.shape.b) es))) (sym (walk_zero slot es)) to,
)

pub loop-slot-preserved : goal.loop-slot-preserved
loop-slot-preserved g c = (
  c.move_slot.ensures.len ∙ c.loop-slot.invariant.0,
  c.move_slot.ensures.fits ∙ c.loop-slot.invariant.1,
  λ mix es law st hold to.
      let here : c.loop-slot.slot < 2 ^ c.args.self.now.shape.b = omega (arith, one_shl c.args.self.now.shape.b 64 (omega (arith, c.args.self.now.shape.below, c.args.self.now.shape.narrow)), c.loop-slot-test.true) in
      c.move_slot.ensures.after mix es law st here hold (c.loop-slot.invariant.2 mix es law st hold to),
)

pub returns-in_err-map_err : goal.returns-in_err-map_err
returns-in_err-map_err g c =
    let at = turned _ c.form.result c.map_err.result c.in_err-map_err.field-0.0 c.in_err-map_err.was c.map_err.ensures.cases in
    let never : (sound : _) (fit : _) → ⊥ = λ sound fit.
    not_both c.form.result tt at.0 (c.form.ensures.value sound ∙ ap (λ t. (formed_at (g.B.Table.means c.args.second.now) c.args.self.now.shape.k c.args.self.now.shape.v (c.args.self.now.shape.b + 1) t).1) fit) at.1 in
    record {
      value = λ mix es law st sound fit hold. absurd (never sound fit);
      after = λ mix es law st sound fit hold. absurd (never sound fit);
      len = c.form.ensures.len;
      fits = c.form.ensures.fits;
    }

pub returns-in_err-move_slot : goal.returns-in_err-move_slot
returns-in_err-move_slot g c = record {
  value = λ mix es law st sound fit hold.
      let here : c.loop-slot.slot < 2 ^ c.args.self.now.shape.b = omega (arith, one_shl c.args.self.now.shape.b 64 (omega (arith, c.args.self.now.shape.below, c.args.self.now.shape.narrow)), c.loop-slot-test.true) in
      let to = formed_stores c.args.self.now.shape.b c.args.second.now c.form.new.self st.widths (c.form.ensures.sound sound) fit (c.form.ensures.after sound) in
      absurd (not_both c.move_slot.result tt c.in_err-move_slot.field-0.0 (c.move_slot.ensures.value mix es law st here hold (c.loop-slot.invariant.2 mix es law st hold to)) c.in_err-move_slot.was);
  after = λ mix es law st sound fit hold.
      let here : c.loop-slot.slot < 2 ^ c.args.self.now.shape.b = omega (arith, one_shl c.args.self.now.shape.b 64 (omega (arith, c.args.self.now.shape.below, c.args.self.now.shape.narrow)), c.loop-slot-test.true) in
      let to = formed_stores c.args.self.now.shape.b c.args.second.now c.form.new.self st.widths (c.form.ensures.sound sound) fit (c.form.ensures.after sound) in
      absurd (not_both c.move_slot.result tt c.in_err-move_slot.field-0.0 (c.move_slot.ensures.value mix es law st here hold (c.loop-slot.invariant.2 mix es law st hold to)) c.in_err-move_slot.was);
  len = c.move_slot.ensures.len ∙ c.loop-slot.invariant.0 ∙ c.form.ensures.len;
  fits = c.move_slot.ensures.fits ∙ c.loop-slot.invariant.1 ∙ c.form.ensures.fits;
}

pub returns : goal.returns
returns g c = record {
  value = λ mix es law st sound fit hold. refl;
  after = λ mix es law st sound fit hold.
      let slot : ℕ → ℕ = slot_of mix.forth c.args.self.now.shape.k c.args.self.now.shape.b in
      let all : c.loop-slot.slot ≡ 2 ^ c.args.self.now.shape.b = omega (arith, one_shl c.args.self.now.shape.b 64 (omega (arith, c.args.self.now.shape.below, c.args.self.now.shape.narrow)), c.loop-slot-test.false, c.loop-slot.auto.slot-end) in
      let to = formed_stores c.args.self.now.shape.b c.args.second.now c.form.new.self st.widths (c.form.ensures.sound sound) fit (c.form.ensures.after sound) in
      filled_stores c.args.self.now.shape.b c.loop-slot.second es st c.args.self.now.shape.below
      (subst (λ n. Stores g.B.Table mix c.loop-slot.second c.args.self.now.shape.k c.args.self.now.shape.v (c.args.self.now.shape.b + 1) (take (length (walk slot n es)) (walk slot (2 ^ c.args.self.now.shape.b) es))) all
      (c.loop-slot.invariant.2 mix es law st hold to));
  len = c.loop-slot.invariant.0 ∙ c.form.ensures.len;
  fits = c.loop-slot.invariant.1 ∙ c.form.ensures.fits;
}
