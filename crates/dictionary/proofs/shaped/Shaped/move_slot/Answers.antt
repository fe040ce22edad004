use Rattle.std.proofs.Common.{◌≡◌, ℕ, ◌+◌, ◌^◌, ◌<◌, length, take, Some, None, sym, refl, ap, ◌∙◌, subst, rules, arith}
use Rattle.model.specs.Entries.{walk}
use Rattle.dictionary.specs.Stored.{Stores, in_slot, slot_of}
use Rattle.dictionary.proofs.Lawful.{some_slot}
use Rattle.dictionary.proofs.Moving.{lawful_mixes, turn_ok, turn_stores}
use Rattle.dictionary.proofs.Runs.{not_both}
use Rattle.dictionary.proofs.Scans.{turned, turned_ok}
use Rattle.dictionary.proofs.Walked.{permuted_told, size_told, some_none, walk_next}
use Rattle.dictionary.proofs.shaped.Shaped.move_slot.Goals as goal

pub loop-i-preserved : goal.loop-i-preserved
loop-i-preserved g c = (
  c.add.ensures.len ∙ c.loop-i.invariant.0,
  c.add.ensures.fits ∙ c.loop-i.invariant.1,
  λ mix es law st here hold to.
      let size = turned_ok _ c.size.result c.map_err.result c.in_ok-size.size (length (in_slot (slot_of mix.forth c.args.self.now.shape.k c.args.self.now.shape.b) c.args.slot es)) c.in_ok-size.was (size_told st c.args.slot here c.size.result c.size.ensures.value) c.map_err.ensures.cases in
      let less = subst (λ n. c.loop-i.i < n) size c.loop-i-test.true in
      let there = permuted_told mix.forth (in_slot (slot_of mix.forth c.args.self.now.shape.k c.args.self.now.shape.b) c.args.slot es) c.loop-i.i less c.permuted_at.result (c.permuted_at.ensures mix es st here) in
      let at : c.permuted_at.result ≡ Some (c.in_ok-y.y, c.in_ok-y.w) = search rules in
      turn_stores g.met.A.Table.well st (some_slot g.B.Table.group g.met.B.Table.grouped) (lawful_mixes mix law c.args.self.now.shape.k st.widths) c.args.self.now.shape.below hold c.args.slot c.loop-i.i here less
      (c.loop-i.invariant.2 mix es law st here hold to) (sym at ∙ there) c.place_in_twice-place.ensures.slot c.place_in_twice-place.ensures.quotient
      c.add.new.self c.add.ensures.sound c.add.ensures.after,
)

pub returns-in_err-size : goal.returns-in_err-size
returns-in_err-size g c =
    let at = turned _ c.size.result c.map_err.result c.in_err-size.field-0.0 c.in_err-size.was c.map_err.ensures.cases in
    record {
      value = λ mix es law st here hold to. absurd (not_both c.size.result _ at.0 (size_told st c.args.slot here c.size.result c.size.ensures.value) at.1);
      after = λ mix es law st here hold to. absurd (not_both c.size.result _ at.0 (size_told st c.args.slot here c.size.result c.size.ensures.value) at.1);
      len = refl;
      fits = refl;
    }

pub returns-in_err-y-clause-value : goal.returns-in_err-y-clause-value
returns-in_err-y-clause-value g c mix es law st here hold to =
    let size = turned_ok _ c.size.result c.map_err.result c.in_ok-size.size (length (in_slot (slot_of mix.forth c.args.self.now.shape.k c.args.self.now.shape.b) c.args.slot es)) c.in_ok-size.was (size_told st c.args.slot here c.size.result c.size.ensures.value) c.map_err.ensures.cases in
    let less = subst (λ n. c.loop-i.i < n) size c.loop-i-test.true in
    let there = permuted_told mix.forth (in_slot (slot_of mix.forth c.args.self.now.shape.k c.args.self.now.shape.b) c.args.slot es) c.loop-i.i less c.permuted_at.result (c.permuted_at.ensures mix es st here) in
    let at : c.permuted_at.result ≡ None = search rules in
    absurd (some_none c.permuted_at.result _ there at)

pub returns-in_err-y-clause-after : goal.returns-in_err-y-clause-after
returns-in_err-y-clause-after g c mix es law st here hold to =
    let size = turned_ok _ c.size.result c.map_err.result c.in_ok-size.size (length (in_slot (slot_of mix.forth c.args.self.now.shape.k c.args.self.now.shape.b) c.args.slot es)) c.in_ok-size.was (size_told st c.args.slot here c.size.result c.size.ensures.value) c.map_err.ensures.cases in
    let less = subst (λ n. c.loop-i.i < n) size c.loop-i-test.true in
    let there = permuted_told mix.forth (in_slot (slot_of mix.forth c.args.self.now.shape.k c.args.self.now.shape.b) c.args.slot es) c.loop-i.i less c.permuted_at.result (c.permuted_at.ensures mix es st here) in
    let at : c.permuted_at.result ≡ None = search rules in
    absurd (some_none c.permuted_at.result _ there at)

pub returns-in_err-map_err-clause-value : goal.returns-in_err-map_err-clause-value
returns-in_err-map_err-clause-value g c mix es law st here hold to =
    let size = turned_ok _ c.size.result c.map_err.result c.in_ok-size.size (length (in_slot (slot_of mix.forth c.args.self.now.shape.k c.args.self.now.shape.b) c.args.slot es)) c.in_ok-size.was (size_told st c.args.slot here c.size.result c.size.ensures.value) c.map_err.ensures.cases in
    let less = subst (λ n. c.loop-i.i < n) size c.loop-i-test.true in
    let there = permuted_told mix.forth (in_slot (slot_of mix.forth c.args.self.now.shape.k c.args.self.now.shape.b) c.args.slot es) c.loop-i.i less c.permuted_at.result (c.permuted_at.ensures mix es st here) in
    let at : c.permuted_at.result ≡ Some (c.in_ok-y.y, c.in_ok-y.w) = search rules in
    let e = turned _ c.add.result c.map_err-in-loop-i.result c.in_err-map_err.field-0.0 c.in_err-map_err.was c.map_err-in-loop-i.ensures.cases in
    absurd (not_both c.add.result tt e.0
    (turn_ok g.met.A.Table.well st (some_slot g.B.Table.group g.met.B.Table.grouped) (lawful_mixes mix law c.args.self.now.shape.k st.widths) c.args.self.now.shape.below hold c.args.slot c.loop-i.i here less
    (c.loop-i.invariant.2 mix es law st here hold to) (sym at ∙ there) c.place_in_twice-place.ensures.slot c.place_in_twice-place.ensures.quotient
    c.add.result c.add.ensures.value) e.1)

pub returns-in_err-map_err-clause-after : goal.returns-in_err-map_err-clause-after
returns-in_err-map_err-clause-after g c mix es law st here hold to =
    let size = turned_ok _ c.size.result c.map_err.result c.in_ok-size.size (length (in_slot (slot_of mix.forth c.args.self.now.shape.k c.args.self.now.shape.b) c.args.slot es)) c.in_ok-size.was (size_told st c.args.slot here c.size.result c.size.ensures.value) c.map_err.ensures.cases in
    let less = subst (λ n. c.loop-i.i < n) size c.loop-i-test.true in
    let there = permuted_told mix.forth (in_slot (slot_of mix.forth c.args.self.now.shape.k c.args.self.now.shape.b) c.args.slot es) c.loop-i.i less c.permuted_at.result (c.permuted_at.ensures mix es st here) in
    let at : c.permuted_at.result ≡ Some (c.in_ok-y.y, c.in_ok-y.w) = search rules in
    let e = turned _ c.add.result c.map_err-in-loop-i.result c.in_err-map_err.field-0.0 c.in_err-map_err.was c.map_err-in-loop-i.ensures.cases in
    absurd (not_both c.add.result tt e.0
    (turn_ok g.met.A.Table.well st (some_slot g.B.Table.group g.met.B.Table.grouped) (lawful_mixes mix law c.args.self.now.shape.k st.widths) c.args.self.now.shape.below hold c.args.slot c.loop-i.i here less
    (c.loop-i.invariant.2 mix es law st here hold to) (sym at ∙ there) c.place_in_twice-place.ensures.slot c.place_in_twice-place.ensures.quotient
    c.add.result c.add.ensures.value) e.1)

pub returns-clause-after : goal.returns-clause-after
returns-clause-after g c mix es law st here hold to =
    let slot : ℕ → ℕ = slot_of mix.forth c.args.self.now.shape.k c.args.self.now.shape.b in
    let size : c.in_ok-size.size ≡ length (in_slot slot c.args.slot es) = turned_ok _ c.size.result c.map_err.result c.in_ok-size.size (length (in_slot slot c.args.slot es)) c.in_ok-size.was (size_told st c.args.slot here c.size.result c.size.ensures.value) c.map_err.ensures.cases in
    let e : c.loop-i.i ≡ c.in_ok-size.size = omega (arith, c.loop-i-test.false, c.loop-i.auto.i-end) in
    let all : length (walk slot c.args.slot es) + c.loop-i.i ≡ length (walk slot (c.args.slot + 1) es) = ap (λ n. length (walk slot c.args.slot es) + n) (e ∙ size) ∙ sym (walk_next slot es c.args.slot) in
    subst (λ n. Stores g.B.Table mix c.loop-i.second c.args.self.now.shape.k c.args.self.now.shape.v (c.args.self.now.shape.b + 1) (take n (walk slot (2 ^ c.args.self.now.shape.b) es))) all
    (c.loop-i.invariant.2 mix es law st here hold to)
