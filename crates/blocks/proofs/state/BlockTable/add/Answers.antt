use Rattle.std.proofs.Common.{◌≡◌, ◌-◌, [], take, drop, Ok, Err, slice_index_or, sym, refl, ap, ◌∙◌, add-zero, rules}
use Rattle.table.specs.Meaning.{total, value_in, weigh_held}
use Rattle.blocks.specs.Means.{items}
use Rattle.blocks.specs.Slots.{group_in, entries_in}
use Rattle.blocks.proofs.Called.{given_here, slot_below, fits_here, read_at, moved_copy, stood, free_reply, add_here}
use Rattle.blocks.proofs.state.BlockTable.add.Goals as goal

pub returns-in_err-weigh : goal.returns-in_err-weigh
returns-in_err-weigh g c =
    let t = c.args.self.now in
    let at = c.in_ok-at.at in
    let cp = c.slot_at.result in
    let weighed : c.weigh.result ≡ weigh_held g.L.Blocks.layout.C (total (g.L.Blocks.layout.read at.shape.k at.shape.v at.shape.b (take (at.end - at.start) (drop at.start (items t))))) (value_in (slice_index_or (g.L.Blocks.layout.read at.shape.k at.shape.v at.shape.b (take (at.end - at.start) (drop at.start (items t)))) at.slot []) c.args.quotient) =
    moved_copy g.L.Blocks.layout g.met.L.Blocks.lawful (items t) t.shape t.well t.exact c.args.slot c.args.quotient c.args.value at c.in_ok-at.ensures.value (items t) refl
    (λ G j. c.weigh.result ≡ weigh_held g.L.Blocks.layout.C (total G) (value_in (slice_index_or G j []) c.args.quotient))
    cp.shape cp.slot cp.block.now c.slot_at.ensures.block c.slot_at.ensures.shape c.slot_at.ensures.slot
    (c.weigh.ensures.value ∙ ap (λ x. weigh_held g.L.Blocks.layout.C x (value_in (entries_in cp) c.args.quotient)) (add-zero (total (group_in cp)))) in
    let r = stood g.L.Blocks.layout (items t) t.shape c.args.slot c.args.quotient c.args.value at.shape at.slot _ (read_at g.L.Blocks.layout g.met.L.Blocks.lawful (items t) t.shape t.well t.exact c.args.slot c.args.quotient c.args.value at c.in_ok-at.ensures.value (items t) refl)
    c.in_err-weigh.field-0.0 (sym weighed ∙ c.in_err-weigh.was) in
    let e : c.from_residual-in_err-weigh.result ≡ Err c.in_err-weigh.field-0.0 = search rules in
    record { after = ap (λ x. x.0) r; value = e ∙ ap (λ x. x.1) r; len = refl }

pub put-requires : goal.put-requires
put-requires g c =
    let t = c.args.self.now in
    let at = c.in_ok-at.at in
    let cp = c.slot_at.result in
    let weighed : c.weigh.result ≡ weigh_held g.L.Blocks.layout.C (total (g.L.Blocks.layout.read at.shape.k at.shape.v at.shape.b (take (at.end - at.start) (drop at.start c.deref_mut.result.now)))) (value_in (slice_index_or (g.L.Blocks.layout.read at.shape.k at.shape.v at.shape.b (take (at.end - at.start) (drop at.start c.deref_mut.result.now))) at.slot []) c.args.quotient) =
    moved_copy g.L.Blocks.layout g.met.L.Blocks.lawful (items t) t.shape t.well t.exact c.args.slot c.args.quotient c.args.value at c.in_ok-at.ensures.value c.deref_mut.result.now c.deref_mut.ensures.value
    (λ G j. c.weigh.result ≡ weigh_held g.L.Blocks.layout.C (total G) (value_in (slice_index_or G j []) c.args.quotient))
    cp.shape cp.slot cp.block.now (c.slot_at.ensures.block ∙ ap (λ x. take (at.end - at.start) (drop at.start x)) (sym c.deref_mut.ensures.value)) c.slot_at.ensures.shape c.slot_at.ensures.slot
    (c.weigh.ensures.value ∙ ap (λ x. weigh_held g.L.Blocks.layout.C x (value_in (entries_in cp) c.args.quotient)) (add-zero (total (group_in cp)))) in
    record {
      given = given_here g.L.Blocks.layout g.met.L.Blocks.lawful (items t) t.shape t.well t.exact c.args.slot c.args.quotient c.args.value at c.in_ok-at.ensures.value c.deref_mut.result.now c.deref_mut.ensures.value;
      slot = slot_below g.L.Blocks.layout g.met.L.Blocks.lawful (items t) t.shape t.well t.exact c.args.slot c.args.quotient c.args.value at c.in_ok-at.ensures.value;
      fits = fits_here g.L.Blocks.layout g.met.L.Blocks.lawful (items t) t.shape t.well t.exact c.args.slot c.args.quotient c.args.value at c.in_ok-at.ensures.value;
      free = sym weighed ∙ c.in_ok-weigh.was;
    }

pub invariant_of-self : goal.invariant_of-self
invariant_of-self g c =
    let t = c.args.self.now in
    let at = c.in_ok-at.at in
    let cp = c.slot_at.result in
    let weighed : c.weigh.result ≡ weigh_held g.L.Blocks.layout.C (total (g.L.Blocks.layout.read at.shape.k at.shape.v at.shape.b (take (at.end - at.start) (drop at.start c.deref_mut.result.now)))) (value_in (slice_index_or (g.L.Blocks.layout.read at.shape.k at.shape.v at.shape.b (take (at.end - at.start) (drop at.start c.deref_mut.result.now))) at.slot []) c.args.quotient) =
    moved_copy g.L.Blocks.layout g.met.L.Blocks.lawful (items t) t.shape t.well t.exact c.args.slot c.args.quotient c.args.value at c.in_ok-at.ensures.value c.deref_mut.result.now c.deref_mut.ensures.value
    (λ G j. c.weigh.result ≡ weigh_held g.L.Blocks.layout.C (total G) (value_in (slice_index_or G j []) c.args.quotient))
    cp.shape cp.slot cp.block.now (c.slot_at.ensures.block ∙ ap (λ x. take (at.end - at.start) (drop at.start x)) (sym c.deref_mut.ensures.value)) c.slot_at.ensures.shape c.slot_at.ensures.slot
    (c.weigh.ensures.value ∙ ap (λ x. weigh_held g.L.Blocks.layout.C x (value_in (entries_in cp) c.args.quotient)) (add-zero (total (group_in cp)))) in
    let free = sym weighed ∙ c.in_ok-weigh.was in
    let step = add_here g.L.Blocks.layout g.met.L.Blocks.lawful t.words t.shape t.well t.exact c.args.slot c.args.quotient c.args.value at c.in_ok-at.ensures.value
    c.deref_mut.result.now c.deref_mut.ensures.value c.put.new.block (Ok tt) c.put.ensures.after
    (free_reply g.L.Blocks.layout.C (g.L.Blocks.layout.read at.shape.k at.shape.v at.shape.b (take (at.end - at.start) (drop at.start c.deref_mut.result.now))) at.slot c.args.quotient c.args.value free) in
    record { well = ∣ step.stands.well ∣₁; exact = step.stands.exact }

pub returns : goal.returns
returns g c =
    let t = c.args.self.now in
    let at = c.in_ok-at.at in
    let cp = c.slot_at.result in
    let weighed : c.weigh.result ≡ weigh_held g.L.Blocks.layout.C (total (g.L.Blocks.layout.read at.shape.k at.shape.v at.shape.b (take (at.end - at.start) (drop at.start c.deref_mut.result.now)))) (value_in (slice_index_or (g.L.Blocks.layout.read at.shape.k at.shape.v at.shape.b (take (at.end - at.start) (drop at.start c.deref_mut.result.now))) at.slot []) c.args.quotient) =
    moved_copy g.L.Blocks.layout g.met.L.Blocks.lawful (items t) t.shape t.well t.exact c.args.slot c.args.quotient c.args.value at c.in_ok-at.ensures.value c.deref_mut.result.now c.deref_mut.ensures.value
    (λ G j. c.weigh.result ≡ weigh_held g.L.Blocks.layout.C (total G) (value_in (slice_index_or G j []) c.args.quotient))
    cp.shape cp.slot cp.block.now (c.slot_at.ensures.block ∙ ap (λ x. take (at.end - at.start) (drop at.start x)) (sym c.deref_mut.ensures.value)) c.slot_at.ensures.shape c.slot_at.ensures.slot
    (c.weigh.ensures.value ∙ ap (λ x. weigh_held g.L.Blocks.layout.C x (value_in (entries_in cp) c.args.quotient)) (add-zero (total (group_in cp)))) in
    let free = sym weighed ∙ c.in_ok-weigh.was in
    let step = add_here g.L.Blocks.layout g.met.L.Blocks.lawful t.words t.shape t.well t.exact c.args.slot c.args.quotient c.args.value at c.in_ok-at.ensures.value
    c.deref_mut.result.now c.deref_mut.ensures.value c.put.new.block (Ok tt) c.put.ensures.after
    (free_reply g.L.Blocks.layout.C (g.L.Blocks.layout.read at.shape.k at.shape.v at.shape.b (take (at.end - at.start) (drop at.start c.deref_mut.result.now))) at.slot c.args.quotient c.args.value free) in
    record { after = step.stands.means; value = step.value; len = step.stands.long }
