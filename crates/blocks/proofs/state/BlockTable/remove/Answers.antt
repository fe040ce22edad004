use Rattle.std.proofs.Common.{◌≡◌, ◌-◌, [], take, drop, Some, None, Ok, Err, slice_index_or, sym, refl, ap, subst, ◌∙◌, rules}
use Rattle.table.specs.declared.refusal.TableRefusal.TheVariants.{Absent}
use Rattle.table.specs.Places.{Placed}
use Rattle.blocks.specs.Means.{items}
use Rattle.blocks.specs.Slots.{entries_in}
use Rattle.blocks.proofs.Called.{given_here, slot_below, read_at, moved_copy, absent, out_reply, remove_here}
use Rattle.blocks.proofs.state.BlockTable.remove.Goals as goal

pub returns-in_err-i : goal.returns-in_err-i
returns-in_err-i g c =
    let t = c.args.self.now in
    let at = c.in_ok-at.at in
    let cp = c.slot_at.result in
    let is : c.place.result ≡ None = search rules in
    let p : Placed (slice_index_or (g.L.Blocks.layout.read at.shape.k at.shape.v at.shape.b (take (at.end - at.start) (drop at.start (items t)))) at.slot []) c.args.quotient None =
    moved_copy g.L.Blocks.layout g.met.L.Blocks.lawful (items t) t.shape t.well t.exact c.args.slot c.args.quotient 0 at c.in_ok-at.ensures.value (items t) refl (λ G j. Placed (slice_index_or G j []) c.args.quotient None)
    cp.shape cp.slot cp.block.now c.slot_at.ensures.block c.slot_at.ensures.shape c.slot_at.ensures.slot
    (subst (Placed (entries_in cp) c.args.quotient) is c.place.ensures.value) in
    let r = absent g.L.Blocks.layout (items t) t.shape c.args.slot c.args.quotient 0 at.shape at.slot _ (read_at g.L.Blocks.layout g.met.L.Blocks.lawful (items t) t.shape t.well t.exact c.args.slot c.args.quotient 0 at c.in_ok-at.ensures.value (items t) refl) p in
    let e : c.from_residual-in_err-i.result ≡ Err Absent = search rules in
    record { after = ap (λ x. x.0) r; value = e ∙ ap (λ x. x.1) r; len = refl }

pub take_out-requires : goal.take_out-requires
take_out-requires g c =
    let t = c.args.self.now in
    let at = c.in_ok-at.at in
    let cp = c.slot_at.result in
    let is : c.place.result ≡ Some c.in_ok-i.i = search rules in
    let p : Placed (slice_index_or (g.L.Blocks.layout.read at.shape.k at.shape.v at.shape.b (take (at.end - at.start) (drop at.start c.deref_mut.result.now))) at.slot []) c.args.quotient (Some c.in_ok-i.i) =
    moved_copy g.L.Blocks.layout g.met.L.Blocks.lawful (items t) t.shape t.well t.exact c.args.slot c.args.quotient 0 at c.in_ok-at.ensures.value c.deref_mut.result.now c.deref_mut.ensures.value (λ G j. Placed (slice_index_or G j []) c.args.quotient (Some c.in_ok-i.i))
    cp.shape cp.slot cp.block.now (c.slot_at.ensures.block ∙ ap (λ x. take (at.end - at.start) (drop at.start x)) (sym c.deref_mut.ensures.value)) c.slot_at.ensures.shape c.slot_at.ensures.slot
    (subst (Placed (entries_in cp) c.args.quotient) is c.place.ensures.value) in
    record {
      given = given_here g.L.Blocks.layout g.met.L.Blocks.lawful (items t) t.shape t.well t.exact c.args.slot c.args.quotient 0 at c.in_ok-at.ensures.value c.deref_mut.result.now c.deref_mut.ensures.value;
      slot = slot_below g.L.Blocks.layout g.met.L.Blocks.lawful (items t) t.shape t.well t.exact c.args.slot c.args.quotient 0 at c.in_ok-at.ensures.value;
      place = p.inside;
    }

pub invariant_of-self : goal.invariant_of-self
invariant_of-self g c =
    let t = c.args.self.now in
    let at = c.in_ok-at.at in
    let cp = c.slot_at.result in
    let is : c.place.result ≡ Some c.in_ok-i.i = search rules in
    let p : Placed (slice_index_or (g.L.Blocks.layout.read at.shape.k at.shape.v at.shape.b (take (at.end - at.start) (drop at.start c.deref_mut.result.now))) at.slot []) c.args.quotient (Some c.in_ok-i.i) =
    moved_copy g.L.Blocks.layout g.met.L.Blocks.lawful (items t) t.shape t.well t.exact c.args.slot c.args.quotient 0 at c.in_ok-at.ensures.value c.deref_mut.result.now c.deref_mut.ensures.value (λ G j. Placed (slice_index_or G j []) c.args.quotient (Some c.in_ok-i.i))
    cp.shape cp.slot cp.block.now (c.slot_at.ensures.block ∙ ap (λ x. take (at.end - at.start) (drop at.start x)) (sym c.deref_mut.ensures.value)) c.slot_at.ensures.shape c.slot_at.ensures.slot
    (subst (Placed (entries_in cp) c.args.quotient) is c.place.ensures.value) in
    let reply = out_reply (g.L.Blocks.layout.read at.shape.k at.shape.v at.shape.b (take (at.end - at.start) (drop at.start c.deref_mut.result.now))) at.slot c.args.quotient c.in_ok-i.i p in
    let step = remove_here g.L.Blocks.layout g.met.L.Blocks.lawful t.words t.shape t.well t.exact c.args.slot c.args.quotient 0 at c.in_ok-at.ensures.value
    c.deref_mut.result.now c.deref_mut.ensures.value c.take_out.new.block (Ok c.take_out.result)
    (c.take_out.ensures.after ∙ ap (λ x. g.L.Blocks.layout.block at.shape.k at.shape.v at.shape.b x.0) reply)
    (ap Ok c.take_out.ensures.value ∙ ap (λ x. x.1) reply) in
    record { well = ∣ step.stands.well ∣₁; exact = step.stands.exact }

pub returns : goal.returns
returns g c =
    let t = c.args.self.now in
    let at = c.in_ok-at.at in
    let cp = c.slot_at.result in
    let is : c.place.result ≡ Some c.in_ok-i.i = search rules in
    let p : Placed (slice_index_or (g.L.Blocks.layout.read at.shape.k at.shape.v at.shape.b (take (at.end - at.start) (drop at.start c.deref_mut.result.now))) at.slot []) c.args.quotient (Some c.in_ok-i.i) =
    moved_copy g.L.Blocks.layout g.met.L.Blocks.lawful (items t) t.shape t.well t.exact c.args.slot c.args.quotient 0 at c.in_ok-at.ensures.value c.deref_mut.result.now c.deref_mut.ensures.value (λ G j. Placed (slice_index_or G j []) c.args.quotient (Some c.in_ok-i.i))
    cp.shape cp.slot cp.block.now (c.slot_at.ensures.block ∙ ap (λ x. take (at.end - at.start) (drop at.start x)) (sym c.deref_mut.ensures.value)) c.slot_at.ensures.shape c.slot_at.ensures.slot
    (subst (Placed (entries_in cp) c.args.quotient) is c.place.ensures.value) in
    let reply = out_reply (g.L.Blocks.layout.read at.shape.k at.shape.v at.shape.b (take (at.end - at.start) (drop at.start c.deref_mut.result.now))) at.slot c.args.quotient c.in_ok-i.i p in
    let step = remove_here g.L.Blocks.layout g.met.L.Blocks.lawful t.words t.shape t.well t.exact c.args.slot c.args.quotient 0 at c.in_ok-at.ensures.value
    c.deref_mut.result.now c.deref_mut.ensures.value c.take_out.new.block (Ok c.take_out.result)
    (c.take_out.ensures.after ∙ ap (λ x. g.L.Blocks.layout.block at.shape.k at.shape.v at.shape.b x.0) reply)
    (ap Ok c.take_out.ensures.value ∙ ap (λ x. x.1) reply) in
    record { after = step.stands.means; value = step.value; len = step.stands.long }
