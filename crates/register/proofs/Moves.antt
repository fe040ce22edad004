-- An enlargement: from the table in use into the other.
use Rattle.std.proofs.Common.{◌≡◌, ℕ, ◌+◌, Ok, Err, Result, sym, ap, ◌∙◌}
use Rattle.coding.specs.declared.Coding as coding
use Rattle.permutation.specs.declared.Permutation as permutation
use Rattle.table.specs.declared.table.Table as table
use Rattle.table.specs.Meaning.{unformed}
use Rattle.model.specs.declared.refusal.Refusal.{Refusal}
use Rattle.model.specs.Entries.{Entries, groups_hold}
use Rattle.model.specs.Laws.{LawfulMixing}
use Rattle.model.specs.Model.{Fixed, Mixing, Side, State, kind, on_first, on_second, opened, other}
use Rattle.model.specs.Step.{larger_fits, room_judged}
use Rattle.dictionary.specs.Stored.{Stores, mixing, slot_of}
use Rattle.dictionary.specs.Results.{moved}
use Rattle.register.specs.declared.in_use.InUse.{InUse}
use Rattle.register.specs.declared.state.Opened.{Opened}
use Rattle.register.specs.declared.state.Register.{Register}
use Rattle.register.specs.Fixed.{fixed}
use Rattle.register.specs.Stands.{Means, Stands, side_of}
use Rattle.register.specs.Numbers.{Chosen, MoveEnds, enlarged, reopened}
use Rattle.register.proofs.OnSides.{first_stands, second_stands, stores_at, with_both}

-- the machine judges by fit, S and C of the side that is not in use
module _ {K V : Type 0} (f : Fixed K V) (t : State) (s : Side) (e : s ≡ t.side) where
  pub fits_as : (kind f (other s)).fits f.keys.width f.values.width (t.b + 1) ≡ larger_fits f t
  fits_as = ap (λ x. (kind f (other x)).fits f.keys.width f.values.width (t.b + 1)) e

  pub room_as : groups_hold (slot_of f.mix.forth f.keys.width (t.b + 1)) (kind f (other s)).group (kind f (other s)).limit t.list ≡ room_judged f t
  room_as = ap (λ x. groups_hold (slot_of f.mix.forth f.keys.width (t.b + 1)) (kind f (other x)).group (kind f (other x)).limit t.list) e

-- both tables as they were
pub both_same : {K V P A B T U : Type 0} (r : Register K V P A B T U) (a : A) (b : B) → a ≡ r.first → b ≡ r.second → with_both r a b ≡ r
both_same r a b p q = ap (λ x. with_both r x b) p ∙ ap (with_both r r.first) q

module _ {K T V U P A B : Type 0} {kc : coding.Ghosts K T} {vc : coding.Ghosts V U} {pm : permutation.Ghosts P} {ta : table.Ghosts A} {tb : table.Ghosts B} where
  -- from a table of one kind, y, into one of another, z; what they are after it is marked
  pub move_ends : {X Y : Type 0} (tx : table.Ghosts X) (ty : table.Ghosts Y) (r s : Register K V P A B T U) (t : State) (u : InUse) (x : Result (Unit {0}) Refusal) (y y' : X) (z z' : Y)
      → LawfulMixing (mixing pm r.permutation) → Chosen kc vc pm ta tb r t u
      → Stores tx (mixing pm r.permutation) y (kc.width r.keys) (vc.width r.values) t.b t.list → ty.sound z
      → ((mix : Mixing) (l : Entries) → LawfulMixing mix → Stores tx mix y u.shape.k u.shape.v u.shape.b l → ty.sound z
      → x ≡ moved (ty.fits z u.shape.k u.shape.v (u.shape.b + 1)) (groups_hold (slot_of mix.forth u.shape.k (u.shape.b + 1)) ty.group ty.limit l))
      → ((mix : Mixing) (l : Entries) → LawfulMixing mix → Stores tx mix y u.shape.k u.shape.v u.shape.b l → ty.sound z
      → x ≡ Ok tt → Stores ty mix z' u.shape.k u.shape.v (u.shape.b + 1) l)
      → (x ≡ Ok tt → tx.sound y' × (tx.means y' ≡ unformed))
      → ((mix : Mixing) (l : Entries) → LawfulMixing mix → Stores tx mix y u.shape.k u.shape.v u.shape.b l → ty.sound z
      → (e : Refusal) → x ≡ Err e → (y' ≡ y) × (z' ≡ z))
      → ty.fits z (kc.width r.keys) (vc.width r.values) (t.b + 1) ≡ larger_fits (fixed kc vc pm ta tb r) t
      → groups_hold (slot_of (pm.forth r.permutation) (kc.width r.keys) (t.b + 1)) ty.group ty.limit t.list ≡ room_judged (fixed kc vc pm ta tb r) t
      → (y' ≡ y → z' ≡ z → s ≡ r)
      → (Means tx y' unformed → Stores ty (mixing pm r.permutation) z' (kc.width r.keys) (vc.width r.values) (t.b + 1) t.list
      → (o : Opened) → side_of o.side ≡ other t.side → o.b ≡ t.b + 1 → Stands kc vc pm ta tb (reopened s o) (opened (enlarged t)))
      → MoveEnds kc vc pm ta tb r s t x
  move_ends tx ty r s t u x y y' z z' law chosen stored sound value after cleared kept fits room same rebuilt =
      let k = kc.width r.keys in
      let v = vc.width r.values in
      let forth = pm.forth r.permutation in
      let mix = mixing pm r.permutation in
      let at = stores_at u.shape.k u.shape.v u.shape.b chosen.k chosen.v chosen.b stored in
      let judged : (k' v' b' : ℕ) → Result (Unit {0}) Refusal = λ k' v' b'. moved (ty.fits z k' v' (b' + 1)) (groups_hold (slot_of forth k' (b' + 1)) ty.group ty.limit t.list) in
      record {
        says = value mix t.list law at sound
            ∙ ap (λ j. judged j u.shape.v u.shape.b) chosen.k ∙ ap (λ j. judged k j u.shape.b) chosen.v ∙ ap (judged k v) chosen.b
            ∙ ap (λ a. moved a (groups_hold (slot_of forth k (t.b + 1)) ty.group ty.limit t.list)) fits ∙ ap (moved (larger_fits (fixed kc vc pm ta tb r) t)) room;
        then = λ ok.
            let done = cleared ok in
            rebuilt (record { sound = done.0; means = done.1 })
            (stores_at k v (t.b + 1) (sym chosen.k) (sym chosen.v) (ap (λ j. j + 1) (sym chosen.b)) (after mix t.list law at sound ok));
        kept = λ e err. let both = kept mix t.list law at sound e err in same both.0 both.1;
      }

  module _ (r : Register K V P A B T U) (a : A) (b : B) where
    module _ (t : State) (st : Stands kc vc pm ta tb r (opened t)) where
      -- from the first table into the second
      pub moved_second : on_first ≡ t.side → Means ta a unformed → Stores tb (mixing pm r.permutation) b (kc.width r.keys) (vc.width r.values) (t.b + 1) t.list
          → (o : Opened) → side_of o.side ≡ other t.side → o.b ≡ t.b + 1 → Stands kc vc pm ta tb (reopened (with_both r a b) o) (opened (enlarged t))
      moved_second e idle stored o side is_b =
          second_stands (reopened (with_both r a b) o) (enlarged t) (ap other e) (side, is_b) st.count (record { sound = stored.sound; means = stored.means }) idle
          (record { widths = st.listed.widths; below = st.listed.below; apart = st.listed.apart; known = st.listed.known })

      -- from the second table into the first
      pub moved_first : on_second ≡ t.side → Means tb b unformed → Stores ta (mixing pm r.permutation) a (kc.width r.keys) (vc.width r.values) (t.b + 1) t.list
          → (o : Opened) → side_of o.side ≡ other t.side → o.b ≡ t.b + 1 → Stands kc vc pm ta tb (reopened (with_both r a b) o) (opened (enlarged t))
      moved_first e idle stored o side is_b =
          first_stands (reopened (with_both r a b) o) (enlarged t) (ap other e) (side, is_b) st.count (record { sound = stored.sound; means = stored.means }) idle
          (record { widths = st.listed.widths; below = st.listed.below; apart = st.listed.apart; known = st.listed.known })
