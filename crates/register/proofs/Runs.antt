-- A run of key numbers, taken into or cancelled from the table in use.
use Rattle.std.proofs.Common.{◌≡◌, ℕ, zero, suc, not, ◌++◌, length, Err, Option, Result, sym, refl, ap, ◌∙◌, subst}
use Rattle.std.proofs.ByRecursion.{All-append, all_kept_by}
use Rattle.std.specs.List.{AllByRecursion as All}
use Rattle.coding.specs.declared.Coding as coding
use Rattle.permutation.specs.declared.Permutation as permutation
use Rattle.table.specs.declared.table.Table as table
use Rattle.model.specs.declared.run_refusal.RunRefusal.{RunRefusal}
use Rattle.model.specs.Entries.{Entries, cancel_refusal, run_of, take_refusal, within_run, without_run}
use Rattle.model.specs.Model.{Fixed, Side, State, kind, on_first, on_second, opened}
use Rattle.model.specs.Step as model
use Rattle.dictionary.specs.Stored.{Stores, mixing, slot_of}
use Rattle.dictionary.specs.Results.{InReach, cancel_judged, list_after, reply, take_judged}
use Rattle.dictionary.proofs.Runs.{judged_whole}
use Rattle.register.specs.declared.in_use.InUse.{InUse}
use Rattle.register.specs.declared.state.Register.{Register}
use Rattle.register.specs.Fixed.{fixed}
use Rattle.register.specs.Stands.{HasItem, Stands}
use Rattle.register.specs.Numbers.{Chosen, Reached, RunEnds, counted, relisted}
use Rattle.register.proofs.OnSides.{first_idle, first_stands, second_idle, second_stands, stores_at, uses_relisted, with_first, with_second}

-- the entries of a run have one value number
pub valued_run : (Q : ℕ → Type 0) (m w n : ℕ) → Q w → All (λ e. Q e.1) (run_of m w n)
valued_run Q m w zero h = tt
valued_run Q m w (suc n) h = (h, valued_run Q (suc m) w n h)

-- what the list knows after a take, and after a cancel
module _ {K V : Type 0} (f : Fixed K V) (l : Entries) (known : All (λ e. HasItem f e.1) l) where
  pub known_taken : (m w n : ℕ) → HasItem f w → All (λ e. HasItem f e.1) (l ++ run_of m w n)
  known_taken m w n h = All-append (λ e. HasItem f e.1) l (run_of m w n) known (valued_run (HasItem f) m w n h)

  pub known_left : (m n : ℕ) → All (λ e. HasItem f e.1) (without_run m n l)
  known_left m n = all_kept_by (λ e. not (within_run m n e.0)) (λ e. HasItem f e.1) l known

-- a run in reach is judged as the machine judges it, at equal widths
module _ (k v b k' v' b' : ℕ) (p : k' ≡ k) (q : v' ≡ v) (s : b' ≡ b) (m n w : ℕ) (reach : InReach k v m n w) (l : Entries) where
  pub take_as : (forth : ℕ → ℕ) (S C : ℕ) → take_judged (slot_of forth k' b') S C k' v' l m n w ≡ take_refusal (slot_of forth k b) S C l m w 0 n
  take_as forth S C =
      ap (λ j. take_judged (slot_of forth j b') S C j v' l m n w) p ∙ ap (λ j. take_judged (slot_of forth k b') S C k j l m n w) q
      ∙ ap (λ j. take_judged (slot_of forth k j) S C k v l m n w) s ∙ judged_whole k v m n w (λ c. take_refusal (slot_of forth k b) S C l m w 0 c) reach

  pub cancel_as : cancel_judged k' v' l m n w ≡ cancel_refusal l m w 0 n
  cancel_as =
      ap (λ j. cancel_judged j v' l m n w) p ∙ ap (λ j. cancel_judged k j l m n w) q ∙ judged_whole k v m n w (λ c. cancel_refusal l m w 0 c) reach

-- the machine judges by S and C of the side in use
pub on_side_judged : {K V : Type 0} (f : Fixed K V) (t : State) (m n w : ℕ) (s : Side) → s ≡ t.side
    → take_refusal (slot_of f.mix.forth f.keys.width t.b) (kind f s).group (kind f s).limit t.list m w 0 n ≡ model.take_judged f t m n w
on_side_judged f t m n w s e = ap (λ x. take_refusal (slot_of f.mix.forth f.keys.width t.b) (kind f x).group (kind f x).limit t.list m w 0 n) e

module _ {K T V U P A B : Type 0} {kc : coding.Ghosts K T} {vc : coding.Ghosts V U} {pm : permutation.Ghosts P} {ta : table.Ghosts A} {tb : table.Ghosts B} where
  -- a run that is refused or done, over the table in use of any kind: before it y, after it z
  pub run_ends : {X : Type 0} (tx : table.Ghosts X) (r s : Register K V P A B T U) (t : State) (new : Entries) (judged : Option RunRefusal) (x : Result (Unit {0}) RunRefusal) (y z : X)
      → x ≡ reply judged
      → Stores tx (mixing pm r.permutation) z (kc.width r.keys) (vc.width r.values) t.b (list_after t.list new judged)
      → ((e : RunRefusal) → x ≡ Err e → z ≡ y)
      → (z ≡ y → s ≡ r)
      → (Stores tx (mixing pm r.permutation) z (kc.width r.keys) (vc.width r.values) t.b new → Stands kc vc pm ta tb (counted s (length new)) (opened (relisted t new)))
      → s.count ≡ r.count
      → RunEnds kc vc pm ta tb r s t new judged x
  run_ends tx r s t new judged x y z value after kept same rebuilt count = record {
    says = value;
    then = λ none. rebuilt (subst (λ o. Stores tx (mixing pm r.permutation) z (kc.width r.keys) (vc.width r.values) t.b (list_after t.list new o)) none after);
    kept = λ e some. same (kept e (value ∙ ap reply some));
    count = count;
  }

  -- with another list in its first table
  pub first_relisted : (r : Register K V P A B T U) (t : State) (a : A) (new : Entries) → Stands kc vc pm ta tb r (opened t) → on_first ≡ t.side
      → All (λ e. HasItem (fixed kc vc pm ta tb r) e.1) new
      → Stores ta (mixing pm r.permutation) a (kc.width r.keys) (vc.width r.values) t.b new
      → Stands kc vc pm ta tb (counted (with_first r a) (length new)) (opened (relisted t new))
  first_relisted r t a new st e known stored =
      first_stands (counted (with_first r a) (length new)) (relisted t new) e (uses_relisted r.opened t new st.uses) refl
      (record { sound = stored.sound; means = stored.means }) (second_idle st e)
      (record { widths = stored.widths; below = stored.below; apart = stored.apart; known = known })

  -- with another list in its second table
  pub second_relisted : (r : Register K V P A B T U) (t : State) (b : B) (new : Entries) → Stands kc vc pm ta tb r (opened t) → on_second ≡ t.side
      → All (λ e. HasItem (fixed kc vc pm ta tb r) e.1) new
      → Stores tb (mixing pm r.permutation) b (kc.width r.keys) (vc.width r.values) t.b new
      → Stands kc vc pm ta tb (counted (with_second r b) (length new)) (opened (relisted t new))
  second_relisted r t b new st e known stored =
      second_stands (counted (with_second r b) (length new)) (relisted t new) e (uses_relisted r.opened t new st.uses) refl
      (record { sound = stored.sound; means = stored.means }) (first_idle st e)
      (record { widths = stored.widths; below = stored.below; apart = stored.apart; known = known })

  -- a run taken into the table in use, of any kind
  pub take_ends : {X : Type 0} (tx : table.Ghosts X) (r s : Register K V P A B T U) (t : State) (u : InUse) (m n w : ℕ) (x : Result (Unit {0}) RunRefusal) (y z : X)
      → Chosen kc vc pm ta tb r t u → Reached (fixed kc vc pm ta tb r) m n w
      → Stores tx (mixing pm r.permutation) y (kc.width r.keys) (vc.width r.values) t.b t.list
      → ((l : Entries) → Stores tx (mixing pm r.permutation) y u.shape.k u.shape.v u.shape.b l
      → x ≡ reply (take_judged (slot_of (pm.forth r.permutation) u.shape.k u.shape.b) tx.group tx.limit u.shape.k u.shape.v l m n w))
      → ((l : Entries) → Stores tx (mixing pm r.permutation) y u.shape.k u.shape.v u.shape.b l
      → Stores tx (mixing pm r.permutation) z u.shape.k u.shape.v u.shape.b
      (list_after l (l ++ run_of m w n) (take_judged (slot_of (pm.forth r.permutation) u.shape.k u.shape.b) tx.group tx.limit u.shape.k u.shape.v l m n w)))
      → ((l : Entries) → Stores tx (mixing pm r.permutation) y u.shape.k u.shape.v u.shape.b l → (e : RunRefusal) → x ≡ Err e → z ≡ y)
      → take_refusal (slot_of (pm.forth r.permutation) (kc.width r.keys) t.b) tx.group tx.limit t.list m w 0 n ≡ model.take_judged (fixed kc vc pm ta tb r) t m n w
      → (z ≡ y → s ≡ r)
      → (All (λ e. HasItem (fixed kc vc pm ta tb r) e.1) (t.list ++ run_of m w n)
      → Stores tx (mixing pm r.permutation) z (kc.width r.keys) (vc.width r.values) t.b (t.list ++ run_of m w n)
      → Stands kc vc pm ta tb (counted s (length (t.list ++ run_of m w n))) (opened (relisted t (t.list ++ run_of m w n))))
      → s.count ≡ r.count
      → All (λ e. HasItem (fixed kc vc pm ta tb r) e.1) t.list
      → RunEnds kc vc pm ta tb r s t (t.list ++ run_of m w n) (model.take_judged (fixed kc vc pm ta tb r) t m n w) x
  take_ends tx r s t u m n w x y z chosen reached stored value after kept judged same rebuilt count known =
      let k = kc.width r.keys in
      let v = vc.width r.values in
      let mix = mixing pm r.permutation in
      let new = t.list ++ run_of m w n in
      let at = stores_at u.shape.k u.shape.v u.shape.b chosen.k chosen.v chosen.b stored in
      let alike = take_as k v t.b u.shape.k u.shape.v u.shape.b chosen.k chosen.v chosen.b m n w reached.keys t.list (pm.forth r.permutation) tx.group tx.limit ∙ judged in
      run_ends tx r s t new (model.take_judged (fixed kc vc pm ta tb r) t m n w) x y z (value t.list at ∙ ap reply alike)
      (subst (λ o. Stores tx mix z k v t.b (list_after t.list new o)) alike (stores_at k v t.b (sym chosen.k) (sym chosen.v) (sym chosen.b) (after t.list at)))
      (kept t.list at) same (rebuilt (known_taken (fixed kc vc pm ta tb r) t.list known m w n reached.value)) count

  -- a run cancelled from the table in use, of any kind
  pub cancel_ends : {X : Type 0} (tx : table.Ghosts X) (r s : Register K V P A B T U) (t : State) (u : InUse) (m n w : ℕ) (x : Result (Unit {0}) RunRefusal) (y z : X)
      → Chosen kc vc pm ta tb r t u → Reached (fixed kc vc pm ta tb r) m n w
      → Stores tx (mixing pm r.permutation) y (kc.width r.keys) (vc.width r.values) t.b t.list
      → ((l : Entries) → Stores tx (mixing pm r.permutation) y u.shape.k u.shape.v u.shape.b l → x ≡ reply (cancel_judged u.shape.k u.shape.v l m n w))
      → ((l : Entries) → Stores tx (mixing pm r.permutation) y u.shape.k u.shape.v u.shape.b l
      → Stores tx (mixing pm r.permutation) z u.shape.k u.shape.v u.shape.b (list_after l (without_run m n l) (cancel_judged u.shape.k u.shape.v l m n w)))
      → ((l : Entries) → Stores tx (mixing pm r.permutation) y u.shape.k u.shape.v u.shape.b l → (e : RunRefusal) → x ≡ Err e → z ≡ y)
      → (z ≡ y → s ≡ r)
      → (All (λ e. HasItem (fixed kc vc pm ta tb r) e.1) (without_run m n t.list)
      → Stores tx (mixing pm r.permutation) z (kc.width r.keys) (vc.width r.values) t.b (without_run m n t.list)
      → Stands kc vc pm ta tb (counted s (length (without_run m n t.list))) (opened (relisted t (without_run m n t.list))))
      → s.count ≡ r.count
      → All (λ e. HasItem (fixed kc vc pm ta tb r) e.1) t.list
      → RunEnds kc vc pm ta tb r s t (without_run m n t.list) (cancel_refusal t.list m w 0 n) x
  cancel_ends tx r s t u m n w x y z chosen reached stored value after kept same rebuilt count known =
      let k = kc.width r.keys in
      let v = vc.width r.values in
      let mix = mixing pm r.permutation in
      let new = without_run m n t.list in
      let at = stores_at u.shape.k u.shape.v u.shape.b chosen.k chosen.v chosen.b stored in
      let alike = cancel_as k v t.b u.shape.k u.shape.v u.shape.b chosen.k chosen.v chosen.b m n w reached.keys t.list in
      run_ends tx r s t new (cancel_refusal t.list m w 0 n) x y z (value t.list at ∙ ap reply alike)
      (subst (λ o. Stores tx mix z k v t.b (list_after t.list new o)) alike (stores_at k v t.b (sym chosen.k) (sym chosen.v) (sym chosen.b) (after t.list at)))
      (kept t.list at) same (rebuilt (known_left (fixed kc vc pm ta tb r) t.list known m n)) count
