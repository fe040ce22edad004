-- A key taken out of the table is taken out of the list.
use Rattle.std.proofs.Common.{◌≡◌, ℕ, suc, ◌+◌, ◌^◌, ◌<◌, ◌≤◌, Bool, true, false, cond, not, List, [], ◌∷◌, Some, None, Ok, Result, sym, refl, ap, ◌∙◌, arith}
use Rattle.std.proofs.ByRecursion.{all_kept_by}
use Rattle.std.proofs.lemmas.Bool.Decides.{nat_tests}
use Rattle.permutation.specs.declared.Permutation as permutation
use Rattle.table.specs.declared.table.Table as table
use Rattle.table.specs.declared.refusal.TableRefusal.{TableRefusal}
use Rattle.table.specs.Meaning.{Meaning, formed, remove_at, remove_end, removed_from, value_in, without}
use Rattle.model.specs.Entries.{Entries, cancel_refusal, content, within_run, without_run}
use Rattle.model.proofs.Content.{content_without}
use Rattle.model.proofs.Removals.{without_one}
use Rattle.model.proofs.Runs.{apart_without, held_cancelled, value_without}
use Rattle.dictionary.specs.Stored.{Stores, mixing, quotient_of, slot_of, stored}
use Rattle.dictionary.proofs.Cut.{Placed, in_here, key_from, slot_below}
use Rattle.dictionary.proofs.Lawful.{Lawful, mixes}
use Rattle.dictionary.proofs.Found.{value_here}

-- a run without one more key at its end
pub without_last : (l : Entries) (m n : ℕ) → without_run m (suc n) l ≡ without_run (m + n) 1 (without_run m n l)
without_last [] m n = refl
without_last (e ∷ l) m n = by (within_run m n e.0) refl (within_run (m + n) 1 e.0) refl (without_last l m n)
  where
    by : (t : Bool) → within_run m n e.0 ≡ t → (u : Bool) → within_run (m + n) 1 e.0 ≡ u → without_run m (suc n) l ≡ without_run (m + n) 1 (without_run m n l)
        → without_run m (suc n) (e ∷ l) ≡ without_run (m + n) 1 (cond (not t) (e ∷ without_run m n l) (without_run m n l))
    by true p u q ih = let w : within_run m (suc n) e.0 ≡ true = grind (arith, nat_tests) in rw w ih
    by false p true q ih = let w : within_run m (suc n) e.0 ≡ true = grind (arith, nat_tests) in rw (w, q) ih
    by false p false q ih = let w : within_run m (suc n) e.0 ≡ false = grind (arith, nat_tests) in rw (w, q) (ap (λ r. e ∷ r) ih)

-- the key past the first i of a run is not among them, and is in the run
past_run : (m i : ℕ) → within_run m i (m + i) ≡ false
past_run m i = grind (arith, nat_tests)

in_run : (m n i : ℕ) → i < n → within_run m n (m + i) ≡ true
in_run m n i h = grind (arith, nat_tests)

-- it is held still, where the run can be cancelled
pub held_still : (l : Entries) (m w n i : ℕ) → i < n → cancel_refusal l m w 0 n ≡ None → value_in (without_run m i l) (m + i) ≡ Some w
held_still l m w n i h none =
    value_without m i l (m + i) ∙ ap (λ t. cond t None (value_in l (m + i))) (past_run m i) ∙ held_cancelled l m w 0 n (m + i) none (in_run m n i h)

module _ {P T : Type 0} {pm : permutation.Ghosts P} {ta : table.Ghosts T} (law : Lawful pm ta) {p : P} {t : T} {k v b : ℕ} {l : Entries} (st : Stores ta (mixing pm p) t k v b l) (narrow : b ≤ k)
    {m s q : ℕ} (at : Placed (pm.forth p) k b m s q) (inside : m < 2 ^ k) (u : ℕ) (held : value_in l m ≡ Some u) where
  remove_goes : removed_from (ta.means t) s q ≡ (stored (pm.forth p) k v b (without l m), Ok u)
  remove_goes =
      let forth = pm.forth p in
      let slot = slot_of forth k b in
      let quotient = quotient_of forth k b in
      let mix = mixes law p k st.widths in
      let slots = content slot quotient (2 ^ b) l in
      let made : List Entries → (Meaning × Result ℕ TableRefusal) = λ x. (formed k v b x, Ok u) in
      ap (λ x. removed_from x s q) st.means
      ∙ ap (λ x. removed_from (stored forth k v b l) x q) at.slot
      ∙ ap (λ x. removed_from (stored forth k v b l) (slot m) x) at.quotient
      ∙ ap (remove_at k v b slots (slot m) (quotient m)) (in_here mix b narrow m inside)
      ∙ ap (remove_end k v b slots (slot m) (quotient m)) (value_here mix b narrow l st.below m inside ∙ held)
      ∙ ap made (sym (content_without slot quotient (2 ^ k) (key_from mix b narrow) (2 ^ b) l m st.below inside (slot_below mix b narrow m inside)))

  -- its value comes back
  pub removed_ok : (r : Result ℕ TableRefusal) → (ta.sound t → r ≡ (removed_from (ta.means t) s q).1) → r ≡ Ok u
  removed_ok r value = value st.sound ∙ ap (λ (x : Meaning × Result ℕ TableRefusal). x.1) remove_goes

  -- and the table then holds the others
  pub removed_stores : (t' : T) → (ta.sound t → ta.sound t') → (ta.sound t → ta.means t' ≡ (removed_from (ta.means t) s q).0) → Stores ta (mixing pm p) t' k v b (without_run m 1 l)
  removed_stores t' sound after = record {
    sound = sound st.sound;
    means = after st.sound ∙ ap (λ (x : Meaning × Result ℕ TableRefusal). x.0) remove_goes ∙ ap (stored (pm.forth p) k v b) (sym (without_one l m st.apart));
    below = all_kept_by (λ e. not (within_run m 1 e.0)) (λ e. e.0 < 2 ^ k) l st.below;
    apart = apart_without m 1 l st.apart;
    widths = st.widths;
  }
