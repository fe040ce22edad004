-- What a table that holds a list answers to a question about a key.
use Rattle.std.proofs.Common.{◌≡◌, ℕ, ◌+◌, ◌/◌, ◌^◌, ◌<◌, ◌≤◌, Result, ap, ◌∙◌}
use Rattle.permutation.specs.declared.Permutation as permutation
use Rattle.table.specs.declared.table.Table as table
use Rattle.table.specs.declared.refusal.TableRefusal.{TableRefusal}
use Rattle.table.specs.Meaning.{admitted, found}
use Rattle.model.specs.Entries.{Entries, group_load, run_of}
use Rattle.dictionary.specs.Stored.{Stores, mixing, slot_of, stored}
use Rattle.dictionary.specs.Results.{looked_up}
use Rattle.dictionary.proofs.Cut.{Placed}
use Rattle.dictionary.proofs.Lawful.{Lawful, beyond, grouped, mixes}
use Rattle.dictionary.proofs.Found.{found_is}
use Rattle.dictionary.proofs.Judged.{judged_is, told}
use Rattle.dictionary.proofs.Scans.{take_at}

module _ {P T : Type 0} {pm : permutation.Ghosts P} {ta : table.Ghosts T} (law : Lawful pm ta) {p : P} {t : T} {k v b : ℕ} {l : Entries} (st : Stores ta (mixing pm p) t k v b l) (narrow : b ≤ k) where
  -- find is a look-up in the list
  pub looked : {m s q : ℕ} → Placed (pm.forth p) k b m s q → (r : Result ℕ TableRefusal) → (ta.sound t → r ≡ found (ta.means t) s q) → r ≡ looked_up k l m
  looked {m} {s} {q} at r value =
      value st.sound
      ∙ ap (λ x. found x s q) st.means
      ∙ ap (λ x. found (stored (pm.forth p) k v b l) x q) at.slot
      ∙ ap (λ x. found (stored (pm.forth p) k v b l) (slot_of (pm.forth p) k b m) x) at.quotient
      ∙ found_is (mixes law p k st.widths) b narrow l st.below (beyond law p k st.widths) v m

  -- admits says what stands against place i of a run
  pub judged : (m i w : ℕ) {s q : ℕ} → Placed (pm.forth p) k b (m + i) s q → m + i < 2 ^ k → w < 2 ^ v
      → (size earlier : ℕ) → size ≡ ta.group → earlier ≡ group_load (slot_of (pm.forth p) k b) size (run_of m w i) (s / size)
      → (r : Result (Unit {0}) TableRefusal) → (ta.sound t → r ≡ admitted ta.group ta.limit (ta.means t) s q w earlier)
      → told r ≡ take_at (slot_of (pm.forth p) k b) ta.group ta.limit l m w i
  judged m i w {s} {q} at inside small size earlier sized early r value =
      let S = ta.group in
      let C = ta.limit in
      let slot = slot_of (pm.forth p) k b in
      let same : earlier ≡ group_load slot S (run_of m w i) (slot (m + i) / S) =
      early ∙ ap (λ x. group_load slot x (run_of m w i) (s / x)) sized ∙ ap (λ x. group_load slot S (run_of m w i) (x / S)) at.slot in
      ap told
      (value st.sound
      ∙ ap (λ x. admitted S C x s q w earlier) st.means
      ∙ ap (λ x. admitted S C (stored (pm.forth p) k v b l) x q w earlier) at.slot
      ∙ ap (λ x. admitted S C (stored (pm.forth p) k v b l) (slot (m + i)) x w earlier) at.quotient)
      ∙ judged_is (mixes law p k st.widths) b narrow l st.below S C (grouped law) v m w i inside small earlier same
