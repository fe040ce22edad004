-- What stands against a key of a run, by the table's question and the run's earlier keys of the same group.
use Rattle.std.proofs.Common.{◌≡◌, ℕ, zero, suc, ◌+◌, ◌/◌, ◌^◌, ◌<◌, ◌≤◌, Bool, true, false, cond, eqb, [], ◌∷◌, ◌++◌, Some, None, Ok, Err, Option, Result, sym, refl, ap, ◌∙◌, arith}
use Rattle.std.proofs.lemmas.List.{append-nil}
use Rattle.std.proofs.lemmas.Bool.{ne_eqb}
use Rattle.std.specs.List.{AllByRecursion as All}
use Rattle.table.specs.declared.refusal.TableRefusal.{TableRefusal}
use Rattle.table.specs.Meaning.{admitted, load, value_in, weigh_held, weigh_room}
use Rattle.table.specs.Slots.{full}
use Rattle.model.specs.declared.refusal.Refusal.{Refusal}
use Rattle.model.specs.declared.refusal.Refusal.TheVariants.{Table}
use Rattle.model.specs.Entries.{Entries, content, group_load, run_of, take_one, take_room}
use Rattle.model.proofs.Counting.{count_append}
use Rattle.dictionary.specs.Stored.{quotient_of, slot_of, stored}
use Rattle.dictionary.proofs.Cut.{Mixes}
use Rattle.dictionary.proofs.Found.{load_here, weighed_here}
use Rattle.dictionary.proofs.Scans.{list_snoc, take_at}

-- a table's answer as what stands against a key
abbrev pub told : Result (Unit {0}) TableRefusal → Option Refusal
told (Ok u) = None
told (Err e) = Some (Table e)

-- nothing stands against it where the table says so
pub told_none : (r : Result (Unit {0}) TableRefusal) → told r ≡ None → r ≡ Ok tt
told_none (Ok tt) h = refl
told_none (Err e) h = let z : ◌≡◌ {A = ℕ} 0 1 = cc in absurd (omega arith)

told_room : (t : Bool) → told (weigh_room t) ≡ take_room t
told_room true = refl
told_room false = refl

-- a key that is held or not, in a group that counts n
pub told_held : (slot : ℕ → ℕ) (S C : ℕ) (l : Entries) (m n : ℕ) (o : Option ℕ) → n ≡ group_load slot S l (slot m / S) → told (weigh_held C n o) ≡ take_one slot S C l m o
told_held slot S C l m n (Some u) e = refl
told_held slot S C l m n None e = told_room (full C n) ∙ ap (λ y. take_room (full C y)) e

value_away : (l : Entries) (m w x : ℕ) → (m ≡ x → ⊥) → value_in (l ++ ((m, w) ∷ [])) x ≡ value_in l x
value_away [] m w x off = let t : eqb m x ≡ false = ne_eqb m x off in rw t
value_away (e ∷ l) m w x off = ap (cond (eqb e.0 x) (Some e.1)) (value_away l m w x off)

-- a run says nothing of a key past it
pub value_run : (l : Entries) (m w i x : ℕ) → m + i ≤ x → value_in (l ++ run_of m w i) x ≡ value_in l x
value_run l m w zero x past = ap (λ t. value_in t x) (append-nil l)
value_run l m w (suc i) x past =
    let off : m + i ≡ x → ⊥ = λ e. omega arith in
    ap (λ t. value_in t x) (list_snoc l m w i) ∙ value_away (l ++ run_of m w i) (m + i) w x off ∙ value_run l m w i x (omega arith)

-- place i of a run that is in range, where `earlier` of the run's earlier keys are in its group
module _ {forth back : ℕ → ℕ} {k : ℕ} (mix : Mixes forth back k) (b : ℕ) (narrow : b ≤ k) (l : Entries) (below : All (λ e. e.0 < 2 ^ k) l) (S C : ℕ) (pos : 0 < S) (v m w i : ℕ) where
  pub judged_is : m + i < 2 ^ k → w < 2 ^ v → (earlier : ℕ) → earlier ≡ group_load (slot_of forth k b) S (run_of m w i) (slot_of forth k b (m + i) / S)
      → told (admitted S C (stored forth k v b l) (slot_of forth k b (m + i)) (quotient_of forth k b (m + i)) w earlier) ≡ take_at (slot_of forth k b) S C l m w i
  judged_is inside small earlier early =
      let slot = slot_of forth k b in
      let slots = content slot (quotient_of forth k b) (2 ^ b) l in
      let g = slot (m + i) / S in
      let n = load S slots (slot (m + i)) + earlier in
      let loads : n ≡ group_load slot S (l ++ run_of m w i) g =
      ap (λ y. y + earlier) (load_here mix b narrow l below S (m + i) pos) ∙ ap (λ y. group_load slot S l g + y) early ∙ sym (count_append (λ e. eqb (slot e.0 / S) g) l (run_of m w i)) in
      ap told (weighed_here mix b narrow l below C v (m + i) w n inside small)
      ∙ ap (λ o. told (weigh_held C n o)) (sym (value_run l m w i (m + i) (omega arith)))
      ∙ told_held slot S C (l ++ run_of m w i) (m + i) n (value_in (l ++ run_of m w i) (m + i)) loads
