-- The walk by places: what stands at a place of it, and of the slot that the place falls into.
use Rattle.std.proofs.Common.{◌≡◌, ℕ, zero, suc, ◌+◌, ◌<◌, ◌≤◌, Bool, true, false, cond, eqb, [], ◌∷◌, ◌++◌, map, length, get_or, filter, sym, refl, ap, ◌∙◌, ⊎_elim, arith}
use Rattle.std.proofs.ByRecursion.{All-append, all-has, all_kept_by, has_get_or}
use Rattle.std.proofs.lemmas.List.{get_or-append-add, get_or_append_left, get_or-map, length-append}
use Rattle.std.proofs.lemmas.Bool.{cases_eq, eqb-true}
use Rattle.std.specs.List.{AllByRecursion as All}
use Rattle.model.specs.Entries.{Entries, slot_list, walk}
use Rattle.model.specs.History.{is}
use Rattle.model.proofs.SlotLoads.{length_slot}
use Rattle.model.proofs.Walks.{length_kept}

-- the slot holds what the list keeps for it, by quotient
pub slot_kept : (slot quotient : ℕ → ℕ) (s : ℕ) (l : Entries) → slot_list slot quotient s l ≡ map (λ e. (quotient e.0, e.1)) (filter (λ e. eqb (slot e.0) s) l)
slot_kept slot quotient s [] = refl
slot_kept slot quotient s (e ∷ l) = by (eqb (slot e.0) s) (slot_kept slot quotient s l)
  where
    by : (t : Bool) → slot_list slot quotient s l ≡ map (λ e. (quotient e.0, e.1)) (filter (λ e. eqb (slot e.0) s) l)
        → cond t ((quotient e.0, e.1) ∷ slot_list slot quotient s l) (slot_list slot quotient s l) ≡ map (λ e. (quotient e.0, e.1)) (cond t (e ∷ filter (λ e. eqb (slot e.0) s) l) (filter (λ e. eqb (slot e.0) s) l))
    by true ih = ap (λ r. (quotient e.0, e.1) ∷ r) ih
    by false ih = ih

-- what it keeps is in that slot
kept_there : (slot : ℕ → ℕ) (s : ℕ) (l : Entries) → All (λ e. slot e.0 ≡ s) (filter (λ e. eqb (slot e.0) s) l)
kept_there slot s [] = tt
kept_there slot s (e ∷ l) = by (eqb (slot e.0) s) refl (kept_there slot s l)
  where
    by : (t : Bool) → eqb (slot e.0) s ≡ t → All (λ e. slot e.0 ≡ s) (filter (λ e. eqb (slot e.0) s) l) → All (λ e. slot e.0 ≡ s) (cond t (e ∷ filter (λ e. eqb (slot e.0) s) l) (filter (λ e. eqb (slot e.0) s) l))
    by true is ih = (eqb-true (slot e.0) s is, ih)
    by false is ih = ih

module _ (slot quotient : ℕ → ℕ) (l : Entries) where
  -- one more slot
  pub walk_more : (n : ℕ) → length (walk slot (suc n) l) ≡ length (walk slot n l) + length (slot_list slot quotient n l)
  unfolding walk
  walk_more n =
      length-append (walk slot n l) (filter (λ e. eqb (slot e.0) n) l)
      ∙ ap (λ x. length (walk slot n l) + x) (length_kept (λ e. eqb (slot e.0) n) l ∙ sym (length_slot slot quotient n l))

  -- the slots before s have fewer
  walk_longer : (s n : ℕ) → s < n → length (walk slot s l) + length (slot_list slot quotient s l) ≤ length (walk slot n l)
  walk_longer s zero h = absurd (omega arith)
  walk_longer s (suc n) h =
      let more = walk_more n in
      ⊎_elim
      (λ same. let moved : length (walk slot s l) + length (slot_list slot quotient s l) ≡ length (walk slot n l) + length (slot_list slot quotient n l) = ap (λ x. length (walk slot x l) + length (slot_list slot quotient x l)) same in omega arith)
      (λ off. let less : s < n = omega arith in let ih = walk_longer s n less in omega arith)
      (cases_eq s n)

  -- place j of slot s stands as many places further on in the walk as the slots before s hold
  pub walk_place : (n s j : ℕ) → s < n → j < length (slot_list slot quotient s l)
      → get_or (walk slot n l) (length (walk slot s l) + j) (0, 0) ≡ get_or (filter (λ e. eqb (slot e.0) s) l) j (0, 0)
  unfolding walk
  walk_place zero s j h less = absurd (omega arith)
  walk_place (suc n) s j h less =
      ⊎_elim
      (λ same.
      ap (λ x. get_or (walk slot n l ++ filter (λ e. eqb (slot e.0) n) l) (length (walk slot x l) + j) (0, 0)) same
      ∙ get_or-append-add (walk slot n l) (filter (λ e. eqb (slot e.0) n) l) j (0, 0)
      ∙ ap (λ x. get_or (filter (λ e. eqb (slot e.0) x) l) j (0, 0)) (sym same))
      (λ off.
      let before : s < n = omega arith in
      let inside : length (walk slot s l) + j < length (walk slot n l) = let le = walk_longer s n before in omega arith in
      get_or_append_left (walk slot n l) (filter (λ e. eqb (slot e.0) n) l) (0, 0) (length (walk slot s l) + j) inside ∙ walk_place n s j before less)
      (cases_eq s n)

  -- the entry there has its key in slot s, and its quotient and value are those of place j of the slot
  pub walk_entry : (n s j : ℕ) → s < n → j < length (slot_list slot quotient s l)
      → (slot (get_or (walk slot n l) (length (walk slot s l) + j) (0, 0)).0 ≡ s)
      × (get_or (slot_list slot quotient s l) j (0, 0) ≡ (quotient (get_or (walk slot n l) (length (walk slot s l) + j) (0, 0)).0, (get_or (walk slot n l) (length (walk slot s l) + j) (0, 0)).1))
  walk_entry n s j h less =
      let kept = filter (λ e. eqb (slot e.0) s) l in
      let at = walk_place n s j h less in
      let inside : j < length kept = let a = length_kept (λ e. eqb (slot e.0) s) l in let b = length_slot slot quotient s l in omega arith in (
        ap (λ (e : ℕ × ℕ). slot e.0) at ∙ all-has (λ e. slot e.0 ≡ s) kept (get_or kept j (0, 0)) (kept_there slot s l) (has_get_or kept j (0, 0) inside),
        ap (λ (es : Entries). get_or es j (0, 0)) (slot_kept slot quotient s l) ∙ get_or-map (λ e. (quotient e.0, e.1)) kept j (0, 0) (0, 0) inside ∙ ap (λ (e : ℕ × ℕ). (quotient e.0, e.1)) (sym at),
      )

  -- what holds of every entry of the list holds of every entry of the walk
  pub walk_all : (P : ℕ × ℕ → Type 0) (n : ℕ) → All P l → All P (walk slot n l)
  unfolding walk
  walk_all P zero all = tt
  walk_all P (suc n) all = All-append P (walk slot n l) (filter (λ e. eqb (slot e.0) n) l) (walk_all P n all) (all_kept_by (λ e. eqb (slot e.0) n) P l all)
