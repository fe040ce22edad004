-- The slots of a table with one more bit: each slot's entries come from one slot of the smaller table, in their order.
use Rattle.std.proofs.Common.{◌≡◌, ℕ, zero, suc, ◌+◌, ◌-◌, ◌*◌, ◌/◌, ◌^◌, ◌<◌, ◌≤◌, Bool, true, false, cond, eqb, [], ◌∷◌, ◌++◌, map, length, filter, sym, refl, ap, ◌∙◌, ⊎_elim, arith}
use Rattle.std.proofs.lemmas.Nat.{div_below, pow-add, shr-shr}
use Rattle.std.proofs.lemmas.List.Elements.{filter-append}
use Rattle.std.proofs.lemmas.List.{append-nil, ext_get_or}
use Rattle.std.proofs.lemmas.Bool.{both_ways, cases_eq, eq-eqb, eqb-true, ne_eqb}
use Rattle.std.specs.List.{AllByRecursion as All}
use Rattle.table.specs.Meaning.{load}
use Rattle.model.specs.Entries.{Entries, content, count_if, group_load, walk}
use Rattle.model.proofs.Content.{getD_content, length_content}
use Rattle.model.proofs.Places.{slot_kept, walk_all}
use Rattle.model.proofs.SlotLoads.{load_content}
use Rattle.model.proofs.Walks.{length_kept}
use Rattle.dictionary.specs.Stored.{in_slot, quotient_of, slot_of}

-- two tests, of which one lets through what the other does
kept_same : (p q : ℕ × ℕ → Bool) → ((e : ℕ × ℕ) → p e ≡ true → q e ≡ true) → (l : Entries) → filter p (filter q l) ≡ filter p l
kept_same p q h [] = refl
kept_same p q h (e ∷ l) = by (q e) refl (p e) refl (kept_same p q h l)
  where
    by : (t : Bool) → q e ≡ t → (u : Bool) → p e ≡ u → filter p (filter q l) ≡ filter p l → filter p (cond t (e ∷ filter q l) (filter q l)) ≡ cond u (e ∷ filter p l) (filter p l)
    by true a true c ih = rw c (ap (λ r. e ∷ r) ih)
    by true a false c ih = rw c ih
    by false a true c ih = absurd (both_ways (q e) a (h e c))
    by false a false c ih = ih

-- two tests that nothing passes both of
kept_none : (p q : ℕ × ℕ → Bool) → ((e : ℕ × ℕ) → q e ≡ true → p e ≡ false) → (l : Entries) → filter p (filter q l) ≡ []
kept_none p q h [] = refl
kept_none p q h (e ∷ l) = by (q e) refl (kept_none p q h l)
  where
    by : (t : Bool) → q e ≡ t → filter p (filter q l) ≡ [] → filter p (cond t (e ∷ filter q l) (filter q l)) ≡ []
    by true a ih = let c = h e a in rw c ih
    by false a ih = ih

module _ (forth : ℕ → ℕ) (k b : ℕ) (narrow : b < k) where
  -- the smaller table's slot is half of the larger one's
  half : (m : ℕ) → slot_of forth k (b + 1) m / 2 ≡ slot_of forth k b m
  half m = let e : k - (b + 1) + 1 ≡ k - b = omega arith in shr-shr (forth m) (k - (b + 1)) 1 ∙ ap (λ x. forth m / 2 ^ x) e

  module _ (l : Entries) where
    -- the entries of a slot, among those of the slot that they come from
    pub mine : (s i : ℕ) → s / 2 ≡ i → in_slot (slot_of forth k (b + 1)) s (in_slot (slot_of forth k b) i l) ≡ in_slot (slot_of forth k (b + 1)) s l
    mine s i is =
        kept_same (λ e. eqb (slot_of forth k (b + 1) e.0) s) (λ e. eqb (slot_of forth k b e.0) i)
        (λ e t. eq-eqb (slot_of forth k b e.0) i (sym (half e.0) ∙ ap (λ x. x / 2) (eqb-true (slot_of forth k (b + 1) e.0) s t) ∙ is)) l

    -- none are among those of another
    other : (s i : ℕ) → (s / 2 ≡ i → ⊥) → in_slot (slot_of forth k (b + 1)) s (in_slot (slot_of forth k b) i l) ≡ []
    other s i off =
        kept_none (λ e. eqb (slot_of forth k (b + 1) e.0) s) (λ e. eqb (slot_of forth k b e.0) i)
        (λ e t. ne_eqb (slot_of forth k (b + 1) e.0) s (λ same. off (ap (λ x. x / 2) (sym same) ∙ half e.0 ∙ eqb-true (slot_of forth k b e.0) i t))) l

    -- so the walk over the smaller table's slots has them in their order
    walk_before : (s n : ℕ) → n ≤ s / 2 → in_slot (slot_of forth k (b + 1)) s (walk (slot_of forth k b) n l) ≡ []
    unfolding walk
    walk_before s zero h = refl
    walk_before s (suc n) h =
        let off : s / 2 ≡ n → ⊥ = λ e. omega arith in
        filter-append (λ e. eqb (slot_of forth k (b + 1) e.0) s) (walk (slot_of forth k b) n l) (in_slot (slot_of forth k b) n l)
        ∙ ap (λ x. x ++ in_slot (slot_of forth k (b + 1)) s (in_slot (slot_of forth k b) n l)) (walk_before s n (omega arith))
        ∙ other s n off

    walk_after : (s n : ℕ) → s / 2 < n → in_slot (slot_of forth k (b + 1)) s (walk (slot_of forth k b) n l) ≡ in_slot (slot_of forth k (b + 1)) s l
    unfolding walk
    walk_after s zero h = absurd (omega arith)
    walk_after s (suc n) h =
        filter-append (λ e. eqb (slot_of forth k (b + 1) e.0) s) (walk (slot_of forth k b) n l) (in_slot (slot_of forth k b) n l)
        ∙ ⊎_elim
        (λ same. ap (λ x. x ++ in_slot (slot_of forth k (b + 1)) s (in_slot (slot_of forth k b) n l)) (walk_before s n (omega arith)) ∙ mine s n same)
        (λ off.
        ap (λ x. in_slot (slot_of forth k (b + 1)) s (walk (slot_of forth k b) n l) ++ x) (other s n off)
        ∙ append-nil (in_slot (slot_of forth k (b + 1)) s (walk (slot_of forth k b) n l))
        ∙ walk_after s n (omega arith))
        (cases_eq (s / 2) n)

    -- the slots of the walk are those of the list
    pub content_walk : content (slot_of forth k (b + 1)) (quotient_of forth k (b + 1)) (2 ^ (b + 1)) (walk (slot_of forth k b) (2 ^ b) l) ≡ content (slot_of forth k (b + 1)) (quotient_of forth k (b + 1)) (2 ^ (b + 1)) l
    content_walk =
        let slot = slot_of forth k (b + 1) in
        let quotient = quotient_of forth k (b + 1) in
        let whole = walk (slot_of forth k b) (2 ^ b) l in
        let f : ℕ × ℕ → ℕ × ℕ = λ e. (quotient e.0, e.1) in
        let many = length_content slot quotient (2 ^ (b + 1)) whole in
        ext_get_or [] (content slot quotient (2 ^ (b + 1)) whole) (content slot quotient (2 ^ (b + 1)) l) (many ∙ sym (length_content slot quotient (2 ^ (b + 1)) l))
        (λ i h.
        let inside : i < 2 ^ (b + 1) = omega arith in
        let twice : i < 2 ^ b * 2 = let e = pow-add 2 b 1 in omega arith in
        getD_content slot quotient (2 ^ (b + 1)) whole i inside
        ∙ slot_kept slot quotient i whole
        ∙ ap (map f) (walk_after i (2 ^ b) (div_below i 2 (2 ^ b) (omega arith) twice))
        ∙ sym (slot_kept slot quotient i l)
        ∙ sym (getD_content slot quotient (2 ^ (b + 1)) l i inside))

    -- and so are the loads of its groups
    pub load_walk : (S s : ℕ) → 0 < S → All (λ e. slot_of forth k (b + 1) e.0 < 2 ^ (b + 1)) l
        → group_load (slot_of forth k (b + 1)) S (walk (slot_of forth k b) (2 ^ b) l) (s / S) ≡ group_load (slot_of forth k (b + 1)) S l (s / S)
    load_walk S s pos below =
        let slot = slot_of forth k (b + 1) in
        let quotient = quotient_of forth k (b + 1) in
        sym (load_content slot quotient S (2 ^ (b + 1)) (walk (slot_of forth k b) (2 ^ b) l) s pos (walk_all (slot_of forth k b) (quotient_of forth k b) l (λ e. slot e.0 < 2 ^ (b + 1)) (2 ^ b) below))
        ∙ ap (λ x. load S x s) content_walk
        ∙ load_content slot quotient S (2 ^ (b + 1)) l s pos below

    -- how many go into a slot, counted in the slot that they come from
    pub count_half : (s : ℕ) → count_if (λ e. eqb (slot_of forth k (b + 1) e.0) s) (in_slot (slot_of forth k b) (s / 2) l) ≡ count_if (λ e. eqb (slot_of forth k (b + 1) e.0) s) l
    count_half s =
        sym (length_kept (λ e. eqb (slot_of forth k (b + 1) e.0) s) (in_slot (slot_of forth k b) (s / 2) l))
        ∙ ap length (mine s (s / 2) refl)
        ∙ length_kept (λ e. eqb (slot_of forth k (b + 1) e.0) s) l
