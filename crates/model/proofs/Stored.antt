-- The tables have as many entries with a value number as key numbers are held under it.
use Rattle.std.proofs.Common.{◌≡◌, ℕ, zero, suc, ◌+◌, ◌^◌, ◌<◌, Bool, true, false, cond, ◌&&◌, eqb, ltb, leb, List, [], ◌∷◌, map, sym, refl, ap, ◌∙◌, arith}
use Rattle.std.proofs.lemmas.Bool.Decides.{nat_tests}
use Rattle.std.specs.List.{range_with_len, AllByRecursion as All}
use Rattle.model.specs.declared.call.Call.{Call}
use Rattle.model.specs.Entries.{Entries, content, count_if, slot_list}
use Rattle.model.specs.Model.{Fixed, Model, Side, State, closed, entries, in_use, on_first, on_second, on_side, opened, quotient_of, slot_of, table_of}
use Rattle.model.specs.Step.{run}
use Rattle.model.specs.History.{is}
use Rattle.model.specs.Laws.{Counts, Lawful, entries_with, slots_with}
use Rattle.model.proofs.Balance.{balanced, held_entries}
use Rattle.model.proofs.Counting.{two_parts}
use Rattle.model.proofs.Standing.{slots_below}
use Rattle.model.proofs.Tells.{Well, run_well}

module _ (slot quotient : ℕ → ℕ) (w : ℕ) where
  -- of one slot
  slot_with : (s : ℕ) (l : Entries) → count_if (λ e. eqb e.1 w) (slot_list slot quotient s l) ≡ count_if (λ e. eqb (slot e.0) s && eqb e.1 w) l
  slot_with s [] = refl
  slot_with s (e ∷ l) = by (eqb (slot e.0) s) (eqb e.1 w) refl (slot_with s l)
    where
      by : (t u : Bool) → eqb e.1 w ≡ u → count_if (λ e. eqb e.1 w) (slot_list slot quotient s l) ≡ count_if (λ e. eqb (slot e.0) s && eqb e.1 w) l
          → count_if (λ e. eqb e.1 w) (cond t ((quotient e.0, e.1) ∷ slot_list slot quotient s l) (slot_list slot quotient s l))
          ≡ cond (t && u) (suc (count_if (λ e. eqb (slot e.0) s && eqb e.1 w) l)) (count_if (λ e. eqb (slot e.0) s && eqb e.1 w) l)
      by true u is ih = rw (is, ih)
      by false u is ih = ih

  -- of some slots in a row
  many_with : (l : Entries) (c a : ℕ) → slots_with w (map (λ s. slot_list slot quotient s l) (range_with_len a c)) ≡ count_if (λ e. (leb a (slot e.0) && ltb (slot e.0) (a + c)) && eqb e.1 w) l
  many_with l zero a = sym (none l)
    where
      none : (l : Entries) → count_if (λ e. (leb a (slot e.0) && ltb (slot e.0) (a + 0)) && eqb e.1 w) l ≡ 0
      none [] = refl
      none (e ∷ l) =
          let t : (leb a (slot e.0) && ltb (slot e.0) (a + 0)) ≡ false = grind (arith, nat_tests) in
          let ih = none l in
          rw (t, ih)
  many_with l (suc c) a =
      ap (λ x. x + slots_with w (map (λ s. slot_list slot quotient s l) (range_with_len (a + 1) c))) (slot_with a l)
      ∙ ap (λ x. count_if (λ e. eqb (slot e.0) a && eqb e.1 w) l + x) (many_with l c (a + 1))
      ∙ sym (two_parts (λ e. (leb a (slot e.0) && ltb (slot e.0) (a + suc c)) && eqb e.1 w) (λ e. eqb (slot e.0) a && eqb e.1 w)
      (λ e. (leb (a + 1) (slot e.0) && ltb (slot e.0) (a + 1 + c)) && eqb e.1 w) (λ e. tests (slot e.0) (eqb e.1 w)) l)
    where
      tests : (s : ℕ) (t : Bool) → cond ((leb a s && ltb s (a + suc c)) && t) 1 0 ≡ cond (eqb s a && t) 1 0 + cond ((leb (a + 1) s && ltb s (a + 1 + c)) && t) 1 0
      tests s t = grind (arith, nat_tests)

  -- of all
  all_slots : (n : ℕ) (l : Entries) → All (λ e. slot e.0 < n) l → count_if (λ e. (leb 0 (slot e.0) && ltb (slot e.0) (0 + n)) && eqb e.1 w) l ≡ count_if (λ e. eqb e.1 w) l
  all_slots n [] h = refl
  all_slots n (e ∷ l) h =
      let lt : slot e.0 < n = h.0 in
      let t : (leb 0 (slot e.0) && ltb (slot e.0) (0 + n)) ≡ true = grind (arith, nat_tests) in
      let ih = all_slots n l h.1 in
      rw (t, ih)

  -- the content has as many entries with w as the list
  content_with : (n : ℕ) (l : Entries) → All (λ e. slot e.0 < n) l → slots_with w (content slot quotient n l) ≡ count_if (λ e. eqb e.1 w) l
  unfolding content
  content_with n l h = many_with l n 0 ∙ all_slots n l h

module _ {K V : Type 0} (f : Fixed K V) where
  -- one of the two tables is in use
  one_used : (w : ℕ) (s : Side) (t : State) → entries_with w (on_side f on_first s t) + entries_with w (on_side f on_second s t) ≡ entries_with w (in_use f t)
  one_used w on_first t = omega arith
  one_used w on_second t = omega arith

  module _ (law : Lawful f) where
    -- the two tables together have as many as the list
    both_with : (s : Model) → Well f s → (w : ℕ) → entries_with w (table_of f on_first s) + entries_with w (table_of f on_second s) ≡ count_if (λ e. eqb e.1 w) (entries s)
    both_with closed ok w = refl
    both_with (opened t) ok w = one_used w t.side t ∙ content_with (slot_of f t.b) (quotient_of f t.b) w (2 ^ t.b) t.list (slots_below f law t ok)

    -- held and cancelled is taken, and the tables have what is held
    pub counts : (calls : List (Call K V)) (w : ℕ) → Counts f calls w
    counts calls w = record {
      balance = balanced f law w calls;
      stored = both_with (run f closed calls).0 (run_well f law closed calls tt) w ∙ sym (held_entries f law (λ u. eqb u w) calls);
    }
