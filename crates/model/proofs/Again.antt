-- A run that was cancelled can be taken again.
use Rattle.std.proofs.Common.{◌≡◌, ℕ, zero, suc, ◌+◌, ◌/◌, ◌<◌, ◌≤◌, Bool, true, false, cond, not, ◌&&◌, eqb, [], ◌∷◌, ◌++◌, Some, None, Option, sym, refl, ap, ◌∙◌, subst, ⊎_elim, arith}
use Rattle.std.proofs.lemmas.Bool.{cases_eq, eq-eqb, false≢true, ne_eqb}
use Rattle.std.proofs.lemmas.Bool.Decides.{nat_tests}
use Rattle.table.specs.Meaning.{value_in}
use Rattle.table.specs.Slots.{full, within}
use Rattle.model.specs.declared.call.Call.TheVariants.{Cancel, Take}
use Rattle.model.specs.declared.run_refusal.RunRefusal.{RunRefusal}
use Rattle.model.specs.Entries.{Entries, cancel_refusal, count_if, first_of, group_load, run_of, take_one, take_refusal, take_room, within_run, without_run}
use Rattle.model.specs.Model.{Fixed, Model, State, answered, closed, kind, opened, slot_of}
use Rattle.model.specs.Step.{answer, run_end, step, to_cancel, to_take}
use Rattle.model.specs.History.{accepted, held}
use Rattle.model.specs.Laws.{Apart}
use Rattle.model.proofs.Counting.{count_append, count_kept, two_parts}
use Rattle.model.proofs.Loads.{WithinC, near}
use Rattle.model.proofs.Reading.{read_both}
use Rattle.model.proofs.Runs.{held_cancelled, not_there, run_first, run_later, run_none, value_push, value_without}
use Rattle.model.proofs.Tells.{Sound, Well}

module _ (p : ℕ × ℕ → Bool) where
  -- entries with a key that the list has not, or has once
  none_of : (l : Entries) (m : ℕ) → value_in l m ≡ None → count_if (λ e. eqb m e.0 && p e) l ≡ 0
  none_of [] m h = refl
  none_of (e ∷ l) m h =
      let ways = not_there e l m h in
      let t : eqb m e.0 ≡ false = ne_eqb m e.0 (λ q. ways.0 (sym q)) in
      let ih = none_of l m ways.1 in
      rw (t, ih)

  -- or once
  one_of : (l : Entries) (m w : ℕ) → Apart l → value_in l m ≡ Some w → count_if (λ e. eqb m e.0 && p e) l ≡ cond (p (m, w)) 1 0
  one_of [] m w a h = let z : ◌≡◌ {A = ℕ} 0 1 = cc in absurd (omega arith)
  one_of (e ∷ l) m w a h =
      ⊎_elim
      (λ same.
      let u : eqb e.0 m ≡ true = eq-eqb e.0 m same in
      let t : eqb m e.0 ≡ true = eq-eqb m e.0 (sym same) in
      let v : Some e.1 ≡ Some w = rw u at h in
      let ew : e.1 ≡ w = cc in
      let is : p e ≡ p (m, w) = ap (λ x. p (x, e.1)) same ∙ ap (λ y. p (m, y)) ew in
      let rest : count_if (λ d. eqb m d.0 && p d) l ≡ 0 = none_of l m (subst (λ y. value_in l y ≡ None) same a.0) in
      rw (t, rest, is))
      (λ off.
      let u : eqb e.0 m ≡ false = ne_eqb e.0 m off in
      let t : eqb m e.0 ≡ false = ne_eqb m e.0 (λ q. off (sym q)) in
      let ih = one_of l m w a.1 (rw u at h) in
      rw (t, ih))
      (cases_eq e.0 m)

  -- the entries of a run that is held under w are the run
  run_part : (l : Entries) (m w n : ℕ) → Apart l → ((x : ℕ) → within_run m n x ≡ true → value_in l x ≡ Some w) → count_if (λ e. within_run m n e.0 && p e) l ≡ count_if p (run_of m w n)
  run_part l m w zero a held = none l
    where
      none : (l : Entries) → count_if (λ e. within_run m 0 e.0 && p e) l ≡ 0
      none [] = refl
      none (e ∷ l) = let t = run_none m e.0 in let ih = none l in rw (t, ih)
  run_part l m w (suc n) a held =
      two_parts (λ e. within_run m (suc n) e.0 && p e) (λ e. eqb m e.0 && p e) (λ e. within_run (suc m) n e.0 && p e) (λ e. apart_tests e.0 (p e)) l
      ∙ sums (count_if (λ e. eqb m e.0 && p e) l) (count_if (λ e. within_run (suc m) n e.0 && p e) l) (p (m, w)) (count_if p (run_of (suc m) w n))
      (one_of l m w a (held m (run_first m n)))
      (run_part l (suc m) w n a (λ x h. held x (run_later m n x h)))
    where
      apart_tests : (x : ℕ) (t : Bool) → cond (within_run m (suc n) x && t) 1 0 ≡ cond (eqb m x && t) 1 0 + cond (within_run (suc m) n x && t) 1 0
      apart_tests x t = grind (arith, nat_tests)

      sums : (x y : ℕ) (t : Bool) (z : ℕ) → x ≡ cond t 1 0 → y ≡ z → x + y ≡ cond t (suc z) z
      sums x y true z a b = omega arith
      sums x y false z a b = omega arith

  -- what is left of the list and what left it are the list
  count_back : (l : Entries) (m w n : ℕ) → Apart l → ((x : ℕ) → within_run m n x ≡ true → value_in l x ≡ Some w)
      → count_if p (without_run m n l) + count_if p (run_of m w n) ≡ count_if p l
  count_back l m w n a held =
      sums (count_if p (without_run m n l)) (count_if p (run_of m w n)) (count_if (λ e. not (within_run m n e.0) && p e) l) (count_if (λ e. within_run m n e.0 && p e) l) (count_if p l)
      (count_kept p (λ e. not (within_run m n e.0)) l) (run_part l m w n a held)
      (two_parts p (λ e. not (within_run m n e.0) && p e) (λ e. within_run m n e.0 && p e) (λ e. either (within_run m n e.0) (p e)) l)
    where
      sums : (a b c d e : ℕ) → a ≡ c → d ≡ b → e ≡ c + d → a + b ≡ e
      sums a b c d e p q r = omega arith

      either : (t u : Bool) → cond u 1 0 ≡ cond (not t && u) 1 0 + cond (t && u) 1 0
      either true true = refl
      either true false = refl
      either false true = refl
      either false false = refl

module _ (slot : ℕ → ℕ) (S C : ℕ) where
  -- a run of keys that are free, with room for all of them, is taken
  retaken : (l : Entries) (m w i n : ℕ) → ((x : ℕ) → within_run m n x ≡ true → value_in l x ≡ None)
      → ((x : ℕ) → count_if (near slot S C x) l + count_if (near slot S C x) (run_of m w n) ≤ C)
      → take_refusal slot S C l m w i n ≡ None
  retaken l m w i zero free room = refl
  retaken l m w i (suc n) free room =
      let none : value_in l m ≡ None = free m (run_first m n) in
      let g = slot m / S in
      let same : near slot S C g (m, w) ≡ true = eq-eqb g g refl in
      let one : count_if (near slot S C g) (run_of m w (suc n)) ≡ suc (count_if (near slot S C g) (run_of (suc m) w n)) = rw same in
      let lt : group_load slot S l g < C = strict (count_if (near slot S C g) l) (count_if (near slot S C g) (run_of m w (suc n))) (count_if (near slot S C g) (run_of (suc m) w n)) C one (room g) in
      let t : full C (group_load slot S l g) ≡ false = grind (arith, nat_tests) in
      let judged : take_one slot S C l m (value_in l m) ≡ None = ap (take_one slot S C l m) none ∙ ap take_room t in
      let rest = retaken (l ++ ((m, w) ∷ [])) (suc m) w (suc i) n
      (λ x h. value_push l m w x none ∙ ap (λ u. cond u (Some w) (value_in l x)) (off x h) ∙ free x (run_later m n x h))
      (λ x. subst (λ y. y ≤ C) (sym (moved x)) (room x)) in
      ap (first_of i (take_refusal slot S C (l ++ ((m, w) ∷ [])) (suc m) w (suc i) n)) judged ∙ rest
    where
      off : (x : ℕ) → within_run (suc m) n x ≡ true → eqb m x ≡ false
      off x h = grind (arith, nat_tests)

      strict : (a c d n : ℕ) → c ≡ suc d → a + c ≤ n → a < n
      strict a c d n e h = omega arith

      moved : (x : ℕ) → count_if (near slot S C x) (l ++ ((m, w) ∷ [])) + count_if (near slot S C x) (run_of (suc m) w n) ≡ count_if (near slot S C x) l + count_if (near slot S C x) (run_of m w (suc n))
      moved x = ap (λ y. y + count_if (near slot S C x) (run_of (suc m) w n)) (count_append (near slot S C x) l ((m, w) ∷ [])) ∙ sums (count_if (near slot S C x) l) (near slot S C x (m, w)) (count_if (near slot S C x) (run_of (suc m) w n))
        where
          sums : (a : ℕ) (t : Bool) (z : ℕ) → a + cond t 1 0 + z ≡ a + cond t (suc z) z
          sums a true z = omega arith
          sums a false z = omega arith

module _ {K V : Type 0} (f : Fixed K V) where
  -- after a cancel that was accepted the run finds its keys free and its groups with room
  cancel_again : (t : State) (m n w : ℕ) → Sound f t → WithinC f (opened t) → (o : Option RunRefusal) → cancel_refusal t.list m w 0 n ≡ o
      → accepted (run_end t n (without_run m n t.list) o).1 ≡ true → (answer f (run_end t n (without_run m n t.list) o).0 (to_take m n w)).1 ≡ answered n
  cancel_again t m n w ok within (Some e) h yes' = absurd (false≢true yes')
  cancel_again t m n w ok within None h yes' =
      let l = t.list in
      let none : take_refusal (slot_of f t.b) (kind f t.side).group (kind f t.side).limit (without_run m n l) m w 0 n ≡ None =
      retaken (slot_of f t.b) (kind f t.side).group (kind f t.side).limit (without_run m n l) m w 0 n
      (λ x h. value_without m n l x ∙ ap (λ u. cond u None (value_in l x)) h)
      (λ x. subst (λ y. y ≤ (kind f t.side).limit) (sym (count_back (near (slot_of f t.b) (kind f t.side).group (kind f t.side).limit x) l m w n ok.apart (λ y. held_cancelled l m w 0 n y h))) (within x)) in
      ap (λ o. (run_end (record { side = t.side; b = t.b; list = without_run m n l }) n (without_run m n l ++ run_of m w n) o).1) none

  -- the same of any machine
  good_again : (s : Model) (m n w : ℕ) → Well f s → WithinC f s → accepted (answer f s (to_cancel m n w)).1 ≡ true → (answer f (answer f s (to_cancel m n w)).0 (to_take m n w)).1 ≡ answered n
  good_again closed m n w ok within h = absurd (false≢true h)
  good_again (opened t) m n w ok within h = cancel_again t m n w ok within (cancel_refusal t.list m w 0 n) refl h

  -- a cancelled run can be taken again
  pub step_again : (s : Model) → Well f s → WithinC f s → (key : K) (n : ℕ) (value : V)
      → accepted (step f s (Cancel key n value)).1 ≡ true → (step f (step f s (Cancel key n value)).0 (Take key n value)).1 ≡ answered n
  step_again s ok within key n value =
      read_both f to_cancel to_take (f.keys.number key) n (f.values.number value) (λ a c. accepted (answer f s a).1 ≡ true → (answer f (answer f s a).0 c).1 ≡ answered n)
      (λ e h. absurd (false≢true h)) (λ m w. good_again s m n w ok within)
