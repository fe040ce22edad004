-- Machines with equal codings, put the same calls, keep equal lists until one of them has no room.
use Rattle.std.proofs.Common.{◌≡◌, ℕ, zero, suc, Bool, true, false, eqb, List, [], ◌∷◌, ◌++◌, length, Some, None, Option, sym, refl, ap, ◌∙◌, subst}
use Rattle.std.proofs.lemmas.Bool.{false≢true, or_parts}
use Rattle.std.specs.List.{slice_get}
use Rattle.table.specs.Meaning.{value_in}
use Rattle.model.specs.declared.call.Call.{Call}
use Rattle.model.specs.declared.call.Call.TheVariants.{At, Cancel, Count, Enlarge, Find, Open, Take}
use Rattle.model.specs.declared.run_refusal.RunRefusal.{RunRefusal}
use Rattle.model.specs.Entries.{Entries, cancel_one, cancel_other, cancel_refusal, first_of, run_of, without_run}
use Rattle.model.specs.Model.{Fixed, Model, State, answered, closed, opened}
use Rattle.model.specs.Step.{Asked, answer, enlarge_fit, enlarge_room, enlarging, find_reply, larger_fits, open_fit, open_width, read_find, room_judged, run, run_end, step, take_judged, to_cancel, to_take}
use Rattle.model.specs.History.{accepted, answers_four, any_before, full_take, paired}
use Rattle.model.specs.Laws.{Alike, SameCodings, plain}
use Rattle.model.proofs.Agreement.{asked_same, end_room, follows, judged_same, no_room}
use Rattle.model.proofs.Reading.{read_cases}

-- open, with this list
abbrev Holds : Model → Entries → Type 0
Holds closed l = ⊥
Holds (opened t) l = t.list ≡ l

-- both open, with one list
abbrev Same : Model → Model → Type 0
Same closed s = ⊥
Same (opened t) closed = ⊥
Same (opened t) (opened u) = t.list ≡ u.list

-- two open machines with equal lists
both_hold : (x y : Model) (l r : Entries) → Holds x l → Holds y r → l ≡ r → Same x y
both_hold closed y l r p q e = absurd p
both_hold (opened t) closed l r p q e = absurd q
both_hold (opened t) (opened u) l r p q e = p ∙ e ∙ sym q

-- a run that is refused, or done, in both
end_same : (t u : State) (n : ℕ) (l r : Entries) → t.list ≡ u.list → l ≡ r → (o : Option RunRefusal) → Same (run_end t n l o).0 (run_end u n r o).0
end_same t u n l r e lr (Some d) = e
end_same t u n l r e lr None = lr

module _ {K V : Type 0} (f : Fixed K V) where
  -- an enlargement leaves the list
  room_holds : (t : State) (x : Bool) → Holds (enlarge_room f t x).0 t.list
  room_holds t true = refl
  room_holds t false = refl

  -- the same before its fit is known
  fit_holds : (t : State) (x : Bool) → Holds (enlarge_fit f t x).0 t.list
  fit_holds t false = refl
  fit_holds t true = room_holds t (room_judged f t)

  -- an open that is accepted leaves an empty list
  fit_opened : (b : ℕ) (t : Bool) → accepted (open_fit f b t).1 ≡ true → Holds (open_fit f b t).0 []
  fit_opened b false h = absurd (false≢true h)
  fit_opened b true h = refl

  -- the same before its width is known
  width_opened : (b : ℕ) (t : Bool) → accepted (open_width f b t).1 ≡ true → Holds (open_width f b t).0 []
  width_opened b false h = absurd (false≢true h)
  width_opened b true h = fit_opened b (f.first.fits f.keys.width f.values.width b) h

-- what stands against a cancel is never 4
cancel_one_four : (w : ℕ) (o : Option ℕ) (i : ℕ) (x : Option RunRefusal) → no_room x ≡ false → no_room (first_of i x (cancel_one w o)) ≡ false
cancel_one_four w None i x ih = refl
cancel_one_four w (Some u) i x ih = by (eqb u w)
  where
    by : (t : Bool) → no_room (first_of i x (cancel_other t)) ≡ false
    by true = ih
    by false = refl

-- nor of a run
cancel_run_four : (l : Entries) (m w i n : ℕ) → no_room (cancel_refusal l m w i n) ≡ false
cancel_run_four l m w i zero = refl
cancel_run_four l m w i (suc n) = cancel_one_four w (value_in l m) i (cancel_refusal l (suc m) w (suc i) n) (cancel_run_four l (suc m) w (suc i) n)

-- nor is the reply to a find
find_reply_four : (o : Option ℕ) → answers_four (find_reply o) ≡ false
find_reply_four None = refl
find_reply_four (Some w) = refl

-- cancel and find are never answered with 4
module _ {K V : Type 0} (f : Fixed K V) (t : State) where
  -- cancel
  cancel_four : (key : K) (n : ℕ) (value : V) → answers_four (step f (opened t) (Cancel key n value)).1 ≡ false
  cancel_four key n value =
      read_cases f to_cancel (f.keys.number key) n (f.values.number value) (λ a. answers_four (answer f (opened t) a).1 ≡ false) (λ e four. four)
      (λ m w km vm keys. end_room t n (without_run m n t.list) (cancel_refusal t.list m w 0 n) ∙ cancel_run_four t.list m w 0 n)

  -- find
  find_four : (key : K) → answers_four (step f (opened t) (Find key)).1 ≡ false
  find_four key = by (f.keys.number key)
    where
      by : (o : Option ℕ) → answers_four (answer f (opened t) (read_find o)).1 ≡ false
      by None = refl
      by (Some m) = find_reply_four (value_in t.list m)

module _ {K V : Type 0} (f g : Fixed K V) (same : SameCodings f g) where
  module _ (t u : State) (e : t.list ≡ u.list) where
    -- with one list, the same is held everywhere
    agree : (x : ℕ) → value_in t.list x ≡ value_in u.list x
    agree x = ap (λ l. value_in l x) e

    -- a take
    take_still : (m n w : ℕ) → answers_four (answer f (opened t) (to_take m n w)).1 ≡ false → answers_four (answer g (opened u) (to_take m n w)).1 ≡ false
        → Same (answer f (opened t) (to_take m n w)).0 (answer g (opened u) (to_take m n w)).0
    take_still m n w p q =
        subst (λ o. Same (run_end t n (t.list ++ run_of m w n) (take_judged f t m n w)).0 (run_end u n (u.list ++ run_of m w n) o).0) (judged_same f g same t u m n w (λ x h. agree x) p q)
        (end_same t u n (t.list ++ run_of m w n) (u.list ++ run_of m w n) e (ap (λ l. l ++ run_of m w n) e) (take_judged f t m n w))

    -- a cancel
    cancel_still : (m n w : ℕ) → Same (answer f (opened t) (to_cancel m n w)).0 (answer g (opened u) (to_cancel m n w)).0
    cancel_still m n w =
        subst (λ o. Same (run_end t n (without_run m n t.list) (cancel_refusal t.list m w 0 n)).0 (run_end u n (without_run m n u.list) o).0) (ap (λ l. cancel_refusal l m w 0 n) e)
        (end_same t u n (without_run m n t.list) (without_run m n u.list) e (ap (without_run m n) e) (cancel_refusal t.list m w 0 n))

    -- a find
    find_still : (o : Option ℕ) → Same (answer f (opened t) (read_find o)).0 (answer g (opened u) (read_find o)).0
    find_still None = e
    find_still (Some m) = e

    -- after one call the lists are equal again
    still : (c : Call K V) → full_take (c, (step f (opened t) c).1) ≡ false → full_take (c, (step g (opened u) c).1) ≡ false → Same (step f (opened t) c).0 (step g (opened u) c).0
    still (Open b) p q = e
    still (Take key n value) p q =
        let F : Asked → Type 0 = λ a. answers_four (answer f (opened t) a).1 ≡ false → answers_four (answer g (opened u) a).1 ≡ false → Same (answer f (opened t) a).0 (answer g (opened u) a).0 in
        let all = read_cases f to_take (f.keys.number key) n (f.values.number value) F (λ d four p q. e) (λ m w km vm keys. take_still m n w) in
        subst (λ d. answers_four (answer g (opened u) d).1 ≡ false → Same (step f (opened t) (Take key n value)).0 (answer g (opened u) d).0) (asked_same f g same (Take key n value)) (all p) q
    still (Cancel key n value) p q =
        let F : Asked → Type 0 = λ a. Same (answer f (opened t) a).0 (answer g (opened u) a).0 in
        let all = read_cases f to_cancel (f.keys.number key) n (f.values.number value) F (λ d four. e) (λ m w km vm keys. cancel_still m n w) in
        subst (λ d. Same (step f (opened t) (Cancel key n value)).0 (answer g (opened u) d).0) (asked_same f g same (Cancel key n value)) all
    still (Find key) p q = subst (λ d. Same (step f (opened t) (Find key)).0 (answer g (opened u) d).0) (asked_same f g same (Find key)) (find_still (f.keys.number key))
    still Count p q = e
    still (At i) p q = e
    still Enlarge p q = both_hold (enlarging f (opened t)).0 (enlarging g (opened u)).0 t.list u.list (fit_holds f t (larger_fits f t)) (fit_holds g u (larger_fits g u)) e

    -- the replies are the same
    reply : (c : Call K V) → plain c ≡ true → full_take (c, (step f (opened t) c).1) ≡ false → full_take (c, (step g (opened u) c).1) ≡ false → (step f (opened t) c).1 ≡ (step g (opened u) c).1
    reply (Open b) h p q = absurd (false≢true h)
    reply (Take key n value) h p q = follows f g same t u (Take key n value) (λ x covered. agree x) p q
    reply (Cancel key n value) h p q = follows f g same t u (Cancel key n value) (λ x covered. agree x) (cancel_four f t key n value) (cancel_four g u key n value)
    reply (Find key) h p q = follows f g same t u (Find key) (λ x covered. agree x) (find_four f t key) (find_four g u key)
    reply Count h p q = ap (λ l. answered (length l)) e
    reply (At i) h p q = absurd (false≢true h)
    reply Enlarge h p q = absurd (false≢true h)

  -- the same of any two machines with one list
  step_still : (s s' : Model) → Same s s' → (c : Call K V) → full_take (c, (step f s c).1) ≡ false → full_take (c, (step g s' c).1) ≡ false → Same (step f s c).0 (step g s' c).0
  step_still closed s' e c p q = absurd e
  step_still (opened t) closed e c p q = absurd e
  step_still (opened t) (opened u) e c p q = still t u e c p q

  -- and of their replies
  step_reply : (s s' : Model) → Same s s' → (c : Call K V) → plain c ≡ true → full_take (c, (step f s c).1) ≡ false → full_take (c, (step g s' c).1) ≡ false → (step f s c).1 ≡ (step g s' c).1
  step_reply closed s' e c h p q = absurd e
  step_reply (opened t) closed e c h p q = absurd e
  step_reply (opened t) (opened u) e c h p q = reply t u e c h p q

  -- a list of calls, from two machines with one list on
  run_alike : (cs : List (Call K V)) (s s' : Model) → Same s s' → (i : ℕ) (c : Call K V) → slice_get cs i ≡ Some c → plain c ≡ true
      → any_before full_take (suc i) (paired cs (run f s cs).1) ≡ false
      → any_before full_take (suc i) (paired cs (run g s' cs).1) ≡ false
      → slice_get (run f s cs).1 i ≡ slice_get (run g s' cs).1 i
  run_alike [] s s' e i c at pl p q = refl
  run_alike (d ∷ cs) s s' e zero c at pl p q =
      let p' = or_parts (full_take (d, (step f s d).1)) false p in
      let q' = or_parts (full_take (d, (step g s' d).1)) false q in
      let dc : d ≡ c = cc in
      ap Some (step_reply s s' e d (ap plain dc ∙ pl) p'.0 q'.0)
  run_alike (d ∷ cs) s s' e (suc i) c at pl p q =
      let p' = or_parts (full_take (d, (step f s d).1)) (any_before full_take (suc i) (paired cs (run f (step f s d).0 cs).1)) p in
      let q' = or_parts (full_take (d, (step g s' d).1)) (any_before full_take (suc i) (paired cs (run g (step g s' d).0 cs).1)) q in
      run_alike cs (step f s d).0 (step g s' d).0 (step_still s s' e d p'.0 q'.0) i c at pl p'.1 q'.1

  -- a list of calls that begins with an open that both accept
  pub alike : (b : ℕ) (rest : List (Call K V)) → accepted (step f closed (Open b)).1 ≡ true → accepted (step g closed (Open b)).1 ≡ true → Alike f g (Open b ∷ rest)
  alike b rest p q zero c at pl x y = let oc : Open b ≡ c = cc in absurd (false≢true (ap plain oc ∙ pl))
  alike b rest p q (suc i) c at pl x y =
      let s = (step f closed (Open b)).0 in
      let s' = (step g closed (Open b)).0 in
      let start : Same s s' = both_hold s s' [] [] (width_opened f b (eqb f.mix.width f.keys.width) p) (width_opened g b (eqb g.mix.width g.keys.width) q) refl in
      run_alike rest s s' start i c at pl x y
