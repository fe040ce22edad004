-- No group of the table in use ever holds more than C.
use Rattle.std.proofs.Common.{◌≡◌, ℕ, zero, suc, ◌+◌, ◌/◌, ◌<◌, ◌≤◌, Bool, true, false, not, ◌&&◌, eqb, leb, ◌⊎◌, List, [], ◌∷◌, ◌++◌, Some, None, Option, sym, refl, ap, subst, inl, inr, ⊎_elim, arith}
use Rattle.std.proofs.lemmas.List.{append_assoc, append-nil}
use Rattle.std.proofs.lemmas.Bool.{and_parts, cases_eq, eq-eqb, leb-false, leb-true, ne_eqb, true≢false}
use Rattle.table.specs.Meaning.{value_in}
use Rattle.table.specs.Slots.{full, within}
use Rattle.model.specs.declared.call.Call.{Call}
use Rattle.model.specs.declared.call.Call.TheVariants.{At, Cancel, Count, Enlarge, Find, Open, Take}
use Rattle.model.specs.declared.run_refusal.RunRefusal.{RunRefusal}
use Rattle.model.specs.Entries.{Entries, cancel_refusal, count_if, entries_hold, group_load, groups_hold, run_of, take_one, take_refusal, take_room, within_run, without_run}
use Rattle.model.specs.Model.{Fixed, Model, State, closed, kind, opened, other, slot_of}
use Rattle.model.specs.Step.{answer, enlarge_fit, enlarge_room, larger_fits, open_fit, open_width, room_judged, run, run_end, step, take_judged, to_cancel, to_take}
use Rattle.model.specs.History.{is}
use Rattle.model.proofs.Counting.{count_append, count_fewer, count_kept}
use Rattle.model.proofs.Leaves.{find_leaves}
use Rattle.model.proofs.Reading.{read_cases}
use Rattle.model.proofs.Runs.{first_none}

module _ (slot : ℕ → ℕ) (S C : ℕ) where
  -- within C, every group
  abbrev pub Loads : Entries → Type 0
  Loads l = (g : ℕ) → group_load slot S l g ≤ C

  -- whether an entry's key is in group g
  abbrev pub near : (g : ℕ) → (ℕ × ℕ) → Bool
  near g e = eqb (slot e.0 / S) g

  -- one more key in a group that is not full
  loads_push : (l : Entries) (m w : ℕ) → Loads l → group_load slot S l (slot m / S) < C → Loads (l ++ ((m, w) ∷ []))
  loads_push l m w ok room g =
      let all = count_append (near g) l ((m, w) ∷ []) in
      ⊎_elim
      (λ same.
      let t : near g (m, w) ≡ true = eq-eqb (slot m / S) g same in
      let equal : group_load slot S l g ≡ group_load slot S l (slot m / S) = ap (group_load slot S l) (sym same) in
      let one : count_if (near g) ((m, w) ∷ []) ≡ 1 = rw t in
      below (count_if (near g) (l ++ ((m, w) ∷ []))) (group_load slot S l g) (group_load slot S l (slot m / S)) (count_if (near g) ((m, w) ∷ [])) C all equal one room)
      (λ off.
      let t : near g (m, w) ≡ false = ne_eqb (slot m / S) g off in
      let none : count_if (near g) ((m, w) ∷ []) ≡ 0 = rw t in
      kept (count_if (near g) (l ++ ((m, w) ∷ []))) (group_load slot S l g) (count_if (near g) ((m, w) ∷ [])) C all none (ok g))
      (cases_eq (slot m / S) g)
    where
      below : (a c d e n : ℕ) → a ≡ c + e → c ≡ d → e ≡ 1 → d < n → a ≤ n
      below a c d e n p q r h = omega arith

      kept : (a c e n : ℕ) → a ≡ c + e → e ≡ 0 → c ≤ n → a ≤ n
      kept a c e n p q h = omega arith

  -- a key that can be taken has a group that is not full
  room_there : (l : Entries) (m : ℕ) (o : Option ℕ) → take_one slot S C l m o ≡ None → group_load slot S l (slot m / S) < C
  room_there l m (Some u) h = let z : ◌≡◌ {A = ℕ} 0 1 = cc in absurd (omega arith)
  room_there l m None h = by (full C (group_load slot S l (slot m / S))) refl h
    where
      by : (t : Bool) → full C (group_load slot S l (slot m / S)) ≡ t → take_room t ≡ None → group_load slot S l (slot m / S) < C
      by true is h = let z : ◌≡◌ {A = ℕ} 0 1 = cc in absurd (omega arith)
      by false is h = omega (arith, leb-false C (group_load slot S l (slot m / S)) is)

  -- a run that is taken
  loads_taken : (l : Entries) (m w i n : ℕ) → take_refusal slot S C l m w i n ≡ None → Loads l → Loads (l ++ run_of m w n)
  loads_taken l m w i zero h ok = rw append-nil ok
  loads_taken l m w i (suc n) h ok =
      let both = first_none i (take_refusal slot S C (l ++ ((m, w) ∷ [])) (suc m) w (suc i) n) (take_one slot S C l m (value_in l m)) h in
      subst Loads (append_assoc l ((m, w) ∷ []) (run_of (suc m) w n))
      (loads_taken (l ++ ((m, w) ∷ [])) (suc m) w (suc i) n both.1 (loads_push l m w ok (room_there l m (value_in l m) both.0)))

  -- a run that is cancelled
  loads_without : (l : Entries) (m n : ℕ) → Loads l → Loads (without_run m n l)
  loads_without l m n ok g =
      let q : ℕ × ℕ → Bool = λ e. not (within_run m n e.0) in
      small (count_if (near g) (without_run m n l)) (count_if (λ e. q e && near g e) l) (group_load slot S l g) C (count_kept (near g) q l) (count_fewer (near g) q l) (ok g)
    where
      small : (a c d n : ℕ) → a ≡ c → c ≤ d → d ≤ n → a ≤ n
      small a c d n p q r = omega arith

  -- a group that an entry stands in, or an empty one
  seen : (l es : Entries) (g : ℕ) → entries_hold slot S C l es ≡ true → (count_if (near g) es ≡ 0) ⊎ (group_load slot S l g ≤ C)
  seen l [] g h = inl refl
  seen l (e ∷ es) g h =
      let both = and_parts (leb (group_load slot S l (slot e.0 / S)) C) (entries_hold slot S C l es) h in
      ⊎_elim
      (λ same. inr (subst (λ x. group_load slot S l x ≤ C) same (leb-true (group_load slot S l (slot e.0 / S)) C both.0)))
      (λ off.
      let t : near g e ≡ false = ne_eqb (slot e.0 / S) g off in
      ⊎_elim (λ none. inl (rw t none)) (λ good. inr good) (seen l es g both.1))
      (cases_eq (slot e.0 / S) g)

  -- every group within C, where the test says so
  loads_moved : (l : Entries) → groups_hold slot S C l ≡ true → Loads l
  loads_moved l h g = ⊎_elim (λ none. omega (arith, none)) (λ good. good) (seen l l g h)

  -- a test that fails shows a group that holds more than C
  pub overfull : (l es : Entries) → entries_hold slot S C l es ≡ false → (g : ℕ) × (C < group_load slot S l g)
  overfull l [] h = absurd (true≢false h)
  overfull l (e ∷ es) h = by (within C (group_load slot S l (slot e.0 / S))) refl h (overfull l es)
    where
      by : (t : Bool) → within C (group_load slot S l (slot e.0 / S)) ≡ t → (t && entries_hold slot S C l es) ≡ false
          → (entries_hold slot S C l es ≡ false → (g : ℕ) × (C < group_load slot S l g)) → (g : ℕ) × (C < group_load slot S l g)
      by true is h rest = rest h
      by false is h rest = (slot e.0 / S, omega (arith, leb-false (group_load slot S l (slot e.0 / S)) C is))

module _ {K V : Type 0} (f : Fixed K V) where
  -- within C, every group of the table in use
  abbrev pub WithinC : Model → Type 0
  WithinC closed = Unit {0}
  WithinC (opened t) = Loads (slot_of f t.b) (kind f t.side).group (kind f t.side).limit t.list

  -- a run that is taken, or refused
  take_within : (t : State) (m n w : ℕ) → WithinC (opened t) → (o : Option RunRefusal) → take_judged f t m n w ≡ o → WithinC (run_end t n (t.list ++ run_of m w n) o).0
  take_within t m n w ok (Some e) h = ok
  take_within t m n w ok None h = loads_taken (slot_of f t.b) (kind f t.side).group (kind f t.side).limit t.list m w 0 n h ok

  -- a run that is cancelled, or refused
  cancel_within : (t : State) (m n : ℕ) → WithinC (opened t) → (o : Option RunRefusal) → WithinC (run_end t n (without_run m n t.list) o).0
  cancel_within t m n ok (Some e) = ok
  cancel_within t m n ok None = loads_without (slot_of f t.b) (kind f t.side).group (kind f t.side).limit t.list m n ok

  -- a take
  take_all : (s : Model) (m n w : ℕ) → WithinC s → WithinC (answer f s (to_take m n w)).0
  take_all closed m n w ok = tt
  take_all (opened t) m n w ok = take_within t m n w ok (take_judged f t m n w) refl

  -- a cancel
  cancel_all : (s : Model) (m n w : ℕ) → WithinC s → WithinC (answer f s (to_cancel m n w)).0
  cancel_all closed m n w ok = tt
  cancel_all (opened t) m n w ok = cancel_within t m n ok (cancel_refusal t.list m w 0 n)

  -- an open that fits, or not
  fit_within : (b : ℕ) (t : Bool) → WithinC (open_fit f b t).0
  fit_within b false = tt
  fit_within b true = λ g. omega arith

  -- the same before its width is known
  width_within : (b : ℕ) (t : Bool) → WithinC (open_width f b t).0
  width_within b false = tt
  width_within b true = fit_within b (f.first.fits f.keys.width f.values.width b)

  -- an open
  open_all : (s : Model) (b : ℕ) → WithinC s → WithinC (step f s (Open b)).0
  open_all closed b ok = width_within b (eqb f.mix.width f.keys.width)
  open_all (opened t) b ok = ok

  -- an enlarge, by its test
  room_within : (t : State) (u : Bool) → WithinC (opened t) → room_judged f t ≡ u → WithinC (enlarge_room f t u).0
  room_within t false ok h = ok
  room_within t true ok h = loads_moved (slot_of f (t.b + 1)) (kind f (other t.side)).group (kind f (other t.side)).limit t.list h

  -- the same before its fit is known
  larger_within : (t : State) (u : Bool) → WithinC (opened t) → WithinC (enlarge_fit f t u).0
  larger_within t false ok = ok
  larger_within t true ok = room_within t (room_judged f t) ok refl

  -- an enlarge
  enlarge_all : (s : Model) → WithinC s → WithinC (step f s Enlarge).0
  enlarge_all closed ok = tt
  enlarge_all (opened t) ok = larger_within t (larger_fits f t) ok

  -- each call
  step_within : (s : Model) (c : Call K V) → WithinC s → WithinC (step f s c).0
  step_within s (Open b) ok = open_all s b ok
  step_within s (Take key n value) ok = read_cases f to_take (f.keys.number key) n (f.values.number value) (λ a. WithinC (answer f s a).0) (λ e four. ok) (λ m w km vm keys. take_all s m n w ok)
  step_within s (Cancel key n value) ok = read_cases f to_cancel (f.keys.number key) n (f.values.number value) (λ a. WithinC (answer f s a).0) (λ e four. ok) (λ m w km vm keys. cancel_all s m n w ok)
  step_within s (Find key) ok = subst WithinC (sym (find_leaves f s (f.keys.number key))) ok
  step_within s Count ok = ok
  step_within s (At i) ok = ok
  step_within s Enlarge ok = enlarge_all s ok

  -- and so every list of calls
  pub run_within : (s : Model) (cs : List (Call K V)) → WithinC s → WithinC (run f s cs).0
  run_within s [] ok = ok
  run_within s (c ∷ cs) ok = run_within (step f s c).0 cs (step_within s c ok)
