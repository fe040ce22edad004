-- A history cut in three, with nothing changed in the middle.
use Rattle.std.proofs.Common.{◌≡◌, ℕ, ◌^◌, ◌<◌, ◌≤◌, Bool, true, false, not, ◌&&◌, eqb, ltb, ◌⊎◌, List, [], ◌∷◌, ◌++◌, length, get_or, Some, None, Option, sym, refl, ap, ◌∙◌, subst, inl, inr, ⊎_elim, arith}
use Rattle.std.proofs.ByRecursion.{all-has, has_get_or}
use Rattle.std.proofs.lemmas.Bool.{and_parts, cases_Bool, lt-ltb, ltb-false, ltb-true, not-true, true≢false}
use Rattle.std.proofs.lemmas.Bool.Decides.{nat_tests}
use Rattle.std.specs.List.{ContainsAt as Has, AllByRecursion as All}
use Rattle.table.specs.Meaning.{value_in}
use Rattle.model.specs.declared.call.Call.{Call}
use Rattle.model.specs.declared.call.Call.TheVariants.{At, Cancel, Count, Enlarge, Find, Open, Take}
use Rattle.model.specs.declared.run_refusal.RunRefusal.{RunRefusal}
use Rattle.model.specs.Entries.{Entries, cancel_refusal, run_of, without_run}
use Rattle.model.specs.Model.{Fixed, Model, Reply, State, answered, closed, entries, listed, opened, slot_of}
use Rattle.model.specs.Step.{answer, enlarge_fit, enlarge_room, larger_fits, open_fit, open_width, read_find, room_judged, run, run_end, step, take_judged, to_cancel, to_take, walk_of}
use Rattle.model.specs.History.{History, accepted, calls_of, changes, held, history, is, paired, quiet}
use Rattle.model.specs.Laws.{Apart, Lawful, Listing, Lists, Walked}
use Rattle.model.proofs.Balance.{held_entries}
use Rattle.model.proofs.Reading.{read_cases}
use Rattle.model.proofs.Standing.{slots_below}
use Rattle.model.proofs.Tallies.{count_every}
use Rattle.model.proofs.Tells.{Well, list_tells, run_well}
use Rattle.model.proofs.Walks.{apart_walk, has_from_value, length_walk, places_apart, value_from_has, value_within, walk_nil}

-- what a reply says of a list, where a place or the count is asked for
abbrev Right : {K V : Type 0} → Entries → (Call K V × Reply) → Type 0
Right l (Open b, r) = Unit {0}
Right l (Take key n value, r) = Unit {0}
Right l (Cancel key n value, r) = Unit {0}
Right l (Find key, r) = Unit {0}
Right l (Count, r) = r ≡ answered (length l)
Right l (At i, r) = (i < length l → r ≡ listed (get_or l i (0, 0)).0 (get_or l i (0, 0)).1) × (length l ≤ i → accepted r ≡ false)
Right l (Enlarge, r) = Unit {0}

module _ {K V : Type 0} (f : Fixed K V) where
  -- neither the walk nor the list is changed
  abbrev Still : Model → (Model × Reply) → Type 0
  Still s after = (walk_of f after.0 ≡ walk_of f s) × (entries after.0 ≡ entries s)

  -- a run that is refused
  run_still : (t : State) (n : ℕ) (l : Entries) (o : Option RunRefusal) → (accepted (run_end t n l o).1 && true) ≡ false → Still (opened t) (run_end t n l o)
  run_still t n l (Some e) h = (refl, refl)
  run_still t n l None h = absurd (true≢false h)

  -- a take that is refused
  take_still : (s : Model) (m n w : ℕ) → (accepted (answer f s (to_take m n w)).1 && true) ≡ false → Still s (answer f s (to_take m n w))
  take_still closed m n w h = (refl, refl)
  take_still (opened t) m n w h = run_still t n (t.list ++ run_of m w n) (take_judged f t m n w) h

  -- a cancel that is refused
  cancel_still : (s : Model) (m n w : ℕ) → (accepted (answer f s (to_cancel m n w)).1 && true) ≡ false → Still s (answer f s (to_cancel m n w))
  cancel_still closed m n w h = (refl, refl)
  cancel_still (opened t) m n w h = run_still t n (without_run m n t.list) (cancel_refusal t.list m w 0 n) h

  -- a find
  find_still : (s : Model) (o : Option ℕ) → Still s (answer f s (read_find o))
  find_still s None = (refl, refl)
  find_still s (Some m) = (refl, refl)

  -- an open changes an empty list into an empty one
  fit_still : (b : ℕ) (t : Bool) → Still closed (open_fit f b t)
  fit_still b false = (refl, refl)
  fit_still b true = (walk_nil (slot_of f b) (2 ^ b), refl)

  -- the same before its width is known
  width_still : (b : ℕ) (t : Bool) → Still closed (open_width f b t)
  width_still b false = (refl, refl)
  width_still b true = fit_still b (f.first.fits f.keys.width f.values.width b)

  -- an open of any machine
  open_still : (s : Model) (b : ℕ) → Still s (step f s (Open b))
  open_still closed b = width_still b (eqb f.mix.width f.keys.width)
  open_still (opened t) b = (refl, refl)

  -- an enlarge that is refused
  room_still : (t : State) (u : Bool) → (accepted (enlarge_room f t u).1 && true) ≡ false → Still (opened t) (enlarge_room f t u)
  room_still t false h = (refl, refl)
  room_still t true h = absurd (true≢false h)

  -- the same before its fit is known
  larger_still : (t : State) (u : Bool) → (accepted (enlarge_fit f t u).1 && true) ≡ false → Still (opened t) (enlarge_fit f t u)
  larger_still t false h = (refl, refl)
  larger_still t true h = room_still t (room_judged f t) h

  -- an enlarge of any machine
  enlarge_still : (s : Model) → (accepted (step f s Enlarge).1 && true) ≡ false → Still s (step f s Enlarge)
  enlarge_still closed h = (refl, refl)
  enlarge_still (opened t) h = larger_still t (larger_fits f t) h

  -- a call that is quiet
  step_still : (s : Model) (c : Call K V) → (accepted (step f s c).1 && changes c) ≡ false → Still s (step f s c)
  step_still s (Open b) h = open_still s b
  step_still s (Take key n value) h =
      read_cases f to_take (f.keys.number key) n (f.values.number value) (λ a. (accepted (answer f s a).1 && true) ≡ false → Still s (answer f s a)) (λ e four h. (refl, refl)) (λ m w km vm keys. take_still s m n w) h
  step_still s (Cancel key n value) h =
      read_cases f to_cancel (f.keys.number key) n (f.values.number value) (λ a. (accepted (answer f s a).1 && true) ≡ false → Still s (answer f s a)) (λ e four h. (refl, refl)) (λ m w km vm keys. cancel_still s m n w) h
  step_still s (Find key) h = find_still s (f.keys.number key)
  step_still s Count h = (refl, refl)
  step_still s (At i) h = (refl, refl)
  step_still s Enlarge h = enlarge_still s h

  -- a place below the count is answered from the walk
  place_right : (s : Model) (l : Entries) (i : ℕ) → walk_of f s ≡ l → length (entries s) ≡ length l → i < length l
      → (step f s (At i)).1 ≡ listed (get_or l i (0, 0)).0 (get_or l i (0, 0)).1
  place_right closed l i is long h = let none : 0 ≡ length l = long in absurd (omega arith)
  place_right (opened t) l i is long h =
      let u : ltb i (length t.list) ≡ true = lt-ltb i (length t.list) (omega arith) in
      rw u (ap (λ (d : Entries). listed (get_or d i (0, 0)).0 (get_or d i (0, 0)).1) is)

  -- and one that is not below it is refused
  past_right : (s : Model) (l : Entries) (i : ℕ) → length (entries s) ≡ length l → length l ≤ i → accepted (step f s (At i)).1 ≡ false
  past_right closed l i long h = refl
  past_right (opened t) l i long h = let u : ltb i (length t.list) ≡ false = grind (arith, nat_tests) in rw u

  -- every reply is right by the walk
  step_right : (s : Model) (l : Entries) (c : Call K V) → walk_of f s ≡ l → length (entries s) ≡ length l → Right l (c, (step f s c).1)
  step_right s l (Open b) is long = tt
  step_right s l (Take key n value) is long = tt
  step_right s l (Cancel key n value) is long = tt
  step_right s l (Find key) is long = tt
  step_right s l Count is long = ap answered long
  step_right s l (At i) is long = (place_right s l i is long, past_right s l i long)
  step_right s l Enlarge is long = tt

  -- so is every reply in a quiet stretch
  quiet_right : (cs : List (Call K V)) (s : Model) (l : Entries) → walk_of f s ≡ l → length (entries s) ≡ length l
      → quiet (paired cs (run f s cs).1) ≡ true → All (Right l) (paired cs (run f s cs).1)
  quiet_right [] s l is long q = tt
  quiet_right (c ∷ cs) s l is long q =
      let both = and_parts (not (accepted (step f s c).1 && changes c)) (quiet (paired cs (run f (step f s c).0 cs).1)) q in
      let still = step_still s c (not-true (accepted (step f s c).1 && changes c) both.0) in
      (step_right s l c is long, quiet_right cs (step f s c).0 l (still.0 ∙ is) (ap length still.1 ∙ long) both.1)

  -- where a history is cut, its calls are
  pub record Cut (s : Model) (front back : History K V) : Type 0 where
    pub early : List (Call K V)
    pub late : List (Call K V)
    pub front_is : front ≡ paired early (run f s early).1
    pub back_is : back ≡ paired late (run f (run f s early).0 late).1

  -- every cut of a history is one of its calls
  cut : (front back : History K V) (s : Model) (cs : List (Call K V)) → paired cs (run f s cs).1 ≡ front ++ back → Cut s front back
  cut [] back s cs h = record { early = []; late = cs; front_is = refl; back_is = sym h }
  cut (e ∷ front) back s [] h = let z : ◌≡◌ {A = ℕ} 0 1 = cc in absurd (omega arith)
  cut (e ∷ front) back s (c ∷ cs) h =
      let rest : paired cs (run f (step f s c).0 cs).1 ≡ front ++ back = cc in
      let first : e ≡ (c, (step f s c).1) = cc in
      let ih = cut front back (step f s c).0 cs rest in
      record {
        early = c ∷ ih.early;
        late = ih.late;
        front_is = let more = ih.front_is in cc;
        back_is = ih.back_is;
      }

  -- the calls of a history are those put
  calls_back : (cs : List (Call K V)) (s : Model) → calls_of (paired cs (run f s cs).1) ≡ cs
  calls_back [] s = refl
  calls_back (c ∷ cs) s = ap (λ h. c ∷ h) (calls_back cs (step f s c).0)

  module _ (law : Lawful f) where
    -- the walk is as long as the list
    length_of : (s : Model) → Well f s → length (walk_of f s) ≡ length (entries s)
    length_of closed ok = refl
    length_of (opened t) ok = length_walk (slot_of f t.b) (2 ^ t.b) t.list (slots_below f law t ok)

    -- its keys are apart
    apart_of : (s : Model) → Well f s → Apart (walk_of f s)
    apart_of closed ok = tt
    apart_of (opened t) ok = apart_walk (slot_of f t.b) (2 ^ t.b) t.list ok.apart

    -- it says what the list says
    value_of_walk : (s : Model) → Well f s → (x : ℕ) → value_in (walk_of f s) x ≡ value_in (entries s) x
    value_of_walk closed ok x = refl
    value_of_walk (opened t) ok x = value_within (slot_of f t.b) (2 ^ t.b) t.list x (slots_below f law t ok)

    -- the walk lists what is held
    lists : (early cs : List (Call K V)) → quiet (paired cs (run f (run f closed early).0 cs).1) ≡ true
        → Lists f (history f early) (paired cs (run f (run f closed early).0 cs).1) (walk_of f (run f closed early).0)
    lists early cs q =
        let s = (run f closed early).0 in
        let ok : Well f s = run_well f law closed early tt in
        let l = walk_of f s in
        let apart = apart_of s ok in
        let long = length_of s ok in
        let right = quiet_right cs s l refl (sym long) q in
        let says : (m : ℕ) → held f (history f early) m ≡ value_in l m = λ m. list_tells f law early m ∙ sym (value_of_walk s ok m) in
        record {
          long = long ∙ sym (held_entries f law (λ u. true) early ∙ count_every (entries s));
          counted = long ∙ ap (λ d. length (entries (run f closed d).0)) (sym (calls_back early closed));
          apart = apart;
          only_held = λ m w has. says m ∙ value_from_has l m w apart has;
          all_held = λ m w h. has_from_value l m w (sym (says m) ∙ h);
          answers = λ i r has. (all-has (Right l) (paired cs (run f s cs).1) (At i, r) right has).0;
          no_others = λ i r has. (all-has (Right l) (paired cs (run f s cs).1) (At i, r) right has).1;
          counts = λ r has. all-has (Right l) (paired cs (run f s cs).1) (Count, r) right has;
        }

  -- the pairs answered, where every place was asked for
  module _ (before middle : History K V) (l : Entries) (all : Lists f before middle l) where
    -- a place that was answered with an entry is below the count
    inside : (i m w : ℕ) → Has middle (At i, listed m w) → i < length l
    inside i m w has = ⊎_elim (λ lt. lt) (λ ge. absurd (true≢false (all.no_others i (listed m w) has ge))) (either i (length l))
      where
        either : (x y : ℕ) → (x < y) ⊎ (y ≤ x)
        either x y = ⊎_elim (λ e. inl (ltb-true x y e)) (λ e. inr (omega (arith, ltb-false x y e))) (cases_Bool (ltb x y))

    -- and has that entry there
    on_place : (i m w : ℕ) → Has middle (At i, listed m w) → (m ≡ (get_or l i (0, 0)).0) × (w ≡ (get_or l i (0, 0)).1)
    on_place i m w has = let is = all.answers i (listed m w) has (inside i m w has) in (cc, cc)

    -- so the answers are the held pairs, each once
    walked_all : ((i : ℕ) → i < length l → (r : Reply) × Has middle (At i, r)) → Walked f before middle
    walked_all put = record {
      none_else = λ i m w has.
          let at = on_place i m w has in
          let here : Has l ((get_or l i (0, 0)).0, (get_or l i (0, 0)).1) = has_get_or l i (0, 0) (inside i m w has) in
          let moved : Has l (m, w) = subst (λ (p : ℕ × ℕ). Has l (p.0, p.1)) (ap (λ x. (x, (get_or l i (0, 0)).1)) (sym at.0) ∙ ap (λ y. (m, y)) (sym at.1)) here in
          all.only_held m w moved;
      none_left = λ m w h.
          let has = all.all_held m w h in
          let i = has.0 in
          let asked = put i has.1 in
          let is = all.answers i asked.0 asked.1 has.1 in
          let at : get_or l i (0, 0) ≡ (m, w) = has.2 (0, 0) in
          let reply : asked.0 ≡ listed m w = is ∙ ap (λ (p : ℕ × ℕ). listed p.0 p.1) at in
          (i, subst (λ r. Has middle (At i, r)) reply asked.1);
      once = λ i j m w u hi hj. places_apart l all.apart i j (inside i m w hi) (inside j m u hj) (sym (on_place i m w hi).0 ∙ (on_place j m u hj).0);
    }

  -- wherever the history is cut
  pub cut_lists : Lawful f → (calls : List (Call K V)) (before middle after : History K V) → history f calls ≡ before ++ (middle ++ after) → quiet middle ≡ true → Listing f before middle
  cut_lists law calls before middle after h q =
      let one = cut before (middle ++ after) closed calls h in
      let s = (run f closed one.early).0 in
      let two = cut middle after s one.late (sym one.back_is) in
      let l = walk_of f s in
      let good : Lists f (history f one.early) (paired two.early (run f s two.early).1) l = lists law one.early two.early (subst (λ d. quiet d ≡ true) two.front_is q) in
      let all : Lists f before middle l = subst (λ d. Lists f d middle l) (sym one.front_is) (subst (λ d. Lists f (history f one.early) d l) (sym two.front_is) good) in
      record {
        lists = (l, all);
        walked = λ put. walked_all before middle l all (λ i lt. put i (subst (λ n. i < n) all.long lt));
      }
