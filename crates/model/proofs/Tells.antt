-- The model's list tells what is held, at every step and so after every list of calls.
use Rattle.std.proofs.Common.{◌≡◌, ℕ, ◌^◌, ◌<◌, ◌≤◌, Bool, true, false, cond, not, ◌&&◌, eqb, List, [], ◌∷◌, ◌++◌, Some, None, Option, sym, refl, ap, ◌∙◌, arith}
use Rattle.std.proofs.ByRecursion.{All-append, all_kept_by}
use Rattle.std.proofs.lemmas.Bool.{eqb-true}
use Rattle.std.specs.List.{AllByRecursion as All}
use Rattle.table.specs.Meaning.{value_in}
use Rattle.model.specs.declared.call.Call.{Call}
use Rattle.model.specs.declared.call.Call.TheVariants.{At, Cancel, Count, Enlarge, Find, Open, Take}
use Rattle.model.specs.declared.run_refusal.RunRefusal.{RunRefusal}
use Rattle.model.specs.Entries.{cancel_refusal, run_of, within_run, without_run}
use Rattle.model.specs.Model.{Fixed, Model, Reply, State, closed, entries, kind, opened, slot_of}
use Rattle.model.specs.Step.{answer, enlarge_fit, enlarge_room, larger_fits, no_key, open_fit, open_width, read_find, room_judged, run, run_end, step, take_judged, to_cancel, to_take}
use Rattle.model.specs.History.{accepted, held, held_from, held_next, history, paired}
use Rattle.model.specs.Laws.{Apart, Lawful}
use Rattle.model.proofs.Reading.{keys_fit, read_cases}
use Rattle.model.proofs.Runs.{apart_taken, apart_without, below_run, small_run, value_taken, value_without}

module _ {K V : Type 0} (f : Fixed K V) where
  -- what holds of an open machine after any calls
  pub record Sound (t : State) : Type 0 where
    pub apart : Apart t.list
    pub below : All (λ e. e.0 < 2 ^ f.keys.width) t.list
    pub small : All (λ e. e.1 < 2 ^ f.values.width) t.list
    pub widths : f.mix.width ≡ f.keys.width
    pub fit : (kind f t.side).fits f.keys.width f.values.width t.b ≡ true

  -- the same of a machine
  abbrev pub Well : Model → Type 0
  Well closed = Unit {0}
  Well (opened t) = Sound t

  -- what a step keeps, and what it does to what the list says of a key
  pub record Kept (s : Model) (c : Call K V) (after : Model × Reply) : Type 0 where
    pub well : Well after.0
    pub tells : (x : ℕ) → value_in (entries after.0) x ≡ held_next f (c, after.1) x (value_in (entries s) x)

  module _ (law : Lawful f) where
    -- a run that is taken, or refused
    take_end : (t : State) (m n w : ℕ) (key : K) (value : V) → Sound t → f.keys.number key ≡ Some m → f.values.number value ≡ Some w → no_key f m 0 n ≡ None
        → (o : Option RunRefusal) → take_judged f t m n w ≡ o
        → Kept (opened t) (Take key n value) (run_end t n (t.list ++ run_of m w n) o)
    take_end t m n w key value ok km vm keys (Some e) h = record { well = ok; tells = λ x. refl }
    take_end t m n w key value ok km vm keys None h =
        let le : m ≤ 2 ^ f.keys.width = let lt = law.keys.below key m km in omega arith in
        record {
          well = record {
            apart = apart_taken (slot_of f t.b) (kind f t.side).group (kind f t.side).limit t.list m w 0 n h ok.apart;
            below = All-append (λ e. e.0 < 2 ^ f.keys.width) t.list (run_of m w n) ok.below (below_run m w n (2 ^ f.keys.width) (keys_fit f law.keys m 0 n keys le));
            small = All-append (λ e. e.1 < 2 ^ f.values.width) t.list (run_of m w n) ok.small (small_run m w n (2 ^ f.values.width) (law.values.below value w vm));
            widths = ok.widths;
            fit = ok.fit;
          };
          tells = λ x. rw (km, vm) (value_taken (slot_of f t.b) (kind f t.side).group (kind f t.side).limit t.list m w 0 n x h);
        }

    -- a run that is cancelled, or refused
    cancel_end : (t : State) (m n w : ℕ) (key : K) (value : V) → Sound t → f.keys.number key ≡ Some m
        → (o : Option RunRefusal) → cancel_refusal t.list m w 0 n ≡ o
        → Kept (opened t) (Cancel key n value) (run_end t n (without_run m n t.list) o)
    cancel_end t m n w key value ok km (Some e) h = record { well = ok; tells = λ x. refl }
    cancel_end t m n w key value ok km None h =
        record {
          well = record {
            apart = apart_without m n t.list ok.apart;
            below = all_kept_by (λ e. not (within_run m n e.0)) (λ e. e.0 < 2 ^ f.keys.width) t.list ok.below;
            small = all_kept_by (λ e. not (within_run m n e.0)) (λ e. e.1 < 2 ^ f.values.width) t.list ok.small;
            widths = ok.widths;
            fit = ok.fit;
          };
          tells = λ x. rw km (value_without m n t.list x);
        }

    -- a take whose numbers are good
    take_good : (s : Model) (m n w : ℕ) (key : K) (value : V) → Well s → f.keys.number key ≡ Some m → f.values.number value ≡ Some w → no_key f m 0 n ≡ None
        → Kept s (Take key n value) (answer f s (to_take m n w))
    take_good closed m n w key value ok km vm keys = record { well = tt; tells = λ x. refl }
    take_good (opened t) m n w key value ok km vm keys = take_end t m n w key value ok km vm keys (take_judged f t m n w) refl

    -- a cancel whose numbers are good
    cancel_good : (s : Model) (m n w : ℕ) (key : K) (value : V) → Well s → f.keys.number key ≡ Some m → Kept s (Cancel key n value) (answer f s (to_cancel m n w))
    cancel_good closed m n w key value ok km = record { well = tt; tells = λ x. refl }
    cancel_good (opened t) m n w key value ok km = cancel_end t m n w key value ok km (cancel_refusal t.list m w 0 n) refl

    -- a call that covers nothing
    pub and_no : (t : Bool) (o : Option ℕ) → o ≡ cond (t && false) None o
    and_no true o = refl
    and_no false o = refl

    -- a find
    find_kept : (s : Model) (key : K) → Well s → (o : Option ℕ) → Kept s (Find key) (answer f s (read_find o))
    find_kept s key ok None = record { well = ok; tells = λ x. refl }
    find_kept s key ok (Some m) = record { well = ok; tells = λ x. and_no (accepted (answer f s (read_find (Some m))).1) (value_in (entries s) x) }

    -- an open that fits, or not
    fit_kept : (b : ℕ) → f.mix.width ≡ f.keys.width → (t : Bool) → f.first.fits f.keys.width f.values.width b ≡ t → Kept closed (Open b) (open_fit f b t)
    fit_kept b widths false e = record { well = tt; tells = λ x. refl }
    fit_kept b widths true e = record { well = record { apart = tt; below = tt; small = tt; widths = widths; fit = e }; tells = λ x. refl }

    -- the same before its width is known
    width_kept : (b : ℕ) (t : Bool) → eqb f.mix.width f.keys.width ≡ t → Kept closed (Open b) (open_width f b t)
    width_kept b false e = record { well = tt; tells = λ x. refl }
    width_kept b true e = fit_kept b (eqb-true f.mix.width f.keys.width e) (f.first.fits f.keys.width f.values.width b) refl

    -- an open
    open_kept : (s : Model) (b : ℕ) → Well s → Kept s (Open b) (step f s (Open b))
    open_kept closed b ok = width_kept b (eqb f.mix.width f.keys.width) refl
    open_kept (opened t) b ok = record { well = ok; tells = λ x. refl }

    -- an enlarge, with room or without
    room_kept : (t : State) → Sound t → larger_fits f t ≡ true → (u : Bool) → Kept (opened t) Enlarge (enlarge_room f t u)
    room_kept t ok fit false = record { well = ok; tells = λ x. refl }
    room_kept t ok fit true = record { well = record { apart = ok.apart; below = ok.below; small = ok.small; widths = ok.widths; fit = fit }; tells = λ x. refl }

    -- the same before its fit is known
    enlarge_kept_fit : (t : State) → Sound t → (u : Bool) → larger_fits f t ≡ u → Kept (opened t) Enlarge (enlarge_fit f t u)
    enlarge_kept_fit t ok false e = record { well = ok; tells = λ x. refl }
    enlarge_kept_fit t ok true e = room_kept t ok e (room_judged f t)

    -- an enlarge
    enlarge_kept : (s : Model) → Well s → Kept s Enlarge (step f s Enlarge)
    enlarge_kept closed ok = record { well = tt; tells = λ x. refl }
    enlarge_kept (opened t) ok = enlarge_kept_fit t ok (larger_fits f t) refl

    -- each call
    pub step_kept : (s : Model) (c : Call K V) → Well s → Kept s c (step f s c)
    step_kept s (Open b) ok = open_kept s b ok
    step_kept s (Take key n value) ok =
        read_cases f to_take (f.keys.number key) n (f.values.number value) (λ a. Kept s (Take key n value) (answer f s a))
        (λ i e. record { well = ok; tells = λ x. refl })
        (λ m w km vm keys. take_good s m n w key value ok km vm keys)
    step_kept s (Cancel key n value) ok =
        read_cases f to_cancel (f.keys.number key) n (f.values.number value) (λ a. Kept s (Cancel key n value) (answer f s a))
        (λ i e. record { well = ok; tells = λ x. refl })
        (λ m w km vm keys. cancel_good s m n w key value ok km)
    step_kept s (Find key) ok = find_kept s key ok (f.keys.number key)
    step_kept s Count ok = record { well = ok; tells = λ x. refl }
    step_kept s (At i) ok = record { well = ok; tells = λ x. and_no (accepted (step f s (At i)).1) (value_in (entries s) x) }
    step_kept s Enlarge ok = enlarge_kept s ok

    -- and so every list of calls
    pub run_well : (s : Model) (cs : List (Call K V)) → Well s → Well (run f s cs).0
    run_well s [] ok = ok
    run_well s (c ∷ cs) ok = run_well (step f s c).0 cs (step_kept s c ok).well

    -- what is held is what the list says
    pub run_tells : (s : Model) (cs : List (Call K V)) (x : ℕ) → Well s
        → held_from f (paired cs (run f s cs).1) x (value_in (entries s) x) ≡ value_in (entries (run f s cs).0) x
    run_tells s [] x ok = refl
    run_tells s (c ∷ cs) x ok =
        let kept = step_kept s c ok in
        ap (held_from f (paired cs (run f (step f s c).0 cs).1) x) (sym (kept.tells x)) ∙ run_tells (step f s c).0 cs x kept.well

    -- the keys of the list are apart
    pub well_apart : (s : Model) → Well s → Apart (entries s)
    well_apart closed ok = tt
    well_apart (opened t) ok = ok.apart

    -- and below 2^k
    pub well_below : (s : Model) → Well s → All (λ e. e.0 < 2 ^ f.keys.width) (entries s)
    well_below closed ok = tt
    well_below (opened t) ok = ok.below

    -- the list of the machine tells what is held
    pub list_tells : (calls : List (Call K V)) (m : ℕ) → held f (history f calls) m ≡ value_in (entries (run f closed calls).0) m
    list_tells calls m = run_tells closed calls m tt
