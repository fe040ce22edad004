-- A refused call leaves the machine as it was.
use Rattle.std.proofs.Common.{◌≡◌, ℕ, Bool, true, false, eqb, ◌++◌, Some, None, Option, refl}
use Rattle.std.proofs.lemmas.Bool.{true≢false}
use Rattle.model.specs.declared.call.Call.{Call}
use Rattle.model.specs.declared.call.Call.TheVariants.{At, Cancel, Count, Enlarge, Find, Open, Take}
use Rattle.model.specs.declared.run_refusal.RunRefusal.{RunRefusal}
use Rattle.model.specs.Entries.{Entries, cancel_refusal, run_of, without_run}
use Rattle.model.specs.Model.{Fixed, Model, State, closed, opened}
use Rattle.model.specs.Step.{answer, enlarge_fit, enlarge_room, larger_fits, open_fit, open_width, read_find, room_judged, run_end, step, take_judged, to_cancel, to_take}
use Rattle.model.specs.History.{accepted}
use Rattle.model.proofs.Reading.{read_cases}

module _ {K V : Type 0} (f : Fixed K V) where
  -- a run
  run_leaves : (t : State) (n : ℕ) (l : Entries) (o : Option RunRefusal) → accepted (run_end t n l o).1 ≡ false → (run_end t n l o).0 ≡ opened t
  run_leaves t n l (Some e) h = refl
  run_leaves t n l None h = absurd (true≢false h)

  -- a take
  take_leaves : (s : Model) (m n w : ℕ) → accepted (answer f s (to_take m n w)).1 ≡ false → (answer f s (to_take m n w)).0 ≡ s
  take_leaves closed m n w h = refl
  take_leaves (opened t) m n w h = run_leaves t n (t.list ++ run_of m w n) (take_judged f t m n w) h

  -- a cancel
  cancel_leaves : (s : Model) (m n w : ℕ) → accepted (answer f s (to_cancel m n w)).1 ≡ false → (answer f s (to_cancel m n w)).0 ≡ s
  cancel_leaves closed m n w h = refl
  cancel_leaves (opened t) m n w h = run_leaves t n (without_run m n t.list) (cancel_refusal t.list m w 0 n) h

  -- a find, refused or not
  pub find_leaves : (s : Model) (o : Option ℕ) → (answer f s (read_find o)).0 ≡ s
  find_leaves s None = refl
  find_leaves s (Some m) = refl

  -- an open that does not fit
  fit_leaves : (b : ℕ) (t : Bool) → accepted (open_fit f b t).1 ≡ false → (open_fit f b t).0 ≡ closed
  fit_leaves b false h = refl
  fit_leaves b true h = absurd (true≢false h)

  -- an open of a permutation of another width
  width_leaves : (b : ℕ) (t : Bool) → accepted (open_width f b t).1 ≡ false → (open_width f b t).0 ≡ closed
  width_leaves b false h = refl
  width_leaves b true h = fit_leaves b (f.first.fits f.keys.width f.values.width b) h

  -- an open
  open_leaves : (s : Model) (b : ℕ) → accepted (step f s (Open b)).1 ≡ false → (step f s (Open b)).0 ≡ s
  open_leaves closed b h = width_leaves b (eqb f.mix.width f.keys.width) h
  open_leaves (opened t) b h = refl

  -- an enlarge without room
  room_leaves : (t : State) (u : Bool) → accepted (enlarge_room f t u).1 ≡ false → (enlarge_room f t u).0 ≡ opened t
  room_leaves t false h = refl
  room_leaves t true h = absurd (true≢false h)

  -- an enlarge that does not fit
  larger_leaves : (t : State) (u : Bool) → accepted (enlarge_fit f t u).1 ≡ false → (enlarge_fit f t u).0 ≡ opened t
  larger_leaves t false h = refl
  larger_leaves t true h = room_leaves t (room_judged f t) h

  -- an enlarge
  enlarge_leaves : (s : Model) → accepted (step f s Enlarge).1 ≡ false → (step f s Enlarge).0 ≡ s
  enlarge_leaves closed h = refl
  enlarge_leaves (opened t) h = larger_leaves t (larger_fits f t) h

  -- every call
  pub step_leaves : (s : Model) (c : Call K V) → accepted (step f s c).1 ≡ false → (step f s c).0 ≡ s
  step_leaves s (Open b) h = open_leaves s b h
  step_leaves s (Take key n value) h =
      read_cases f to_take (f.keys.number key) n (f.values.number value) (λ a. accepted (answer f s a).1 ≡ false → (answer f s a).0 ≡ s) (λ e four h. refl) (λ m w km vm keys. take_leaves s m n w) h
  step_leaves s (Cancel key n value) h =
      read_cases f to_cancel (f.keys.number key) n (f.values.number value) (λ a. accepted (answer f s a).1 ≡ false → (answer f s a).0 ≡ s) (λ e four h. refl) (λ m w km vm keys. cancel_leaves s m n w) h
  step_leaves s (Find key) h = find_leaves s (f.keys.number key)
  step_leaves s Count h = refl
  step_leaves s (At i) h = refl
  step_leaves s Enlarge h = enlarge_leaves s h
