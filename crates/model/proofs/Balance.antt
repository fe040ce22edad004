-- What is held under a value, with what was cancelled of it, is what was taken.
use Rattle.std.proofs.Common.{◌≡◌, ℕ, ◌+◌, ◌^◌, ◌≤◌, Bool, true, false, cond, ◌&&◌, eqb, List, [], ◌∷◌, ◌++◌, Some, None, Option, sym, refl, ap, ◌∙◌, arith}
use Rattle.table.specs.Meaning.{value_in}
use Rattle.model.specs.declared.call.Call.{Call}
use Rattle.model.specs.declared.call.Call.TheVariants.{At, Cancel, Count, Enlarge, Find, Open, Take}
use Rattle.model.specs.declared.run_refusal.RunRefusal.{RunRefusal}
use Rattle.model.specs.Entries.{Entries, cancel_refusal, count_if, run_of, within_run, without_run}
use Rattle.model.specs.Model.{Fixed, Model, Reply, State, closed, entries, kind, opened, slot_of}
use Rattle.model.specs.Step.{answer, no_key, run, run_end, step, take_judged, to_cancel, to_take}
use Rattle.model.specs.History.{accepted, cancelled, cancelled_by, count_below, deed, having, held, held_if, held_under, history, is, paired, taken, taken_by}
use Rattle.model.specs.Laws.{Lawful}
use Rattle.model.proofs.Reading.{keys_fit, read_cases}
use Rattle.model.proofs.Runs.{free_taken, held_cancelled, value_taken, value_without}
use Rattle.model.proofs.Tallies.{count_join, count_list, count_none, count_run_if, count_same, plus_none}
use Rattle.model.proofs.Tells.{Well, and_no, list_tells, run_well, step_kept, well_apart, well_below}

-- one key's part in it, of a run that is taken, and of one that is cancelled
joined : (w u : ℕ) (within : Bool) (o : Option ℕ) → (within ≡ true → o ≡ None)
    → cond (is w (cond within (Some u) o)) 1 0 ≡ cond (is w o) 1 0 + cond (within && eqb u w) 1 0
joined w u true o free = let e = free refl in rw e (plus_none (cond (eqb u w) 1 0))
joined w u false o free = omega arith

-- the same of a run that is cancelled
parted : (w u : ℕ) (within : Bool) (o : Option ℕ) → (within ≡ true → o ≡ Some u)
    → cond (is w o) 1 0 ≡ cond (is w (cond within None o)) 1 0 + cond (within && eqb u w) 1 0
parted w u true o is-u = let e = is-u refl in rw e (plus_none (cond (eqb u w) 1 0))
parted w u false o is-u = omega arith

module _ {K V : Type 0} (f : Fixed K V) (law : Lawful f) (w : ℕ) where
  -- how many key numbers a list says w of
  abbrev listed_under : Entries → ℕ
  listed_under l = count_below (λ m. is w (value_in l m)) (2 ^ f.keys.width)

  -- what one call adds to the keys listed under w, and takes from them
  abbrev Balanced : Model → Call K V → (Model × Reply) → Type 0
  Balanced s c after = listed_under (entries after.0) + cond (accepted after.1) (cancelled_by f w (deed c)) 0 ≡ listed_under (entries s) + cond (accepted after.1) (taken_by f w (deed c)) 0

  -- a run that is taken, or refused
  take_end : (t : State) (m n u : ℕ) (key : K) (value : V) → f.values.number value ≡ Some u → m + n ≤ 2 ^ f.keys.width
      → (o : Option RunRefusal) → take_judged f t m n u ≡ o
      → Balanced (opened t) (Take key n value) (run_end t n (t.list ++ run_of m u n) o)
  take_end t m n u key value vm fits (Some e) h = refl
  take_end t m n u key value vm fits None h =
      let l = t.list in
      let new = count_same (λ x. is w (value_in (l ++ run_of m u n) x)) (λ x. is w (cond (within_run m n x) (Some u) (value_in l x)))
      (λ x. ap (is w) (value_taken (slot_of f t.b) (kind f t.side).group (kind f t.side).limit l m u 0 n x h)) (2 ^ f.keys.width) in
      let split = count_join (λ x. is w (cond (within_run m n x) (Some u) (value_in l x))) (λ x. is w (value_in l x)) (λ x. within_run m n x && eqb u w)
      (λ x. joined w u (within_run m n x) (value_in l x) (free_taken (slot_of f t.b) (kind f t.side).group (kind f t.side).limit l m u 0 n x h)) (2 ^ f.keys.width) in
      let many = count_run_if (eqb u w) m n (2 ^ f.keys.width) fits in
      rw vm (sums (listed_under (l ++ run_of m u n)) (listed_under l) (cond (eqb u w) n 0) (new ∙ split ∙ ap (λ y. listed_under l + y) many))
    where
      sums : (a b c : ℕ) → a ≡ b + c → a + 0 ≡ b + c
      sums a b c e = omega arith

  -- a run that is cancelled, or refused
  cancel_end : (t : State) (m n u : ℕ) (key : K) (value : V) → f.values.number value ≡ Some u → m + n ≤ 2 ^ f.keys.width
      → (o : Option RunRefusal) → cancel_refusal t.list m u 0 n ≡ o
      → Balanced (opened t) (Cancel key n value) (run_end t n (without_run m n t.list) o)
  cancel_end t m n u key value vm fits (Some e) h = refl
  cancel_end t m n u key value vm fits None h =
      let l = t.list in
      let new = count_same (λ x. is w (value_in (without_run m n l) x)) (λ x. is w (cond (within_run m n x) None (value_in l x)))
      (λ x. ap (is w) (value_without m n l x)) (2 ^ f.keys.width) in
      let split = count_join (λ x. is w (value_in l x)) (λ x. is w (cond (within_run m n x) None (value_in l x))) (λ x. within_run m n x && eqb u w)
      (λ x. parted w u (within_run m n x) (value_in l x) (held_cancelled l m u 0 n x h)) (2 ^ f.keys.width) in
      let many = count_run_if (eqb u w) m n (2 ^ f.keys.width) fits in
      rw vm (sums (listed_under (without_run m n l)) (listed_under l) (cond (eqb u w) n 0)
      (count_below (λ x. is w (cond (within_run m n x) None (value_in l x))) (2 ^ f.keys.width)) (count_below (λ x. within_run m n x && eqb u w) (2 ^ f.keys.width)) new split many)
    where
      sums : (a b c d e : ℕ) → a ≡ d → b ≡ d + e → e ≡ c → a + c ≡ b + 0
      sums a b c d e p q r = omega arith

  -- a call that covers nothing changes nothing
  idle : (s s' : Model) (r : Reply) → ((x : ℕ) → value_in (entries s') x ≡ cond (accepted r && false) None (value_in (entries s) x))
      → listed_under (entries s') + cond (accepted r) 0 0 ≡ listed_under (entries s) + cond (accepted r) 0 0
  idle s s' r h = ap (λ n. n + cond (accepted r) 0 0) (count_same (λ x. is w (value_in (entries s') x)) (λ x. is w (value_in (entries s) x)) (λ x. ap (is w) (h x ∙ sym (and_no f law (accepted r) (value_in (entries s) x)))) (2 ^ f.keys.width))

  -- a take whose numbers are good
  take_good : (s : Model) (m n u : ℕ) (key : K) (value : V) → f.values.number value ≡ Some u → m + n ≤ 2 ^ f.keys.width → Balanced s (Take key n value) (answer f s (to_take m n u))
  take_good closed m n u key value vm fits = refl
  take_good (opened t) m n u key value vm fits = take_end t m n u key value vm fits (take_judged f t m n u) refl

  -- a cancel whose numbers are good
  cancel_good : (s : Model) (m n u : ℕ) (key : K) (value : V) → f.values.number value ≡ Some u → m + n ≤ 2 ^ f.keys.width → Balanced s (Cancel key n value) (answer f s (to_cancel m n u))
  cancel_good closed m n u key value vm fits = refl
  cancel_good (opened t) m n u key value vm fits = cancel_end t m n u key value vm fits (cancel_refusal t.list m u 0 n) refl

  -- a run of keys ends below 2^k
  fitting : (key : K) (m n : ℕ) → f.keys.number key ≡ Some m → no_key f m 0 n ≡ None → m + n ≤ 2 ^ f.keys.width
  fitting key m n km keys = let lt = law.keys.below key m km in let le : m ≤ 2 ^ f.keys.width = omega arith in keys_fit f law.keys m 0 n keys le

  -- each call
  step_balanced : (s : Model) (c : Call K V) → Well f s → Balanced s c (step f s c)
  step_balanced s (Open b) ok = idle s (step f s (Open b)).0 (step f s (Open b)).1 (step_kept f law s (Open b) ok).tells
  step_balanced s (Take key n value) ok =
      read_cases f to_take (f.keys.number key) n (f.values.number value) (λ a. Balanced s (Take key n value) (answer f s a)) (λ i e. refl)
      (λ m u km vm keys. take_good s m n u key value vm (fitting key m n km keys))
  step_balanced s (Cancel key n value) ok =
      read_cases f to_cancel (f.keys.number key) n (f.values.number value) (λ a. Balanced s (Cancel key n value) (answer f s a)) (λ i e. refl)
      (λ m u km vm keys. cancel_good s m n u key value vm (fitting key m n km keys))
  step_balanced s (Find key) ok = idle s (step f s (Find key)).0 (step f s (Find key)).1 (step_kept f law s (Find key) ok).tells
  step_balanced s Count ok = idle s (step f s Count).0 (step f s Count).1 (step_kept f law s Count ok).tells
  step_balanced s (At i) ok = idle s (step f s (At i)).0 (step f s (At i)).1 (step_kept f law s (At i) ok).tells
  step_balanced s Enlarge ok = idle s (step f s Enlarge).0 (step f s Enlarge).1 (step_kept f law s Enlarge ok).tells

  -- two changes one after the other
  chain : (a b c x y X Y : ℕ) → b + x ≡ a + y → c + X ≡ b + Y → c + (x + X) ≡ a + (y + Y)
  chain a b c x y X Y p q = omega arith

  -- and so every list of calls
  run_balanced : (s : Model) (cs : List (Call K V)) → Well f s
      → listed_under (entries (run f s cs).0) + cancelled f w (paired cs (run f s cs).1) ≡ listed_under (entries s) + taken f w (paired cs (run f s cs).1)
  run_balanced s [] ok = refl
  run_balanced s (c ∷ cs) ok =
      let n = step f s c in
      chain (listed_under (entries s)) (listed_under (entries n.0)) (listed_under (entries (run f n.0 cs).0))
      (cond (accepted n.1) (cancelled_by f w (deed c)) 0) (cond (accepted n.1) (taken_by f w (deed c)) 0)
      (cancelled f w (paired cs (run f n.0 cs).1)) (taken f w (paired cs (run f n.0 cs).1))
      (step_balanced s c ok) (run_balanced n.0 cs (step_kept f law s c ok).well)

  -- held and cancelled is taken
  pub balanced : (calls : List (Call K V)) → held_under f w (history f calls) + cancelled f w (history f calls) ≡ taken f w (history f calls)
  balanced calls =
      let l = entries (run f closed calls).0 in
      let is_list : held_under f w (history f calls) ≡ listed_under l = count_same (λ m. is w (held f (history f calls) m)) (λ m. is w (value_in l m)) (λ m. ap (is w) (list_tells f law calls m)) (2 ^ f.keys.width) in
      let none : listed_under [] ≡ 0 = count_none (λ m. is w None) (λ m. refl) (2 ^ f.keys.width) in
      start (held_under f w (history f calls)) (listed_under l) (cancelled f w (history f calls)) (taken f w (history f calls)) (listed_under []) is_list none (run_balanced closed calls tt)
    where
      start : (h a c t z : ℕ) → h ≡ a → z ≡ 0 → a + c ≡ z + t → h + c ≡ t
      start h a c t z p q r = omega arith

-- as many key numbers are held under values that pass a test as the list has entries with such values
module _ {K V : Type 0} (f : Fixed K V) (law : Lawful f) where
  -- for any test
  pub held_entries : (p : ℕ → Bool) (calls : List (Call K V)) → held_if f p (history f calls) ≡ count_if (λ e. p e.1) (entries (run f closed calls).0)
  held_entries p calls =
      let ok = run_well f law closed calls tt in
      let l = entries (run f closed calls).0 in
      count_same (λ m. having p (held f (history f calls) m)) (λ m. having p (value_in l m)) (λ m. ap (having p) (list_tells f law calls m)) (2 ^ f.keys.width)
      ∙ count_list p l (2 ^ f.keys.width) (well_apart f law (run f closed calls).0 ok) (well_below f law (run f closed calls).0 ok)
