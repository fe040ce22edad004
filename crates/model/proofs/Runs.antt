-- What a run taken or cancelled does to what a list says of a key, and to its keys being apart.
use Rattle.std.proofs.Common.{◌≡◌, ℕ, zero, suc, ◌+◌, ◌<◌, ◌≤◌, Bool, true, false, cond, not, ◌||◌, eqb, [], ◌∷◌, ◌++◌, Some, None, filter, Option, sym, refl, ap, ◌∙◌, subst, ⊎_elim, arith}
use Rattle.std.proofs.lemmas.List.{append_assoc, append-nil}
use Rattle.std.proofs.lemmas.Bool.{cases_Bool, cases_eq, eq-eqb, eqb-true, ne_eqb, or_cases, or_parts}
use Rattle.std.proofs.lemmas.Bool.Decides.{nat_tests}
use Rattle.std.specs.List.{AllByRecursion as All}
use Rattle.table.specs.Meaning.{value_in}
use Rattle.model.specs.declared.refusal.Refusal.{Refusal}
use Rattle.model.specs.declared.refusal.Refusal.TheVariants.{OtherValue}
use Rattle.model.specs.declared.run_refusal.RunRefusal.{RunRefusal}
use Rattle.model.specs.Entries.{Entries, cancel_one, cancel_refusal, first_of, run_of, take_one, take_refusal, within_run, without_run}
use Rattle.model.specs.Laws.{Apart}

-- no number is in an empty run
pub run_none : (m x : ℕ) → within_run m 0 x ≡ false
run_none m x = grind (arith, nat_tests)

-- a run is its first number and the others
pub run_more : (m n x : ℕ) → within_run m (suc n) x ≡ (eqb m x || within_run (suc m) n x)
run_more m n x = grind (arith, nat_tests)

-- the first number of a run is in it
pub run_first : (m n : ℕ) → within_run m (suc n) m ≡ true
run_first m n = grind (arith, nat_tests)

-- and so are the others
pub run_later : (m n x : ℕ) → within_run (suc m) n x ≡ true → within_run m (suc n) x ≡ true
run_later m n x h = grind (arith, nat_tests)

-- a key that a list does not have
pub not_there : (e : ℕ × ℕ) (l : Entries) (m : ℕ) → value_in (e ∷ l) m ≡ None → (e.0 ≡ m → ⊥) × (value_in l m ≡ None)
not_there e l m h =
    ⊎_elim
    (λ same.
    let t : eqb e.0 m ≡ true = eq-eqb e.0 m same in
    let g : Some e.1 ≡ None = rw t at h in
    let z : ◌≡◌ {A = ℕ} 0 1 = cc in
    absurd (omega arith))
    (λ off.
    let t : eqb e.0 m ≡ false = ne_eqb e.0 m off in
    (off, rw t at h))
    (cases_eq e.0 m)

-- what a list says with one more key at its end
pub value_push : (l : Entries) (m w x : ℕ) → value_in l m ≡ None → value_in (l ++ ((m, w) ∷ [])) x ≡ cond (eqb m x) (Some w) (value_in l x)
value_push [] m w x h = refl
value_push (e ∷ l) m w x h =
    let ways = not_there e l m h in
    let ih = value_push l m w x ways.1 in
    ⊎_elim
    (λ same.
    let t : eqb e.0 x ≡ true = eq-eqb e.0 x same in
    let u : eqb m x ≡ false = ne_eqb m x (λ q. ways.0 (same ∙ sym q)) in
    rw (t, u))
    (λ off.
    let t : eqb e.0 x ≡ false = ne_eqb e.0 x off in
    rw t ih)
    (cases_eq e.0 x)

-- its keys stay apart
pub apart_push : (l : Entries) (m w : ℕ) → Apart l → value_in l m ≡ None → Apart (l ++ ((m, w) ∷ []))
apart_push [] m w a h = (refl, tt)
apart_push (e ∷ l) m w a h =
    let ways = not_there e l m h in
    let u : eqb m e.0 ≡ false = ne_eqb m e.0 (λ q. ways.0 (sym q)) in
    let here : value_in (l ++ ((m, w) ∷ [])) e.0 ≡ None = value_push l m w e.0 ways.1 ∙ rw u a.0 in
    (here, apart_push l m w a.1 ways.1)

-- one of two tests with the same outcome
cond_or : (c d : Bool) (a z : Option ℕ) → cond c a (cond d a z) ≡ cond (d || c) a z
cond_or true true a z = refl
cond_or true false a z = refl
cond_or false true a z = refl
cond_or false false a z = refl

-- a run that is not refused is refused neither here nor later
pub first_none : (i : ℕ) (later : Option RunRefusal) (o : Option Refusal) → first_of i later o ≡ None → (o ≡ None) × (later ≡ None)
first_none i later (Some e) h = let z : ◌≡◌ {A = ℕ} 0 1 = cc in absurd (omega arith)
first_none i later None h = (refl, h)

module _ (slot : ℕ → ℕ) (S C : ℕ) where
  -- a key that can be taken is free
  pub one_none : (l : Entries) (m : ℕ) (o : Option ℕ) → take_one slot S C l m o ≡ None → o ≡ None
  one_none l m (Some u) h = let z : ◌≡◌ {A = ℕ} 0 1 = cc in absurd (omega arith)
  one_none l m None h = refl

  -- a run that is taken: its first key, and the others
  take_parts : (l : Entries) (m w i n : ℕ) → take_refusal slot S C l m w i (suc n) ≡ None
      → (value_in l m ≡ None) × (take_refusal slot S C (l ++ ((m, w) ∷ [])) (suc m) w (suc i) n ≡ None)
  take_parts l m w i n h =
      let both = first_none i (take_refusal slot S C (l ++ ((m, w) ∷ [])) (suc m) w (suc i) n) (take_one slot S C l m (value_in l m)) h in
      (one_none l m (value_in l m) both.0, both.1)

  -- what a list says after a run is taken
  pub value_taken : (l : Entries) (m w i n x : ℕ) → take_refusal slot S C l m w i n ≡ None
      → value_in (l ++ run_of m w n) x ≡ cond (within_run m n x) (Some w) (value_in l x)
  value_taken l m w i zero x h = rw (append-nil, run_none m x)
  value_taken l m w i (suc n) x h =
      let parts = take_parts l m w i n h in
      ap (λ t. value_in t x) (sym (append_assoc l ((m, w) ∷ []) (run_of (suc m) w n)))
      ∙ value_taken (l ++ ((m, w) ∷ [])) (suc m) w (suc i) n x parts.1
      ∙ ap (cond (within_run (suc m) n x) (Some w)) (value_push l m w x parts.0)
      ∙ cond_or (within_run (suc m) n x) (eqb m x) (Some w) (value_in l x)
      ∙ ap (λ t. cond t (Some w) (value_in l x)) (sym (run_more m n x))

  -- its keys stay apart
  pub apart_taken : (l : Entries) (m w i n : ℕ) → take_refusal slot S C l m w i n ≡ None → Apart l → Apart (l ++ run_of m w n)
  apart_taken l m w i zero h a = rw append-nil a
  apart_taken l m w i (suc n) h a =
      let parts = take_parts l m w i n h in
      subst Apart (append_assoc l ((m, w) ∷ []) (run_of (suc m) w n))
      (apart_taken (l ++ ((m, w) ∷ [])) (suc m) w (suc i) n parts.1 (apart_push l m w a parts.0))

  -- none of a run that is taken was held
  pub free_taken : (l : Entries) (m w i n x : ℕ) → take_refusal slot S C l m w i n ≡ None → within_run m n x ≡ true → value_in l x ≡ None
  free_taken l m w i zero x h t = let z : true ≡ false = sym t ∙ run_none m x in let o : ◌≡◌ {A = ℕ} 0 1 = cc in absurd (omega arith)
  free_taken l m w i (suc n) x h t =
      let parts = take_parts l m w i n h in
      ⊎_elim
      (λ here. subst (λ y. value_in l y ≡ None) (eqb-true m x here) parts.0)
      (λ later.
      let ih = free_taken (l ++ ((m, w) ∷ [])) (suc m) w (suc i) n x parts.1 later in
      let off : eqb m x ≡ false = grind (arith, nat_tests) in
      sym (rw off at (value_push l m w x parts.0)) ∙ ih)
      (or_cases (eqb m x) (within_run (suc m) n x) (sym (run_more m n x) ∙ t))

-- the key numbers of a run
pub below_run : (m w n N : ℕ) → m + n ≤ N → All (λ e. e.0 < N) (run_of m w n)
below_run m w zero N h = tt
below_run m w (suc n) N h = (omega arith, below_run (suc m) w n N (omega arith))

-- its value number
pub small_run : (m w n N : ℕ) → w < N → All (λ e. e.1 < N) (run_of m w n)
small_run m w zero N h = tt
small_run m w (suc n) N h = (h, small_run (suc m) w n N h)

-- a list of which only the entries stay whose keys pass a test
module _ (q : ℕ → Bool) where
  -- what it says of a key
  pub value_kept : (l : Entries) (x : ℕ) → value_in (filter (λ e. q e.0) l) x ≡ cond (q x) (value_in l x) None
  value_kept [] x = none (q x)
    where
      none : (t : Bool) → ◌≡◌ {A = Option ℕ} None (cond t None None)
      none true = refl
      none false = refl
  value_kept (e ∷ l) x = by (value_kept l x) (q e.0) refl
    where
      by : value_in (filter (λ d. q d.0) l) x ≡ cond (q x) (value_in l x) None
          → (t : Bool) → q e.0 ≡ t → value_in (cond t (e ∷ filter (λ d. q d.0) l) (filter (λ d. q d.0) l)) x ≡ cond (q x) (cond (eqb e.0 x) (Some e.1) (value_in l x)) None
      by ih true stays =
          ⊎_elim
          (λ same.
          let px : q x ≡ true = subst (λ y. q y ≡ true) same stays in
          let u : eqb e.0 x ≡ true = eq-eqb e.0 x same in
          rw (px, u))
          (λ off. let u : eqb e.0 x ≡ false = ne_eqb e.0 x off in rw u ih)
          (cases_eq e.0 x)
      by ih false out =
          ⊎_elim
          (λ same. let px : q x ≡ false = subst (λ y. q y ≡ false) same out in ih ∙ rw px)
          (λ off. let u : eqb e.0 x ≡ false = ne_eqb e.0 x off in rw u ih)
          (cases_eq e.0 x)

  -- its keys stay apart
  pub apart_kept : (l : Entries) → Apart l → Apart (filter (λ e. q e.0) l)
  apart_kept [] a = tt
  apart_kept (e ∷ l) a = by (apart_kept l a.1) (q e.0) refl
    where
      by : Apart (filter (λ d. q d.0) l) → (t : Bool) → q e.0 ≡ t → Apart (cond t (e ∷ filter (λ d. q d.0) l) (filter (λ d. q d.0) l))
      by ih true stays = (value_kept l e.0 ∙ rw stays a.0, ih)
      by ih false out = ih

-- what a list without a run says of a key
pub value_without : (m n : ℕ) (l : Entries) (x : ℕ) → value_in (without_run m n l) x ≡ cond (within_run m n x) None (value_in l x)
value_without m n l x = value_kept (λ y. not (within_run m n y)) l x ∙ turned (within_run m n x) (value_in l x)
  where
    turned : (t : Bool) (o : Option ℕ) → cond (not t) o None ≡ cond t None o
    turned true o = refl
    turned false o = refl

-- its keys stay apart
pub apart_without : (m n : ℕ) (l : Entries) → Apart l → Apart (without_run m n l)
apart_without m n l a = apart_kept (λ y. not (within_run m n y)) l a

-- each of a run that is cancelled was held under its value
cancel_some : (w : ℕ) (o : Option ℕ) → cancel_one w o ≡ None → o ≡ Some w
cancel_some w None h = let z : ◌≡◌ {A = ℕ} 0 1 = cc in absurd (omega arith)
cancel_some w (Some u) h =
    ⊎_elim
    (λ same. ap Some (eqb-true u w same))
    (λ off. let g : Some OtherValue ≡ None = rw off at h in let z : ◌≡◌ {A = ℕ} 0 1 = cc in absurd (omega arith))
    (cases_Bool (eqb u w))

-- the same of the whole run
pub held_cancelled : (l : Entries) (m w i n x : ℕ) → cancel_refusal l m w i n ≡ None → within_run m n x ≡ true → value_in l x ≡ Some w
held_cancelled l m w i zero x h t = let z : true ≡ false = sym t ∙ run_none m x in let o : ◌≡◌ {A = ℕ} 0 1 = cc in absurd (omega arith)
held_cancelled l m w i (suc n) x h t =
    let both = first_none i (cancel_refusal l (suc m) w (suc i) n) (cancel_one w (value_in l m)) h in
    ⊎_elim
    (λ here. subst (λ y. value_in l y ≡ Some w) (eqb-true m x here) (cancel_some w (value_in l m) both.0))
    (λ later. held_cancelled l (suc m) w (suc i) n x both.1 later)
    (or_cases (eqb m x) (within_run (suc m) n x) (sym (run_more m n x) ∙ t))

-- the last key of a run comes after the others
pub run_snoc : (m w n : ℕ) → run_of m w (suc n) ≡ run_of m w n ++ ((m + n, w) ∷ [])
run_snoc m w zero = let z : m + 0 ≡ m = omega arith in rw z
run_snoc m w (suc n) = let e : m + suc n ≡ suc m + n = omega arith in ap (λ r. (m, w) ∷ r) (run_snoc (suc m) w n ∙ rw e)

-- a run says nothing of the keys outside of it
pub value_beyond : (l : Entries) (m w n x : ℕ) → within_run m n x ≡ false → value_in (l ++ run_of m w n) x ≡ value_in l x
value_beyond [] m w n x h = none m n h
  where
    none : (m n : ℕ) → within_run m n x ≡ false → value_in (run_of m w n) x ≡ None
    none m zero h = refl
    none m (suc n) h =
        let both = or_parts (eqb m x) (within_run (suc m) n x) (sym (run_more m n x) ∙ h) in
        let off : eqb m x ≡ false = both.0 in
        rw off (none (suc m) n both.1)
value_beyond (e ∷ l) m w n x h = let ih = value_beyond l m w n x h in rw ih
