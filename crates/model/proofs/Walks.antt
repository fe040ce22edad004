-- The walk over the slots is the list in another order.
use Rattle.std.proofs.Common.{◌≡◌, ℕ, zero, suc, ◌+◌, ◌<◌, Bool, true, false, cond, eqb, ltb, ◌⊎◌, [], ◌∷◌, ◌++◌, length, get_or, Some, None, filter, Option, sym, refl, ap, ◌∙◌, subst, inl, inr, ⊎_elim, arith}
use Rattle.std.proofs.ByRecursion.{has_get_or}
use Rattle.std.proofs.lemmas.List.{length-append}
use Rattle.std.proofs.lemmas.Bool.{cases_Bool, cases_eq, eq-eqb, lt-ltb, ne_eqb}
use Rattle.std.proofs.lemmas.Bool.Decides.{nat_tests}
use Rattle.std.specs.List.{ContainsAt as Has, AllByRecursion as All}
use Rattle.table.specs.Meaning.{value_in}
use Rattle.model.specs.Entries.{Entries, count_if, walk}
use Rattle.model.specs.Laws.{Apart}
use Rattle.model.proofs.Runs.{apart_kept, not_there, value_kept}

-- the first of two that says something
abbrev or_else : Option ℕ → Option ℕ → Option ℕ
or_else (Some w) o = Some w
or_else None o = o

-- what two lists say, one after the other
value_append : (a b : Entries) (x : ℕ) → value_in (a ++ b) x ≡ or_else (value_in a x) (value_in b x)
value_append [] b x = refl
value_append (e ∷ a) b x = by (eqb e.0 x) (value_append a b x)
  where
    by : (t : Bool) → value_in (a ++ b) x ≡ or_else (value_in a x) (value_in b x) → cond t (Some e.1) (value_in (a ++ b) x) ≡ or_else (cond t (Some e.1) (value_in a x)) (value_in b x)
    by true ih = refl
    by false ih = ih

-- two lists without a common key
apart_append : (a b : Entries) → Apart a → Apart b → ((x : ℕ) → (value_in a x ≡ None) ⊎ (value_in b x ≡ None)) → Apart (a ++ b)
apart_append [] b p q h = q
apart_append (e ∷ a) b p q h =
    let here : value_in b e.0 ≡ None =
    ⊎_elim
    (λ none. absurd ((not_there e a e.0 none).0 refl))
    (λ none. none)
    (h e.0) in (
      value_append a b e.0 ∙ rw p.0 here,
      apart_append a b p.1 q (λ x. ⊎_elim (λ none. inl (not_there e a x none).1) (λ none. inr none) (h x)),
    )

-- how many entries a test keeps
pub length_kept : (p : ℕ × ℕ → Bool) (l : Entries) → length (filter p l) ≡ count_if p l
length_kept p [] = refl
length_kept p (e ∷ l) = by (p e) (length_kept p l)
  where
    by : (t : Bool) → length (filter p l) ≡ count_if p l → length (cond t (e ∷ filter p l) (filter p l)) ≡ cond t (suc (count_if p l)) (count_if p l)
    by true ih = ap suc ih
    by false ih = ih

-- a test that all pass
count_all : (p : ℕ × ℕ → Bool) (l : Entries) → All (λ e. p e ≡ true) l → count_if p l ≡ length l
count_all p [] h = refl
count_all p (e ∷ l) h = let one = h.0 in let ih = count_all p l h.1 in rw one (ap suc ih)

-- the keys in the slots below n, and in slot n
count_one_more : (slot : ℕ → ℕ) (n : ℕ) (l : Entries)
    → count_if (λ e. ltb (slot e.0) n) l + count_if (λ e. eqb (slot e.0) n) l ≡ count_if (λ e. ltb (slot e.0) (suc n)) l
count_one_more slot n [] = refl
count_one_more slot n (e ∷ l) =
    step (slot e.0) (count_if (λ e. ltb (slot e.0) n) l) (count_if (λ e. eqb (slot e.0) n) l) (count_if (λ e. ltb (slot e.0) (suc n)) l) (count_one_more slot n l)
  where
    step : (s x y z : ℕ) → x + y ≡ z → cond (ltb s n) (suc x) x + cond (eqb s n) (suc y) y ≡ cond (ltb s (suc n)) (suc z) z
    step s x y z h = grind (arith, nat_tests)

-- the keys in the slots below n pass the test
all_pass : (slot : ℕ → ℕ) (n : ℕ) (l : Entries) → All (λ e. slot e.0 < n) l → All (λ e. ltb (slot e.0) n ≡ true) l
all_pass slot n [] h = tt
all_pass slot n (e ∷ l) h = (lt-ltb (slot e.0) n h.0, all_pass slot n l h.1)

module _ (slot : ℕ → ℕ) where
  -- without entries
  pub walk_nil : (n : ℕ) → walk slot n [] ≡ []
  unfolding walk
  walk_nil zero = refl
  walk_nil (suc n) = let ih = walk_nil n in rw ih

  -- how many entries n slots have
  length_part : (n : ℕ) (l : Entries) → length (walk slot n l) ≡ count_if (λ e. ltb (slot e.0) n) l
  unfolding walk
  length_part zero l = sym (none l)
    where
      none : (l : Entries) → count_if (λ e. ltb (slot e.0) 0) l ≡ 0
      none [] = refl
      none (e ∷ l) = let ih = none l in let u : ltb (slot e.0) 0 ≡ false = grind (arith, nat_tests) in rw (u, ih)
  length_part (suc n) l =
      length-append (walk slot n l) (filter (λ e. eqb (slot e.0) n) l)
      ∙ ap (λ x. x + length (filter (λ e. eqb (slot e.0) n) l)) (length_part n l)
      ∙ ap (λ x. count_if (λ e. ltb (slot e.0) n) l + x) (length_kept (λ e. eqb (slot e.0) n) l)
      ∙ count_one_more slot n l

  -- all entries, where all slots are below n
  pub length_walk : (n : ℕ) (l : Entries) → All (λ e. slot e.0 < n) l → length (walk slot n l) ≡ length l
  length_walk n l h = length_part n l ∙ count_all (λ e. ltb (slot e.0) n) l (all_pass slot n l h)

  -- what the walk says of a key
  value_part : (n : ℕ) (l : Entries) (x : ℕ) → value_in (walk slot n l) x ≡ cond (ltb (slot x) n) (value_in l x) None
  unfolding walk
  value_part zero l x = let u : ltb (slot x) 0 ≡ false = grind (arith, nat_tests) in rw u
  value_part (suc n) l x =
      value_append (walk slot n l) (filter (λ e. eqb (slot e.0) n) l) x
      ∙ ap (λ o. or_else o (value_in (filter (λ e. eqb (slot e.0) n) l) x)) (value_part n l x)
      ∙ ap (or_else (cond (ltb (slot x) n) (value_in l x) None)) (value_kept (λ y. eqb (slot y) n) l x)
      ∙ join (slot x) (value_in l x)
    where
      join : (s : ℕ) (o : Option ℕ) → or_else (cond (ltb s n) o None) (cond (eqb s n) o None) ≡ cond (ltb s (suc n)) o None
      join s None = either (ltb s n) (eqb s n) (ltb s (suc n))
        where
          either : (t u v : Bool) → or_else (cond t None None) (cond u None None) ≡ cond v None None
          either true true true = refl
          either true true false = refl
          either true false true = refl
          either true false false = refl
          either false true true = refl
          either false true false = refl
          either false false true = refl
          either false false false = refl
      join s (Some w) = three (ltb s n) (eqb s n) (ltb s (suc n)) refl refl refl
        where
          three : (t u v : Bool) → ltb s n ≡ t → eqb s n ≡ u → ltb s (suc n) ≡ v → or_else (cond t (Some w) None) (cond u (Some w) None) ≡ cond v (Some w) None
          three t u v a b c = grind (arith, nat_tests)

  -- its keys are apart
  pub apart_walk : (n : ℕ) (l : Entries) → Apart l → Apart (walk slot n l)
  unfolding walk
  apart_walk zero l a = tt
  apart_walk (suc n) l a =
      apart_append (walk slot n l) (filter (λ e. eqb (slot e.0) n) l) (apart_walk n l a) (apart_kept (λ y. eqb (slot y) n) l a)
      (λ x.
      ⊎_elim
      (λ level.
      let past : ltb (slot x) n ≡ false = grind (arith, nat_tests) in
      inl (value_part n l x ∙ rw past))
      (λ off. inr (value_kept (λ y. eqb (slot y) n) l x ∙ rw off))
      (cases_Bool (eqb (slot x) n)))

  -- a key whose slot is among the n
  pub value_walk : (n : ℕ) (l : Entries) (x : ℕ) → slot x < n → value_in (walk slot n l) x ≡ value_in l x
  value_walk n l x h = let u : ltb (slot x) n ≡ true = lt-ltb (slot x) n h in value_part n l x ∙ rw u

  -- and one that no list of such keys has
  pub value_within : (n : ℕ) (l : Entries) (x : ℕ) → All (λ e. slot e.0 < n) l → value_in (walk slot n l) x ≡ value_in l x
  value_within n l x h =
      ⊎_elim
      (λ here. value_part n l x ∙ rw here)
      (λ past. value_part n l x ∙ rw past (sym (absent l h past)))
      (cases_Bool (ltb (slot x) n))
    where
      absent : (l : Entries) → All (λ e. slot e.0 < n) l → ltb (slot x) n ≡ false → value_in l x ≡ None
      absent [] h past = refl
      absent (e ∷ l) h past =
          let off : eqb e.0 x ≡ false = ne_eqb e.0 x (λ same.
          let t : ltb (slot x) n ≡ true = subst (λ y. ltb (slot y) n ≡ true) same (lt-ltb (slot e.0) n h.0) in
          let z : true ≡ false = sym t ∙ past in
          let o : ◌≡◌ {A = ℕ} 0 1 = cc in
          absurd (omega arith)) in
          rw off (absent l h.1 past)

-- in a list with no key twice, an entry stands exactly where the list says so
pub value_from_has : (l : Entries) (m w : ℕ) → Apart l → Has l (m, w) → value_in l m ≡ Some w
value_from_has [] m w a h = let lt : h.0 < 0 = h.1 in absurd (omega arith)
value_from_has (e ∷ l) m w a h = by h.0 h.1 h.2 (value_from_has l m w a.1)
  where
    by : (k : ℕ) → k < length (e ∷ l) → ((d : ℕ × ℕ) → get_or (e ∷ l) k d ≡ (m, w)) → (Has l (m, w) → value_in l m ≡ Some w) → value_in (e ∷ l) m ≡ Some w
    by zero lt at ih =
        let is : e ≡ (m, w) = at e in
        let u : eqb e.0 m ≡ true = eq-eqb e.0 m (ap (λ p. p.0) is) in
        rw u (ap (λ p. Some p.1) is)
    by (suc k) lt at ih =
        let less : k < length l = omega arith in
        let there = ih (k, less, at) in
        let u : eqb e.0 m ≡ false = ne_eqb e.0 m (λ same.
        let none : value_in l m ≡ None = subst (λ y. value_in l y ≡ None) same a.0 in
        let o : ◌≡◌ {A = ℕ} 0 1 = cc in
        absurd (omega arith)) in
        rw u there

-- and back
pub has_from_value : (l : Entries) (m w : ℕ) → value_in l m ≡ Some w → Has l (m, w)
has_from_value [] m w h = let o : ◌≡◌ {A = ℕ} 0 1 = cc in absurd (omega arith)
has_from_value (e ∷ l) m w h =
    ⊎_elim
    (λ same.
    let u : eqb e.0 m ≡ true = eq-eqb e.0 m same in
    let v : Some e.1 ≡ Some w = rw u at h in
    let ew : e.1 ≡ w = cc in
    let is : e ≡ (m, w) = ap (λ x. (x, e.1)) same ∙ ap (λ y. (m, y)) ew in
    (0, omega arith, λ d. is))
    (λ off.
    let u : eqb e.0 m ≡ false = ne_eqb e.0 m off in
    let ih = has_from_value l m w (rw u at h) in
    let less : ih.0 < length l = ih.1 in
    (suc ih.0, omega arith, ih.2))
    (cases_eq e.0 m)

-- no two places of a list with no key twice have one key
pub places_apart : (l : Entries) → Apart l → (i j : ℕ) → i < length l → j < length l → (get_or l i (0, 0)).0 ≡ (get_or l j (0, 0)).0 → i ≡ j
places_apart [] a i j p q e = absurd (omega arith)
places_apart (d ∷ l) a zero zero p q e = refl
places_apart (d ∷ l) a zero (suc j) p q e =
    let lt : j < length l = omega arith in
    let some = value_from_has l (get_or l j (0, 0)).0 (get_or l j (0, 0)).1 a.1 (has_get_or l j (0, 0) lt) in
    let none : value_in l (get_or l j (0, 0)).0 ≡ None = subst (λ y. value_in l y ≡ None) e a.0 in
    let z : ◌≡◌ {A = ℕ} 0 1 = cc in
    absurd (omega arith)
places_apart (d ∷ l) a (suc i) zero p q e =
    let lt : i < length l = omega arith in
    let some = value_from_has l (get_or l i (0, 0)).0 (get_or l i (0, 0)).1 a.1 (has_get_or l i (0, 0) lt) in
    let none : value_in l (get_or l i (0, 0)).0 ≡ None = subst (λ y. value_in l y ≡ None) (sym e) a.0 in
    let z : ◌≡◌ {A = ℕ} 0 1 = cc in
    absurd (omega arith)
places_apart (d ∷ l) a (suc i) (suc j) p q e =
    let pi : i < length l = omega arith in
    let qj : j < length l = omega arith in
    ap suc (places_apart l a.1 i j pi qj e)
