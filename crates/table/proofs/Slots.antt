-- One slot: what is looked up, put in and taken out, and that it stays as it has to be.
use Rattle.std.proofs.Common.{◌≡◌, ℕ, zero, suc, ◌+◌, ◌^◌, ◌<◌, ◌≤◌, eqb, ◌⊎◌, List, [], ◌∷◌, ◌++◌, length, get_or, Some, None, sym, refl, ap, ◌∙◌, subst, inl, inr, ⊎_elim, arith}
use Rattle.std.specs.List.{remove}
use Rattle.std.proofs.lemmas.List.Edits.{length-remove, get_or-remove_below, get_or-remove_above}
use Rattle.std.proofs.lemmas.Bool.{cases_eq, cases_lt, eq-eqb, ne_eqb, cond-false, cond-true}
use Rattle.std.proofs.lemmas.List.{length_push, get_or_push, get_or_append_left}
use Rattle.table.specs.Meaning.{Good, value_in, without}
use Rattle.table.specs.Places.{First}

-- ---- looking up

module _ (e : ℕ × ℕ) (es : List (ℕ × ℕ)) (q : ℕ) where
  -- the quotient of the first entry has its value
  value_here : e.0 ≡ q → value_in (e ∷ es) q ≡ Some e.1
  value_here h = cond-true (eqb e.0 q) (Some e.1) (value_in es q) (eq-eqb e.0 q h)

  -- any other has that among the rest
  value_later : (e.0 ≡ q → ⊥) → value_in (e ∷ es) q ≡ value_in es q
  value_later h = cond-false (eqb e.0 q) (Some e.1) (value_in es q) (ne_eqb e.0 q h)

-- a quotient that has no value is none of the slot's
pub none_apart : (es : List (ℕ × ℕ)) (q : ℕ) → value_in es q ≡ None → (i : ℕ) → i < length es → (get_or es i (0, 0)).0 ≡ q → ⊥
none_apart [] q e i h s = absurd (omega arith)
none_apart (x ∷ es) q e zero h s = let t = value_here x es q s in let z : ◌≡◌ {A = ℕ} 0 1 = cc (t, e) in omega arith
none_apart (x ∷ es) q e (suc i) h s =
    ⊎_elim
    (λ same. let t = value_here x es q same in let z : ◌≡◌ {A = ℕ} 0 1 = cc (t, e) in absurd (omega arith))
    (λ other. none_apart es q (sym (value_later x es q other) ∙ e) i (omega arith) s)
    (cases_eq x.0 q)

-- a quotient that is none of the slot's has no value
pub none_from : (es : List (ℕ × ℕ)) (q : ℕ) → ((j : ℕ) → j < length es → (get_or es j (0, 0)).0 ≡ q → ⊥) → value_in es q ≡ None
none_from [] q h = refl
none_from (e ∷ es) q h = value_later e es q (h 0 (omega arith)) ∙ none_from es q (λ j l. h (suc j) (omega arith))

-- a first place past the first entry is one among the rest
next : (e : ℕ × ℕ) (es : List (ℕ × ℕ)) (q i : ℕ) → First (e ∷ es) q (suc i) → First es q i
next e es q i f = record { inside = let h = f.inside in omega arith; here = f.here; before = λ j l. f.before (suc j) (omega arith) }

-- and back
later : (y : ℕ × ℕ) (es : List (ℕ × ℕ)) (q i : ℕ) → (y.0 ≡ q → ⊥) → First es q i → (j : ℕ) → j < suc i → (get_or (y ∷ es) j (0, 0)).0 ≡ q → ⊥
later y es q i other f zero l = other
later y es q i other f (suc j) l = f.before j (omega arith)

-- the value at the first place is the quotient's
pub first_value : (es : List (ℕ × ℕ)) (q i : ℕ) → First es q i → value_in es q ≡ Some (get_or es i (0, 0)).1
first_value [] q i f = let h = f.inside in absurd (omega arith)
first_value (e ∷ es) q zero f = value_here e es q f.here
first_value (e ∷ es) q (suc i) f = value_later e es q (f.before 0 (omega arith)) ∙ first_value es q i (next e es q i f)

-- the slot without the first entry of a quotient is the slot without that place
pub first_without : (es : List (ℕ × ℕ)) (q i : ℕ) → First es q i → without es q ≡ remove es i
first_without [] q i f = let h = f.inside in absurd (omega arith)
first_without (e ∷ es) q zero f = cond-true (eqb e.0 q) es (e ∷ without es q) (eq-eqb e.0 q f.here)
first_without (e ∷ es) q (suc i) f =
    cond-false (eqb e.0 q) es (e ∷ without es q) (ne_eqb e.0 q (f.before 0 (omega arith)))
    ∙ ap (λ t. e ∷ t) (first_without es q i (next e es q i f))

-- a quotient that has a value has a first place
pub first_of : (es : List (ℕ × ℕ)) (q x : ℕ) → value_in es q ≡ Some x → (i : ℕ) × First es q i
first_of [] q x e = let z : ◌≡◌ {A = ℕ} 0 1 = cc (e) in absurd (omega arith)
first_of (y ∷ es) q x e =
    ⊎_elim
    (λ same. (0, record { inside = omega arith; here = same; before = λ j l. absurd (omega arith) }))
    (λ other.
    let r = first_of es q x (sym (value_later y es q other) ∙ e) in
    (suc r.0, record { inside = let n = r.1.inside in omega arith; here = r.1.here; before = later y es q r.0 other r.1 }))
    (cases_eq y.0 q)

-- ---- putting in

-- an empty slot
pub good_empty : (qs v : ℕ) → Good qs v []
good_empty qs v = record { quotients = λ i h. absurd (omega arith); values = λ i h. absurd (omega arith); apart = λ i j l h. absurd (omega arith) }

module _ (qs v : ℕ) (es : List (ℕ × ℕ)) (g : Good qs v es) (q w : ℕ) (qh : q < 2 ^ qs) (wh : w < 2 ^ v) where
  old_at : (i : ℕ) → i < length es → get_or (es ++ ((q, w) ∷ [])) i (0, 0) ≡ get_or es i (0, 0)
  old_at i h = get_or_append_left es ((q, w) ∷ []) (0, 0) i h

  new_at : (i : ℕ) → length es ≡ i → get_or (es ++ ((q, w) ∷ [])) i (0, 0) ≡ (q, w)
  new_at i h = get_or_push es (q, w) (0, 0) i h

  -- what holds of each entry and of the new one holds of each after it
  each : (P : ℕ × ℕ → Type 0) → ((i : ℕ) → i < length es → P (get_or es i (0, 0))) → P (q, w)
      → (i : ℕ) → i < length (es ++ ((q, w) ∷ [])) → P (get_or (es ++ ((q, w) ∷ [])) i (0, 0))
  each P old new i h =
      ⊎_elim
      (λ l. subst P (sym (old_at i l)) (old i l))
      (λ l. let e : length es ≡ i = omega (arith, length_push es (q, w)) in subst P (sym (new_at i e)) new)
      (cases_lt i (length es))

  -- one more entry, of a quotient that the slot does not hold
  pub good_push : value_in es q ≡ None → Good qs v (es ++ ((q, w) ∷ []))
  good_push miss = record {
    quotients = each (λ e. e.0 < 2 ^ qs) g.quotients qh;
    values = each (λ e. e.1 < 2 ^ v) g.values wh;
    apart = λ i j lt h same.
        let il : i < length es = omega (arith, length_push es (q, w)) in
        ⊎_elim
        (λ jl. g.apart i j lt jl (sym (ap (λ t. t.0) (old_at i il)) ∙ same ∙ ap (λ t. t.0) (old_at j jl)))
        (λ jl.
        let e : length es ≡ j = omega (arith, length_push es (q, w)) in
        none_apart es q miss i il (sym (ap (λ t. t.0) (old_at i il)) ∙ same ∙ ap (λ t. t.0) (new_at j e)))
        (cases_lt j (length es));
  }

-- ---- taking out

-- where an entry stood before a place was taken out
record Moved (es : List (ℕ × ℕ)) (i j : ℕ) : Type 0 where
  to : ℕ
  inside : to < length es
  same : get_or (remove es i) j (0, 0) ≡ get_or es to (0, 0)
  how : ((j < i) × (to ≡ j)) ⊎ ((i ≤ j) × (to ≡ j + 1))

module _ (es : List (ℕ × ℕ)) (i : ℕ) (h : i < length es) where
  moved : (j : ℕ) → j < length (remove es i) → Moved es i j
  moved j l =
      let n = length-remove es i h in
      ⊎_elim
      (λ low. record { to = j; inside = omega arith; same = get_or-remove_below es i (0, 0) j low h; how = inl (low, refl) })
      (λ high. record { to = j + 1; inside = omega arith; same = get_or-remove_above es i (0, 0) j high h; how = inr (high, refl) })
      (cases_lt j i)

  order : (j k : ℕ) → j < k → (a : Moved es i j) (b : Moved es i k) → a.to < b.to
  order j k l a b =
      ⊎_elim
      (λ x. ⊎_elim (λ y. omega (arith, x.1, y.1)) (λ y. omega (arith, x.1, y.1)) b.how)
      (λ x. ⊎_elim (λ y. absurd (omega (arith, x.0, y.0))) (λ y. omega (arith, x.1, y.1)) b.how)
      a.how

  -- a slot without one place
  pub good_removed : (q v : ℕ) → Good q v es → Good q v (remove es i)
  good_removed q v g = record {
    quotients = λ j l. let m = moved j l in subst (λ t. t.0 < 2 ^ q) (sym m.same) (g.quotients m.to m.inside);
    values = λ j l. let m = moved j l in subst (λ t. t.1 < 2 ^ v) (sym m.same) (g.values m.to m.inside);
    apart = λ j k l u same.
        let jl : j < length (remove es i) = omega arith in
        let a = moved j jl in let b = moved k u in
        g.apart a.to b.to (order j k l a b) b.inside (ap (λ t. t.0) (sym a.same) ∙ same ∙ ap (λ t. t.0) b.same);
  }

-- a slot without the entry of a quotient that it holds
pub good_without : (qs v : ℕ) (es : List (ℕ × ℕ)) → Good qs v es → (q x : ℕ) → value_in es q ≡ Some x → Good qs v (without es q)
good_without qs v es g q x e =
    let f = first_of es q x e in
    subst (Good qs v) (sym (first_without es q f.0 f.1)) (good_removed es f.0 f.1.inside qs v g)

-- it is shorter by one
pub length_without : (es : List (ℕ × ℕ)) (q x : ℕ) → value_in es q ≡ Some x → length (without es q) + 1 ≡ length es
length_without es q x e =
    let f = first_of es q x e in
    let n = ap length (first_without es q f.0 f.1) in
    omega (arith, n, length-remove es f.0 f.1.inside)
