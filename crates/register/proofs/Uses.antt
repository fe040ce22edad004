-- Looking for the table in use.
use Rattle.std.proofs.Common.{◌≡◌, ℕ, ◌<◌, ◌≤◌, true, List, Some, None, Ok, Option, Result, sym, refl, ap, ◌∙◌, subst, arith}
use Rattle.std.proofs.lemmas.Bool.{le-leb, lt-ltb}
use Rattle.coding.specs.declared.Coding as coding
use Rattle.permutation.specs.declared.Permutation as permutation
use Rattle.table.specs.declared.table.Table as table
use Rattle.table.specs.declared.shape.Shape.{Shape}
use Rattle.table.specs.Meaning.{Fit, WellFormed, formed}
use Rattle.table.specs.Widths.{bounded, shape_where, widths}
use Rattle.model.specs.declared.refusal.Refusal.{Refusal}
use Rattle.model.specs.Model.{Model, Side, State, closed, on_first, on_second, opened}
use Rattle.register.specs.declared.in_use.InUse.{InUse}
use Rattle.register.specs.declared.state.Opened.{Opened}
use Rattle.register.specs.declared.state.Register.{Register}
use Rattle.register.specs.Stands.{Stands, Uses, side_of}
use Rattle.register.specs.Numbers.{Finds}
use Rattle.register.proofs.OnSides.{first_stored, second_stored}

-- the widths of a table in use are within the bounds of every table
abbrev pub Bound : (k v b : ℕ) → Type 0
Bound k v b = (k ≤ 32) × (v ≤ 32) × (b < k)

-- widths within the bounds have a shape, and it is of these widths
bounded_true : (k v b : ℕ) → Bound k v b → bounded k v b ≡ true
bounded_true k v b h = let p = le-leb k 32 h.0 in let q = le-leb v 32 h.1 in let s = lt-ltb b k h.2 in rw (p, q, s)

pub shape_some : (o : Option Shape) (k v b : ℕ) → widths o ≡ shape_where (bounded k v b) k v b → Bound k v b → o ≡ None → ⊥
shape_some o k v b is h none =
    let some : widths o ≡ Some (k, v, b) = is ∙ ap (λ t. shape_where t k v b) (bounded_true k v b h) in
    let nothing : widths o ≡ None = ap widths none in
    let z : ◌≡◌ {A = ℕ} 0 1 = cc in omega arith

-- the three widths
abbrev three : Option (ℕ × ℕ × ℕ) → (ℕ × ℕ × ℕ)
three (Some p) = p
three None = (0, 0, 0)

pub shape_widths : (o : Option Shape) (s : Shape) (k v b : ℕ) → widths o ≡ shape_where (bounded k v b) k v b → Bound k v b → o ≡ Some s → (s.k ≡ k) × (s.v ≡ v) × (s.b ≡ b)
shape_widths o s k v b is h some =
    let both : ◌≡◌ {A = Option (ℕ × ℕ × ℕ)} (Some (s.k, s.v, s.b)) (Some (k, v, b)) = sym (ap widths some) ∙ is ∙ ap (λ t. shape_where t k v b) (bounded_true k v b h) in
    (ap (λ p. (three p).0) both, ap (λ p. (three p).1) both, ap (λ p. (three p).2) both)

module _ {K T V U P A B : Type 0} {kc : coding.Ghosts K T} {vc : coding.Ghosts V U} {pm : permutation.Ghosts P} {ta : table.Ghosts A} {tb : table.Ghosts B}
    (fitting-a : (t : A) (k v b : ℕ) → ta.fits t k v b ≡ true → Fit ta.group k v b)
    (well-a : (t : A) → ta.sound t → (k v b : ℕ) (slots : List (List (ℕ × ℕ))) → ta.means t ≡ formed k v b slots → WellFormed ta.group ta.limit (ta.fits t) k v b slots)
    (fitting-b : (t : B) (k v b : ℕ) → tb.fits t k v b ≡ true → Fit tb.group k v b)
    (well-b : (t : B) → tb.sound t → (k v b : ℕ) (slots : List (List (ℕ × ℕ))) → tb.means t ≡ formed k v b slots → WellFormed tb.group tb.limit (tb.fits t) k v b slots)
    (r : Register K V P A B T U) (o : Opened) (is : r.opened ≡ Some o) where
  -- the side in use is formed, so its widths fit
  bound_side : (t : State) → Stands kc vc pm ta tb r (opened t) → (s : Side) → s ≡ t.side → Bound (kc.width r.keys) (vc.width r.values) t.b
  bound_side t st on_first e =
      let stored = first_stored st e in
      let fit = fitting-a r.first (kc.width r.keys) (vc.width r.values) t.b (well-a r.first stored.sound (kc.width r.keys) (vc.width r.values) t.b _ stored.means).fit in
      (fit.narrow, fit.thin, fit.below)
  bound_side t st on_second e =
      let stored = second_stored st e in
      let fit = fitting-b r.second (kc.width r.keys) (vc.width r.values) t.b (well-b r.second stored.sound (kc.width r.keys) (vc.width r.values) t.b _ stored.means).fit in
      (fit.narrow, fit.thin, fit.below)

  -- what the register says that it uses
  said : (t : State) → Stands kc vc pm ta tb r (opened t) → (side_of o.side ≡ t.side) × (o.b ≡ t.b)
  said t st = subst (λ x. Uses x (opened t)) is st.uses

  bound_said : (t : State) → Stands kc vc pm ta tb r (opened t) → Bound (kc.width r.keys) (vc.width r.values) o.b
  bound_said t st = subst (λ b. Bound (kc.width r.keys) (vc.width r.values) b) (sym (said t st).1) (bound_side t st t.side refl)

  module _ (k v : ℕ) (k_is : k ≡ kc.width r.keys) (v-is : v ≡ vc.width r.values) (new : Option Shape) (made : widths new ≡ shape_where (bounded k v o.b) k v o.b) where
    bound_read : (t : State) → Stands kc vc pm ta tb r (opened t) → Bound k v o.b
    bound_read t st = rw (k_is, v-is) (bound_said t st)

    -- there is always a shape
    pub never_none : new ≡ None → (x : Result InUse Refusal) (m : Model) → Stands kc vc pm ta tb r m → Finds kc vc pm ta tb r m x
    never_none none x closed st = absurd (subst (λ y. Uses y closed) is st.uses)
    never_none none x (opened t) st = absurd (shape_some new k v o.b made (bound_read t st) none)

    -- and it is that of the table in use
    pub finds_used : (s : Shape) → new ≡ Some s → (m : Model) → Stands kc vc pm ta tb r m → Finds kc vc pm ta tb r m (Ok (record { side = o.side; shape = s }))
    finds_used s some closed st = absurd (subst (λ y. Uses y closed) is st.uses)
    finds_used s some (opened t) st =
        let w = shape_widths new s k v o.b made (bound_read t st) some in
        (record { side = o.side; shape = s }, (refl, record { side = (said t st).0; k = w.0 ∙ k_is; v = w.1 ∙ v-is; b = w.2 ∙ (said t st).1 }))
