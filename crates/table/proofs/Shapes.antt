-- A shape and the widths that it was made of.
use Rattle.std.proofs.Common.{◌≡◌, ℕ, Bool, true, false, Some, None, refl, ap, subst, arith}
use Rattle.table.specs.declared.shape.Shape.{Shape}
use Rattle.table.specs.Widths.{shape_where, widths}

-- a shape is made of widths of which a test holds
pub record Shaped (t : Bool) (k v b : ℕ) (shape : Shape) : Type 0 where
  pub holds : t ≡ true
  pub ks : shape.k ≡ k
  pub vs : shape.v ≡ v
  pub bs : shape.b ≡ b

-- where there is a shape, the test held
pub shaped : (t : Bool) (k v b : ℕ) (shape : Shape) → widths (Some shape) ≡ shape_where t k v b → Shaped t k v b shape
shaped true k v b shape e =
    let t : ◌≡◌ {A = ℕ × ℕ × ℕ} (shape.k, shape.v, shape.b) (k, v, b) = cc (e) in
    record { holds = refl; ks = ap (λ x. x.0) t; vs = ap (λ x. x.1) t; bs = ap (λ x. x.2) t }
shaped false k v b shape e = let z : ◌≡◌ {A = ℕ} 0 1 = cc (e) in absurd (omega arith)

-- where there is none, it did not
pub unshaped : (t : Bool) (k v b : ℕ) → widths None ≡ shape_where t k v b → t ≡ false
unshaped false k v b e = refl
unshaped true k v b e = let z : ◌≡◌ {A = ℕ} 0 1 = cc (e) in absurd (omega arith)

-- what holds of a shape's widths holds of those that it was made of
pub moved : (t : Bool) (k v b : ℕ) (shape : Shape) → Shaped t k v b shape → (P : ℕ → ℕ → ℕ → Type 0) → P shape.k shape.v shape.b → P k v b
moved t k v b shape s P p = subst (λ z. P k v z) s.bs (subst (λ y. P k y shape.b) s.vs (subst (λ x. P x shape.v shape.b) s.ks p))
