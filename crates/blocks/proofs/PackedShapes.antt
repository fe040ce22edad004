-- The shape of a packed table's widths within the bounds of every table, where the words are too few or enough.
use Rattle.std.proofs.Common.{◌≡◌, ℕ, ◌-◌, ◌*◌, ◌^◌, ◌<◌, ◌≤◌, true, Some, None, sym, ap, ◌∙◌, ap₂, arith}
use Rattle.table.specs.declared.shape.Shape.{Shape}
use Rattle.table.specs.Widths.{bounded, shape_where, widths}
use Rattle.table.proofs.Shapes.{shaped}
use Rattle.blocks.specs.PackedLayout.{width, fits}
use Rattle.blocks.specs.PackedLaws.{too_few, enough}

module _ (n k v b : ℕ) (low : 4 ≤ b) (high : b ≤ 20) (shape : Shape) (made : widths (Some shape) ≡ shape_where (bounded k v b) k v b) (m w : ℕ) (ms : m ≡ 2 ^ (shape.b - 4))
    (wide : w ≡ width 1 shape.k shape.v shape.b) where
  product : m * w ≡ 2 ^ (b - 4) * width 1 k v b
  product =
      let s = shaped (bounded k v b) k v b shape made in
      let e : width 1 shape.k shape.v shape.b ≡ width 1 k v b = cc (s.ks, s.vs, s.bs) in
      ap₂ (λ (x y : ℕ). x * y) (ms ∙ ap (λ t. 2 ^ (t - 4)) s.bs) (wide ∙ e)

  holds : bounded k v b ≡ true
  holds = (shaped (bounded k v b) k v b shape made).holds

  pub none_for : n < m * w → widths None ≡ shape_where (fits n k v b) k v b
  none_for h = ap (λ t. shape_where t k v b) (sym (too_few n k v b low high holds (omega (arith, product))))

  pub shape_for : m * w ≤ n → widths (Some shape) ≡ shape_where (fits n k v b) k v b
  shape_for h = made ∙ ap (λ t. shape_where t k v b) (holds ∙ sym (enough n k v b low high holds (omega (arith, product))))
