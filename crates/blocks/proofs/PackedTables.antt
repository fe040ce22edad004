-- A packed table's words: the block of a slot's group begins with marks.
use Rattle.std.proofs.Common.{◌≡◌, ℕ, ◌*◌, ◌/◌, true, List, length, take, drop, Some, Option}
use Rattle.table.specs.declared.shape.Shape.{Shape}
use Rattle.table.specs.Meaning.{has_slot}
use Rattle.table.specs.Layout.{words_of, meaning, Well}
use Rattle.blocks.specs.PackedLayout.{width, packed_table, MarkedBlock}
use Rattle.blocks.specs.Stored.{marked_given}
use Rattle.blocks.specs.PackedLaws.{packed_laws}
use Rattle.blocks.proofs.Tables.{given_table}

module _ (ws : List ℕ) (o : Option Shape) (wl : ∥ Well packed_table (length ws) (meaning packed_table ws o) ∥₁) (exact : ws ≡ words_of packed_table (length ws) (meaning packed_table ws o))
    (shape : Shape) (is : o ≡ Some shape) (s : ℕ) (ok : has_slot shape.b s ≡ true)
    (ys : List ℕ) (same : ys ≡ ws) (start : ℕ) (at : start ≡ s / 16 * width 1 shape.k shape.v shape.b) (n : ℕ) (wide : n ≡ width 1 shape.k shape.v shape.b) where
  -- the first word of the part is marks
  pub marked_table : MarkedBlock shape.k shape.v shape.b (take n (drop start ys))
  marked_table = marked_given shape.k shape.v shape.b (take n (drop start ys)) (given_table packed_table packed_laws ws o wl exact shape is s ok ys same start at n wide)
