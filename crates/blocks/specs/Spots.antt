-- Where a slot stands in a table's words.
--   Reached   slot, quotient and value are in range, and the block of the slot's group is there
--   There     the same of some slot, quotient and value
--   Refused   why a table has no such slot, quotient or value
use Rattle.std.specs.Prelude.{◌≡◌, ℕ, ◌+◌, ◌*◌, ◌/◌, ◌%◌, ◌^◌, ◌≤◌, true, false, ◌&&◌, Some, None, Option, nat_lt}
use Rattle.table.specs.declared.refusal.TableRefusal.{TableRefusal}
use Rattle.table.specs.declared.refusal.TableRefusal.TheVariants.{Unformed, OutOfRange}
use Rattle.table.specs.declared.shape.Shape.{Shape}
use Rattle.table.specs.Meaning.{in_range}
use Rattle.table.specs.Layout.{Layout}
use Rattle.blocks.specs.declared.state.spot.Spot.{Spot}

-- of n words under a shape: the block of the group of slot s, where s, q and w are in range
pub record Reached (L : Layout) (n : ℕ) (o : Option Shape) (s q w : ℕ) (at : Spot) : Type 0 where
  pub formed : o ≡ Some at.shape
  pub allowed : (in_range at.shape.k at.shape.b s q && nat_lt w (2 ^ at.shape.v)) ≡ true
  pub start : at.start ≡ s / L.S * L.width at.shape.k at.shape.v at.shape.b
  pub end : at.end ≡ at.start + L.width at.shape.k at.shape.v at.shape.b
  pub slot : at.slot ≡ s % L.S
  pub inside : at.end ≤ n

-- unformed, or out of range
abbrev pub Refused : Option Shape → (s q w : ℕ) → TableRefusal → Type 0
Refused None s q w e = e ≡ Unformed
Refused (Some shape) s q w e = ((in_range shape.k shape.b s q && nat_lt w (2 ^ shape.v)) ≡ false) × (e ≡ OutOfRange)

-- the block of the group of some slot
pub record There (L : Layout) (n : ℕ) (o : Option Shape) (at : Spot) : Type 0 where
  pub s : ℕ
  pub q : ℕ
  pub w : ℕ
  pub reached : Reached L n o s q w at
