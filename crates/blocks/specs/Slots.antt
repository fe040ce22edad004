-- A slot in the block of its group.
--   group_in, entries_in   the group that the block reads as; the slot's entries
--   Read, SlotRead         the block and the slot are those of slot s of a table, with s, a quotient and a value in range
use Rattle.std.specs.Prelude.{◌≡◌, ℕ, ◌^◌, true, ◌&&◌, List, [], Some, Option, nat_lt, slice_index_or}
use Rattle.table.specs.declared.shape.Shape.{Shape}
use Rattle.table.specs.Meaning.{in_range, total, load}
use Rattle.table.specs.Layout.{Layout, content}
use Rattle.blocks.specs.declared.kind.Blocks as kind
use Rattle.blocks.specs.declared.slot.Slot.{Slot}

-- the group that the block reads as
abbrev pub group_in : {K : Type 0} {bl : kind.Ghosts K} → Slot K bl → List (List (ℕ × ℕ))
group_in {K} {bl} t = bl.layout.read t.shape.k t.shape.v t.shape.b t.block.now

-- the slot's entries
abbrev pub entries_in : {K : Type 0} {bl : kind.Ghosts K} → Slot K bl → List (ℕ × ℕ)
entries_in t = slice_index_or (group_in t) t.slot []

-- of words ws under a shape: the block is that of the group of slot s, which is slot j of it, and s, q and w are in range
pub record Read (L : Layout) (ws : List ℕ) (o : Option Shape) (s q w : ℕ) (shape : Shape) (j : ℕ) (block : List ℕ) : Type 0 where
  pub formed : o ≡ Some shape
  pub allowed : (in_range shape.k shape.b s q && nat_lt w (2 ^ shape.v)) ≡ true
  pub entries : slice_index_or (L.read shape.k shape.v shape.b block) j [] ≡ slice_index_or (content L shape.k shape.v shape.b ws) s []
  pub counted : total (L.read shape.k shape.v shape.b block) ≡ load L.S (content L shape.k shape.v shape.b ws) s

-- the same of a slot
abbrev pub SlotRead : {K : Type 0} {bl : kind.Ghosts K} → (ws : List ℕ) → Option Shape → (s q w : ℕ) → Slot K bl → Type 0
SlotRead {K} {bl} ws o s q w t = Read bl.layout ws o s q w t.shape t.slot t.block.now
