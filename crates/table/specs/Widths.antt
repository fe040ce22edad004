-- Widths within the bounds of every table, and the shape made of them.
--   bounded       the widths that any table may fit
--   shape_where   the three widths, where a test of them holds
--   widths        the widths of a shape
use Rattle.std.specs.Prelude.{ℕ, Bool, true, false, ◌&&◌, Some, None, Option, nat_le, nat_lt}
use Rattle.table.specs.declared.shape.Shape.{Shape}

-- k from 1 to 32, v from 0 to 32, b below k
abbrev pub bounded : (k v b : ℕ) → Bool
bounded k v b = nat_le k 32 && (nat_le v 32 && nat_lt b k)

-- these widths where a test of them holds, else none
abbrev pub shape_where : Bool → (k v b : ℕ) → Option (ℕ × ℕ × ℕ)
shape_where true k v b = Some (k, v, b)
shape_where false k v b = None

-- the widths of a shape, if there is one
abbrev pub widths : Option Shape → Option (ℕ × ℕ × ℕ)
widths None = None
widths (Some s) = Some (s.k, s.v, s.b)
