-- The two layouts of a table: what they are called, and what an entry takes.
--
-- layout_name   the word for a layout
-- no_layout     what is said where no layout is named
-- IsNamed       the layout whose word a text is; an error where it is neither word
-- entry_bits    the bits of an entry: its quotient, its value and its mark, or a word
use Rattle.std.specs.Prelude.{◌≡◌, ℕ, ◌+◌, ◌-◌, List, codes, Result, Option, Some, None, MatchOption, IsErr, Ok, cond}
use Rattle.std.specs.Str.{bytes_eq}
use Rattle.table.specs.declared.shape.Shape.{Shape}
use Rattle.arrivals.specs.declared.layout.Layout.{Layout}
use Rattle.arrivals.specs.declared.layout.Layout.TheVariants.{Packed, Plain}

abbrev pub layout_name : Layout → List ℕ
layout_name Packed = codes "packed"
layout_name Plain = codes "plain"

abbrev pub no_layout : List ℕ
no_layout = codes "--layout is followed by packed or plain"

abbrev pub layout_named : List ℕ → Option Layout
layout_named w = cond (bytes_eq w (layout_name Packed)) (Some Packed) (cond (bytes_eq w (layout_name Plain)) (Some Plain) None)

abbrev pub IsNamed : {E : Type 0} → List ℕ → Result Layout E → Type 0
IsNamed w r = MatchOption (layout_named w) (IsErr r) (λ layout. r ≡ Ok layout)

abbrev pub entry_bits : Layout → Shape → ℕ
entry_bits Packed shape = (shape.k - shape.b) + shape.v + 1
entry_bits Plain shape = 64
