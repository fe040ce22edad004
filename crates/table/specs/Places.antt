-- The first place of a quotient among the entries of a slot.
--   First    the place is inside, holds the quotient, and none before it does
--   Placed   what a search for it answers
use Rattle.std.specs.Prelude.{◌≡◌, ℕ, ◌<◌, List, length, Some, None, Option, ◌≢◌, slice_index_or}
use Rattle.table.specs.Meaning.{value_in}

-- the first place that holds a quotient
pub record First (es : List (ℕ × ℕ)) (q i : ℕ) : Type 0 where
  pub inside : i < length es
  pub here : (slice_index_or es i (0, 0)).0 ≡ q
  pub before : (j : ℕ) → j < i → (slice_index_or es j (0, 0)).0 ≢ q

-- the first place of a quotient, or that it has no value
abbrev pub Placed : List (ℕ × ℕ) → ℕ → Option ℕ → Type 0
Placed es q None = value_in es q ≡ None
Placed es q (Some i) = First es q i
