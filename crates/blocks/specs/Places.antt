-- A place of a slot in a group.
--   without_place   a group without the entry at a place of a slot
use Rattle.std.specs.Prelude.{ℕ, List, [], slice_index_or, slice_set}
use Rattle.std.specs.List.{remove}

-- a group without the entry at place i of slot j
abbrev pub without_place : List (List (ℕ × ℕ)) → (j i : ℕ) → List (List (ℕ × ℕ))
without_place G j i = slice_set G j (remove (slice_index_or G j []) i)
