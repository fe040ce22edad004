-- Items that are one number from a first to a last, each with its own number.
--
-- in_range        whether a number is one from the first to the last
-- own_number      the number of an item whose number exists
-- own_item        the item that has a number, where that exists
-- ranged_number   the number of an item that is in the range
-- ranged_item     the item in the range that has a number
use Rattle.std.specs.Prelude.{ℕ, Bool, cond, ◌&&◌, Some, None, Option, nat_le}

-- from the first to the last, with both
abbrev pub in_range : (first last n : ℕ) → Bool
in_range first last n = nat_le first n && nat_le n last

-- an item's number is its own, where there is such an item
abbrev pub own_number : {T : Type 0} → (ℕ → Bool) → (T → ℕ) → T → Option ℕ
own_number exists number_of x = cond (exists (number_of x)) (Some (number_of x)) None

-- the item of that number, where there is one
abbrev pub own_item : {T : Type 0} → (ℕ → Bool) → (ℕ → T) → ℕ → Option T
own_item exists item_of n = cond (exists n) (Some (item_of n)) None

-- the same of the items from a first to a last
abbrev pub ranged_number : {T : Type 0} → (first last : ℕ) → (T → ℕ) → T → Option ℕ
ranged_number first last = own_number (in_range first last)

abbrev pub ranged_item : {T : Type 0} → (first last : ℕ) → (ℕ → T) → ℕ → Option T
ranged_item first last = own_item (in_range first last)
