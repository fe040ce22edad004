-- Which nights exist, and their numbers.
--
-- night_exists   whether there is such a pitch and such a night
-- night_number   the number of a night that exists
-- night_item     the night that has a number
use Rattle.std.specs.Prelude.{ℕ, ◌+◌, ◌*◌, ◌/◌, ◌%◌, Bool, cond, ◌&&◌, Some, None, Option, nat_le}
use Rattle.coding.specs.declared.items.Night.{Night}

-- pitches are 0 to 999, nights 0 to 731
abbrev pub night_exists : (pitch night : ℕ) → Bool
night_exists pitch night = nat_le pitch 999 && nat_le night 731

-- a pitch has 1,024 numbers, and a night is one of them
abbrev pub night_number : Night → Option ℕ
night_number x = cond (night_exists x.pitch x.night) (Some (x.pitch * 1024 + x.night)) None

-- the pitch is how often 1,024 goes into the number, the night what is left
abbrev pub night_item : ℕ → Option Night
night_item n =
    cond (night_exists (n / 1024) (n % 1024)) (Some (record { pitch = n / 1024; night = n % 1024 })) None
