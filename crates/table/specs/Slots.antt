-- Where a key number stands, and what a group may hold.
--   slot, quotient   of a permuted key number of k bits, in a table of 2^b slots
--   full             a group of n entries takes no more
--   within           a group of n entries is within the limit
use Rattle.std.specs.Prelude.{ℕ, ◌-◌, ◌/◌, ◌%◌, ◌^◌, Bool, nat_le}

-- the slot: the top b bits
abbrev pub slot : (k b y : ℕ) → ℕ
slot k b y = y / 2 ^ (k - b)

-- the quotient: the bits below them
abbrev pub quotient : (k b y : ℕ) → ℕ
quotient k b y = y % 2 ^ (k - b)

-- the group is full: it holds C or more
abbrev pub full : (C n : ℕ) → Bool
full C n = nat_le C n

-- within the limit: at most C
abbrev pub within : (C n : ℕ) → Bool
within C n = nat_le n C
