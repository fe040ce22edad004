-- What a function of the crate makes of one word.
--   merge x t u            x with the bits of the mask t replaced by those of u
use Rattle.std.specs.Prelude.{ℕ, ◌-◌, ◌^◌, bit_and, bit_or}

-- A word with the bits that the mask t has cleared, and those of u set.
abbrev pub merge : ℕ → ℕ → ℕ → ℕ
merge x t u = bit_or (bit_and x ((2 ^ 64 - 1) - t)) u
