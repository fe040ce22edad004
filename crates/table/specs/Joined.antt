-- The way back from a place.
--   joined   the permuted key number of k bits that stands in a slot of 2^b, as a quotient
use Rattle.std.specs.Prelude.{ℕ, ◌+◌, ◌-◌, ◌*◌, ◌^◌}

-- the slot's bits above those of the quotient
abbrev pub joined : (k b slot quotient : ℕ) → ℕ
joined k b slot quotient = slot * 2 ^ (k - b) + quotient
