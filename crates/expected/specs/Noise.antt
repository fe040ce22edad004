-- Numbers that look random.
--
-- after   the state after a state: times a constant plus another, in 64 bits
-- drawn   the number that a state gives: its upper 31 bits
use Rattle.std.specs.Prelude.{ℕ, ◌+◌, ◌*◌, ◌/◌, ◌%◌, ◌^◌}

abbrev pub after : ℕ → ℕ
after s = (s * 6364136223846793005 % 2 ^ 64 + 1442695040888963407) % 2 ^ 64

abbrev pub drawn : ℕ → ℕ
drawn s = s / 2 ^ 33
