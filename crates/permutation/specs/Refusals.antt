-- When setting up a permutation is refused, and what a refusal says.
--
--   set_up_says         a refusal's number, and the values that it carries
--   width_fits          the widths that a permutation may have
--   refuse_unless       a test with what it refuses, and the tests after it
--   identity_refusal    what is wrong with a width
--   affine_refusal      what is wrong with a width, a multiplier and an increment
--   xor_shift_refusal   what is wrong with a width and a shift
--   chain_refusal       what is wrong with two widths
use Rattle.std.specs.Prelude.{ℕ, ◌%◌, ◌^◌, Bool, cond, ◌&&◌, List, [], Some, None, Option, ◌==◌, nat_le, nat_lt}
use Rattle.permutation.specs.declared.refusal.SetUpRefusal.{SetUpRefusal}
use Rattle.permutation.specs.declared.refusal.SetUpRefusal.TheVariants.{Width, Multiplier, Increment, Shift, UnequalWidths}

-- every refusal has the number 8 and carries nothing
abbrev pub set_up_says : SetUpRefusal → (ℕ × List ℕ)
set_up_says Width = (8, [])
set_up_says Multiplier = (8, [])
set_up_says Increment = (8, [])
set_up_says Shift = (8, [])
set_up_says UnequalWidths = (8, [])

-- a width is 1 to 32
abbrev pub width_fits : ℕ → Bool
width_fits k = nat_le 1 k && nat_le k 32

-- what the test refuses where it fails, and otherwise what the later tests refuse
abbrev pub refuse_unless : Bool → SetUpRefusal → Option SetUpRefusal → Option SetUpRefusal
refuse_unless test e later = cond test later (Some e)

-- the width
abbrev pub identity_refusal : ℕ → Option SetUpRefusal
identity_refusal k = refuse_unless (width_fits k) Width None

-- the width; then the multiplier, odd and below 2^k; then the increment, below 2^k
abbrev pub affine_refusal : ℕ → ℕ → ℕ → Option SetUpRefusal
affine_refusal k a c =
    refuse_unless (width_fits k) Width
    (refuse_unless (a % 2 == 1 && nat_lt a (2 ^ k)) Multiplier (refuse_unless (nat_lt c (2 ^ k)) Increment None))

-- the width; then the shift, 1 to k − 1
abbrev pub xor_shift_refusal : ℕ → ℕ → Option SetUpRefusal
xor_shift_refusal k s = refuse_unless (width_fits k) Width (refuse_unless (nat_le 1 s && nat_lt s k) Shift None)

-- the two widths, which are to be one
abbrev pub chain_refusal : ℕ → ℕ → Option SetUpRefusal
chain_refusal k l = refuse_unless (k == l) UnequalWidths None
