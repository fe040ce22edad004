-- What each permutation of the numbers below 2^k makes of a number, there and back.
--
--   below            a function of the numbers below 2^k, with every other number unchanged
--   affine_forth     multiplied and added to, by 2^k
--   affine_back      the addition undone, then multiplied by the inverse, by 2^k
--   Inverse          what makes a number the inverse of a multiplier
--   inverse_of       the inverse, of an odd multiplier
--   last_such        the largest number below a bound that passes a test
--   xor_shift_forth  the XOR of a number and the same shifted down
--   xor_shift_back   the XOR of a number's shifts by all multiples of the shift below k
--   xor_below        the XOR of a function's values at 0, 1 and so on below a count
--   chained          one function after another
use Rattle.std.specs.Prelude.{◌≡◌, ℕ, zero, suc, ◌+◌, ◌-◌, ◌*◌, ◌/◌, ◌%◌, ◌^◌, ◌<◌, Bool, cond, bit_xor, nat_eq, nat_lt}

-- f of a number below 2^k; any other number stays
abbrev pub below : ℕ → (ℕ → ℕ) → ℕ → ℕ
below k f n = cond (nat_lt n (2 ^ k)) (f n) n

-- (a × n + c) mod 2^k
abbrev pub affine_forth : ℕ → ℕ → ℕ → ℕ → ℕ
affine_forth k a c = below k (λ n. (a * n + c) % 2 ^ k)

-- a' × (y + 2^k − c) mod 2^k, where a' is the inverse of a
abbrev pub affine_back : ℕ → ℕ → ℕ → ℕ → ℕ
affine_back k a' c = below k (λ y. a' * (y + 2 ^ k - c) % 2 ^ k)

-- the largest number below the bound that passes the test, 0 where none does
unfoldable pub last_such : (ℕ → Bool) → ℕ → ℕ
last_such test zero = 0
last_such test (suc n) = cond (test n) n (last_such test n)

-- x is below 2^k, and a × x mod 2^k = 1
abbrev pub Inverse : ℕ → ℕ → ℕ → Type 0
Inverse k a x = (x < 2 ^ k) × (a * x % 2 ^ k ≡ 1)

-- the number below 2^k whose product with a leaves 1 by 2^k
unfoldable pub inverse_of : ℕ → ℕ → ℕ
inverse_of k a = last_such (λ x. nat_eq (a * x % 2 ^ k) 1) (2 ^ k)

-- n XOR (n div 2^s)
abbrev pub xor_shift_forth : ℕ → ℕ → ℕ → ℕ
xor_shift_forth k s = below k (λ n. bit_xor n (n / 2 ^ s))

-- the XOR of f j over all j below the count
unfoldable pub xor_below : ℕ → (ℕ → ℕ) → ℕ
xor_below zero f = 0
xor_below (suc j) f = bit_xor (xor_below j f) (f j)

-- the XOR of y div 2^(j × s) over all j from 0 with j × s < k; such a j is itself below k, since s is at least 1
abbrev pub xor_shift_back : ℕ → ℕ → ℕ → ℕ
xor_shift_back k s = below k (λ y. xor_below k (λ j. cond (nat_lt (j * s) k) (y / 2 ^ (j * s)) 0))

-- first f, then g
abbrev pub chained : (ℕ → ℕ) → (ℕ → ℕ) → ℕ → ℕ
chained f g n = g (f n)
