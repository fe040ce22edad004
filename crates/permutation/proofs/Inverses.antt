-- The inverse of an odd number by 2^k: that there is one only, and the search that finds it bit by bit.
use Rattle.std.proofs.Common.{◌≡◌, ℕ, zero, suc, ◌+◌, ◌*◌, ◌/◌, ◌%◌, ◌^◌, ◌<◌, Bool, true, eqb, sym, ap, ◌∙◌, ⊎_elim, mod-lt, add-mul, add_comm, mul-add, arith, pow_pos, pow-add}
use lib.Arith.{digits_div, digits_mod}
use lib.Pow.{mod-pow-add, split}
use Rattle.std.proofs.lemmas.Bool.{cases_Bool, cond-true, cond-false, both_ways, eq-eqb, eqb-true}
use Rattle.permutation.specs.Formulas.{Inverse, last_such, inverse_of}
use Rattle.permutation.specs.Modulo.{inverse_unique}

-- the only number below the bound that passes is the last such
last_such_is : (test : ℕ → Bool) (x bound : ℕ) → x < bound → test x ≡ true → ((y : ℕ) → y < bound → test y ≡ true → y ≡ x) → last_such test bound ≡ x
unfolding last_such
last_such_is test x zero h t only = absurd (omega arith)
last_such_is test x (suc n) h t only =
    ⊎_elim
    (λ e. cond-true (test n) n (last_such test n) e ∙ only n (omega arith) e)
    (λ e. let other : x ≡ n → ⊥ = λ p. both_ways (test n) e (ap test (sym p) ∙ t) in
    let less : x < n = omega arith in
    cond-false (test n) n (last_such test n) e ∙ last_such_is test x n less t (λ y l. only y (omega arith)))
    (cases_Bool (test n))

-- a number below 2^k whose product leaves 1 is the inverse
pub inverse_is : (k a x : ℕ) → Inverse k a x → x ≡ inverse_of k a
unfolding inverse_of
inverse_is k a x (h, e) =
    sym (last_such_is (λ y. eqb (a * y % 2 ^ k) 1) x (2 ^ k) h (eq-eqb (a * x % 2 ^ k) 1 e)
    (λ y l t. inverse_unique a x y (2 ^ k) h l e (eqb-true (a * y % 2 ^ k) 1 t)))

-- one bit more: where the product's next bit is clear, it leaves 1 by the next power too
bit_clear : (p b : ℕ) → p % 2 ^ b ≡ 1 → p / 2 ^ b % 2 ≡ 0 → p % 2 ^ (b + 1) ≡ 1
bit_clear p b one clear = ap (λ (x : ℕ). p % 2 ^ x) (add_comm b 1) ∙ mod-pow-add p 1 b ∙ ap (λ (x : ℕ). x * 2 ^ b + p % 2 ^ b) clear ∙ omega (arith, one)

-- where it is set, adding 2^b to the inverse of an odd number clears it
bit_set : (a x b : ℕ) → a % 2 ≡ 1 → a * x % 2 ^ b ≡ 1 → a * x / 2 ^ b % 2 ≡ 1 → a * (x + 2 ^ b) % 2 ^ (b + 1) ≡ 1
bit_set a x b odd one set =
    bit_clear (a * (x + 2 ^ b)) b (ap (λ (p : ℕ). p % 2 ^ b) parts ∙ digits_mod (a * x / 2 ^ b + a) more)
    (ap (λ (p : ℕ). p / 2 ^ b % 2) parts ∙ ap (λ (q : ℕ). q % 2) (digits_div (a * x / 2 ^ b + a) more) ∙ even)
  where
    more : 1 < 2 ^ b
    more = omega (arith, one, mod-lt (a * x) (pow_pos b))

    parts : a * (x + 2 ^ b) ≡ (a * x / 2 ^ b + a) * 2 ^ b + 1
    parts = omega (arith, one, mul-add a x (2 ^ b), add-mul (a * x / 2 ^ b) a (2 ^ b), split (a * x) b)

    even : (a * x / 2 ^ b + a) % 2 ≡ 0
    even = omega (arith, odd, set)

-- a turn that adds a bit
pub turn_set : (a x b y : ℕ) → a % 2 ≡ 1 → Inverse b a x → a * x / 2 ^ b % 2 ≡ 1 → y ≡ x + 2 ^ b → Inverse (b + 1) a y
turn_set a x b y odd (less, one) set e = (omega (arith, pow-add 2 b 1), ap (λ (z : ℕ). a * z % 2 ^ (b + 1)) e ∙ bit_set a x b odd one set)

-- a turn that adds none
pub turn_clear : (a x b y : ℕ) → Inverse b a x → (a * x / 2 ^ b % 2 ≡ 1 → ⊥) → y ≡ x → Inverse (b + 1) a y
turn_clear a x b y (less, one) set e =
    (omega (arith, pow-add 2 b 1), ap (λ (z : ℕ). a * z % 2 ^ (b + 1)) e ∙ bit_clear (a * x) b one (omega (arith, set)))
