-- Products and sums by a modulus: what a multiplication with an addition does, and what undoes it.
use Rattle.std.specs.Prelude.{◌≡◌, ℕ, ◌+◌, ◌-◌, ◌*◌, ◌/◌, ◌%◌, ◌^◌, ◌<◌}
use Rattle.std.proofs.Common.{sym, ap, ◌∙◌, mul_comm, mul_assoc, mul-add, mul-one, div-add-mod', mod-eq_of_lt, arith}
use Rattle.std.proofs.Math.Nat.{mul-add-mod_self_right, add-mul-mod_self_right, add-mod_right, mod-add-mod}
use Rattle.permutation.specs.Formulas.{affine_back}
use Rattle.permutation.specs.Below.{below_in}

-- a factor counts by its remainder
pub mul_mod_factor : (a b m : ℕ) → a * (b % m) % m ≡ a * b % m
mul_mod_factor a b m = sym (ap (λ (x : ℕ). x % m) parts ∙ mul-add-mod_self_right (a * (b / m)) m (a * (b % m)))
  where
    parts : a * b ≡ a * (b / m) * m + a * (b % m)
    parts =
        ap (λ (x : ℕ). a * x) (sym (div-add-mod' b m)) ∙ mul-add a (b / m * m) (b % m)
        ∙ ap (λ (x : ℕ). x + a * (b % m)) (sym (mul_assoc a (b / m) m))

-- factors whose product leaves 1 undo one another
pub mul_undo : (a b w m : ℕ) → a * b % m ≡ 1 → a * (b * w) % m ≡ w % m
mul_undo a b w m one =
    ap (λ (x : ℕ). x % m) (sym (mul_assoc a b w) ∙ mul_comm (a * b) w) ∙ sym (mul_mod_factor w (a * b) m)
    ∙ ap (λ (x : ℕ). w * x % m) one ∙ ap (λ (x : ℕ). x % m) (mul-one w)

-- two factors below m that both leave 1 with a are one
pub inverse_unique : (a x y m : ℕ) → x < m → y < m → a * x % m ≡ 1 → a * y % m ≡ 1 → y ≡ x
inverse_unique a x y m hx hy ex ey =
    sym (mod-eq_of_lt hy) ∙ sym (mul_undo x a y m (ap (λ (z : ℕ). z % m) (mul_comm x a) ∙ ex)) ∙ sym (mul_mod_factor x (a * y) m)
    ∙ ap (λ (z : ℕ). x * z % m) ey ∙ ap (λ (z : ℕ). z % m) (mul-one x) ∙ mod-eq_of_lt hx

module _ (a b c m : ℕ) (small : c < m) (one : a * b % m ≡ 1) where
  -- the increment taken off again leaves the product
  off : (n : ℕ) → ((a * n + c) % m + m - c) % m ≡ a * n % m
  off n = sym (add-mul-mod_self_right ((a * n + c) % m + m - c) ((a * n + c) / m) m) ∙ ap (λ (x : ℕ). x % m) whole ∙ add-mod_right (a * n) m
    where
      whole : (a * n + c) % m + m - c + (a * n + c) / m * m ≡ a * n + m
      whole = omega (arith, div-add-mod' (a * n + c) m)

  -- back after there
  pub affine_returns : (n : ℕ) → n < m → b * ((a * n + c) % m + m - c) % m ≡ n
  affine_returns n h =
      sym (mul_mod_factor b ((a * n + c) % m + m - c) m) ∙ ap (λ (x : ℕ). b * x % m) (off n) ∙ mul_mod_factor b (a * n) m
      ∙ mul_undo b a n m (ap (λ (x : ℕ). x % m) (mul_comm b a) ∙ one) ∙ mod-eq_of_lt h

  -- there after back
  pub affine_arrives : (y : ℕ) → y < m → (a * (b * (y + m - c) % m) + c) % m ≡ y
  affine_arrives y h =
      sym (mod-add-mod (a * (b * (y + m - c) % m)) m c)
      ∙ ap (λ (x : ℕ). (x + c) % m) (mul_mod_factor a (b * (y + m - c)) m ∙ mul_undo a b (y + m - c) m one)
      ∙ mod-add-mod (y + m - c) m c ∙ ap (λ (x : ℕ). x % m) whole ∙ add-mod_right y m ∙ mod-eq_of_lt h
    where
      whole : y + m - c + c ≡ y + m
      whole = omega arith

-- the way back, with the sum reduced before it is multiplied
pub affine_back_is : (k b c y m : ℕ) → m ≡ 2 ^ k → y < m → b * ((y + m - c) % m) % m ≡ affine_back k b c y
affine_back_is k b c y m e h =
    mul_mod_factor b (y + m - c) m ∙ ap (λ (x : ℕ). b * (y + x - c) % x) e ∙ sym (below_in k (λ z. b * (z + 2 ^ k - c) % 2 ^ k) y (omega arith))
