-- The ones that a number ends in.
use Rattle.std.proofs.Common.{◌≡◌, ℕ, zero, suc, ◌+◌, ◌-◌, ◌*◌, ◌/◌, ◌%◌, ◌^◌, ◌<◌, ◌≤◌, sym, refl, ap, ◌∙◌, subst, ap₂, ⊎_elim, le_refl, lt_of_lt_of_le, le_of_suc-le-suc, not-suc-le-zero, add-mul, pow-suc, arith, lit<, pow_pos, pow_mono, pow-add, shr_lt}
use lib.Arith.{half_le}
use lib.Bits.{block_half, block_odd}
use lib.Count.{count_trailing_zeros, under, trailing_of_zero}
use lib.Pow.{pow-lt, high, ones_split, ones_lt}
use Rattle.std.proofs.lemmas.Bool.{cases_lt, cases_eq}
use Rattle.bits.specs.Marks.{run}
use Rattle.bits.proofs.Splices.{pow_parts}

-- ones with a zero above them
pub ones_under : (s : ℕ) → 2 ^ s - 1 < 2 ^ (s + 1)
ones_under s = let h : s ≤ s + 1 = omega arith in lt_of_lt_of_le (ones_lt s) (pow_mono h)

-- a run of zeros at a number's end
trailing_at : (k s x : ℕ) → s ≤ k → count_trailing_zeros k (x * 2 ^ (s + 1) + 2 ^ s) ≡ s
unfolding count_trailing_zeros
trailing_at zero zero x h = refl
trailing_at zero (suc s) x h = absurd (not-suc-le-zero h)
trailing_at (suc k) zero x h =
    let e : (x * 2 + 1) % 2 ≡ 1 = omega arith in
    ap (λ (u : ℕ). under u (count_trailing_zeros k ((x * 2 + 1) / 2))) e
trailing_at (suc k) (suc s) x h =
    let t = 2 ^ suc s in
    let t_is : t ≡ 2 ^ s * 2 = pow-suc 2 s in
    let p_is : x * 2 ^ (suc s + 1) ≡ x * 2 ^ suc (s + 1) = ap (λ (u : ℕ). x * 2 ^ u) (omega arith) in
    let half : (x * 2 ^ (suc s + 1) + t) / 2 ≡ x * 2 ^ (s + 1) + 2 ^ s =
    ap (λ (u : ℕ). (u + t) / 2) p_is ∙ block_half x (s + 1) t ∙ ap (λ (u : ℕ). x * 2 ^ (s + 1) + u) (omega (arith, t_is)) in
    let even : (x * 2 ^ (suc s + 1) + t) % 2 ≡ 0 = ap (λ (u : ℕ). (u + t) % 2) p_is ∙ block_odd x (s + 1) t ∙ omega (arith, t_is) in
    ap₂ (λ (u v : ℕ). under u (count_trailing_zeros k v)) even half ∙ ap suc (trailing_at k s x (le_of_suc-le-suc h))

-- a power of two is above its exponent
below_pow : (s : ℕ) → s < 2 ^ s
below_pow zero = lit< tt
below_pow (suc s) = omega (arith, below_pow s, pow-suc 2 s)

-- a slot's size is the run of ones that its marks begin with
pub run_at : (hi s : ℕ) → run (hi * 2 ^ (s + 1) + (2 ^ s - 1)) ≡ s
unfolding run
run_at hi s =
    let m = hi * 2 ^ (s + 1) + (2 ^ s - 1) in
    let e : suc m ≡ hi * 2 ^ (s + 1) + 2 ^ s = omega (arith, pow_pos s) in
    ap (count_trailing_zeros m) e ∙ trailing_at m s hi (omega (arith, below_pow s))

-- what stands above the zero
pub rest_at : (hi s : ℕ) → (hi * 2 ^ (s + 1) + (2 ^ s - 1)) / 2 ^ (s + 1) ≡ hi
rest_at hi s = high hi (s + 1) (ones_under s)

-- every number ends in some ones, with a zero above them
parts : (d m : ℕ) → m ≤ d → (s : ℕ) × ((hi : ℕ) × (m ≡ hi * 2 ^ (s + 1) + (2 ^ s - 1)))
parts zero m h = (0, (0, omega arith))
parts (suc d) m h = ⊎_elim
    (λ e. (0, (m / 2, omega arith)))
    (λ e.
    let r = parts d (m / 2) (half_le h) in
    let s = r.0 in
    let hi = r.1.0 in
    let p : hi * 2 ^ (s + 1 + 1) ≡ hi * 2 ^ (s + 1) * 2 = pow_parts hi (s + 1) 1 in
    (s + 1, (hi, omega (arith, r.1.1, p, pow-add 2 s 1, pow_pos s))))
    (cases_eq (m % 2) 0)

-- these ones are its run
pub run_split : (m : ℕ) → m ≡ m / 2 ^ (run m + 1) * 2 ^ (run m + 1) + (2 ^ run m - 1)
run_split m =
    let r = parts m m (le_refl m) in
    let s = r.0 in
    let hi = r.1.0 in
    let e : m ≡ hi * 2 ^ (s + 1) + (2 ^ s - 1) = r.1.1 in
    let s_is : run m ≡ s = ap run e ∙ run_at hi s in
    let hi_is : m / 2 ^ (run m + 1) ≡ hi = ap (λ (u : ℕ). m / 2 ^ (u + 1)) s_is ∙ ap (λ (u : ℕ). u / 2 ^ (s + 1)) e ∙ rest_at hi s in
    e ∙ ap₂ (λ (u v : ℕ). u * 2 ^ (v + 1) + (2 ^ v - 1)) (sym hi_is) (sym s_is)

-- a number of b bits ends in b ones at most
pub run_le : (m b : ℕ) → m < 2 ^ b → run m ≤ b
run_le m b h = ⊎_elim
    (λ l. absurd (omega (arith, run_split m, pow-lt l, h)))
    (λ l. l)
    (cases_lt b (run m))

-- no ones
pub run_zero : run 0 ≡ 0
unfolding run count_trailing_zeros
run_zero = refl

-- as the machine counts them in a word
pub trailing_run : (x : ℕ) → x < 2 ^ 64 → count_trailing_zeros 64 (2 ^ 64 - 1 - x) ≡ run x
trailing_run x f =
    let s = run x in
    let hi = x / 2 ^ (s + 1) in
    let x_is : x ≡ hi * 2 ^ (s + 1) + (2 ^ s - 1) = run_split x in
    let s≤ : s ≤ 64 = run_le x 64 f in
    ⊎_elim
    (λ l.
    let n = 63 - s in
    let e : n + (s + 1) ≡ 64 = omega arith in
    let hi< : hi < 2 ^ n = shr_lt n (s + 1) (subst (λ (u : ℕ). x < 2 ^ u) (sym e) f) in
    let d = (2 ^ n - 1) - hi in
    let top : 2 ^ 64 - 1 ≡ (2 ^ n - 1) * 2 ^ (s + 1) + (2 ^ (s + 1) - 1) = ap (λ (u : ℕ). 2 ^ u - 1) (sym e) ∙ ones_split n (s + 1) in
    let two : 2 ^ (s + 1) ≡ 2 ^ s * 2 = pow-add 2 s 1 in
    let d_is : 2 ^ n - 1 ≡ hi + d = omega arith in
    let spread : (2 ^ n - 1) * 2 ^ (s + 1) ≡ hi * 2 ^ (s + 1) + d * 2 ^ (s + 1) = ap (λ (u : ℕ). u * 2 ^ (s + 1)) d_is ∙ add-mul hi d (2 ^ (s + 1)) in
    let flip : 2 ^ 64 - 1 - x ≡ d * 2 ^ (s + 1) + 2 ^ s = omega (arith, x_is, top, two, spread, pow_pos s) in
    ap (count_trailing_zeros 64) flip ∙ trailing_at 64 s d s≤)
    (λ l.
    let e : 64 ≡ s = omega arith in
    let full : 2 ^ 64 - 1 - x ≡ 0 = omega (arith, x_is, ap (λ (u : ℕ). 2 ^ u) e) in
    ap (count_trailing_zeros 64) full ∙ trailing_of_zero 64 ∙ e)
    (cases_lt s 64)
