-- Bits of an area, found in its words.
use Rattle.std.proofs.Common.{◌≡◌, ℕ, ◌+◌, ◌-◌, ◌*◌, ◌/◌, ◌%◌, ◌^◌, ◌<◌, ◌≤◌, List, get_or, drop, sym, ap, ◌∙◌, subst, ap₂, add-zero, mod-eq_of_lt, div-one, arith, shr-shr, shr_lt}
use native.Mathlib.Nat.{mul-mod_left}
use lib.Bits.{bit_and, bit_or, and_mask, or_shifted_r}
use lib.Pow.{shl-shr, mod-pow-add, mod-mod-pow, shr_mod, high, low, ones_split, ones_lt}
use Rattle.bits.specs.Area.{number, bits}
use Rattle.bits.proofs.Numbers.{number_drop, number_word}
use Rattle.bits.proofs.Splices.{bits_mod, bits_add}

-- bits that lie in one word
pub bits_word : (ws : List ℕ) (q b k : ℕ) → b + k ≤ 64 → get_or ws q 0 < 2 ^ 64 → bits (number ws) (64 * q + b) k ≡ bits (get_or ws q 0) b k
unfolding bits
bits_word ws q b k h f =
    let e : (64 - (k + b)) + (k + b) ≡ 64 = omega arith in
    let n = number (drop q ws) in
    let s : n % 2 ^ ((64 - (k + b)) + (k + b)) ≡ get_or ws q 0 =
    ap (λ (x : ℕ). n % 2 ^ x) e ∙ number_word q ws ∙ mod-eq_of_lt f in
    ap (λ (x : ℕ). x % 2 ^ k) (sym (shr-shr (number ws) (64 * q) b))
    ∙ ap (λ (x : ℕ). x / 2 ^ b % 2 ^ k) (number_drop q ws)
    ∙ sym (bits_mod n b k (64 - (k + b)))
    ∙ ap (λ (x : ℕ). x / 2 ^ b % 2 ^ k) s

-- the bits that a shift to the left keeps
pub shl_mod : (y b s : ℕ) → (y * 2 ^ s) % 2 ^ (b + s) ≡ (y % 2 ^ b) * 2 ^ s
shl_mod y b s =
    mod-pow-add (y * 2 ^ s) b s
    ∙ ap₂ (λ (u v : ℕ). (u % 2 ^ b) * 2 ^ s + v) (shl-shr y s) (mul-mod_left y (2 ^ s))
    ∙ add-zero ((y % 2 ^ b) * 2 ^ s)

-- the two words of a field, put together
pub two_words : (x y b s j : ℕ) → x < 2 ^ (s + b) → j ≤ b
    → bit_and (bit_or (x / 2 ^ b) ((y * 2 ^ s) % 2 ^ (b + s))) (2 ^ (j + s) - 1) ≡ bits y 0 j * 2 ^ s + bits x b s
unfolding bits
two_words x y b s j f h =
    let under : x / 2 ^ b < 2 ^ s = shr_lt s b f in
    let n = (y % 2 ^ b) * 2 ^ s + x / 2 ^ b in
    let e : (b - j) + j ≡ b = omega arith in
    let cut : y % 2 ^ b % 2 ^ j ≡ y % 2 ^ j = subst (λ (u : ℕ). y % 2 ^ u % 2 ^ j ≡ y % 2 ^ j) e (mod-mod-pow y (b - j) j) in
    ap (λ (u : ℕ). bit_and (bit_or (x / 2 ^ b) u) (2 ^ (j + s) - 1)) (shl_mod y b s)
    ∙ ap (λ (u : ℕ). bit_and u (2 ^ (j + s) - 1)) (or_shifted_r (y % 2 ^ b) s (x / 2 ^ b) under)
    ∙ and_mask n (j + s)
    ∙ mod-pow-add n j s
    ∙ ap₂ (λ (u v : ℕ). (u % 2 ^ j) * 2 ^ s + v) (high (y % 2 ^ b) s under) (low (y % 2 ^ b) s under)
    ∙ ap₂ (λ (u v : ℕ). u * 2 ^ s + v) (cut ∙ ap (λ (u : ℕ). u % 2 ^ j) (sym (div-one y))) (sym (shr_mod s b f))

-- all ones but the highest
pub ones_shr : (k : ℕ) → k ≤ 64 → (2 ^ 64 - 1) / 2 ^ (64 - k) ≡ 2 ^ k - 1
ones_shr k h =
    let e : k + (64 - k) ≡ 64 = omega arith in
    ap (λ (u : ℕ). (2 ^ u - 1) / 2 ^ (64 - k)) (sym e)
    ∙ ap (λ (u : ℕ). u / 2 ^ (64 - k)) (ones_split k (64 - k))
    ∙ high (2 ^ k - 1) (64 - k) (ones_lt (64 - k))

-- what the code reads where the field lies in one word
pub read_one : (ws : List ℕ) (p k : ℕ) → p % 64 + k ≤ 64 → get_or ws (p / 64) 0 < 2 ^ 64
    → bit_and (get_or ws (p / 64) 0 / 2 ^ (p % 64)) (2 ^ k - 1) ≡ bits (number ws) p k
unfolding bits
read_one ws p k h f =
    let e : 64 * (p / 64) + p % 64 ≡ p = omega arith in
    and_mask (get_or ws (p / 64) 0 / 2 ^ (p % 64)) k
    ∙ sym (bits_word ws (p / 64) (p % 64) k h f)
    ∙ ap (λ (u : ℕ). bits (number ws) u k) e

-- what it reads where the field lies across two
pub read_two : (ws : List ℕ) (p k : ℕ) → 64 < p % 64 + k → k ≤ 64 → ((i : ℕ) → get_or ws i 0 < 2 ^ 64)
    → bit_and (bit_or (get_or ws (p / 64) 0 / 2 ^ (p % 64)) ((get_or ws (p / 64 + 1) 0 * 2 ^ (64 - p % 64)) % 2 ^ 64)) (2 ^ k - 1)
    ≡ bits (number ws) p k
read_two ws p k h n f =
    let b = p % 64 in
    let s = 64 - p % 64 in
    let j = k - s in
    let x = get_or ws (p / 64) 0 in
    let y = get_or ws (p / 64 + 1) 0 in
    let js : j + s ≡ k = omega arith in
    let bs : b + s ≡ 64 = omega arith in
    let sb : 64 ≡ s + b = omega arith in
    let here : 64 * (p / 64) + b ≡ p = omega arith in
    let next : 64 * (p / 64 + 1) + 0 ≡ p + s = omega arith in
    let j≤b : j ≤ b = omega arith in
    let x_fits : x < 2 ^ (s + b) = subst (λ (u : ℕ). x < 2 ^ u) sb (f (p / 64)) in
    let lo : bits (number ws) p s ≡ bits x b s = ap (λ (u : ℕ). bits (number ws) u s) (sym here) ∙ bits_word ws (p / 64) b s (omega arith) (f (p / 64)) in
    let hi : bits (number ws) (p + s) j ≡ bits y 0 j =
    ap (λ (u : ℕ). bits (number ws) u j) (sym next) ∙ bits_word ws (p / 64 + 1) 0 j (omega arith) (f (p / 64 + 1)) in
    ap (λ (u : ℕ). bit_and (bit_or (x / 2 ^ b) ((y * 2 ^ s) % 2 ^ 64)) u) (ap (λ (u : ℕ). 2 ^ u - 1) (sym js))
    ∙ ap (λ (u : ℕ). bit_and (bit_or (x / 2 ^ b) ((y * 2 ^ s) % 2 ^ u)) (2 ^ (j + s) - 1)) (sym bs)
    ∙ two_words x y b s j x_fits j≤b
    ∙ ap₂ (λ (u v : ℕ). u * 2 ^ s + v) (sym hi) (sym lo)
    ∙ sym (bits_add (number ws) p j s)
    ∙ ap (λ (u : ℕ). bits (number ws) p u) js

-- one bit of an area
pub bit_word : (ws : List ℕ) (u : ℕ) → ((i : ℕ) → get_or ws i 0 < 2 ^ 64) → bits (number ws) u 1 ≡ bits (get_or ws (u / 64) 0) (u % 64) 1
bit_word ws u f =
    let e : u ≡ 64 * (u / 64) + u % 64 = omega arith in
    ap (λ (p : ℕ). bits (number ws) p 1) e ∙ bits_word ws (u / 64) (u % 64) 1 (omega arith) (f (u / 64))
