-- An area and its number: each is read back from the other.
use Rattle.std.proofs.Common.{◌≡◌, ℕ, zero, suc, ◌+◌, ◌*◌, ◌/◌, ◌%◌, ◌^◌, ◌<◌, ◌≤◌, List, [], ◌∷◌, ◌++◌, length, get_or, take, drop, set, replicate, sym, refl, ap, ◌∙◌, subst, ap₂, ⊎_elim, mod-lt, mod-eq_of_lt, zero-lt-suc, div-one, arith, pow_pos, pow-add, shr-shr}
use native.Mathlib.Nat.{zero-div, mod-one, zero-mod}
use lib.Arith.{digits_lt}
use lib.Seq.{set_out, take-set-lt, take-set-le}
use lib.Pow.{mod-pow-add, mod-mod-pow, field, high, low}
use Rattle.std.proofs.lemmas.List.{length-take-le}
use Rattle.std.proofs.lemmas.Bool.{cases_lt}
use Rattle.bits.specs.Area.{number, words_of}

-- one word more
more : (q : ℕ) → 64 * suc q ≡ 64 * q + 64
more q = omega arith

-- the words from word q on
pub number_drop : (q : ℕ) (ws : List ℕ) → number ws / 2 ^ (64 * q) ≡ number (drop q ws)
number_drop zero ws = div-one (number ws)
number_drop (suc q) [] = zero-div (2 ^ (64 * suc q))
number_drop (suc q) (x ∷ xs) =
    let e : 64 * suc q ≡ 64 + 64 * q = omega arith in
    ap (λ (n : ℕ). number (x ∷ xs) / 2 ^ n) e
    ∙ sym (shr-shr (number (x ∷ xs)) 64 (64 * q))
    ∙ ap (λ (n : ℕ). n / 2 ^ (64 * q)) (high (number xs) 64 (mod-lt x (pow_pos 64)))
    ∙ number_drop q xs

-- the lowest of them is word q, 0 past the end
pub number_word : (q : ℕ) (ws : List ℕ) → number (drop q ws) % 2 ^ 64 ≡ get_or ws q 0 % 2 ^ 64
number_word zero [] = refl
number_word (suc q) [] = refl
number_word zero (x ∷ xs) = low (number xs) 64 (mod-lt x (pow_pos 64))
number_word (suc q) (x ∷ xs) = number_word q xs

-- the words before word n
pub number_take : (n : ℕ) (ws : List ℕ) → number (take n ws) ≡ number ws % 2 ^ (64 * n)
number_take zero ws = sym (mod-one (number ws))
number_take (suc n) [] = sym (zero-mod (2 ^ (64 * suc n)))
number_take (suc n) (x ∷ xs) =
    let a = number (x ∷ xs) in
    let l = mod-lt x (pow_pos 64) in
    ap (λ (u : ℕ). u * 2 ^ 64 + x % 2 ^ 64) (number_take n xs)
    ∙ ap₂ (λ (u v : ℕ). (u % 2 ^ (64 * n)) * 2 ^ 64 + v) (sym (high (number xs) 64 l)) (sym (low (number xs) 64 l))
    ∙ sym (mod-pow-add a (64 * n) 64)
    ∙ ap (λ (u : ℕ). a % 2 ^ u) (sym (more n))

-- an area has 64 bits for each word
pub number_lt : (ws : List ℕ) → number ws < 2 ^ (64 * length ws)
number_lt [] = zero-lt-suc 0
number_lt (x ∷ xs) =
    subst (λ (u : ℕ). number (x ∷ xs) < u) (sym (ap (λ (u : ℕ). 2 ^ u) (more (length xs)) ∙ pow-add 2 (64 * length xs) 64))
    (digits_lt (number_lt xs) (mod-lt x (pow_pos 64)))

-- as many words as are asked for
pub length_words : (n a : ℕ) → length (words_of n a) ≡ n
unfolding words_of
length_words zero a = refl
length_words (suc n) a = ap suc (length_words n (a / 2 ^ 64))

-- the words of a number hold its low bits
pub number_words : (n a : ℕ) → number (words_of n a) ≡ a % 2 ^ (64 * n)
unfolding words_of
number_words zero a = sym (mod-one a)
number_words (suc n) a =
    ap₂ (λ (u v : ℕ). u * 2 ^ 64 + v) (number_words n (a / 2 ^ 64)) (mod-eq_of_lt (mod-lt a (pow_pos 64)))
    ∙ sym (mod-pow-add a (64 * n) 64)
    ∙ ap (λ (u : ℕ). a % 2 ^ u) (sym (more n))

-- and all of it where it fits
pub number_words_fit : (n a : ℕ) → a < 2 ^ (64 * n) → number (words_of n a) ≡ a
number_words_fit n a h = number_words n a ∙ mod-eq_of_lt h

-- an area is the words of its number
pub words_number : (ws : List ℕ) → ((i : ℕ) → get_or ws i 0 < 2 ^ 64) → words_of (length ws) (number ws) ≡ ws
unfolding words_of
words_number [] f = refl
words_number (x ∷ xs) f =
    let l = mod-lt x (pow_pos 64) in
    ap₂ (λ (u : ℕ) (v : List ℕ). u ∷ v) (low (number xs) 64 l ∙ mod-eq_of_lt (f 0))
    (ap (words_of (length xs)) (high (number xs) 64 l) ∙ words_number xs (λ i. f (suc i)))

-- the bits past the words do not matter
pub words_mod : (n a : ℕ) → words_of n (a % 2 ^ (64 * n)) ≡ words_of n a
unfolding words_of
words_mod zero a = refl
words_mod (suc n) a =
    let e : a % 2 ^ (64 * suc n) ≡ a % 2 ^ (64 * n + 64) = ap (λ (u : ℕ). a % 2 ^ u) (more n) in
    ap₂ (λ (u : ℕ) (v : List ℕ). u ∷ v) (ap (λ (u : ℕ). u % 2 ^ 64) e ∙ mod-mod-pow a (64 * n) 64)
    (ap (λ (u : ℕ). words_of n (u / 2 ^ 64)) e ∙ ap (words_of n) (field a (64 * n) 64) ∙ words_mod n (a / 2 ^ 64))

-- so numbers that agree on these bits have the same words
pub words_same : (n a b : ℕ) → a % 2 ^ (64 * n) ≡ b % 2 ^ (64 * n) → words_of n a ≡ words_of n b
words_same n a b e = sym (words_mod n a) ∙ ap (words_of n) e ∙ words_mod n b

-- each is a word
pub words_fit : (n a i : ℕ) → get_or (words_of n a) i 0 < 2 ^ 64
unfolding words_of
words_fit zero a i = pow_pos 64
words_fit (suc n) a zero = mod-lt a (pow_pos 64)
words_fit (suc n) a (suc i) = words_fit n (a / 2 ^ 64) i

-- an area with zeros after it
pub number_zeros : (ws : List ℕ) (m : ℕ) → number (ws ++ replicate m 0) ≡ number ws
number_zeros [] zero = refl
number_zeros [] (suc m) = ap (λ (u : ℕ). u * 2 ^ 64 + 0) (number_zeros [] m)
number_zeros (x ∷ xs) m = ap (λ (u : ℕ). u * 2 ^ 64 + x % 2 ^ 64) (number_zeros xs m)

-- it has the same words
pub getD_zeros : (ws : List ℕ) (m i : ℕ) → get_or (ws ++ replicate m 0) i 0 ≡ get_or ws i 0
getD_zeros [] zero i = refl
getD_zeros [] (suc m) zero = refl
getD_zeros [] (suc m) (suc i) = getD_zeros [] m i
getD_zeros (x ∷ xs) m zero = refl
getD_zeros (x ∷ xs) m (suc i) = getD_zeros xs m i

-- a write past the end is dropped
pub take_set_any : (n : ℕ) (ws : List ℕ) (i y : ℕ) → n ≤ length ws → take n (set ws i y) ≡ set (take n ws) i y
take_set_any n ws i y h =
    ⊎_elim (λ l. take-set-lt n ws i y l)
    (λ l. let k : length (take n ws) ≤ i = omega (arith, length-take-le n ws h) in take-set-le n ws i y l ∙ sym (set_out (take n ws) i y k))
    (cases_lt i n)

-- a word replaced by a word
pub set_fits : (ws : List ℕ) (q y : ℕ) → ((i : ℕ) → get_or ws i 0 < 2 ^ 64) → y < 2 ^ 64 → (i : ℕ) → get_or (set ws q y) i 0 < 2 ^ 64
set_fits [] q y f g i = f i
set_fits (x ∷ xs) zero y f g zero = g
set_fits (x ∷ xs) zero y f g (suc i) = f (suc i)
set_fits (x ∷ xs) (suc q) y f g zero = f 0
set_fits (x ∷ xs) (suc q) y f g (suc i) = set_fits xs q y (λ j. f (suc j)) g i
