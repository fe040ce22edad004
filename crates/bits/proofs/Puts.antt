-- Bits of an area, changed in its words.
use Rattle.std.proofs.Common.{◌≡◌, ℕ, zero, suc, ◌+◌, ◌-◌, ◌*◌, ◌/◌, ◌%◌, ◌^◌, ◌<◌, ◌≤◌, ◌≢◌, List, [], ◌∷◌, ◌++◌, length, get_or, take, set, replicate, sym, refl, ap, ◌∙◌, subst, ap₂, lt_of_lt_of_le, le_of_suc-le-suc, not-suc-le-zero, lt_of_le_of_lt, add-zero, mod-lt, mod-eq_of_lt, add-mul, mul-one, arith, length-append, length-set, get_or-set_other, pow_pos, pow_mono, shl_exact, shr_lt}
use lib.ListN.{length-replicate}
use lib.Bits.{bit_and, bit_or, and_mask, and_block, or_block, or_shifted, and_zero_r, or_zero_r, or_lt, and_le_l}
use lib.Pow.{shr_le, mod-pow-add, split, high, low, ones_split, ones_lt}
use Rattle.std.proofs.lemmas.List.{take_at}
use Rattle.bits.specs.Area.{number, words_of, bits, splice}
use Rattle.bits.specs.Words.{merge}
use Rattle.bits.proofs.Numbers.{number_lt, number_words_fit, number_take, number_zeros, getD_zeros, words_number, words_mod, take_set_any, set_fits}
use Rattle.bits.proofs.Splices.{pow_parts, mul_pow, bits_add, splice_lt, splice_sum, splice_of}
use Rattle.bits.proofs.Gets.{bits_word, shl_mod}

-- all bits but k from b up
pub but_mask : (b k m : ℕ) → (2 ^ (m + (k + b)) - 1) - (2 ^ k - 1) * 2 ^ b ≡ ((2 ^ m - 1) * 2 ^ k + 0) * 2 ^ b + (2 ^ b - 1)
but_mask b k m =
    let e : (2 ^ m - 1) * 2 ^ (k + b) ≡ ((2 ^ m - 1) * 2 ^ k + 0) * 2 ^ b =
    pow_parts (2 ^ m - 1) k b ∙ ap (λ (u : ℕ). u * 2 ^ b) (sym (add-zero ((2 ^ m - 1) * 2 ^ k))) in
    omega (arith, ones_split m (k + b), ones_split k b, e)

-- a word whose k bits from b up are cleared, and then set to v
pub word_put : (x b k m v : ℕ) → x < 2 ^ (m + (k + b)) → v < 2 ^ k
    → bit_or (bit_and x ((2 ^ (m + (k + b)) - 1) - (2 ^ k - 1) * 2 ^ b)) (v * 2 ^ b) ≡ splice x b k v
unfolding splice
word_put x b k m v f g =
    let h = x / 2 ^ (k + b) in
    let d = x / 2 ^ b % 2 ^ k in
    let l = x % 2 ^ b in
    let d< : d < 2 ^ k = mod-lt (x / 2 ^ b) (pow_pos k) in
    let l< : l < 2 ^ b = mod-lt x (pow_pos b) in
    let h< : h < 2 ^ m = shr_lt m (k + b) f in
    let up : h * 2 ^ (k + b) ≡ h * 2 ^ k * 2 ^ b = pow_parts h k b in
    let x_is : x ≡ (h * 2 ^ k + d) * 2 ^ b + l = omega (arith, split x (k + b), mod-pow-add x k b, up, add-mul (h * 2 ^ k) d (2 ^ b)) in
    let inner : bit_and (h * 2 ^ k + d) ((2 ^ m - 1) * 2 ^ k + 0) ≡ h * 2 ^ k =
    and_block k h (2 ^ m - 1) d 0 d< (pow_pos k)
    ∙ ap₂ (λ (u w : ℕ). u * 2 ^ k + w) (and_mask h m ∙ mod-eq_of_lt h<) (and_zero_r d) ∙ add-zero (h * 2 ^ k) in
    let cleared : bit_and ((h * 2 ^ k + d) * 2 ^ b + l) (((2 ^ m - 1) * 2 ^ k + 0) * 2 ^ b + (2 ^ b - 1)) ≡ h * 2 ^ k * 2 ^ b + l =
    and_block b (h * 2 ^ k + d) ((2 ^ m - 1) * 2 ^ k + 0) l (2 ^ b - 1) l< (ones_lt b)
    ∙ ap₂ (λ (u w : ℕ). u * 2 ^ b + w) inner (and_mask l b ∙ mod-eq_of_lt l<) in
    let merged : bit_or (h * 2 ^ k * 2 ^ b + l) (v * 2 ^ b + 0) ≡ (h * 2 ^ k + v) * 2 ^ b + l =
    or_block b (h * 2 ^ k) v l 0 l< (pow_pos b) ∙ ap₂ (λ (u w : ℕ). u * 2 ^ b + w) (or_shifted h k v g) (or_zero_r l) in
    ap₂ (λ (u w : ℕ). bit_or (bit_and u w) (v * 2 ^ b)) x_is (but_mask b k m)
    ∙ ap₂ bit_or cleared (sym (add-zero (v * 2 ^ b)))
    ∙ merged
    ∙ omega (arith, up, add-mul (h * 2 ^ k) v (2 ^ b))

-- one word of an area replaced
pub number_set : (ws : List ℕ) (q y : ℕ) → q < length ws
    → number (set ws q y) + (get_or ws q 0 % 2 ^ 64) * 2 ^ (64 * q) ≡ number ws + (y % 2 ^ 64) * 2 ^ (64 * q)
number_set [] q y h = absurd (not-suc-le-zero h)
number_set (x ∷ xs) zero y h = omega arith
number_set (x ∷ xs) (suc q) y h =
    let w = get_or xs q 0 % 2 ^ 64 in
    let e : 64 * suc q ≡ 64 * q + 64 = omega arith in
    let m : (z : ℕ) → z * 2 ^ (64 * suc q) ≡ z * 2 ^ (64 * q) * 2 ^ 64 =
    λ z. ap (λ (u : ℕ). z * 2 ^ u) e ∙ pow_parts z (64 * q) 64 in
    omega (arith, m w, m (y % 2 ^ 64), number_set xs q y (le_of_suc-le-suc h))

-- bits in one word of an area replaced
pub number_put : (ws : List ℕ) (q b k v y : ℕ) → q < length ws → get_or ws q 0 < 2 ^ 64 → y < 2 ^ 64 → b + k ≤ 64 → y ≡ splice (get_or ws q 0) b k v
    → number (set ws q y) + bits (number ws) (64 * q + b) k * 2 ^ (64 * q + b) ≡ number ws + v * 2 ^ (64 * q + b)
number_put ws q b k v y l f g h e =
    let x = get_or ws q 0 in
    let t = 2 ^ (64 * q) in
    let m : (z : ℕ) → z * 2 ^ (64 * q + b) ≡ z * 2 ^ b * t = λ z. mul_pow z (64 * q) b in
    let s : (y + bits x b k * 2 ^ b) * t ≡ (x + v * 2 ^ b) * t = ap (λ (u : ℕ). u * t) (ap (λ (u : ℕ). u + bits x b k * 2 ^ b) e ∙ splice_sum x b k v) in
    let n = number_set ws q y l in
    let n' : number (set ws q y) + x * t ≡ number ws + y * t =
    ap (λ (u : ℕ). number (set ws q y) + u * t) (sym (mod-eq_of_lt f)) ∙ n ∙ ap (λ (u : ℕ). number ws + u * t) (mod-eq_of_lt g) in
    ap (λ (u : ℕ). number (set ws q y) + u * 2 ^ (64 * q + b)) (bits_word ws q b k h f)
    ∙ omega (arith, n', s, m (bits x b k), m v, add-mul y (bits x b k * 2 ^ b) t, add-mul x (v * 2 ^ b) t)

-- with the mask and the value in their places
pub merge_is : (x b k v t u : ℕ) → x < 2 ^ 64 → b + k ≤ 64 → v < 2 ^ k → t ≡ (2 ^ k - 1) * 2 ^ b → u ≡ v * 2 ^ b → merge x t u ≡ splice x b k v
merge_is x b k v t u f h g et eu =
    let e : (64 - (k + b)) + (k + b) ≡ 64 = omega arith in
    let f' : x < 2 ^ ((64 - (k + b)) + (k + b)) = subst (λ (n : ℕ). x < 2 ^ n) (sym e) f in
    ap₂ (λ (i j : ℕ). bit_or (bit_and x ((2 ^ 64 - 1) - i)) j) et eu
    ∙ ap (λ (n : ℕ). bit_or (bit_and x ((2 ^ n - 1) - (2 ^ k - 1) * 2 ^ b)) (v * 2 ^ b)) (sym e)
    ∙ word_put x b k (64 - (k + b)) v f' g

-- a word again
pub merge_fits : (x t u : ℕ) → x < 2 ^ 64 → u < 2 ^ 64 → merge x t u < 2 ^ 64
merge_fits x t u f g = or_lt 64 (bit_and x ((2 ^ 64 - 1) - t)) u (lt_of_le_of_lt (and_le_l x ((2 ^ 64 - 1) - t)) f) g

-- in one word of an area
pub merge_at : (ws : List ℕ) (q b k v t u : ℕ) → q < length ws → get_or ws q 0 < 2 ^ 64 → b + k ≤ 64 → v < 2 ^ k → u < 2 ^ 64
    → t ≡ (2 ^ k - 1) * 2 ^ b → u ≡ v * 2 ^ b
    → number (set ws q (merge (get_or ws q 0) t u)) + bits (number ws) (64 * q + b) k * 2 ^ (64 * q + b) ≡ number ws + v * 2 ^ (64 * q + b)
merge_at ws q b k v t u l f h g i et eu =
    number_put ws q b k v (merge (get_or ws q 0) t u) l f (merge_fits (get_or ws q 0) t u f i) h (merge_is (get_or ws q 0) b k v t u f h g et eu)

-- a field that lies in one word
pub write_one : (ws : List ℕ) (p k v : ℕ) → p % 64 + k ≤ 64 → p / 64 < length ws → get_or ws (p / 64) 0 < 2 ^ 64 → v < 2 ^ k
    → number (set ws (p / 64) (merge (get_or ws (p / 64) 0) (((2 ^ k - 1) * 2 ^ (p % 64)) % 2 ^ 64) ((v * 2 ^ (p % 64)) % 2 ^ 64))) ≡ splice (number ws) p k v
write_one ws p k v h l f g =
    let q = p / 64 in
    let b = p % 64 in
    let e : 64 * q + b ≡ p = omega arith in
    let h' : k + b ≤ 64 = omega arith in
    let t_is : ((2 ^ k - 1) * 2 ^ b) % 2 ^ 64 ≡ (2 ^ k - 1) * 2 ^ b = shl_exact k b 64 (ones_lt k) h' in
    let y = merge (get_or ws q 0) (((2 ^ k - 1) * 2 ^ b) % 2 ^ 64) ((v * 2 ^ b) % 2 ^ 64) in
    splice_of (number (set ws q y)) (number ws) p k v
    (subst (λ (z : ℕ). number (set ws q y) + bits (number ws) z k * 2 ^ z ≡ number ws + v * 2 ^ z) e
    (merge_at ws q b k v (((2 ^ k - 1) * 2 ^ b) % 2 ^ 64) ((v * 2 ^ b) % 2 ^ 64) l f h g (mod-lt (v * 2 ^ b) (pow_pos 64)) t_is (shl_exact k b 64 g h')))

-- a field that lies across two
pub write_two : (ws : List ℕ) (p k v : ℕ) → 64 < p % 64 + k → k ≤ 64 → p / 64 + 1 < length ws → get_or ws (p / 64) 0 < 2 ^ 64 → get_or ws (p / 64 + 1) 0 < 2 ^ 64 → v < 2 ^ k
    → let ws' = set ws (p / 64) (merge (get_or ws (p / 64) 0) (((2 ^ k - 1) * 2 ^ (p % 64)) % 2 ^ 64) ((v * 2 ^ (p % 64)) % 2 ^ 64)) in
    number (set ws' (p / 64 + 1) (merge (get_or ws' (p / 64 + 1) 0) ((2 ^ k - 1) / 2 ^ (64 - p % 64)) (v / 2 ^ (64 - p % 64)))) ≡ splice (number ws) p k v
write_two ws p k v h n l f f' g =
    let q = p / 64 in
    let b = p % 64 in
    let s = 64 - p % 64 in
    let j = k - s in
    let js : j + s ≡ k = omega arith in
    let sb : s + b ≡ 64 = omega arith in
    let e : 64 * q + b ≡ p = omega arith in
    let e' : 64 * (q + 1) + 0 ≡ p + s = omega arith in
    let m_is : (2 ^ k - 1) ≡ (2 ^ j - 1) * 2 ^ s + (2 ^ s - 1) = ap (λ (u : ℕ). 2 ^ u - 1) (sym js) ∙ ones_split j s in
    let t = ((2 ^ k - 1) * 2 ^ b) % 2 ^ 64 in
    let u = (v * 2 ^ b) % 2 ^ 64 in
    let cut : (y : ℕ) → (y * 2 ^ b) % 2 ^ 64 ≡ (y % 2 ^ s) * 2 ^ b = λ y. ap (λ (z : ℕ). (y * 2 ^ b) % 2 ^ z) (sym sb) ∙ shl_mod y s b in
    let t_is : t ≡ (2 ^ s - 1) * 2 ^ b = cut (2 ^ k - 1) ∙ ap (λ (z : ℕ). (z % 2 ^ s) * 2 ^ b) m_is ∙ ap (λ (z : ℕ). z * 2 ^ b) (low (2 ^ j - 1) s (ones_lt s)) in
    let y = merge (get_or ws q 0) t u in
    let ws' = set ws q y in
    let one = merge_at ws q b s (v % 2 ^ s) t u (omega arith) f (omega arith) (mod-lt v (pow_pos s)) (mod-lt (v * 2 ^ b) (pow_pos 64)) t_is (cut v) in
    let t' = (2 ^ k - 1) / 2 ^ s in
    let u' = v / 2 ^ s in
    let t'_is : t' ≡ (2 ^ j - 1) * 2 ^ 0 = ap (λ (z : ℕ). z / 2 ^ s) m_is ∙ high (2 ^ j - 1) s (ones_lt s) ∙ sym (mul-one (2 ^ j - 1)) in
    let same : get_or ws' (q + 1) 0 ≡ get_or ws (q + 1) 0 = get_or-set_other ws q (q + 1) y 0 (omega arith) in
    let l' : q + 1 < length ws' = subst (λ (z : ℕ). q + 1 < z) (sym (length-set ws q y)) l in
    let f'' : get_or ws' (q + 1) 0 < 2 ^ 64 = subst (λ (z : ℕ). z < 2 ^ 64) (sym same) f' in
    let v< : u' < 2 ^ j = shr_lt j s (subst (λ (z : ℕ). v < 2 ^ z) (sym js) g) in
    let j64 : j ≤ 64 = omega arith in
    let u< : u' < 2 ^ 64 = lt_of_lt_of_le v< (pow_mono j64) in
    let two = merge_at ws' (q + 1) 0 j u' t' u' l' f'' (omega arith) v< u< t'_is (sym (mul-one u')) in
    let y' = merge (get_or ws' (q + 1) 0) t' u' in
    let keep : bits (number ws') (64 * (q + 1) + 0) j ≡ bits (number ws) (64 * (q + 1) + 0) j =
    bits_word ws' (q + 1) 0 j (omega arith) f'' ∙ ap (λ (z : ℕ). bits z 0 j) same ∙ sym (bits_word ws (q + 1) 0 j (omega arith) f') in
    let one' : number ws' + bits (number ws) p s * 2 ^ p ≡ number ws + (v % 2 ^ s) * 2 ^ p =
    subst (λ (z : ℕ). number ws' + bits (number ws) z s * 2 ^ z ≡ number ws + (v % 2 ^ s) * 2 ^ z) e one in
    let two' : number (set ws' (q + 1) y') + bits (number ws) (p + s) j * 2 ^ (p + s) ≡ number ws' + u' * 2 ^ (p + s) =
    subst (λ (z : ℕ). number (set ws' (q + 1) y') + bits (number ws) z j * 2 ^ z ≡ number ws' + u' * 2 ^ z) e'
    (ap (λ (z : ℕ). number (set ws' (q + 1) y') + z * 2 ^ (64 * (q + 1) + 0)) (sym keep) ∙ two) in
    let old : bits (number ws) p k * 2 ^ p ≡ bits (number ws) (p + s) j * 2 ^ s * 2 ^ p + bits (number ws) p s * 2 ^ p =
    ap (λ (z : ℕ). z * 2 ^ p) (ap (bits (number ws) p) (sym js) ∙ bits_add (number ws) p j s)
    ∙ add-mul (bits (number ws) (p + s) j * 2 ^ s) (bits (number ws) p s) (2 ^ p) in
    let new : v * 2 ^ p ≡ u' * 2 ^ s * 2 ^ p + (v % 2 ^ s) * 2 ^ p = ap (λ (z : ℕ). z * 2 ^ p) (sym (split v s)) ∙ add-mul (u' * 2 ^ s) (v % 2 ^ s) (2 ^ p) in
    splice_of (number (set ws' (q + 1) y')) (number ws) p k v
    (omega (arith, one', two', mul_pow (bits (number ws) (p + s) j) p s, mul_pow u' p s, old, new))

-- an area is the front of itself with zeros after it: what a write leaves there, cut at the area's end, it leaves here
module _ (ws : List ℕ) (m : ℕ) where
  longer : List ℕ
  longer = ws ++ replicate m 0

  front : take (length ws) longer ≡ ws
  unfolding longer
  front = take_at ws (replicate m 0) (length ws) refl

  length_longer : length longer ≡ length ws + m
  unfolding longer
  length_longer = length-append ws (replicate m 0) ∙ ap (λ (u : ℕ). length ws + u) (length-replicate m 0)

  long : length ws ≤ length longer
  long = omega (arith, length_longer)

  cut_set : (i y : ℕ) → take (length ws) (set longer i y) ≡ set ws i y
  cut_set i y = take_set_any (length ws) longer i y long ∙ ap (λ (u : List ℕ). set u i y) front

  cut_set_set : (i y j z : ℕ) → take (length ws) (set (set longer i y) j z) ≡ set (set ws i y) j z
  cut_set_set i y j z =
      let l : length ws ≤ length (set longer i y) = omega (arith, long, length-set longer i y) in
      take_set_any (length ws) (set longer i y) j z l ∙ ap (λ (u : List ℕ). set u j z) (cut_set i y)

  far : (i : ℕ) → get_or longer i 0 ≡ get_or ws i 0
  unfolding longer
  far i = getD_zeros ws m i

  far_number : number longer ≡ number ws
  unfolding longer
  far_number = number_zeros ws m

  -- words that are such a cut
  cut_words : (vs us : List ℕ) (a : ℕ) → length vs ≡ length ws → ((i : ℕ) → get_or vs i 0 < 2 ^ 64) → take (length ws) us ≡ vs → number us ≡ a → vs ≡ words_of (length ws) a
  cut_words vs us a n f e g =
      let h : number vs ≡ a % 2 ^ (64 * length ws) = ap number (sym e) ∙ number_take (length ws) us ∙ ap (λ (u : ℕ). u % 2 ^ (64 * length ws)) g in
      sym (words_number vs f) ∙ ap₂ words_of n h ∙ words_mod (length ws) a

-- what is left where the field lies in one word
one_word : (ws vs : List ℕ) (p k v : ℕ) → p % 64 + k ≤ 64 → ((i : ℕ) → get_or ws i 0 < 2 ^ 64)
    → vs ≡ set ws (p / 64) (merge (get_or ws (p / 64) 0) (((2 ^ k - 1) * 2 ^ (p % 64)) % 2 ^ 64) ((bit_and v (2 ^ k - 1) * 2 ^ (p % 64)) % 2 ^ 64))
    → vs ≡ words_of (length ws) (splice (number ws) p k (v % 2 ^ k))
one_word ws vs p k v h f e =
    let q = p / 64 in
    let m = q + 1 in
    let us = longer ws m in
    let u = v % 2 ^ k in
    let y : ℕ → ℕ = λ x. merge x (((2 ^ k - 1) * 2 ^ (p % 64)) % 2 ^ 64) ((u * 2 ^ (p % 64)) % 2 ^ 64) in
    let x = get_or ws q 0 in
    let same : get_or us q 0 ≡ x = far ws m q in
    let l : q < length us = omega (arith, length_longer ws m) in
    let g : get_or us q 0 < 2 ^ 64 = subst (λ (z : ℕ). z < 2 ^ 64) (sym same) (f q) in
    let w : number (set us q (y x)) ≡ splice (number ws) p k u =
    ap (λ (z : ℕ). number (set us q (y z))) (sym same) ∙ write_one us p k u h l g (mod-lt v (pow_pos k)) ∙ ap (λ (z : ℕ). splice z p k u) (far_number ws m) in
    let z< : y x < 2 ^ 64 = merge_fits x (((2 ^ k - 1) * 2 ^ (p % 64)) % 2 ^ 64) ((u * 2 ^ (p % 64)) % 2 ^ 64) (f q) (mod-lt (u * 2 ^ (p % 64)) (pow_pos 64)) in
    e ∙ ap (λ (z : ℕ). set ws q (merge x (((2 ^ k - 1) * 2 ^ (p % 64)) % 2 ^ 64) ((z * 2 ^ (p % 64)) % 2 ^ 64))) (and_mask v k)
    ∙ cut_words ws m (set ws q (y x)) (set us q (y x)) (splice (number ws) p k u) (length-set ws q (y x)) (set_fits ws q (y x) f z<) (cut_set ws m q (y x)) w

-- and where it lies across two
across : (ws vs us : List ℕ) (p k v : ℕ) → 64 < p % 64 + k → k ≤ 64 → ((i : ℕ) → get_or ws i 0 < 2 ^ 64)
    → vs ≡ set ws (p / 64) (merge (get_or ws (p / 64) 0) (((2 ^ k - 1) * 2 ^ (p % 64)) % 2 ^ 64) ((bit_and v (2 ^ k - 1) * 2 ^ (p % 64)) % 2 ^ 64))
    → us ≡ set vs (p / 64 + 1) (merge (get_or vs (p / 64 + 1) 0) ((2 ^ k - 1) / 2 ^ (64 - p % 64)) (bit_and v (2 ^ k - 1) / 2 ^ (64 - p % 64)))
    → us ≡ words_of (length ws) (splice (number ws) p k (v % 2 ^ k))
across ws vs us p k v h n f e g =
    let q = p / 64 in
    let r = p / 64 + 1 in
    let m = q + 2 in
    let xs = longer ws m in
    let u = v % 2 ^ k in
    let y : ℕ → ℕ = λ x. merge x (((2 ^ k - 1) * 2 ^ (p % 64)) % 2 ^ 64) ((u * 2 ^ (p % 64)) % 2 ^ 64) in
    let z : ℕ → ℕ = λ x. merge x ((2 ^ k - 1) / 2 ^ (64 - p % 64)) (u / 2 ^ (64 - p % 64)) in
    let a = get_or ws q 0 in
    let b = get_or ws r 0 in
    let u-is = and_mask v k in
    let vs_is : vs ≡ set ws q (y a) = e ∙ ap (λ (t : ℕ). set ws q (merge a (((2 ^ k - 1) * 2 ^ (p % 64)) % 2 ^ 64) ((t * 2 ^ (p % 64)) % 2 ^ 64))) u-is in
    let ne : r ≢ q = λ i. omega arith in
    let b_is : get_or vs r 0 ≡ b = ap (λ (t : List ℕ). get_or t r 0) vs_is ∙ get_or-set_other ws q r (y a) 0 ne in
    let us_is : us ≡ set (set ws q (y a)) r (z b) =
    g ∙ ap₂ (λ (t : List ℕ) (c : ℕ). set t r (merge c ((2 ^ k - 1) / 2 ^ (64 - p % 64)) (bit_and v (2 ^ k - 1) / 2 ^ (64 - p % 64)))) vs_is b_is
    ∙ ap (λ (t : ℕ). set (set ws q (y a)) r (merge b ((2 ^ k - 1) / 2 ^ (64 - p % 64)) (t / 2 ^ (64 - p % 64)))) u-is in
    let fx : (i : ℕ) → get_or xs i 0 < 2 ^ 64 = λ i. subst (λ (t : ℕ). t < 2 ^ 64) (sym (far ws m i)) (f i) in
    let l : q + 1 < length xs = omega (arith, length_longer ws m) in
    let b_far : get_or (set xs q (y a)) r 0 ≡ b = get_or-set_other xs q r (y a) 0 ne ∙ far ws m r in
    let w : number (set (set xs q (y a)) r (z b)) ≡ splice (number ws) p k u =
    ap₂ (λ (s t : ℕ). number (set (set xs q (y s)) r (z t))) (sym (far ws m q)) (sym b_far ∙ ap (λ (t : ℕ). get_or (set xs q (y t)) r 0) (sym (far ws m q)))
    ∙ write_two xs p k u h n l (fx q) (fx r) (mod-lt v (pow_pos k)) ∙ ap (λ (t : ℕ). splice t p k u) (far_number ws m) in
    let y< : y a < 2 ^ 64 = merge_fits a (((2 ^ k - 1) * 2 ^ (p % 64)) % 2 ^ 64) ((u * 2 ^ (p % 64)) % 2 ^ 64) (f q) (mod-lt (u * 2 ^ (p % 64)) (pow_pos 64)) in
    let u< : u < 2 ^ 64 = lt_of_lt_of_le (mod-lt v (pow_pos k)) (pow_mono n) in
    let z< : z b < 2 ^ 64 = merge_fits b ((2 ^ k - 1) / 2 ^ (64 - p % 64)) (u / 2 ^ (64 - p % 64)) (f r) (lt_of_le_of_lt (shr_le u (64 - p % 64)) u<) in
    let long : length (set (set ws q (y a)) r (z b)) ≡ length ws = length-set (set ws q (y a)) r (z b) ∙ length-set ws q (y a) in
    us_is ∙ cut_words ws m (set (set ws q (y a)) r (z b)) (set (set xs q (y a)) r (z b)) (splice (number ws) p k u) long
    (set_fits (set ws q (y a)) r (z b) (set_fits ws q (y a) f y<) z<) (cut_set_set ws m q (y a) r (z b)) w

-- the same, as the code has the mask m
module _ (ws vs : List ℕ) (p k v m : ℕ) (fits : (i : ℕ) → get_or ws i 0 < 2 ^ 64) (mask : m ≡ 2 ^ k - 1)
    (first : vs ≡ set ws (p / 64) (merge (get_or ws (p / 64) 0) ((m * 2 ^ (p % 64)) % 2 ^ 64) ((bit_and v m * 2 ^ (p % 64)) % 2 ^ 64))) where
  first_is : vs ≡ set ws (p / 64) (merge (get_or ws (p / 64) 0) (((2 ^ k - 1) * 2 ^ (p % 64)) % 2 ^ 64) ((bit_and v (2 ^ k - 1) * 2 ^ (p % 64)) % 2 ^ 64))
  first_is = first ∙ ap (λ (n : ℕ). set ws (p / 64) (merge (get_or ws (p / 64) 0) ((n * 2 ^ (p % 64)) % 2 ^ 64) ((bit_and v n * 2 ^ (p % 64)) % 2 ^ 64))) mask

  pub put_one : p % 64 + k ≤ 64 → vs ≡ words_of (length ws) (splice (number ws) p k (v % 2 ^ k))
  put_one h = one_word ws vs p k v h fits first_is

  pub put_two : (us : List ℕ) → 64 < p % 64 + k → k ≤ 64
      → us ≡ set vs (p / 64 + 1) (merge (get_or vs (p / 64 + 1) 0) (m / 2 ^ (64 - p % 64)) (bit_and v m / 2 ^ (64 - p % 64)))
      → us ≡ words_of (length ws) (splice (number ws) p k (v % 2 ^ k))
  put_two us h n e =
      across ws vs us p k v h n fits first_is
      (e ∙ ap (λ (n : ℕ). set vs (p / 64 + 1) (merge (get_or vs (p / 64 + 1) 0) (n / 2 ^ (64 - p % 64)) (bit_and v n / 2 ^ (64 - p % 64)))) mask)

-- where the bits lie inside the area, its number is changed and nothing is dropped
pub put_inside : (ws vs : List ℕ) (p k v : ℕ) → p + k ≤ 64 * length ws → v < 2 ^ k → vs ≡ words_of (length ws) (splice (number ws) p k (v % 2 ^ k)) → number vs ≡ splice (number ws) p k v
put_inside ws vs p k v h g e =
    ap number (e ∙ ap (λ (u : ℕ). words_of (length ws) (splice (number ws) p k u)) (mod-eq_of_lt g))
    ∙ number_words_fit (length ws) (splice (number ws) p k v) (splice_lt (number ws) p k v (64 * length ws) (number_lt ws) h g)
