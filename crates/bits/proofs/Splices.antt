-- The laws of `bits` and `splice`. None speaks of words.
use Rattle.std.proofs.Common.{◌≡◌, ℕ, ◌+◌, ◌-◌, ◌*◌, ◌/◌, ◌%◌, ◌^◌, ◌<◌, ◌≤◌, sym, refl, ap, ◌∙◌, subst, ap₂, ⊎_elim, le_refl, mul-le-mul_right, mod-lt, mul_assoc, add_comm, add-mul, arith, pow_pos, pow-add, shr-shr, shr_lt}
use native.Mathlib.Nat.{add_right_cancel, mod-one}
use lib.Arith.{digits_lt}
use lib.Pow.{split, high, low, field, mod-pow-add, mod-mod-pow}
use Rattle.std.proofs.lemmas.Bool.{cases_lt}
use Rattle.std.proofs.lemmas.Grind.{common_steps}
use Rattle.bits.specs.Area.{bits, splice}

-- k bits from p are the same in n and in n's lowest m + (k + p) bits
pub bits_mod : (n p k m : ℕ) → bits (n % 2 ^ (m + (k + p))) p k ≡ bits n p k
unfolding bits
bits_mod n p k m =
    sym (field (n % 2 ^ (m + (k + p))) k p) ∙ ap (λ (x : ℕ). x / 2 ^ p) (mod-mod-pow n m (k + p)) ∙ field n k p

-- j + k bits from p are k bits from p and j bits above them
pub bits_add : (n p j k : ℕ) → bits n p (j + k) ≡ bits n (p + k) j * 2 ^ k + bits n p k
unfolding bits
bits_add n p j k =
    mod-pow-add (n / 2 ^ p) j k
    ∙ ap (λ (x : ℕ). (x % 2 ^ j) * 2 ^ k + n / 2 ^ p % 2 ^ k) (shr-shr n p k)

-- no bits
pub bits_none : (n p k : ℕ) → k ≡ 0 → 0 ≡ bits n p k
unfolding bits
bits_none n p k h = sym (ap (λ (u : ℕ). n / 2 ^ p % 2 ^ u) h ∙ mod-one (n / 2 ^ p))

-- a change as an equation: the old bits taken away, the new ones added
pub splice_sum : (a p k v : ℕ) → splice a p k v + bits a p k * 2 ^ p ≡ a + v * 2 ^ p
unfolding splice bits
splice_sum a p k v = omega (arith, split a (k + p), mod-pow-add a k p)

-- and such an equation says which number it is
pub splice_of : (n a p k v : ℕ) → n + bits a p k * 2 ^ p ≡ a + v * 2 ^ p → n ≡ splice a p k v
splice_of n a p k v e = add_right_cancel (bits a p k * 2 ^ p) (e ∙ sym (splice_sum a p k v))

-- no bits
pub splice_none : (n p k v : ℕ) → k ≡ 0 → v < 2 ^ k → n ≡ splice n p k v
splice_none n p k v e g =
    let v0 : v ≡ 0 = omega (arith, subst (λ (z : ℕ). v < 2 ^ z) e g) in
    splice_of n n p k v (ap (λ (x : ℕ). n + x * 2 ^ p) (sym (bits_none n p k e)) ∙ ap (λ (x : ℕ). n + x * 2 ^ p) (sym v0))

-- a number moved up twice
pub pow_parts : (z j k : ℕ) → z * 2 ^ (j + k) ≡ z * 2 ^ j * 2 ^ k
pow_parts z j k = ap (λ (w : ℕ). z * w) (pow-add 2 j k) ∙ sym (mul_assoc z (2 ^ j) (2 ^ k))

-- in the other order
pub mul_pow : (z p s : ℕ) → z * 2 ^ (p + s) ≡ z * 2 ^ s * 2 ^ p
mul_pow z p s = ap (λ (w : ℕ). z * 2 ^ w) (add_comm p s) ∙ pow_parts z s p

-- what is changed, as three parts
pub splice_form : (a p k v : ℕ) → splice a p k v ≡ (a / 2 ^ (k + p) * 2 ^ k + v) * 2 ^ p + a % 2 ^ p
unfolding splice
splice_form a p k v = grind (arith, common_steps, mul_pow)

-- k bits are below 2^k
pub bits_lt : (a p k : ℕ) → bits a p k < 2 ^ k
unfolding bits
bits_lt a p k = mod-lt (a / 2 ^ p) (pow_pos k)

-- the bits below are as before
pub splice_mod : (a p k v : ℕ) → splice a p k v % 2 ^ p ≡ a % 2 ^ p
splice_mod a p k v = ap (λ (u : ℕ). u % 2 ^ p) (splice_form a p k v) ∙ low (a / 2 ^ (k + p) * 2 ^ k + v) p (mod-lt a (pow_pos p))

-- so bits that lie below are
pub bits_splice_below : (a p k v m c : ℕ) → m + c ≤ p → bits (splice a p k v) m c ≡ bits a m c
bits_splice_below a p k v m c h =
    let e : (p - (c + m)) + (c + m) ≡ p = omega arith in
    let cut : (n : ℕ) → bits (n % 2 ^ p) m c ≡ bits n m c = λ n. subst (λ (u : ℕ). bits (n % 2 ^ u) m c ≡ bits n m c) e (bits_mod n m c (p - (c + m))) in
    sym (cut (splice a p k v)) ∙ ap (λ (u : ℕ). bits u m c) (splice_mod a p k v) ∙ cut a

-- the bits above are as before
pub splice_div : (a p k v : ℕ) → v < 2 ^ k → splice a p k v / 2 ^ (p + k) ≡ a / 2 ^ (p + k)
unfolding splice
splice_div a p k v h =
    let under : v * 2 ^ p + a % 2 ^ p < 2 ^ (k + p) = subst (λ (u : ℕ). v * 2 ^ p + a % 2 ^ p < u) (sym (pow-add 2 k p)) (digits_lt h (mod-lt a (pow_pos p))) in
    let e : p + k ≡ k + p = omega arith in
    subst (λ (u : ℕ). splice a p k v / 2 ^ u ≡ a / 2 ^ u) (sym e) (high (a / 2 ^ (k + p)) (k + p) under)

-- so bits that lie above are
pub bits_splice_above : (a p k v m c : ℕ) → v < 2 ^ k → p + k ≤ m → bits (splice a p k v) m c ≡ bits a m c
unfolding bits
bits_splice_above a p k v m c h l =
    let e : (p + k) + (m - (p + k)) ≡ m = omega arith in
    let far : (n : ℕ) → n / 2 ^ m ≡ n / 2 ^ (p + k) / 2 ^ (m - (p + k)) = λ n. ap (λ (u : ℕ). n / 2 ^ u) (sym e) ∙ sym (shr-shr n (p + k) (m - (p + k))) in
    ap (λ (u : ℕ). u % 2 ^ c) (far (splice a p k v) ∙ ap (λ (u : ℕ). u / 2 ^ (m - (p + k))) (splice_div a p k v h) ∙ sym (far a))

-- two changes side by side are one
pub splice_join : (a p c k u v : ℕ) → splice (splice a (p + c) k v) p c u ≡ splice a p (k + c) (v * 2 ^ c + u)
splice_join a p c k u v =
    let n = splice a (p + c) k v in
    let same : bits n p c * 2 ^ p ≡ bits a p c * 2 ^ p = ap (λ (x : ℕ). x * 2 ^ p) (bits_splice_below a (p + c) k v p c (omega arith)) in
    let old : bits a p (k + c) * 2 ^ p ≡ bits a (p + c) k * 2 ^ c * 2 ^ p + bits a p c * 2 ^ p =
    ap (λ (x : ℕ). x * 2 ^ p) (bits_add a p k c) ∙ add-mul (bits a (p + c) k * 2 ^ c) (bits a p c) (2 ^ p) in
    splice_of (splice n p c u) a p (k + c) (v * 2 ^ c + u)
    (omega (arith, splice_sum a (p + c) k v, splice_sum n p c u, same, old, mul_pow (bits a (p + c) k) p c, mul_pow v p c, add-mul (v * 2 ^ c) u (2 ^ p)))

-- a change in the upper part
pub splice_up : (a p m k v : ℕ) → splice a (m + p) k v ≡ splice (a / 2 ^ m) p k v * 2 ^ m + a % 2 ^ m
unfolding bits
splice_up a p m k v =
    let d = a / 2 ^ m in
    let s = splice d p k v in
    let f : bits a (m + p) k ≡ bits d p k = ap (λ (u : ℕ). u % 2 ^ k) (sym (shr-shr a m p)) in
    let f' : bits a (m + p) k * 2 ^ (m + p) ≡ bits d p k * 2 ^ p * 2 ^ m = ap (λ (u : ℕ). u * 2 ^ (m + p)) f ∙ mul_pow (bits d p k) m p in
    let e : (s + bits d p k * 2 ^ p) * 2 ^ m ≡ (d + v * 2 ^ p) * 2 ^ m = ap (λ (u : ℕ). u * 2 ^ m) (splice_sum d p k v) in
    sym (splice_of (s * 2 ^ m + a % 2 ^ m) a (m + p) k v
    (omega (arith, f', e, mul_pow v m p, add-mul s (bits d p k * 2 ^ p) (2 ^ m), add-mul d (v * 2 ^ p) (2 ^ m), split a m)))

-- the place of a field lies in the places of n fields
pub room : (i n w : ℕ) → i < n → i * w + w ≤ n * w
room i n w h = grind (arith, common_steps, mul-le-mul_right)

-- two numbers side by side
pub cat_lt : (x v j k : ℕ) → x < 2 ^ j → v < 2 ^ k → x * 2 ^ k + v < 2 ^ (j + k)
cat_lt x v j k g h = subst (λ (u : ℕ). x * 2 ^ k + v < u) (sym (pow-add 2 j k)) (digits_lt g h)

-- two changes side by side, the lower one first
pub splice_then : (a p c k u v : ℕ) → u < 2 ^ c → splice (splice a p c u) (p + c) k v ≡ splice a p (k + c) (v * 2 ^ c + u)
splice_then a p c k u v g =
    let n = splice a p c u in
    let same : bits n (p + c) k * 2 ^ (p + c) ≡ bits a (p + c) k * 2 ^ (p + c) = ap (λ (x : ℕ). x * 2 ^ (p + c)) (bits_splice_above a p c u (p + c) k g (le_refl (p + c))) in
    let old : bits a p (k + c) * 2 ^ p ≡ bits a (p + c) k * 2 ^ c * 2 ^ p + bits a p c * 2 ^ p =
    ap (λ (x : ℕ). x * 2 ^ p) (bits_add a p k c) ∙ add-mul (bits a (p + c) k * 2 ^ c) (bits a p c) (2 ^ p) in
    splice_of (splice n (p + c) k v) a p (k + c) (v * 2 ^ c + u)
    (omega (arith, splice_sum a p c u, splice_sum n (p + c) k v, same, old, mul_pow (bits a (p + c) k) p c, mul_pow v p c, add-mul (v * 2 ^ c) u (2 ^ p)))

-- bits as they are
pub splice_self : (a p k : ℕ) → splice a p k (bits a p k) ≡ a
splice_self a p k = sym (splice_of a a p k (bits a p k) refl)

-- a change within the low bits keeps a number as short
pub splice_lt : (a p k v l : ℕ) → a < 2 ^ l → p + k ≤ l → v < 2 ^ k → splice a p k v < 2 ^ l
splice_lt a p k v l h g f =
    let n = splice a p k v in
    let j = l - (p + k) in
    let e : j + (p + k) ≡ l = omega arith in
    let h' : a < 2 ^ (j + (p + k)) = subst (λ (u : ℕ). a < 2 ^ u) (sym e) h in
    let d : n / 2 ^ (p + k) < 2 ^ j = subst (λ (u : ℕ). u < 2 ^ j) (sym (splice_div a p k v f)) (shr_lt j (p + k) h') in
    let c : n / 2 ^ (p + k) * 2 ^ (p + k) + n % 2 ^ (p + k) < 2 ^ (j + (p + k)) = cat_lt (n / 2 ^ (p + k)) (n % 2 ^ (p + k)) j (p + k) d (mod-lt n (pow_pos (p + k))) in
    subst (λ (u : ℕ). n < 2 ^ u) e (subst (λ (u : ℕ). u < 2 ^ (j + (p + k))) (split n (p + k)) c)

-- what stands at bit k or above does not touch the low j bits
pub mod_over : (z y j k : ℕ) → j ≤ k → (z * 2 ^ k + y) % 2 ^ j ≡ y % 2 ^ j
mod_over z y j k h =
    let e : (k - j) + j ≡ k = omega arith in
    let m : z * 2 ^ k ≡ z * 2 ^ (k - j) * 2 ^ j = ap (λ (u : ℕ). z * 2 ^ u) (sym e) ∙ pow_parts z (k - j) j in
    let s : z * 2 ^ k + y ≡ (z * 2 ^ (k - j) + y / 2 ^ j) * 2 ^ j + y % 2 ^ j = omega (arith, m, split y j, add-mul (z * 2 ^ (k - j)) (y / 2 ^ j) (2 ^ j)) in
    ap (λ (u : ℕ). u % 2 ^ j) s ∙ low (z * 2 ^ (k - j) + y / 2 ^ j) j (mod-lt y (pow_pos j))

-- a change cut off above its first j bits
pub splice_cut : (a p j k v : ℕ) → j ≤ k → splice a p k v % 2 ^ (j + p) ≡ (v % 2 ^ j) * 2 ^ p + a % 2 ^ p
splice_cut a p j k v h =
    let x = a / 2 ^ (k + p) * 2 ^ k + v in
    let l = mod-lt a (pow_pos p) in
    ap (λ (u : ℕ). u % 2 ^ (j + p)) (splice_form a p k v)
    ∙ mod-pow-add (x * 2 ^ p + a % 2 ^ p) j p
    ∙ ap₂ (λ (u w : ℕ). (u % 2 ^ j) * 2 ^ p + w) (high x p l) (low x p l)
    ∙ ap (λ (u : ℕ). u * 2 ^ p + a % 2 ^ p) (mod_over (a / 2 ^ (k + p)) v j k h)

-- two changes from the same bit on that agree below bit l
pub splice_agree : (a p k m v w l : ℕ) → l - p ≤ k → l - p ≤ m → v % 2 ^ (l - p) ≡ w % 2 ^ (l - p) → splice a p k v % 2 ^ l ≡ splice a p m w % 2 ^ l
splice_agree a p k m v w l g h e = ⊎_elim below within (cases_lt l p)
  where
    below : l < p → splice a p k v % 2 ^ l ≡ splice a p m w % 2 ^ l
    below i =
        let q : (p - l) + l ≡ p = omega arith in
        let c : (n : ℕ) → n % 2 ^ l ≡ n % 2 ^ p % 2 ^ l = λ n. sym (subst (λ (u : ℕ). n % 2 ^ u % 2 ^ l ≡ n % 2 ^ l) q (mod-mod-pow n (p - l) l)) in
        c (splice a p k v) ∙ ap (λ (u : ℕ). u % 2 ^ l) (splice_mod a p k v ∙ sym (splice_mod a p m w)) ∙ sym (c (splice a p m w))

    within : p ≤ l → splice a p k v % 2 ^ l ≡ splice a p m w % 2 ^ l
    within i =
        let q : (l - p) + p ≡ l = omega arith in
        subst (λ (u : ℕ). splice a p k v % 2 ^ u ≡ splice a p m w % 2 ^ u) q
        (splice_cut a p (l - p) k v g ∙ ap (λ (u : ℕ). u * 2 ^ p + a % 2 ^ p) e ∙ sym (splice_cut a p (l - p) m w h))
