-- Numbers and the lists of their fields.
use Rattle.std.proofs.Common.{◌≡◌, ℕ, zero, suc, ◌+◌, ◌-◌, ◌*◌, ◌/◌, ◌%◌, ◌^◌, ◌<◌, ◌≤◌, List, [], ◌∷◌, ◌++◌, length, get_or, take, drop, sym, refl, ap, ◌∙◌, subst, ap₂, le_of_suc-le-suc, not-suc-le-zero, mul-le-mul_right, mod-lt, mod-eq_of_lt, zero-lt-suc, suc-mul, add-mul, zero-mul, div-one, arith, pow_pos, pow-add, shr-shr}
use native.Mathlib.Nat.{mod-one}
use lib.Arith.{digits_lt}
use lib.Pow.{mod-pow-add, high, low}
use Rattle.std.proofs.lemmas.List.{take_all, drop_all, append-nil}
use Rattle.bits.specs.Area.{bits, splice, field, fields, packed, field_inserted, field_removed}
use Rattle.bits.proofs.Splices.{pow_parts, room, splice_self, splice_then, bits_lt}
use Rattle.bits.proofs.Moves.{bits_inserted, bits_removed}

-- as many fields as are asked for
pub length_fields : (n w a : ℕ) → length (fields n w a) ≡ n
unfolding fields
length_fields zero w a = refl
length_fields (suc n) w a = ap suc (length_fields n w (a / 2 ^ w))

-- the list has field t at place t
pub getD_fields : (n w a t : ℕ) → t < n → get_or (fields n w a) t 0 ≡ field w a t
unfolding fields bits
getD_fields zero w a t h = absurd (not-suc-le-zero h)
getD_fields (suc n) w a zero h = ap (λ (u : ℕ). u % 2 ^ w) (sym (div-one a)) ∙ ap (λ (u : ℕ). a / 2 ^ u % 2 ^ w) (sym (zero-mul w))
getD_fields (suc n) w a (suc t) h =
    let e : w + t * w ≡ suc t * w = omega (arith, suc-mul t w) in
    getD_fields n w (a / 2 ^ w) t (le_of_suc-le-suc h)
    ∙ ap (λ (u : ℕ). u % 2 ^ w) (shr-shr a w (t * w) ∙ ap (λ (u : ℕ). a / 2 ^ u) e)

-- the first fields of a list of them, and the others
pub take_fields : (t n w a : ℕ) → t ≤ n → take t (fields n w a) ≡ fields t w a
unfolding fields
take_fields zero n w a h = refl
take_fields (suc t) zero w a h = absurd (not-suc-le-zero h)
take_fields (suc t) (suc n) w a h = ap (λ (u : List ℕ). a % 2 ^ w ∷ u) (take_fields t n w (a / 2 ^ w) (le_of_suc-le-suc h))

-- those from place t on
pub drop_fields : (t n w a : ℕ) → t ≤ n → drop t (fields n w a) ≡ fields (n - t) w (a / 2 ^ (t * w))
unfolding fields
drop_fields zero n w a h =
    let e : n - 0 ≡ n = omega arith in
    sym (ap₂ (λ (u v : ℕ). fields u w v) e (ap (λ (u : ℕ). a / 2 ^ u) (zero-mul w) ∙ div-one a))
drop_fields (suc t) zero w a h = absurd (not-suc-le-zero h)
drop_fields (suc t) (suc n) w a h =
    let e : w + t * w ≡ suc t * w = omega (arith, suc-mul t w) in
    let s : n - t ≡ suc n - suc t = omega arith in
    drop_fields t n w (a / 2 ^ w) (le_of_suc-le-suc h)
    ∙ ap₂ (λ (u v : ℕ). fields u w v) s (shr-shr a w (t * w) ∙ ap (λ (u : ℕ). a / 2 ^ u) e)

-- the fields packed again are the number's low bits
pub packed_fields : (n w a : ℕ) → packed w (fields n w a) ≡ a % 2 ^ (n * w)
unfolding fields packed
packed_fields zero w a = sym (ap (λ (u : ℕ). a % 2 ^ u) (zero-mul w) ∙ mod-one a)
packed_fields (suc n) w a =
    let e : n * w + w ≡ suc n * w = omega (arith, suc-mul n w) in
    ap₂ (λ (u v : ℕ). u * 2 ^ w + v) (packed_fields n w (a / 2 ^ w)) (mod-eq_of_lt (mod-lt a (pow_pos w)))
    ∙ sym (mod-pow-add a (n * w) w)
    ∙ ap (λ (u : ℕ). a % 2 ^ u) e

-- a list packed is as long as its fields
pub packed_lt : (w : ℕ) (xs : List ℕ) → packed w xs < 2 ^ (length xs * w)
unfolding packed
packed_lt w [] = subst (λ (u : ℕ). 0 < 2 ^ u) (sym (zero-mul w)) (zero-lt-suc 0)
packed_lt w (x ∷ xs) =
    let e : length xs * w + w ≡ suc (length xs) * w = omega (arith, suc-mul (length xs) w) in
    subst (λ (u : ℕ). packed w (x ∷ xs) < u) (sym (pow-add 2 (length xs * w) w) ∙ ap (λ (u : ℕ). 2 ^ u) e)
    (digits_lt (packed_lt w xs) (mod-lt x (pow_pos w)))

-- and has them as its fields, whatever stands above
pub fields_packed_over : (w : ℕ) (xs : List ℕ) (z : ℕ) → ((i : ℕ) → get_or xs i 0 < 2 ^ w) → fields (length xs) w (z * 2 ^ (length xs * w) + packed w xs) ≡ xs
unfolding fields packed
fields_packed_over w [] z f = refl
fields_packed_over w (x ∷ xs) z f =
    let n = length xs in
    let e : suc n * w ≡ n * w + w = omega (arith, suc-mul n w) in
    let m : z * 2 ^ (suc n * w) ≡ z * 2 ^ (n * w) * 2 ^ w = ap (λ (u : ℕ). z * 2 ^ u) e ∙ pow_parts z (n * w) w in
    let y = z * 2 ^ (n * w) + packed w xs in
    let s : z * 2 ^ (suc n * w) + (packed w xs * 2 ^ w + x % 2 ^ w) ≡ y * 2 ^ w + x % 2 ^ w = omega (arith, m, add-mul (z * 2 ^ (n * w)) (packed w xs) (2 ^ w)) in
    let l = mod-lt x (pow_pos w) in
    ap₂ (λ (u : ℕ) (v : List ℕ). u ∷ v) (ap (λ (u : ℕ). u % 2 ^ w) s ∙ low y w l ∙ mod-eq_of_lt (f 0))
    (ap (λ (u : ℕ). fields n w (u / 2 ^ w)) s ∙ ap (fields n w) (high y w l) ∙ fields_packed_over w xs z (λ i. f (suc i)))

-- or with nothing above
pub fields_packed : (w : ℕ) (xs : List ℕ) → ((i : ℕ) → get_or xs i 0 < 2 ^ w) → fields (length xs) w (packed w xs) ≡ xs
fields_packed w xs f =
    let z : 0 * 2 ^ (length xs * w) + packed w xs ≡ packed w xs = omega (arith, zero-mul (2 ^ (length xs * w))) in
    ap (fields (length xs) w) (sym z) ∙ fields_packed_over w xs 0 f

-- lists packed one after the other
pub packed_append : (w : ℕ) (xs ys : List ℕ) → packed w (xs ++ ys) ≡ packed w ys * 2 ^ (length xs * w) + packed w xs
unfolding packed
packed_append w [] ys = let e : packed w ys ≡ packed w ys * 1 + 0 = omega arith in e ∙ ap (λ (u : ℕ). packed w ys * 2 ^ u + 0) (sym (zero-mul w))
packed_append w (x ∷ xs) ys =
    let n = length xs in
    let a = packed w ys in
    let e : suc n * w ≡ n * w + w = omega (arith, suc-mul n w) in
    let m : a * 2 ^ (suc n * w) ≡ a * 2 ^ (n * w) * 2 ^ w = ap (λ (u : ℕ). a * 2 ^ u) e ∙ pow_parts a (n * w) w in
    ap (λ (u : ℕ). u * 2 ^ w + x % 2 ^ w) (packed_append w xs ys) ∙ omega (arith, m, add-mul (a * 2 ^ (n * w)) (packed w xs) (2 ^ w))

-- the fields from place t on, packed, and a front below them
packed_past : (t n w a : ℕ) → t ≤ n → packed w (drop t (fields n w a)) ≡ bits a (t * w) (n * w - t * w)
unfolding bits
packed_past t n w a h =
    let e : (n - t) * w ≡ n * w - t * w = omega (arith, sym (add-mul (n - t) t w) ∙ ap (λ (u : ℕ). u * w) (back t n h)) in
    ap (packed w) (drop_fields t n w a h) ∙ packed_fields (n - t) w (a / 2 ^ (t * w)) ∙ ap (λ (u : ℕ). a / 2 ^ (t * w) % 2 ^ u) e
  where
    back : (t n : ℕ) → t ≤ n → n - t + t ≡ n
    back t n h = omega arith

-- a list on top of the first t fields
packed_onto : (t n w a : ℕ) (ys : List ℕ) → t ≤ n → packed w (take t (fields n w a) ++ ys) ≡ packed w ys * 2 ^ (t * w) + a % 2 ^ (t * w)
packed_onto t n w a ys h =
    let fs = take t (fields n w a) in
    let e : fs ≡ fields t w a = take_fields t n w a h in
    let l : length fs ≡ t = ap length e ∙ length_fields t w a in
    packed_append w fs ys ∙ ap₂ (λ (u v : ℕ). packed w ys * 2 ^ (u * w) + v) l (ap (packed w) e ∙ packed_fields t w a)

-- the fields below bit p as they are, and x above them
splice_onto : (a p k x : ℕ) → splice a 0 (k + p) (x * 2 ^ p + a % 2 ^ p) ≡ splice a p k x
unfolding bits
splice_onto a p k x =
    let low_is : bits a 0 p ≡ a % 2 ^ p = ap (λ (u : ℕ). u % 2 ^ p) (div-one a) in
    ap (λ (u : ℕ). splice a 0 (k + p) (x * 2 ^ p + u)) (sym low_is)
    ∙ sym (splice_then a 0 p k (bits a 0 p) x (bits_lt a 0 p))
    ∙ ap₂ (λ (u v : ℕ). splice u v k x) (splice_self a 0 p) (omega arith)

-- a field put in among the first n is bits put in
pub inserted_form : (w n a t v : ℕ) → t ≤ n → field_inserted w n a t v ≡ bits_inserted a (t * w) (n * w - t * w) w (v % 2 ^ w)
unfolding field_inserted packed
inserted_form w n a t v h =
    let k = n * w - t * w in
    let le : t * w ≤ n * w = mul-le-mul_right w h in
    let e : (n + 1) * w ≡ (k + w) + t * w = omega (arith, add-mul n 1 w) in
    let x : packed w (v ∷ drop t (fields n w a)) ≡ bits a (t * w) k * 2 ^ w + v % 2 ^ w = ap (λ (u : ℕ). u * 2 ^ w + v % 2 ^ w) (packed_past t n w a h) in
    ap₂ (splice a 0) e (packed_onto t n w a (v ∷ drop t (fields n w a)) h ∙ ap (λ (u : ℕ). u * 2 ^ (t * w) + a % 2 ^ (t * w)) x)
    ∙ splice_onto a (t * w) (k + w) (bits a (t * w) k * 2 ^ w + v % 2 ^ w)

-- a place above n counts as n
pub inserted_past : (w n a t v : ℕ) → n ≤ t → field_inserted w n a t v ≡ field_inserted w n a n v
unfolding field_inserted
inserted_past w n a t v h =
    let fs = fields n w a in
    let l : length fs ≤ t = omega (arith, length_fields n w a) in
    let l' : length fs ≤ n = omega (arith, length_fields n w a) in
    ap₂ (λ (u r : List ℕ). splice a 0 ((n + 1) * w) (packed w (u ++ v ∷ r))) (take_all t fs l ∙ sym (take_all n fs l')) (drop_all t fs l ∙ sym (drop_all n fs l'))

-- a field taken out of the first n is bits taken out
pub removed_form : (w n a t : ℕ) → t < n → field_removed w n a t ≡ bits_removed a (t * w) (n * w - t * w - w) w
unfolding field_removed
removed_form w n a t h =
    let k = n * w - t * w - w in
    let le : t * w + w ≤ n * w = room t n w h in
    let s : suc t * w ≡ t * w + w = suc-mul t w in
    let e : n * w ≡ (w + k) + t * w = omega arith in
    let k_is : n * w - suc t * w ≡ k = omega arith in
    let t≤ : t ≤ n = omega arith in
    let x : packed w (drop (suc t) (fields n w a)) ≡ bits a (t * w + w) k = packed_past (suc t) n w a h ∙ ap₂ (bits a) s k_is in
    ap₂ (splice a 0) e (packed_onto t n w a (drop (suc t) (fields n w a)) t≤ ∙ ap (λ (u : ℕ). u * 2 ^ (t * w) + a % 2 ^ (t * w)) x)
    ∙ splice_onto a (t * w) (w + k) (bits a (t * w + w) k)

-- at a place of n or more there is nothing to take out
pub removed_past : (w n a t : ℕ) → n ≤ t → field_removed w n a t ≡ a
unfolding field_removed bits
removed_past w n a t h =
    let fs = fields n w a in
    let l : length fs ≤ t = omega (arith, length_fields n w a) in
    let l' : length fs ≤ suc t = omega arith in
    ap₂ (λ (u r : List ℕ). splice a 0 (n * w) (packed w (u ++ r))) (take_all t fs l) (drop_all (suc t) fs l')
    ∙ ap (λ (u : List ℕ). splice a 0 (n * w) (packed w u)) (append-nil fs)
    ∙ ap (splice a 0 (n * w)) (packed_fields n w a ∙ ap (λ (u : ℕ). u % 2 ^ (n * w)) (sym (div-one a)))
    ∙ splice_self a 0 (n * w)
