-- The laws of fields as lists.
use Rattle.std.proofs.Common.{◌≡◌, ℕ, zero, suc, ◌+◌, ◌*◌, ◌/◌, ◌%◌, ◌^◌, ◌<◌, ◌≤◌, List, [], ◌∷◌, ◌++◌, length, get_or, take, drop, set, sym, ap, ◌∙◌, subst, ap₂, lt_of_lt_of_le, le_of_suc-le-suc, not-suc-le-zero, add-zero, mul-le-mul_right, mod-lt, mod-eq_of_lt, suc-mul, zero-mul, arith, pow_pos, pow_mono}
use native.Mathlib.Nat.{div-eq_of_lt, zero-mod}
use lib.Pow.{split, high, low}
use Rattle.std.specs.List.{insert, remove}
use Rattle.std.proofs.lemmas.List.Edits.{length-remove}
use Rattle.std.proofs.lemmas.List.{length-append, take-append-drop, length-drop, get_or-drop, length_push}
use Rattle.std.proofs.lemmas.Bool.{cond-true, le-leb}
use Rattle.bits.specs.Area.{splice, wide, field, fields, packed, field_written, field_inserted, field_removed}
use Rattle.bits.specs.Laws.{Below}
use Rattle.bits.proofs.Splices.{splice_up, splice_form, splice_div}
use Rattle.bits.proofs.Packs.{length_fields, getD_fields, packed_fields, packed_lt, packed_append, fields_packed, fields_packed_over}

-- a width up to 64 counts as it is
pub wide_is : (w : ℕ) → w ≤ 64 → wide w ≡ w
unfolding wide
wide_is w h = cond-true _ w 0 (le-leb w 64 h)

-- each of a list that is made of others
pub below_append : (b : ℕ) (xs ys : List ℕ) → Below b xs → Below b ys → Below b (xs ++ ys)
below_append b [] ys f g i = g i
below_append b (x ∷ xs) ys f g zero = f 0
below_append b (x ∷ xs) ys f g (suc i) = below_append b xs ys (λ j. f (suc j)) g i

-- one more in front
pub below_cons : (b x : ℕ) (xs : List ℕ) → x < b → Below b xs → Below b (x ∷ xs)
below_cons b x xs h f zero = h
below_cons b x xs h f (suc i) = f i

-- a front
pub below_take : (b n : ℕ) (xs : List ℕ) → 0 < b → Below b xs → Below b (take n xs)
below_take b zero xs p f i = p
below_take b (suc n) [] p f i = p
below_take b (suc n) (x ∷ xs) p f zero = f 0
below_take b (suc n) (x ∷ xs) p f (suc i) = below_take b n xs p (λ j. f (suc j)) i

-- what is left of a list
pub below_drop : (b n : ℕ) (xs : List ℕ) → Below b xs → Below b (drop n xs)
below_drop b n xs f i = subst (λ (u : ℕ). u < b) (sym (get_or-drop n xs i 0)) (f (n + i))

-- a list with one put in
pub below_inserted : (b : ℕ) (xs : List ℕ) (t v : ℕ) → 0 < b → v < b → Below b xs → Below b (insert xs t v)
below_inserted b xs t v p h f = below_append b (take t xs) (v ∷ drop t xs) (below_take b t xs p f) (below_cons b v (drop t xs) h (below_drop b t xs f))

-- a list with one taken out
pub below_removed : (b : ℕ) (xs : List ℕ) (t : ℕ) → 0 < b → Below b xs → Below b (remove xs t)
below_removed b xs t p f = below_append b (take t xs) (drop (suc t) xs) (below_take b t xs p f) (below_drop b (suc t) xs f)

-- fields are below 2^w
pub fields_below : (n w a : ℕ) → Below (2 ^ w) (fields n w a)
unfolding fields
fields_below zero w a i = pow_pos w
fields_below (suc n) w a zero = mod-lt a (pow_pos w)
fields_below (suc n) w a (suc i) = fields_below n w (a / 2 ^ w) i

-- a number is determined by its first n fields and by the bits past them
pub determined : (n w a b : ℕ) → fields n w a ≡ fields n w b → a / 2 ^ (n * w) ≡ b / 2 ^ (n * w) → a ≡ b
determined n w a b e g =
    let l : a % 2 ^ (n * w) ≡ b % 2 ^ (n * w) = sym (packed_fields n w a) ∙ ap (packed w) e ∙ packed_fields n w b in
    sym (split a (n * w)) ∙ ap₂ (λ (u v : ℕ). u * 2 ^ (n * w) + v) g l ∙ split b (n * w)

-- a field replaced is that place of the list set
pub fields_splice : (n w a t v : ℕ) → t < n → v < 2 ^ w → fields n w (splice a (t * w) w v) ≡ set (fields n w a) t v
unfolding fields
fields_splice zero w a t v h g = absurd (not-suc-le-zero h)
fields_splice (suc n) w a zero v h g =
    let z : (a / 2 ^ (w + 0) * 2 ^ w + v) * 1 + a % 1 ≡ a / 2 ^ (w + 0) * 2 ^ w + v = omega arith in
    let e : splice a (zero * w) w v ≡ a / 2 ^ w * 2 ^ w + v =
    ap (λ (u : ℕ). splice a u w v) (zero-mul w) ∙ splice_form a 0 w v ∙ z ∙ ap (λ (u : ℕ). a / 2 ^ u * 2 ^ w + v) (add-zero w) in
    ap₂ (λ (x y : ℕ). x ∷ fields n w y)
    (ap (λ (u : ℕ). u % 2 ^ w) e ∙ low (a / 2 ^ w) w g)
    (ap (λ (u : ℕ). u / 2 ^ w) e ∙ high (a / 2 ^ w) w g)
fields_splice (suc n) w a (suc t) v h g =
    let d = a / 2 ^ w in
    let s = splice d (t * w) w v in
    let l = mod-lt a (pow_pos w) in
    let i : suc t * w ≡ w + t * w = omega (arith, suc-mul t w) in
    let e : splice a (suc t * w) w v ≡ s * 2 ^ w + a % 2 ^ w = ap (λ (u : ℕ). splice a u w v) i ∙ splice_up a (t * w) w w v in
    ap₂ (λ (x : ℕ) (xs : List ℕ). x ∷ xs)
    (ap (λ (u : ℕ). u % 2 ^ w) e ∙ low s w l)
    (ap (λ (u : ℕ). fields n w (u / 2 ^ w)) e ∙ ap (fields n w) (high s w l) ∙ fields_splice n w d t v (le_of_suc-le-suc h) g)

-- the bits past a field that is written stay
pub written_past : (w a t v : ℕ) → field_written w a t v / 2 ^ (t * w + w) ≡ a / 2 ^ (t * w + w)
written_past w a t v = splice_div a (t * w) w (v % 2 ^ w) (mod-lt v (pow_pos w))

-- the first bits replaced by a list
splice_front : (a k v : ℕ) → splice a 0 k v ≡ a / 2 ^ k * 2 ^ k + v
splice_front a k v =
    let e : a / 2 ^ (k + 0) * 2 ^ k ≡ a / 2 ^ k * 2 ^ k = ap (λ (u : ℕ). a / 2 ^ u * 2 ^ k) (add-zero k) in
    splice_form a 0 k v ∙ omega (arith, e)

-- the list is then what the fields are
fields_front : (w a n : ℕ) (ys : List ℕ) → length ys ≡ n → Below (2 ^ w) ys → fields n w (splice a 0 (n * w) (packed w ys)) ≡ ys
fields_front w a n ys l f =
    ap (fields n w) (splice_front a (n * w) (packed w ys))
    ∙ ap (λ (u : ℕ). fields u w (a / 2 ^ (n * w) * 2 ^ (u * w) + packed w ys)) (sym l) ∙ fields_packed_over w ys (a / 2 ^ (n * w)) f

-- a list of at most n packed has no bits past n fields
pub packed_within : (w n : ℕ) (ys : List ℕ) → length ys ≤ n → packed w ys < 2 ^ (n * w)
packed_within w n ys l = lt_of_lt_of_le (packed_lt w ys) (pow_mono (mul-le-mul_right w l))

-- and the bits past them are as before
past_front : (w a n : ℕ) (ys : List ℕ) → length ys ≤ n → splice a 0 (n * w) (packed w ys) / 2 ^ (n * w) ≡ a / 2 ^ (n * w)
past_front w a n ys l = ap (λ (u : ℕ). u / 2 ^ (n * w)) (splice_front a (n * w) (packed w ys)) ∙ high (a / 2 ^ (n * w)) (n * w) (packed_within w n ys l)

-- where the number has none either, it is replaced whole
only_front : (w a n : ℕ) (ys : List ℕ) → a < 2 ^ (n * w) → splice a 0 (n * w) (packed w ys) ≡ packed w ys
only_front w a n ys h =
    splice_front a (n * w) (packed w ys) ∙ ap (λ (u : ℕ). u * 2 ^ (n * w) + packed w ys) (div-eq_of_lt h) ∙ omega (arith, zero-mul (2 ^ (n * w)))

-- the length of a list with one put in, at any place, and with one taken out
long_inserted : (xs : List ℕ) (t v : ℕ) → length (insert xs t v) ≡ length xs + 1
long_inserted xs t v = omega (arith, length-append (take t xs) (v ∷ drop t xs), length-append (take t xs) (drop t xs), ap length (take-append-drop t xs))

-- and with one taken out at most as long
long_removed : (xs : List ℕ) (t : ℕ) → length (remove xs t) ≤ length xs
long_removed xs t = omega (arith, length-append (take t xs) (drop (suc t) xs), length-append (take t xs) (drop t xs), ap length (take-append-drop t xs), length-drop (suc t) xs, length-drop t xs)

-- a value counts by its low bits
packed_low : (w : ℕ) (xs : List ℕ) (t v : ℕ) → packed w (insert xs t v) ≡ packed w (insert xs t (v % 2 ^ w))
unfolding packed
packed_low w xs t v =
    packed_append w (take t xs) (v ∷ drop t xs)
    ∙ ap (λ (u : ℕ). (packed w (drop t xs) * 2 ^ w + u) * 2 ^ (length (take t xs) * w) + packed w (take t xs)) (sym (mod-eq_of_lt (mod-lt v (pow_pos w))))
    ∙ sym (packed_append w (take t xs) ((v % 2 ^ w) ∷ drop t xs))

-- a field inserted is put into the list, and every bit past stays
pub fields_inserted : (n w a t v : ℕ) → fields (n + 1) w (field_inserted w n a t v) ≡ insert (fields n w a) t (v % 2 ^ w)
unfolding field_inserted
fields_inserted n w a t v =
    let fs = fields n w a in
    let ys = insert fs t (v % 2 ^ w) in
    let l : length ys ≡ n + 1 = omega (arith, long_inserted fs t (v % 2 ^ w), length_fields n w a) in
    ap (λ (u : ℕ). fields (n + 1) w (splice a 0 ((n + 1) * w) u)) (packed_low w fs t v)
    ∙ fields_front w a (n + 1) ys l (below_inserted (2 ^ w) fs t (v % 2 ^ w) (pow_pos w) (mod-lt v (pow_pos w)) (fields_below n w a))

-- the bits past field n
pub inserted_past : (n w a t v : ℕ) → field_inserted w n a t v / 2 ^ ((n + 1) * w) ≡ a / 2 ^ ((n + 1) * w)
unfolding field_inserted
inserted_past n w a t v = past_front w a (n + 1) (insert (fields n w a) t v) (omega (arith, long_inserted (fields n w a) t v, length_fields n w a))

-- a field removed is taken out of the list, with a zero after the others, and every bit past stays
pub fields_removed : (n w a t : ℕ) → t < n → fields n w (field_removed w n a t) ≡ remove (fields n w a) t ++ 0 ∷ []
unfolding field_removed packed
fields_removed n w a t h =
    let fs = fields n w a in
    let ys = remove fs t ++ 0 ∷ [] in
    let z : packed w (0 ∷ []) ≡ 0 = omega (arith, zero-mul (2 ^ w), zero-mod (2 ^ w)) in
    let e : packed w (remove fs t) ≡ packed w ys =
    sym (packed_append w (remove fs t) (0 ∷ []) ∙ ap (λ (u : ℕ). u * 2 ^ (length (remove fs t) * w) + packed w (remove fs t)) z ∙ omega (arith, zero-mul (2 ^ (length (remove fs t) * w)))) in
    let n_is = length_fields n w a in
    let t< : t < length fs = omega (arith, n_is) in
    let l : length ys ≡ n = omega (arith, length-remove fs t t<, length_push (remove fs t) 0, n_is) in
    ap (λ (u : ℕ). fields n w (splice a 0 (n * w) u)) e
    ∙ fields_front w a n ys l (below_append (2 ^ w) (remove fs t) (0 ∷ []) (below_removed (2 ^ w) fs t (pow_pos w) (fields_below n w a)) (below_cons (2 ^ w) 0 [] (pow_pos w) (λ i. pow_pos w)))

-- the bits past the first n fields
pub removed_past : (n w a t : ℕ) → field_removed w n a t / 2 ^ (n * w) ≡ a / 2 ^ (n * w)
unfolding field_removed
removed_past n w a t = past_front w a n (remove (fields n w a) t) (omega (arith, long_removed (fields n w a) t, length_fields n w a))

-- the same where the number is a list packed
module _ (w : ℕ) (xs : List ℕ) (fits : Below (2 ^ w) xs) where
  pub read_packed : (t : ℕ) → t < length xs → field w (packed w xs) t ≡ get_or xs t 0
  read_packed t h = sym (getD_fields (length xs) w (packed w xs) t h) ∙ ap (λ (u : List ℕ). get_or u t 0) (fields_packed w xs fits)

  pub insert_packed : (t v : ℕ) → field_inserted w (length xs) (packed w xs) t v ≡ packed w (insert xs t v)
  unfolding field_inserted
  insert_packed t v =
      let n = length xs in
      let l : n ≤ n + 1 = omega arith in
      only_front w (packed w xs) (n + 1) (insert (fields n w (packed w xs)) t v) (packed_within w (n + 1) xs l)
      ∙ ap (λ (u : List ℕ). packed w (insert u t v)) (fields_packed w xs fits)

  pub remove_packed : (t : ℕ) → field_removed w (length xs) (packed w xs) t ≡ packed w (remove xs t)
  unfolding field_removed
  remove_packed t =
      only_front w (packed w xs) (length xs) (remove (fields (length xs) w (packed w xs)) t) (packed_lt w xs)
      ∙ ap (λ (u : List ℕ). packed w (remove u t)) (fields_packed w xs fits)
