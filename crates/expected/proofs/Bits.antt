-- Numbers whose ones are those of a test, and the bits of packed blocks.
use Rattle.std.proofs.Common.{◌≡◌, ℕ, zero, suc, ◌+◌, ◌-◌, ◌*◌, ◌/◌, ◌%◌, ◌^◌, ◌<◌, ◌≤◌, ◌==◌, Bool, true, false, if◌then◌else◌, ◌||◌, List, [], ◌∷◌, ◌++◌, length, take, slice_get, refl, sym, ◌∙◌, ap, ap₂, arith, add-zero, add-one, get_or, inl, inr, bit_or}
use mir.Syntax.{w64}
use Rattle.std.proofs.Math.Bool.{or_assoc, or-false, or-true}
use Rattle.std.proofs.Math.Nat.{div-mul-le_self, div-zero, mod-zero}
use Rattle.std.proofs.lemmas.Bool.{cases_eq, eq-eqb}
use Rattle.std.proofs.lemmas.Bool.Decides.{nat_tests}
use Rattle.std.proofs.lemmas.List.{take_more, length-take-le}
use Rattle.std.proofs.lemmas.Option.{slice_get_past}
use Rattle.std.proofs.lemmas.Nat.{div-add-mod', div-mul-add, mod-mul-add, mod_below, le-div, or_lt}
use Rattle.std.specs.List.{list_any, enumerate_from}
use Rattle.std.proofs.lemmas.Nat.Bits.{bit_at_cat_low, bit_at_cat_high, bit_at_set_same, bit_at_set_other, same_from_bits_below}
use Rattle.std.specs.Int.{bit_at}
use Rattle.expected.specs.Blocks.{number, is_mark, field_bit}
use Rattle.expected.specs.declared.layout.Entry.{Entry}

pow_twice : (n : ℕ) → 2 ^ suc n ≡ 2 ^ n + 2 ^ n
pow_twice n = omega arith

at_most : (b : Bool) (m : ℕ) → (if b then m else 0) ≤ m
at_most true m = omega arith
at_most false m = omega arith

pub number-more : (b : ℕ → Bool) (n : ℕ) → number b (n + 1) ≡ number b n + (if b n then 2 ^ n else 0)
unfolding number
number-more b n = rw add-one refl

pub number-zero : (b : ℕ → Bool) → number b 0 ≡ 0
unfolding number
number-zero b = refl

-- a number of ones below place n is below 2 ^ n
pub number-below : (b : ℕ → Bool) (n : ℕ) → number b n < 2 ^ n
unfolding number
number-below b zero = omega arith
number-below b (suc n) =
    let twice : 2 ^ suc n ≡ 2 ^ n + 2 ^ n = pow_twice n in
    let more : (if b n then 2 ^ n else 0) ≤ 2 ^ n = at_most (b n) (2 ^ n) in
    omega (arith, number-below b n)

-- two tests that are alike below place n
pub number-alike : (b d : ℕ → Bool) (n : ℕ) → ((i : ℕ) → i < n → b i ≡ d i) → number b n ≡ number d n
unfolding number
number-alike b d zero h = refl
number-alike b d (suc n) h = ap₂ (λ m c. m + (if c then 2 ^ n else 0)) (number-alike b d n (λ i l. h i (omega arith))) (h n (omega arith))

-- no ones at all
pub number-none : (b : ℕ → Bool) (n : ℕ) → ((i : ℕ) → b i ≡ false) → number b n ≡ 0
unfolding number
number-none b zero h = refl
number-none b (suc n) h = ap₂ (λ m c. m + (if c then 2 ^ n else 0)) (number-none b n h) (h n)

-- no ones from place n on
pub number-stops : (b : ℕ → Bool) (n m : ℕ) → ((i : ℕ) → n ≤ i → b i ≡ false) → number b (n + m) ≡ number b n
number-stops b n zero h = rw add-zero refl
number-stops b n (suc m) h =
    let at : n + suc m ≡ n + m + 1 = omega arith in
    ap (number b) at ∙ number-more b (n + m) ∙ ap₂ (λ k c. k + (if c then 2 ^ (n + m) else 0)) (number-stops b n m h) (h (n + m) (omega arith)) ∙ add-zero (number b n)

lowest : (c : Bool) → bit_at (if c then 1 else 0) 0 ≡ (if c then 1 else 0)
lowest true = refl
lowest false = refl

scaled : (c : Bool) (m x : ℕ) → x + (if c then m else 0) ≡ (if c then 1 else 0) * m + x
scaled true m x = omega arith
scaled false m x = omega arith

-- its bits are the test's
pub bit_at-number : (b : ℕ → Bool) (n i : ℕ) → i < n → bit_at (number b n) i ≡ (if b i then 1 else 0)
unfolding number
bit_at-number b zero i l = absurd (omega arith)
bit_at-number b (suc n) i l =
    let last : i ≡ n → bit_at ((if b n then 1 else 0) * 2 ^ n + number b n) i ≡ (if b i then 1 else 0) = λ e.
    let none : n - n ≡ 0 = omega arith in
    ap (λ j. bit_at ((if b n then 1 else 0) * 2 ^ n + number b n) j) e
    ∙ bit_at_cat_high (if b n then 1 else 0) n (number b n) n (number-below b n) (omega arith)
    ∙ ap (bit_at (if b n then 1 else 0)) none
    ∙ lowest (b n)
    ∙ ap (λ j. if b j then 1 else 0) (sym e) in
    let lower : (i ≡ n → ⊥) → bit_at ((if b n then 1 else 0) * 2 ^ n + number b n) i ≡ (if b i then 1 else 0) = λ d.
    let below : i < n = omega arith in
    bit_at_cat_low (if b n then 1 else 0) n (number b n) i below ∙ bit_at-number b n i below in
    ap (λ m. bit_at m i) (scaled (b n) (2 ^ n) (number b n)) ∙ elim (cases_eq i n) [ inl e ↦ last e | inr d ↦ lower d ]

-- a test of each element with its place, of one element more
pub list_any-enumerate_push : {X : Type 0} (P : ℕ × X → Bool) (n : ℕ) (xs : List X) (x : X)
    → list_any P (enumerate_from n (xs ++ x ∷ [])) ≡ (list_any P (enumerate_from n xs) || P (n + length xs, x))
list_any-enumerate_push P n [] x = rw add-zero (or-false (P (n, x)))
list_any-enumerate_push P n (y ∷ xs) x =
    let at : n + 1 + length xs ≡ n + length (y ∷ xs) = omega arith in
    ap (λ b. P (n, y) || b) (list_any-enumerate_push P (n + 1) xs x)
    ∙ ap (λ k. P (n, y) || (list_any P (enumerate_from (n + 1) xs) || P (k, x))) at
    ∙ sym (or_assoc (P (n, y)) (list_any P (enumerate_from (n + 1) xs)) (P (n + length (y ∷ xs), x)))

-- the marks of one entry more
pub is_mark-more : (group : List Entry) (t u : ℕ) (d : Entry) → t < length group → is_mark (take (t + 1) group) u ≡ (is_mark (take t group) u || ((t + (get_or group t d).slot % 16) == u))
is_mark-more group t u d l =
    let e : take (t + 1) group ≡ take t group ++ get_or group t d ∷ [] = take_more group t d l in
    let n : length (take t group) ≡ t = length-take-le t group (omega arith) in
    ap (λ g. is_mark g u) e
    ∙ list_any-enumerate_push (λ p. (p.0 + p.1.slot % 16) == u) 0 (take t group) (get_or group t d)
    ∙ ap (λ k. is_mark (take t group) u || ((k + (get_or group t d).slot % 16) == u)) (omega arith)

apart : (a b : ℕ) → (a ≡ b → ⊥) → (a == b) ≡ false
apart a b d = grind (arith, nat_tests)

-- a number with one bit more
pub one_more : (b d : ℕ → Bool) (mark : ℕ) → mark < 64 → ((i : ℕ) → d i ≡ (b i || (mark == i))) → bit_or (number b 64) (1 * 2 ^ mark % 2 ^ 64) ≡ number d 64
one_more b d mark l h =
    let one : 1 * 2 ^ mark % 2 ^ 64 < 2 ^ 64 = mod_below (1 * 2 ^ mark) (2 ^ 64) (omega arith) in
    same_from_bits_below 64 (bit_or (number b 64) (1 * 2 ^ mark % 2 ^ 64)) (number d 64) (or_lt 64 (number b 64) (1 * 2 ^ mark % 2 ^ 64) (number-below b 64) one) (number-below d 64)
    (λ i k.
    let here : i ≡ mark → bit_at (bit_or (number b 64) (1 * 2 ^ mark % 2 ^ 64)) i ≡ (if d i then 1 else 0) = λ e.
    let set : d i ≡ true = h i ∙ ap (λ c. b i || c) (eq-eqb mark i (sym e)) ∙ or-true (b i) in
    ap (bit_at (bit_or (number b 64) (1 * 2 ^ mark % 2 ^ 64))) e ∙ bit_at_set_same w64 (number b 64) mark l ∙ ap (λ c. if c then 1 else 0) (sym set) in
    let other : (i ≡ mark → ⊥) → bit_at (bit_or (number b 64) (1 * 2 ^ mark % 2 ^ 64)) i ≡ (if d i then 1 else 0) = λ n.
    let same : d i ≡ b i = h i ∙ ap (λ c. b i || c) (apart mark i (λ e. n (sym e))) ∙ or-false (b i) in
    bit_at_set_other w64 (number b 64) mark l i n ∙ bit_at-number b 64 i k ∙ ap (λ c. if c then 1 else 0) (sym same) in
    let all : bit_at (bit_or (number b 64) (1 * 2 ^ mark % 2 ^ 64)) i ≡ (if d i then 1 else 0) = elim (cases_eq i mark) [ inl e ↦ here e | inr n ↦ other n ] in
    all ∙ sym (bit_at-number d 64 i k))

pub none_more : (b d : ℕ → Bool) (mark : ℕ) → 64 ≤ mark → ((i : ℕ) → d i ≡ (b i || (mark == i))) → number b 64 ≡ number d 64
none_more b d mark l h =
    number-alike b d 64 (λ i k.
    let not_here : mark ≡ i → ⊥ = λ e. absurd (omega arith) in
    sym (h i ∙ ap (λ c. b i || c) (apart mark i not_here) ∙ or-false (b i)))

-- the next field begins where the last bit of a field is passed
pub next_field : (x w : ℕ) → x % w + 1 ≡ w → ((x + 1) / w ≡ x / w + 1) × ((x + 1) % w ≡ 0)
next_field x w e =
    let some : 0 < w = omega arith in
    let at : x + 1 ≡ (x / w + 1) * w + 0 = omega (arith, div-add-mod' x w) in
    (ap (λ k. k / w) at ∙ div-mul-add (x / w + 1) w 0 some, ap (λ k. k % w) at ∙ mod-mul-add (x / w + 1) w 0 some)

-- else the next bit is of the same field
pub same_field : (x w : ℕ) → (x % w + 1 ≡ w → ⊥) → ((x + 1) / w ≡ x / w) × ((x + 1) % w ≡ x % w + 1)
same_field x zero d = (div-zero (x + 1) ∙ sym (div-zero x), mod-zero (x + 1) ∙ ap (λ k. k + 1) (sym (mod-zero x)))
same_field x (suc v) d =
    let some : x % suc v < suc v = mod_below x (suc v) (omega arith) in
    let more : x % suc v + 1 < suc v = omega arith in
    let at : x + 1 ≡ (x / suc v) * suc v + (x % suc v + 1) = omega (arith, div-add-mod' x (suc v)) in
    (ap (λ k. k / suc v) at ∙ div-mul-add (x / suc v) (suc v) (x % suc v + 1) more, ap (λ k. k % suc v) at ∙ mod-mul-add (x / suc v) (suc v) (x % suc v + 1) more)

pub field_le : (x y w : ℕ) → x ≤ y → x / w ≤ y / w
field_le x y zero l = let a : x / 0 ≡ 0 = div-zero x in omega arith
field_le x y (suc v) l = le-div (x / suc v) y (suc v) (omega arith) (omega (arith, div-mul-le_self x (suc v)))

-- no bits from a field on that is not there
pub no_field : (f : Entry → ℕ) (group : List Entry) (first n w : ℕ) → length group ≤ (first + n) / w
    → (i : ℕ) → n ≤ i → field_bit f (slice_get group ((first + i) / w)) ((first + i) % w) ≡ false
no_field f group first n w l i h =
    let past : length group ≤ (first + i) / w = omega (arith, field_le (first + n) (first + i) w (omega arith)) in
    ap (λ o. field_bit f o ((first + i) % w)) (slice_get_past group ((first + i) / w) past)
