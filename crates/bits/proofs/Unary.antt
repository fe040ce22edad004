-- Unary marks: the sizes in a number, and the number of some sizes.
use Rattle.std.proofs.Common.{◌≡◌, ℕ, zero, suc, ◌+◌, ◌-◌, ◌*◌, ◌/◌, ◌%◌, ◌^◌, ◌<◌, ◌≤◌, eqb, List, [], ◌∷◌, ◌++◌, length, get_or, take, drop, set, sum, sym, refl, ap, ◌∙◌, subst, ap₂, ⊎_elim, le_refl, lt_of_lt_of_le, mod-eq_of_lt, add-mul, zero-mul, div-one, arith, lit<, take-append-drop, length-take-le, drop-cons, pow_pos, pow_mono, pow-add, shr-shr}
use native.Mathlib.Nat.{div-eq_of_lt}
use lib.Arith.{digits_lt}
use lib.Seq.{set_split, set-get_or}
use lib.Pow.{high, low, ones_lt}
use lib.Count.{ones, ones_cat, ones-ones}
use Rattle.std.proofs.lemmas.List.Sums.{sum_by-cons, sum_by_push, sum_by_more}
use Rattle.std.proofs.lemmas.Bool.{cases_eq, cond-true, cond-false, eq-eqb, ne_eqb}
use Rattle.bits.specs.Area.{number, bits}
use Rattle.bits.specs.Marks.{marks, mark_words, run, sizes, begins, size_of, ends, bit_out, one_more, one_less}
use Rattle.bits.proofs.Numbers.{number_words_fit}
use Rattle.bits.proofs.Splices.{pow_parts, mul_pow, mod_over}
use Rattle.bits.proofs.Runs.{ones_under, run_at, rest_at, run_split}

-- the sum of a list, from its front
sum_cons : (s : ℕ) (ss : List ℕ) → sum (s ∷ ss) ≡ s + sum ss
sum_cons s ss = sum_by-cons (λ x. x) s ss

-- how many bits the marks of some sizes take
abbrev pub span : List ℕ → ℕ
span ss = sum ss + length ss

-- one size more
span_cons : (s : ℕ) (ss : List ℕ) → span (s ∷ ss) ≡ span ss + (s + 1)
span_cons s ss = omega (arith, sum_cons s ss)

-- marks take a bit for each entry and each slot
pub marks_lt : (ss : List ℕ) → marks ss < 2 ^ span ss
unfolding marks
marks_lt [] = lit< tt
marks_lt (s ∷ ss) =
    subst (λ (u : ℕ). marks (s ∷ ss) < u) (sym (ap (λ (u : ℕ). 2 ^ u) (span_cons s ss) ∙ pow-add 2 (span ss) (s + 1)))
    (digits_lt (marks_lt ss) (ones_under s))

-- the marks of sizes after others stand above theirs
pub marks_append : (xs ys : List ℕ) → marks (xs ++ ys) ≡ marks ys * 2 ^ span xs + marks xs
unfolding marks
marks_append [] ys = omega arith
marks_append (s ∷ xs) ys =
    let a = marks ys in
    let e : a * 2 ^ span xs * 2 ^ (s + 1) ≡ a * 2 ^ span (s ∷ xs) =
    sym (pow_parts a (span xs) (s + 1)) ∙ ap (λ (u : ℕ). a * 2 ^ u) (sym (span_cons s xs)) in
    ap (λ (u : ℕ). u * 2 ^ (s + 1) + (2 ^ s - 1)) (marks_append xs ys)
    ∙ omega (arith, e, add-mul (a * 2 ^ span xs) (marks xs) (2 ^ (s + 1)))

-- they have a one for each entry
pub ones_marks : (ss : List ℕ) → ones (marks ss) ≡ sum ss
unfolding marks ones
ones_marks [] = refl
ones_marks (s ∷ ss) =
    ones_cat (s + 1) (marks ss) (2 ^ s - 1) (ones_under s)
    ∙ ap₂ (λ (x y : ℕ). x + y) (ones_marks ss) (ones-ones s)
    ∙ omega (arith, sum_cons s ss)

-- as many sizes as are asked for
pub length_sizes : (n m : ℕ) → length (sizes n m) ≡ n
unfolding sizes
length_sizes zero m = refl
length_sizes (suc n) m = ap suc (length_sizes n (m / 2 ^ (run m + 1)))

-- where slot n + 1 of a number begins, counted from the end of its first slot
begins_suc : (n m : ℕ) → begins (suc n) m ≡ (run m + 1) + begins n (m / 2 ^ (run m + 1))
unfolding sizes
begins_suc n m = omega (arith, sum_cons (run m) (sizes n (m / 2 ^ (run m + 1))))

-- what stands from there on
from_suc : (n m : ℕ) → m / 2 ^ begins (suc n) m ≡ m / 2 ^ (run m + 1) / 2 ^ begins n (m / 2 ^ (run m + 1))
from_suc n m = ap (λ (u : ℕ). m / 2 ^ u) (begins_suc n m) ∙ sym (shr-shr m (run m + 1) (begins n (m / 2 ^ (run m + 1))))

-- every number is the marks of its first n sizes, with the marks of the others above them
pub marks_split : (n m : ℕ) → m ≡ m / 2 ^ begins n m * 2 ^ begins n m + marks (sizes n m)
unfolding sizes marks
marks_split zero m = omega arith
marks_split (suc n) m =
    let r = run m + 1 in
    let k = m / 2 ^ r in
    let b = begins n k in
    let q = k / 2 ^ b in
    let z = marks (sizes n k) in
    let i : k ≡ q * 2 ^ b + z = marks_split n k in
    let i2 : k * 2 ^ r ≡ q * 2 ^ b * 2 ^ r + z * 2 ^ r = ap (λ (u : ℕ). u * 2 ^ r) i ∙ add-mul (q * 2 ^ b) z (2 ^ r) in
    let p : q * 2 ^ (r + b) ≡ q * 2 ^ b * 2 ^ r = let c : r + b ≡ b + r = omega arith in ap (λ (u : ℕ). q * 2 ^ u) c ∙ pow_parts q b r in
    let t : m ≡ q * 2 ^ (r + b) + (z * 2 ^ r + (2 ^ run m - 1)) = omega (arith, run_split m, i2, p) in
    t ∙ ap₂ (λ (u v : ℕ). u * 2 ^ v + (z * 2 ^ r + (2 ^ run m - 1))) (sym (from_suc n m)) (sym (begins_suc n m))

-- the bits below slot n are the marks of the slots before it
pub marks_below : (n m : ℕ) → m % 2 ^ begins n m ≡ marks (sizes n m)
marks_below n m =
    let ss = sizes n m in
    let b : span ss ≡ begins n m = ap (λ (u : ℕ). sum ss + u) (length_sizes n m) in
    let l : marks ss < 2 ^ begins n m = subst (λ (u : ℕ). marks ss < 2 ^ u) b (marks_lt ss) in
    let q = m / 2 ^ begins n m in
    let e : m % 2 ^ begins n m ≡ (q * 2 ^ begins n m + marks ss) % 2 ^ begins n m = ap (λ (u : ℕ). u % 2 ^ begins n m) (marks_split n m) in
    e ∙ low q (begins n m) l

-- one slot more
pub sizes_more : (n m : ℕ) → sizes (suc n) m ≡ sizes n m ++ size_of n m ∷ []
unfolding sizes
sizes_more zero m = ap (λ (u : ℕ). run u ∷ []) (sym (div-one m))
sizes_more (suc n) m =
    ap (λ (u : List ℕ). run m ∷ u) (sizes_more n (m / 2 ^ (run m + 1)))
    ∙ ap (λ (u : ℕ). run m ∷ (sizes n (m / 2 ^ (run m + 1)) ++ run u ∷ [])) (sym (from_suc n m))

-- the next slot begins after the zero
pub begins_more : (n m : ℕ) → begins (suc n) m ≡ ends n m + 1
begins_more n m =
    let e : sum (sizes (suc n) m) ≡ sum (sizes n m) + size_of n m = ap sum (sizes_more n m) ∙ sum_by_push (λ x. x) (sizes n m) (size_of n m) in
    omega (arith, e)

-- the first slot begins at bit 0
pub begins_zero : (m : ℕ) → begins 0 m ≡ 0
unfolding sizes
begins_zero m = refl

-- later slots begin later
pub begins_mono : (m j d : ℕ) → begins j m ≤ begins (j + d) m
begins_mono m j zero = let e : j ≡ j + 0 = omega arith in subst (λ (u : ℕ). begins j m ≤ begins u m) e (le_refl (begins j m))
begins_mono m j (suc d) =
    let e : suc (j + d) ≡ j + suc d = omega arith in
    let i = begins_mono m j d in
    let s = begins_more (j + d) m in
    subst (λ (u : ℕ). begins j m ≤ begins u m) e (omega (arith, i, s))

-- the sizes are read back from their marks, whatever stands above
pub sizes_over : (ss : List ℕ) (z : ℕ) → sizes (length ss) (z * 2 ^ span ss + marks ss) ≡ ss
unfolding marks sizes
sizes_over [] z = refl
sizes_over (s ∷ ss) z =
    let y = z * 2 ^ span ss + marks ss in
    let p : z * 2 ^ span (s ∷ ss) ≡ z * 2 ^ span ss * 2 ^ (s + 1) = ap (λ (u : ℕ). z * 2 ^ u) (span_cons s ss) ∙ pow_parts z (span ss) (s + 1) in
    let e : z * 2 ^ span (s ∷ ss) + (marks ss * 2 ^ (s + 1) + (2 ^ s - 1)) ≡ y * 2 ^ (s + 1) + (2 ^ s - 1) = omega (arith, p, add-mul (z * 2 ^ span ss) (marks ss) (2 ^ (s + 1))) in
    let r : run (z * 2 ^ span (s ∷ ss) + (marks ss * 2 ^ (s + 1) + (2 ^ s - 1))) ≡ s = ap run e ∙ run_at y s in
    ap₂ (λ (x : ℕ) (xs : List ℕ). x ∷ xs) r
    (ap₂ (λ (u v : ℕ). sizes (length ss) (u / 2 ^ (v + 1))) e r ∙ ap (sizes (length ss)) (rest_at y s) ∙ sizes_over ss z)

-- or with nothing above
pub sizes_marks : (ss : List ℕ) → sizes (length ss) (marks ss) ≡ ss
sizes_marks ss =
    let e : 0 * 2 ^ span ss + marks ss ≡ marks ss = omega (arith, zero-mul (2 ^ span ss)) in
    ap (sizes (length ss)) (sym e) ∙ sizes_over ss 0

-- the sizes of the first slots
pub sizes_front : (ss : List ℕ) (j : ℕ) → j ≤ length ss → sizes j (marks ss) ≡ take j ss
sizes_front ss j h =
    let l : length (take j ss) ≡ j = length-take-le j ss h in
    let e : marks ss ≡ marks (drop j ss) * 2 ^ span (take j ss) + marks (take j ss) = ap marks (sym (take-append-drop j ss)) ∙ marks_append (take j ss) (drop j ss) in
    ap₂ sizes (sym l) e ∙ sizes_over (take j ss) (marks (drop j ss))

-- where a slot of some sizes begins
pub begins_marks : (ss : List ℕ) (j : ℕ) → j ≤ length ss → begins j (marks ss) ≡ sum (take j ss) + j
begins_marks ss j h = ap (λ (u : List ℕ). sum u + j) (sizes_front ss j h)

-- the marks from slot j on
pub marks_from : (ss : List ℕ) (j : ℕ) → j ≤ length ss → marks ss / 2 ^ begins j (marks ss) ≡ marks (drop j ss)
marks_from ss j h =
    let xs = take j ss in
    let l : length xs ≡ j = length-take-le j ss h in
    let b : begins j (marks ss) ≡ span xs = begins_marks ss j h ∙ ap (λ (u : ℕ). sum xs + u) (sym l) in
    let e : marks ss ≡ marks (drop j ss) * 2 ^ span xs + marks xs = ap marks (sym (take-append-drop j ss)) ∙ marks_append xs (drop j ss) in
    ap₂ (λ (u v : ℕ). u / 2 ^ v) e b ∙ high (marks (drop j ss)) (span xs) (marks_lt xs)

-- a slot of some sizes has its size
pub size_marks : (ss : List ℕ) (j : ℕ) → j < length ss → size_of j (marks ss) ≡ get_or ss j 0
unfolding marks
size_marks ss j h =
    let s = get_or ss j 0 in
    let j≤ : j ≤ length ss = omega arith in
    ap run (marks_from ss j j≤ ∙ ap marks (drop-cons ss j 0 h)) ∙ run_at (marks (drop (suc j) ss)) s

-- a number with nothing above its slot n is the marks of its sizes, and only such a number is the marks of n sizes
pub marks_back : (n m : ℕ) → m / 2 ^ begins n m ≡ 0 → marks (sizes n m) ≡ m
marks_back n m e =
    let s : m / 2 ^ begins n m * 2 ^ begins n m ≡ 0 = ap (λ (u : ℕ). u * 2 ^ begins n m) e ∙ zero-mul (2 ^ begins n m) in
    omega (arith, marks_split n m, s)

-- marks of n sizes have nothing above them
pub nothing_above : (ss : List ℕ) → marks ss / 2 ^ begins (length ss) (marks ss) ≡ 0
nothing_above ss =
    let e : begins (length ss) (marks ss) ≡ span ss = ap (λ (u : List ℕ). sum u + length ss) (sizes_marks ss) in
    ap (λ (u : ℕ). marks ss / 2 ^ u) e ∙ div-eq_of_lt (marks_lt ss)

-- marks of as many slots are of the same sizes
pub one_list : (ss ts : List ℕ) → length ss ≡ length ts → marks ss ≡ marks ts → ss ≡ ts
one_list ss ts l e = sym (sizes_marks ss) ∙ ap₂ sizes l e ∙ sizes_marks ts

-- the bits of slot j: its ones, and its zero
pub slot_ones : (m j : ℕ) → bits m (begins j m) (size_of j m) ≡ 2 ^ size_of j m - 1
unfolding bits
slot_ones m j =
    let k = m / 2 ^ begins j m in
    let s = run k in
    let le : s ≤ s + 1 = omega arith in
    let e : k % 2 ^ s ≡ (k / 2 ^ (s + 1) * 2 ^ (s + 1) + (2 ^ s - 1)) % 2 ^ s = ap (λ (u : ℕ). u % 2 ^ s) (run_split k) in
    e ∙ mod_over (k / 2 ^ (s + 1)) (2 ^ s - 1) s (s + 1) le ∙ mod-eq_of_lt (ones_lt s)

-- its zero is where its marks end
pub slot_zero : (m j : ℕ) → bits m (ends j m) 1 ≡ 0
unfolding bits
slot_zero m j =
    let b = begins j m in
    let k = m / 2 ^ b in
    let s = run k in
    let hi = k / 2 ^ (s + 1) in
    let two : hi * 2 ^ (s + 1) ≡ hi * 2 * 2 ^ s = mul_pow hi s 1 in
    let k_is : k ≡ hi * 2 * 2 ^ s + (2 ^ s - 1) = omega (arith, run_split k, two) in
    let d : k / 2 ^ s ≡ hi * 2 = ap (λ (u : ℕ). u / 2 ^ s) k_is ∙ high (hi * 2) s (ones_lt s) in
    ap (λ (u : ℕ). u % 2 ^ 1) (sym (shr-shr m b s) ∙ d) ∙ omega arith

-- where the marks of a slot of some sizes end
pub ends_marks : (ss : List ℕ) (j : ℕ) → j < length ss → ends j (marks ss) ≡ j + sum (take (j + 1) ss)
ends_marks ss j h =
    let j≤ : j ≤ length ss = omega arith in
    omega (arith, begins_marks ss j j≤, size_marks ss j h, sum_by_more (λ x. x) ss j 0 h)

-- one entry more in a slot
size_up : (s : ℕ) (ys : List ℕ) → marks ((s + 1) ∷ ys) ≡ marks (s ∷ ys) * 2 + 1
unfolding marks
size_up s ys =
    let a = marks ys in
    let e : a * 2 ^ (s + 1 + 1) ≡ a * 2 ^ (s + 1) * 2 = pow_parts a (s + 1) 1 in
    let t : 2 ^ (s + 1) ≡ 2 ^ s * 2 = pow-add 2 s 1 in
    omega (arith, e, t, pow_pos s)

-- marks with what stands from slot j on replaced
from_slot : (ss : List ℕ) (j s : ℕ) → j < length ss → marks (s ∷ drop (suc j) ss) * 2 ^ begins j (marks ss) + marks ss % 2 ^ begins j (marks ss) ≡ marks (set ss j s)
from_slot ss j s h =
    let xs = take j ss in
    let j≤ : j ≤ length ss = omega arith in
    let b : begins j (marks ss) ≡ span xs = begins_marks ss j j≤ ∙ ap (λ (u : ℕ). sum xs + u) (sym (length-take-le j ss j≤)) in
    let l : marks ss % 2 ^ begins j (marks ss) ≡ marks xs = marks_below j (marks ss) ∙ ap marks (sizes_front ss j j≤) in
    ap₂ (λ (u v : ℕ). marks (s ∷ drop (suc j) ss) * 2 ^ u + v) b l ∙ sym (marks_append xs (s ∷ drop (suc j) ss)) ∙ ap marks (sym (set_split ss j s h))

-- a one put in where a slot begins is one entry more in it
pub more_marks : (ss : List ℕ) (j : ℕ) → j < length ss → one_more j (marks ss) ≡ marks (set ss j (get_or ss j 0 + 1))
more_marks ss j h =
    let p = begins j (marks ss) in
    let s = get_or ss j 0 in
    let j≤ : j ≤ length ss = omega arith in
    let top : marks ss / 2 ^ p ≡ marks (s ∷ drop (suc j) ss) = marks_from ss j j≤ ∙ ap marks (drop-cons ss j 0 h) in
    ap (λ (u : ℕ). (u * 2 + 1) * 2 ^ p + marks ss % 2 ^ p) top
    ∙ ap (λ (u : ℕ). u * 2 ^ p + marks ss % 2 ^ p) (sym (size_up s (drop (suc j) ss)))
    ∙ from_slot ss j (s + 1) h

-- one entry less
pub less_marks : (ss : List ℕ) (j : ℕ) → j < length ss → one_less j (marks ss) ≡ marks (set ss j (get_or ss j 0 - 1))
less_marks ss j h =
    let m = marks ss in
    let p = begins j m in
    let s = get_or ss j 0 in
    let size : size_of j m ≡ s = size_marks ss j h in
    let j≤ : j ≤ length ss = omega arith in
    ⊎_elim
    (λ z.
    let none : s ≡ s - 1 = omega arith in
    cond-true (eqb (size_of j m) 0) m (bit_out p m) (eq-eqb (size_of j m) 0 (size ∙ z))
    ∙ ap marks (sym (set-get_or ss j 0) ∙ ap (set ss j) none))
    (λ z.
    let some : s - 1 + 1 ≡ s = omega arith in
    let ys = drop (suc j) ss in
    let top : m / 2 ^ p ≡ marks ((s - 1) ∷ ys) * 2 + 1 = marks_from ss j j≤ ∙ ap marks (drop-cons ss j 0 h) ∙ ap (λ (u : ℕ). marks (u ∷ ys)) (sym some) ∙ size_up (s - 1) ys in
    let half : m / 2 ^ p / 2 ≡ marks ((s - 1) ∷ ys) = omega (arith, top) in
    cond-false (eqb (size_of j m) 0) m (bit_out p m) (ne_eqb (size_of j m) 0 (λ e. z (sym size ∙ e)))
    ∙ ap (λ (u : ℕ). u * 2 ^ p + m % 2 ^ p) half ∙ from_slot ss j (s - 1) h)
    (cases_eq s 0)

-- n words hold marks of at most 64 n bits
pub marks_words : (n : ℕ) (ss : List ℕ) → span ss ≤ 64 * n → number (mark_words n ss) ≡ marks ss
marks_words n ss h = number_words_fit n (marks ss) (lt_of_lt_of_le (marks_lt ss) (pow_mono h))
