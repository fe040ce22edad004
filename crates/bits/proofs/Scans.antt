-- Marks in one word, as the code finds and changes them.
use Rattle.std.proofs.Common.{◌≡◌, ℕ, suc, ◌+◌, ◌-◌, ◌*◌, ◌/◌, ◌%◌, ◌^◌, ◌<◌, ◌≤◌, min, Bool, true, false, eqb, MatchBool, sum, sym, refl, ap, ◌∙◌, subst, ap₂, ⊎_elim, lt_of_lt_of_le, lt_of_le_of_lt, mod-lt, mod-eq_of_lt, add-mul, arith, pow_pos, pow_mono, pow-add, shl_exact, shr_lt}
use native.Mathlib.Nat.{div-eq_of_lt}
use lib.Bits.{bit_or, or_shifted}
use lib.Count.{ones, count_trailing_zeros}
use lib.Pow.{pow-lt, shr_le, split, high, low, mod-pow-add}
use Rattle.std.proofs.lemmas.Nat.{one_shl}
use Rattle.std.proofs.lemmas.Bool.{cases_lt, cond-false, ne_eqb}
use Rattle.bits.specs.Marks.{marks, run, sizes, entries_before, begins, size_of, ends, one_at, bit_out, one_more, one_less, Marked}
use Rattle.bits.proofs.Splices.{pow_parts, mul_pow, mod_over}
use Rattle.bits.proofs.Gets.{shl_mod}
use Rattle.bits.proofs.Runs.{run_le, run_zero, trailing_run}
use Rattle.bits.proofs.Unary.{begins_zero, begins_more, begins_mono, marks_below, ones_marks, length_sizes, sizes_marks}

-- the ones from bit `at` up, as the machine counts them
counted : (m at t : ℕ) → m < 2 ^ 64 → t ≡ count_trailing_zeros 64 (2 ^ 64 - 1 - m / 2 ^ at) → t ≡ run (m / 2 ^ at)
counted m at t f e = e ∙ trailing_run (m / 2 ^ at) (lt_of_le_of_lt (shr_le m at) f)

-- one slot passed
pub scan_more : (m k at t : ℕ) → m < 2 ^ 64 → at ≡ begins k m → t ≡ count_trailing_zeros 64 (2 ^ 64 - 1 - m / 2 ^ at) → at + (t + 1) ≡ begins (k + 1) m
scan_more m k at t f a e =
    let t_is : t ≡ size_of k m = counted m at t f e ∙ ap (λ (u : ℕ). run (m / 2 ^ u)) a in
    let s : k + 1 ≡ suc k = omega arith in
    omega (arith, a, t_is, begins_more k m, ap (λ (u : ℕ). begins u m) s)

-- a slot that begins in the word ends in it or right after it
pub ends_le : (m j : ℕ) → m < 2 ^ 64 → begins j m ≤ 64 → ends j m ≤ 64
ends_le m j f h =
    let b = begins j m in
    let e : (64 - b) + b ≡ 64 = omega arith in
    let r = run_le (m / 2 ^ b) (64 - b) (shr_lt (64 - b) b (subst (λ (u : ℕ). m < 2 ^ u) (sym e) f)) in
    omega (arith, r)

-- one that begins after it is empty
pub size_past : (m j : ℕ) → m < 2 ^ 64 → 64 < begins j m → size_of j m ≡ 0
size_past m j f h = ap run (div-eq_of_lt (lt_of_lt_of_le f (pow_mono (le h)))) ∙ run_zero
  where
    le : 64 < begins j m → 64 ≤ begins j m
    le g = omega arith

-- a slot after one that ends past the word
pub end_past : (m k slot at : ℕ) → k < slot → at ≡ begins (k + 1) m → 64 ≤ at → record { value : ◌≡◌ {A = ℕ} 64 (min (ends slot m) 64); bound : 64 ≤ 64 }
end_past m k slot at h a g =
    let e : (k + 1) + (slot - (k + 1)) ≡ slot = omega arith in
    let i : begins (k + 1) m ≤ begins slot m = subst (λ (u : ℕ). begins (k + 1) m ≤ begins u m) e (begins_mono m (k + 1) (slot - (k + 1))) in
    record { value = omega (arith, i, a); bound = omega arith }

-- where the walk stops, the slot ends after the ones that follow
pub end_here : (m slot at t : ℕ) → m < 2 ^ 64 → at < 64 → at ≡ begins slot m → t ≡ count_trailing_zeros 64 (2 ^ 64 - 1 - m / 2 ^ at)
    → record { value : at + t ≡ min (ends slot m) 64; bound : at + t ≤ 64 }
end_here m slot at t f l a e =
    let t_is : t ≡ size_of slot m = counted m at t f e ∙ ap (λ (u : ℕ). run (m / 2 ^ u)) a in
    let le : ends slot m ≤ 64 = ends_le m slot f (omega (arith, a)) in
    record { value = omega (arith, a, t_is, le); bound = omega (arith, a, t_is, le) }

-- the first slot
pub begin_first : (m slot : ℕ) → slot ≡ 0 → record { value : ◌≡◌ {A = ℕ} 0 (min (begins slot m) 64); bound : 0 ≤ 64 }
begin_first m slot h = record { value = omega (arith, ap (λ (u : ℕ). begins u m) h, begins_zero m); bound = omega arith }

-- any other begins after the zero before it
pub begin_next : (m slot e r : ℕ) → (slot ≡ 0 → ⊥) → e ≡ min (ends (slot - 1) m) 64 → r ≡ min (e + 1) 64 → record { value : r ≡ min (begins slot m) 64; bound : r ≤ 64 }
begin_next m slot e r h a b =
    let s : suc (slot - 1) ≡ slot = omega arith in
    let i : begins slot m ≡ ends (slot - 1) m + 1 = ap (λ (u : ℕ). begins u m) (sym s) ∙ begins_more (slot - 1) m in
    record { value = omega (arith, a, b, i); bound = omega (arith, b) }

-- a size is what lies between
pub size_is : (m j e b : ℕ) → m < 2 ^ 64 → e ≡ min (ends j m) 64 → b ≡ min (begins j m) 64 → record { value : e - b ≡ size_of j m; bound : e - b ≤ 64 }
size_is m j e b f x y = ⊎_elim
    (λ h. let s = size_past m j f h in record { value = omega (arith, x, y, s); bound = omega (arith, x) })
    (λ h. let l = ends_le m j f h in record { value = omega (arith, x, y, l); bound = omega (arith, x) })
    (cases_lt 64 (begins j m))

-- the bits of a word below a place past its end are all of them
pub mod_min : (m b : ℕ) → m < 2 ^ 64 → m % 2 ^ min b 64 ≡ m % 2 ^ b
mod_min m b f = ⊎_elim
    (λ h. let e : min b 64 ≡ 64 = omega arith in let h' : 64 ≤ b = omega arith in
    ap (λ (u : ℕ). m % 2 ^ u) e ∙ mod-eq_of_lt f ∙ sym (mod-eq_of_lt (lt_of_lt_of_le f (pow_mono h'))))
    (λ h. let e : min b 64 ≡ b = omega arith in ap (λ (u : ℕ). m % 2 ^ u) e)
    (cases_lt 64 b)

-- the ones below a slot
pub ones_before : (m j : ℕ) → ones (m % 2 ^ begins j m) ≡ entries_before j m
ones_before m j = ap ones (marks_below j m) ∙ ones_marks (sizes j m)

-- they are what the code counts
pub before_is : (m j b l r : ℕ) → m < 2 ^ 64 → b ≡ min (begins j m) 64 → l ≡ m % 2 ^ b → r ≡ ones l → r ≤ 64 → record { value : r ≡ entries_before j m; bound : r ≤ 64 }
before_is m j b l r f x y z g =
    let e : l ≡ m % 2 ^ begins j m = y ∙ ap (λ (u : ℕ). m % 2 ^ u) x ∙ mod_min m (begins j m) f in
    record { value = z ∙ ap ones e ∙ ones_before m j; bound = g }

-- a one put in past the word is dropped
pub add_past : (m j b : ℕ) → m < 2 ^ 64 → b ≡ min (begins j m) 64 → 64 ≤ b → m ≡ one_more j m % 2 ^ 64
add_past m j b f x h =
    let p = begins j m in
    let p≥ : 64 ≤ p = omega (arith, x) in
    let m< : m < 2 ^ p = lt_of_lt_of_le f (pow_mono p≥) in
    let e : one_at p m ≡ 1 * 2 ^ p + m = ap₂ (λ (u v : ℕ). (u * 2 + 1) * 2 ^ p + v) (div-eq_of_lt m<) (mod-eq_of_lt m<) in
    sym (ap (λ (u : ℕ). u % 2 ^ 64) e ∙ mod_over 1 m 64 p p≥ ∙ mod-eq_of_lt f)

-- a one put in at bit p of a word
pub one_put : (m p : ℕ) → p < 64
    → bit_or (bit_or (((m - m % 2 ^ p) * 2 ^ 1) % 2 ^ 64) ((1 * 2 ^ p) % 2 ^ 64)) (m % 2 ^ p) ≡ one_at p m % 2 ^ 64
one_put m p l =
    let h = m / 2 ^ p in
    let u = m % 2 ^ p in
    let u< : u < 2 ^ p = mod-lt m (pow_pos p) in
    let b = 63 - p in
    let e : b + (p + 1) ≡ 64 = omega arith in
    let q : p < p + 1 = omega arith in
    let two : 2 ^ (p + 1) ≡ 2 ^ p * 2 = pow-add 2 p 1 in
    let up : h * 2 ^ (p + 1) ≡ h * 2 ^ p * 2 = pow_parts h p 1 in
    let top : (m - u) * 2 ^ 1 ≡ h * 2 ^ (p + 1) = omega (arith, split m p, up) in
    let x = h % 2 ^ b in
    let shifted : ((m - u) * 2 ^ 1) % 2 ^ 64 ≡ x * 2 ^ (p + 1) = ap (λ (z : ℕ). z % 2 ^ 64) top ∙ ap (λ (z : ℕ). (h * 2 ^ (p + 1)) % 2 ^ z) (sym e) ∙ shl_mod h b (p + 1) in
    let upx : x * 2 ^ (p + 1) ≡ x * 2 * 2 ^ p = mul_pow x p 1 in
    let one : x * 2 ^ (p + 1) + 2 ^ p ≡ (x * 2 + 1) * 2 ^ p = omega (arith, upx, add-mul (x * 2) 1 (2 ^ p)) in
    let low< : 2 ^ p + u < 2 ^ (p + 1) = omega (arith, two) in
    let whole : one_at p m ≡ h * 2 ^ (p + 1) + (2 ^ p + u) =
    let s : h * 2 ^ (p + 1) ≡ h * 2 * 2 ^ p = mul_pow h p 1 in omega (arith, s, add-mul (h * 2) 1 (2 ^ p)) in
    ap₂ (λ (s t : ℕ). bit_or (bit_or s t) u) shifted (one_shl p 64 l)
    ∙ ap (λ (s : ℕ). bit_or s u) (or_shifted x (p + 1) (2 ^ p) (pow-lt q) ∙ one)
    ∙ or_shifted (x * 2 + 1) p u u<
    ∙ omega (arith, one)
    ∙ ap₂ (λ (s t : ℕ). (s % 2 ^ b) * 2 ^ (p + 1) + t) (sym (high h (p + 1) low<)) (sym (low h (p + 1) low<))
    ∙ sym (mod-pow-add (h * 2 ^ (p + 1) + (2 ^ p + u)) b (p + 1))
    ∙ ap (λ (s : ℕ). (h * 2 ^ (p + 1) + (2 ^ p + u)) % 2 ^ s) e
    ∙ ap (λ (s : ℕ). s % 2 ^ 64) (sym whole)

-- what the code makes of the word
pub added : (m j b u : ℕ) → b ≡ min (begins j m) 64 → b < 64 → u ≡ m % 2 ^ b
    → bit_or (bit_or (((m - u) * 2 ^ 1) % 2 ^ 64) ((1 * 2 ^ b) % 2 ^ 64)) u ≡ one_more j m % 2 ^ 64
added m j b u x h y =
    let e : b ≡ begins j m = omega (arith, x) in
    ap (λ (z : ℕ). bit_or (bit_or (((m - z) * 2 ^ 1) % 2 ^ 64) ((1 * 2 ^ b) % 2 ^ 64)) z) y ∙ one_put m b h ∙ ap (λ (z : ℕ). one_at z m % 2 ^ 64) e

-- a bit taken out of a word
pub bit_taken : (m p : ℕ) → m < 2 ^ 64 → p < 64 → bit_or ((m / 2 ^ p / 2 ^ 1 * 2 ^ p) % 2 ^ 64) (m % 2 ^ p) ≡ bit_out p m
bit_taken m p f l =
    let e : (64 - p) + p ≡ 64 = omega arith in
    let h< : m / 2 ^ p < 2 ^ (64 - p) = shr_lt (64 - p) p (subst (λ (u : ℕ). m < 2 ^ u) (sym e) f) in
    let half< : m / 2 ^ p / 2 < 2 ^ (64 - p) = omega arith in
    let le : (64 - p) + p ≤ 64 = omega arith in
    ap (λ (u : ℕ). bit_or u (m % 2 ^ p)) (shl_exact (64 - p) p 64 half< le) ∙ or_shifted (m / 2 ^ p / 2) p (m % 2 ^ p) (mod-lt m (pow_pos p))

-- a slot with an entry begins in the word
pub begins_in : (m j s b : ℕ) → m < 2 ^ 64 → s ≡ size_of j m → (s ≡ 0 → ⊥) → b ≡ min (begins j m) 64 → b < 64
begins_in m j s b f x h y = ⊎_elim (λ l. l)
    (λ l. absurd (h (x ∙ ⊎_elim (size_past m j f) (λ k. let k' : begins j m ≡ 64 = omega (arith, y) in let z = ends_le m j f k in omega (arith, k', z)) (cases_lt 64 (begins j m)))))
    (cases_lt b 64)

-- what the code makes of the word otherwise
pub taken : (m j s b u : ℕ) → m < 2 ^ 64 → s ≡ size_of j m → (s ≡ 0 → ⊥) → b ≡ min (begins j m) 64 → u ≡ m % 2 ^ b
    → bit_or ((m / 2 ^ b / 2 ^ 1 * 2 ^ b) % 2 ^ 64) u ≡ one_less j m
taken m j s b u f x h y z =
    let l = begins_in m j s b f x h y in
    let e : b ≡ begins j m = omega (arith, y) in
    ap (bit_or ((m / 2 ^ b / 2 ^ 1 * 2 ^ b) % 2 ^ 64)) z ∙ bit_taken m b f l ∙ ap (λ (v : ℕ). bit_out v m) e
    ∙ sym (cond-false (eqb (size_of j m) 0) m (bit_out (begins j m) m) (ne_eqb (size_of j m) 0 (λ i. h (x ∙ i))))

-- a test that decides
pub decides : (b : Bool) (P : Type 0) → (b ≡ true → P) → (b ≡ false → P → ⊥) → MatchBool b P (P → ⊥)
decides true P f g = f refl
decides false P f g = g refl

-- exactly which words are the marks of n sizes within a limit
pub marked_from : (n c m b l : ℕ) → m < 2 ^ 64 → b ≡ min (begins n m) 64 → l ≡ m % 2 ^ b → l ≡ m → ones m ≤ c → Marked n c m
marked_from n c m b l f x y z g =
    let ss = sizes n m in
    let e : m ≡ marks ss = sym z ∙ y ∙ ap (λ (u : ℕ). m % 2 ^ u) x ∙ mod_min m (begins n m) f ∙ marks_below n m in
    let s : ones m ≡ sum ss = ap ones e ∙ ones_marks ss in
    (ss, length_sizes n m, omega (arith, s), e)

-- such marks have nothing above
pub marked_below : (n c m b l : ℕ) → m < 2 ^ 64 → b ≡ min (begins n m) 64 → l ≡ m % 2 ^ b → Marked n c m → l ≡ m
marked_below n c m b l f x y k =
    let ss = k.0 in
    let e : sizes n m ≡ ss = ap₂ sizes (sym k.1) k.3 ∙ sizes_marks ss in
    y ∙ ap (λ (u : ℕ). m % 2 ^ u) x ∙ mod_min m (begins n m) f ∙ marks_below n m ∙ ap marks e ∙ sym k.3

-- and few enough ones
pub marked_few : (n c m : ℕ) → Marked n c m → ones m ≤ c
marked_few n c m k = omega (arith, ap ones k.3 ∙ ones_marks k.0, k.2)
