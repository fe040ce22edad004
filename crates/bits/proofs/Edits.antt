-- A field put into an area or taken out of it, as the code does it.
use Rattle.std.proofs.Common.{◌≡◌, ℕ, ◌+◌, ◌-◌, ◌*◌, ◌%◌, ◌^◌, ◌<◌, ◌≤◌, min, max, ◌⊎◌, List, length, get_or, sym, ap, ◌∙◌, subst, ap₂, inl, inr, ⊎_elim, mul-le-mul_right, add-mul, arith}
use native.Mathlib.Nat.{zero-mod}
use Rattle.std.proofs.lemmas.Bool.{cases_lt}
use Rattle.bits.specs.Area.{number, words_of, splice, field_inserted, field_removed}
use Rattle.bits.proofs.Numbers.{number_lt, words_number, words_same}
use Rattle.bits.proofs.Splices.{room}
use Rattle.bits.proofs.Moves.{Raised, Lowered, raised_put, lowered_put, bits_inserted, bits_removed, inserted_agree, removed_agree}
use Rattle.bits.proofs.Packs.{inserted_form, inserted_past, removed_form, removed_past}

-- any place, as one of the first n or the one after them
pub inserted_min : (w n a t v i : ℕ) → i ≡ min t n → (i ≤ n) × (field_inserted w n a t v ≡ bits_inserted a (i * w) (n * w - i * w) w (v % 2 ^ w))
inserted_min w n a t v i e = ⊎_elim
    (λ h. let is : t ≡ i = omega arith in let le : i ≤ n = omega arith in (le, ap (λ (u : ℕ). field_inserted w n a u v) is ∙ inserted_form w n a i v le))
    (λ h. let is : n ≡ i = omega arith in let le : i ≤ n = omega arith in
    (le, inserted_past w n a t v h ∙ ap (λ (u : ℕ). field_inserted w n a u v) is ∙ inserted_form w n a i v le))
    (cases_lt t n)

-- the same with the bit where the field begins
inserted_at : (w n a t v i p : ℕ) → i ≡ min t n → p ≡ i * w → (p ≤ n * w) × (field_inserted w n a t v ≡ bits_inserted a p (n * w - p) w (v % 2 ^ w))
inserted_at w n a t v i p e b =
    let (le, is) = inserted_min w n a t v i e in
    subst (λ (u : ℕ). (u ≤ n * w) × (field_inserted w n a t v ≡ bits_inserted a u (n * w - u) w (v % 2 ^ w))) (sym b) (mul-le-mul_right w le, is)

-- the area with a field put in: bits from there to `last` were moved up, and then the field was written
pub insert_all : (ws xs vs : List ℕ) (w n t v i p end last : ℕ) → i ≡ min t n → p ≡ i * w → end ≡ min ((n + 1) * w) (64 * length ws) → last ≡ max (end - w) p
    → length xs ≡ length ws → Raised (number xs) (number ws) p last w → vs ≡ words_of (length xs) (splice (number xs) p w (v % 2 ^ w))
    → vs ≡ words_of (length ws) (field_inserted w n (number ws) t v)
insert_all ws xs vs w n t v i p end last i-is p-is e-is l-is len r g =
    let a = number ws in
    let l = 64 * length ws in
    let (le, form) = inserted_at w n a t v i p i-is p-is in
    let s : (n + 1) * w ≡ n * w + w = omega (arith, add-mul n 1 w) in
    let m≤ : last - p ≤ n * w - p = omega arith in
    let far : (last - p ≡ n * w - p) ⊎ (l ≤ p + (last - p + w)) = ⊎_elim (λ h. inr (omega arith)) (λ h. inl (omega arith)) (cases_lt l ((n + 1) * w)) in
    g ∙ ap₂ words_of len (raised_put a (number xs) p last w (v % 2 ^ w) r)
    ∙ words_same (length ws) (bits_inserted a p (last - p) w (v % 2 ^ w)) (field_inserted w n a t v)
    (inserted_agree a p (n * w - p) (last - p) w (v % 2 ^ w) l m≤ far ∙ ap (λ (u : ℕ). u % 2 ^ l) (sym form))

-- the area with a field taken out: the bits after it, up to `last`, were moved down, and then a zero was written
pub remove_all : (ws xs vs : List ℕ) (w n t p end last : ℕ) → t < n → p ≡ t * w → end ≡ min (n * w) (64 * length ws) → last ≡ max (end - w) p
    → length xs ≡ length ws → Lowered (number xs) (number ws) p last w → vs ≡ words_of (length xs) (splice (number xs) last w (0 % 2 ^ w))
    → vs ≡ words_of (length ws) (field_removed w n (number ws) t)
remove_all ws xs vs w n t p end last h p-is e-is l-is len r g =
    let a = number ws in
    let l = 64 * length ws in
    let le : p + w ≤ n * w = omega (arith, room t n w h, p-is) in
    let form = subst (λ (u : ℕ). field_removed w n a t ≡ bits_removed a u (n * w - u - w) w) (sym p-is) (removed_form w n a t h) in
    let k = n * w - p - w in
    let m≤ : last - p ≤ k = omega arith in
    let p≤ : p ≤ last = omega arith in
    let far : (last - p ≡ k) ⊎ (l ≤ p + (w + (last - p))) = ⊎_elim (λ h. inr (omega arith)) (λ h. inl (omega arith)) (cases_lt l (n * w)) in
    g ∙ ap₂ words_of len (ap (splice (number xs) last w) (zero-mod (2 ^ w)) ∙ lowered_put a (number xs) p last w p≤ r)
    ∙ words_same (length ws) (bits_removed a p (last - p) w) (field_removed w n a t)
    (removed_agree a p k (last - p) w l (number_lt ws) m≤ far ∙ ap (λ (u : ℕ). u % 2 ^ l) (sym form))

-- at a place of n or more nothing is taken out
pub remove_none : (ws : List ℕ) (w n t : ℕ) → n ≤ t → ((i : ℕ) → get_or ws i 0 < 2 ^ 64) → ws ≡ words_of (length ws) (field_removed w n (number ws) t)
remove_none ws w n t h f = sym (words_number ws f) ∙ ap (words_of (length ws)) (sym (removed_past w n (number ws) t h))
