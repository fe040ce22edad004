-- An area that is zero from a bit on, found out word by word.
use Rattle.std.proofs.Common.{◌≡◌, ◌↔◌, ℕ, zero, suc, ◌+◌, ◌*◌, ◌/◌, ◌%◌, ◌^◌, ◌<◌, ◌≤◌, Bool, ◌==◌, List, [], ◌∷◌, get_or, drop, Decides, sym, refl, ap, ◌∙◌, subst, div-lt_iff_lt-mul, add-one, arith, pow_pos, pow_mono, shr-shr}
use Rattle.std.specs.List.{list_all}
use Rattle.std.proofs.lemmas.List.{get_or-drop}
use Rattle.std.proofs.lemmas.Bool.{eqb-true, eq-eqb, and_parts, and_from}
use Rattle.bits.specs.Area.{number}
use Rattle.bits.proofs.Numbers.{number_drop}

-- words of 64 bits each
abbrev Fit : List ℕ → Type 0
Fit ws = (i : ℕ) → get_or ws i 0 < 2 ^ 64

-- a word's number with nothing above it
only_word : (x : ℕ) (xs : List ℕ) → x < 2 ^ 64 → number xs ≡ 0 → number (x ∷ xs) ≡ x
only_word x xs f z = omega (arith, z, f)

-- words are zero where their number is
pub zero_words : (ws : List ℕ) → Fit ws → Decides (list_all (λ word. word == 0) ws) (number ws ≡ 0)
zero_words [] f = ((λ _. refl), (λ _. refl))
zero_words (x ∷ xs) f =
    let (all, none) = zero_words xs (λ i. f (suc i)) in
    let small : x < 2 ^ 64 = f 0 in
    (λ t. let (here, later) = and_parts (x == 0) _ t in omega (arith, all later, eqb-true x 0 here), λ z. and_from (x == 0) _ (eq-eqb x 0 (omega (arith, z))) (none (omega (arith, z))))

-- below a power the quotient by it is zero
below_power : (n b : ℕ) → n / 2 ^ b ≡ 0 → n < 2 ^ b
below_power n b z = let l : n < 1 * 2 ^ b = (div-lt_iff_lt-mul (pow_pos b)).0 (omega (arith, z)) in omega arith

-- a first word and the later ones are zero from bit b on
cons_zero : (x : ℕ) (xs : List ℕ) (b : ℕ) → x < 2 ^ 64 → (x / 2 ^ b ≡ 0) × (number xs ≡ 0) → number (x ∷ xs) / 2 ^ b ≡ 0
cons_zero x xs b f (first, later) = ap (λ (n : ℕ). n / 2 ^ b) (only_word x xs f later) ∙ first

-- and only then
cons_parts : (x : ℕ) (xs : List ℕ) (b : ℕ) → x < 2 ^ 64 → b ≤ 64 → number (x ∷ xs) / 2 ^ b ≡ 0 → (x / 2 ^ b ≡ 0) × (number xs ≡ 0)
cons_parts x xs b f h z =
    let small = below_power (number (x ∷ xs)) b z in
    let power : 2 ^ b ≤ 2 ^ 64 = pow_mono h in
    let later : number xs ≡ 0 = omega arith in
    (ap (λ (n : ℕ). n / 2 ^ b) (sym (only_word x xs f later)) ∙ z, later)

-- the words from word q on are zero from bit b on where word q is and every later one is zero
tail_zero : (q b : ℕ) (ws : List ℕ) → Fit ws → b ≤ 64 → (number (drop q ws) / 2 ^ b ≡ 0) ↔ ((get_or ws q 0 / 2 ^ b ≡ 0) × (number (drop (suc q) ws) ≡ 0))
tail_zero zero b [] f h = ((λ z. (z, refl)), (λ z. z.0))
tail_zero (suc q) b [] f h = ((λ z. (z, refl)), (λ z. z.0))
tail_zero zero b (x ∷ xs) f h = (cons_parts x xs b (f 0) h, cons_zero x xs b (f 0))
tail_zero (suc q) b (x ∷ xs) f h = tail_zero q b xs (λ i. f (suc i)) h

-- the same of bit p of the area
pub area_zero : (p : ℕ) (ws : List ℕ) → Fit ws → (number ws / 2 ^ p ≡ 0) ↔ ((get_or ws (p / 64) 0 / 2 ^ (p % 64) ≡ 0) × (number (drop (p / 64 + 1) ws) ≡ 0))
area_zero p ws f =
    let q = p / 64 in
    let b = p % 64 in
    let parts : p ≡ 64 * q + b = omega arith in
    let tail = tail_zero q b ws f (omega arith) in
    let is : number ws / 2 ^ p ≡ number (drop q ws) / 2 ^ b =
    ap (λ (n : ℕ). number ws / 2 ^ n) parts ∙ sym (shr-shr (number ws) (64 * q) b) ∙ ap (λ (n : ℕ). n / 2 ^ b) (number_drop q ws) in
    rw (add-one, is) tail

-- what is found out where word q is zero from the bit on: the later words decide
pub later_decide : (p x : ℕ) (ws : List ℕ) (r : Bool) → Fit ws → x ≡ get_or ws (p / 64) 0 → x / 2 ^ (p % 64) ≡ 0 → r ≡ list_all (λ word. word == 0) (drop (p / 64 + 1) ws)
    → Decides r (number ws / 2 ^ p ≡ 0)
later_decide p x ws r f e first later =
    let (all, none) = zero_words (drop (p / 64 + 1) ws) (λ i. subst (λ (u : ℕ). u < 2 ^ 64) (sym (get_or-drop (p / 64 + 1) ws i 0)) (f (p / 64 + 1 + i))) in
    let (only, back) = area_zero p ws f in
    (λ t. back (ap (λ (u : ℕ). u / 2 ^ (p % 64)) (sym e) ∙ first, all (sym later ∙ t)), λ z. later ∙ none (only z).1)

-- and where it is not
pub first_decides : (p x : ℕ) (ws : List ℕ) → Fit ws → x ≡ get_or ws (p / 64) 0 → (x / 2 ^ (p % 64) ≡ 0 → ⊥) → Decides (x / 2 ^ (p % 64) == 0) (number ws / 2 ^ p ≡ 0)
first_decides p x ws f e not =
    (λ t. absurd (not (eqb-true _ 0 t)), λ z. absurd (not (ap (λ (u : ℕ). u / 2 ^ (p % 64)) e ∙ ((area_zero p ws f).0 z).0)))
