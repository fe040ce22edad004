-- XOR with a shift: the sums of shifts telescope, in both orders.
use Rattle.std.specs.Prelude.{◌≡◌, ℕ, zero, suc, ◌+◌, ◌*◌, ◌/◌, ◌^◌, ◌<◌, ◌≤◌, cond, bit_xor, nat_lt, refl}
use Rattle.std.proofs.Common.{sym, ap, ap₂, ◌∙◌, ⊎_elim, zero-add, zero-mul, suc-mul, div-one, add_comm, le_trans, mul-le-mul_right, le-mul_of_pos_right, add-one, arith, pow_pos, pow_mono, shr-shr}
use Rattle.std.proofs.Math.Nat.{zero-div, div-eq_of_lt}
use Rattle.std.specs.Int.Bits.{xor_assoc, xor_self, xor_zero_l, xor_zero_r}
use Rattle.std.proofs.lemmas.Nat.{xor_comm, xor_lt, xor_shr, shr_le}
use Rattle.std.proofs.lemmas.Bool.{cases_lt, lt-ltb, le-ltb, cond-true, cond-false}
use Rattle.permutation.specs.Formulas.{xor_below, xor_shift_back}
use Rattle.permutation.specs.Below.{below_in}

-- two pairs, the inner two exchanged
xor_exchange : (a b c d : ℕ) → bit_xor (bit_xor a b) (bit_xor c d) ≡ bit_xor (bit_xor a c) (bit_xor b d)
xor_exchange a b c d =
    xor_assoc a b (bit_xor c d) ∙ ap (bit_xor a) (sym (xor_assoc b c d) ∙ ap (λ (x : ℕ). bit_xor x d) (xor_comm b c) ∙ xor_assoc c b d)
    ∙ sym (xor_assoc a c (bit_xor b d))

-- a middle term that stands twice goes away
xor_between : (a b c : ℕ) → bit_xor (bit_xor a b) (bit_xor b c) ≡ bit_xor a c
xor_between a b c =
    xor_assoc a b (bit_xor b c) ∙ ap (bit_xor a) (sym (xor_assoc b b c) ∙ ap (λ (x : ℕ). bit_xor x c) (xor_self b) ∙ xor_zero_l c)

-- equal terms have equal XORs
xor_below_same : (f g : ℕ → ℕ) → ((i : ℕ) → f i ≡ g i) → (j : ℕ) → xor_below j f ≡ xor_below j g
unfolding xor_below
xor_below_same f g same zero = refl
xor_below_same f g same (suc j) = ap₂ bit_xor (xor_below_same f g same j) (same j)

-- terms below 2^k have an XOR below 2^k
xor_below_lt : (k : ℕ) (f : ℕ → ℕ) → ((i : ℕ) → f i < 2 ^ k) → (j : ℕ) → xor_below j f < 2 ^ k
unfolding xor_below
xor_below_lt k f small zero = pow_pos k
xor_below_lt k f small (suc j) = xor_lt k (xor_below j f) (f j) (xor_below_lt k f small j) (small j)

-- the XOR of the first j shifts of x by multiples of s
abbrev spread : ℕ → ℕ → ℕ → ℕ
spread s j x = xor_below j (λ i. x / 2 ^ (i * s))

-- a shift by j times s, and one by s more
shift_more : (x s j : ℕ) → x / 2 ^ (j * s) / 2 ^ s ≡ x / 2 ^ (suc j * s)
shift_more x s j = shr-shr x (j * s) s ∙ ap (λ (e : ℕ). x / 2 ^ e) (sym (suc-mul j s))

-- the shifts of x, with themselves shifted once more: all but the ends go away
spread_ends : (s x j : ℕ) → bit_xor (spread s j x) (spread s j x / 2 ^ s) ≡ bit_xor x (x / 2 ^ (j * s))
unfolding xor_below
spread_ends s x zero = ap (bit_xor 0) (zero-div (2 ^ s)) ∙ sym (xor_self x) ∙ ap (bit_xor x) (sym (ap (λ (e : ℕ). x / 2 ^ e) (zero-mul s) ∙ div-one x))
spread_ends s x (suc j) =
    ap (bit_xor (bit_xor (spread s j x) t)) (xor_shr (spread s j x) t s) ∙ xor_exchange (spread s j x) t (spread s j x / 2 ^ s) (t / 2 ^ s)
    ∙ ap₂ bit_xor (spread_ends s x j) (ap (bit_xor t) (shift_more x s j)) ∙ xor_between x t (x / 2 ^ (suc j * s))
  where
    t : ℕ
    t = x / 2 ^ (j * s)

-- the shifts of an XOR with a shift are the XOR of the shifts with theirs
spread_xor : (s x j : ℕ) → spread s j (bit_xor x (x / 2 ^ s)) ≡ bit_xor (spread s j x) (spread s j x / 2 ^ s)
unfolding xor_below
spread_xor s x zero = sym (ap (bit_xor 0) (zero-div (2 ^ s)))
spread_xor s x (suc j) =
    ap₂ bit_xor (spread_xor s x j) (xor_shr x (x / 2 ^ s) (j * s) ∙ ap (bit_xor t) later)
    ∙ xor_exchange (spread s j x) (spread s j x / 2 ^ s) t (t / 2 ^ s)
    ∙ ap (bit_xor (bit_xor (spread s j x) t)) (sym (xor_shr (spread s j x) t s))
  where
    t : ℕ
    t = x / 2 ^ (j * s)

    later : x / 2 ^ s / 2 ^ (j * s) ≡ t / 2 ^ s
    later = shr-shr x s (j * s) ∙ ap (λ (e : ℕ). x / 2 ^ e) (add_comm s (j * s)) ∙ sym (shr-shr x (j * s) s)

-- one term of the way back; the test of its shift changes nothing below 2^k
abbrev pub term : ℕ → ℕ → ℕ → ℕ → ℕ
term k s y j = cond (nat_lt (j * s) k) (y / 2 ^ (j * s)) 0

-- a number below 2^k, shifted by k or more, is 0
shifted_out : (k y e : ℕ) → y < 2 ^ k → k ≤ e → y / 2 ^ e ≡ 0
shifted_out k y e h le = div-eq_of_lt (omega (arith, pow_mono le))

-- a term whose shift is below k
term_in : (k s y j : ℕ) → j * s < k → term k s y j ≡ y / 2 ^ (j * s)
term_in k s y j l = cond-true (nat_lt (j * s) k) (y / 2 ^ (j * s)) 0 (lt-ltb (j * s) k l)

-- a term whose shift is k or more
term_out : (k s y j : ℕ) → k ≤ j * s → term k s y j ≡ 0
term_out k s y j l = cond-false (nat_lt (j * s) k) (y / 2 ^ (j * s)) 0 (le-ltb (j * s) k l)

-- below 2^k the terms are the shifts
term_is : (k s y : ℕ) → y < 2 ^ k → (j : ℕ) → term k s y j ≡ y / 2 ^ (j * s)
term_is k s y h j = ⊎_elim (term_in k s y j) (λ l. term_out k s y j l ∙ sym (shifted_out k y (j * s) h l)) (cases_lt (j * s) k)

-- one more term
xor_below_more : (j : ℕ) (f : ℕ → ℕ) → xor_below (j + 1) f ≡ bit_xor (xor_below j f) (f j)
unfolding xor_below
xor_below_more j f = ap (λ (i : ℕ). xor_below i f) (add-one j)

-- a turn of the way back that takes a term in
pub turn_in : (k s y j found next : ℕ) → j * s < k → found ≡ xor_below j (term k s y) → next ≡ bit_xor found (y / 2 ^ (j * s)) → next ≡ xor_below (j + 1) (term k s y)
turn_in k s y j found next l e n = n ∙ ap₂ bit_xor e (sym (term_in k s y j l)) ∙ sym (xor_below_more j (term k s y))

-- a turn that takes none in
pub turn_out : (k s y j found next : ℕ) → k ≤ j * s → found ≡ xor_below j (term k s y) → next ≡ found → next ≡ xor_below (j + 1) (term k s y)
turn_out k s y j found next l e n =
    n ∙ e ∙ sym (xor_below_more j (term k s y) ∙ ap (bit_xor (xor_below j (term k s y))) (term_out k s y j l) ∙ xor_zero_r (xor_below j (term k s y)))

-- a turn that takes a term in, its shift a number of its own
pub turn_by : (k s y j shift found : ℕ) → shift ≡ j * s → shift < k → found ≡ xor_below j (term k s y) → bit_xor found (y / 2 ^ shift) ≡ xor_below (j + 1) (term k s y)
turn_by k s y j shift found at l e = turn_in k s y j found (bit_xor found (y / 2 ^ shift)) (omega (arith, l, at)) e (ap (λ (n : ℕ). bit_xor found (y / 2 ^ n)) at)

-- after a shift of k or more no further term counts
rest_out : (k s y j : ℕ) → k ≤ j * s → (i : ℕ) → xor_below (i + j) (term k s y) ≡ xor_below j (term k s y)
unfolding xor_below
rest_out k s y j h zero = ap (λ (n : ℕ). xor_below n (term k s y)) (zero-add j)
rest_out k s y j h (suc i) =
    ap (λ (n : ℕ). xor_below n (term k s y)) one_more
    ∙ ap (bit_xor (xor_below (i + j) (term k s y))) (term_out k s y (i + j) (le_trans h (mul-le-mul_right s later)))
    ∙ xor_zero_r (xor_below (i + j) (term k s y)) ∙ rest_out k s y j h i
  where
    one_more : suc i + j ≡ suc (i + j)
    one_more = omega arith

    later : j ≤ i + j
    later = omega arith

-- so the terms up to there are the way back
pub turns_all : (k s y j found : ℕ) → y < 2 ^ k → 1 ≤ s → k ≤ j * s → found ≡ xor_below j (term k s y) → found ≡ xor_shift_back k s y
turns_all k s y j found h moves l e =
    e ∙ sym (rest_out k s y j l k) ∙ ap (λ (n : ℕ). xor_below n (term k s y)) (add_comm k j) ∙ rest_out k s y k (le-mul_of_pos_right k moves) j
    ∙ sym (below_in k (λ x. xor_below k (term k s x)) y h)

module _ (k s : ℕ) (moves : 1 ≤ s) where
  -- there keeps below 2^k
  pub forth_lt : (x : ℕ) → x < 2 ^ k → bit_xor x (x / 2 ^ s) < 2 ^ k
  forth_lt x h = xor_lt k x (x / 2 ^ s) h (omega (arith, shr_le x s))

  -- back keeps below 2^k
  pub back_lt : (y : ℕ) → y < 2 ^ k → xor_below k (term k s y) < 2 ^ k
  back_lt y h = xor_below_lt k (term k s y) (λ j. omega (arith, term_is k s y h j, shr_le y (j * s))) k

  -- k shifts of a number below 2^k leave only the number
  whole : (y : ℕ) → y < 2 ^ k → bit_xor y (y / 2 ^ (k * s)) ≡ y
  whole y h = ap (bit_xor y) (shifted_out k y (k * s) h (le-mul_of_pos_right k moves)) ∙ xor_zero_r y

  -- back after there
  pub shift_returns : (x : ℕ) → x < 2 ^ k → xor_below k (term k s (bit_xor x (x / 2 ^ s))) ≡ x
  shift_returns x h =
      xor_below_same (term k s (bit_xor x (x / 2 ^ s))) (λ i. bit_xor x (x / 2 ^ s) / 2 ^ (i * s)) (term_is k s (bit_xor x (x / 2 ^ s)) (forth_lt x h)) k
      ∙ spread_xor s x k ∙ spread_ends s x k ∙ whole x h

  -- there after back
  pub shift_arrives : (y : ℕ) → y < 2 ^ k → bit_xor (xor_below k (term k s y)) (xor_below k (term k s y) / 2 ^ s) ≡ y
  shift_arrives y h =
      ap (λ (z : ℕ). bit_xor z (z / 2 ^ s)) (xor_below_same (term k s y) (λ i. y / 2 ^ (i * s)) (term_is k s y h) k) ∙ spread_ends s y k ∙ whole y h
