-- Permutations of some width, taken as permutations of a larger one: the numbers between stay. Two in a row.
use Rattle.std.specs.Prelude.{◌≡◌, ℕ, ◌^◌, ◌<◌, ◌≤◌}
use Rattle.std.proofs.Common.{ap, ◌∙◌, ⊎_elim, le_trans, arith, pow_mono}
use Rattle.std.proofs.lemmas.Bool.{cases_lt}
use Rattle.permutation.specs.Formulas.{chained}

-- one keeps below any larger power
wider_within : (f : ℕ → ℕ) (w m : ℕ) → w ≤ m → ((n : ℕ) → n < 2 ^ w → f n < 2 ^ w) → ((n : ℕ) → 2 ^ w ≤ n → f n ≡ n) → (n : ℕ) → n < 2 ^ m → f n < 2 ^ m
wider_within f w m le within beyond n h =
    ⊎_elim (λ l. omega (arith, within n l, pow_mono le)) (λ l. omega (arith, beyond n l)) (cases_lt n (2 ^ w))

-- two in a row keep below any power that is as large as both
pub chained_within : (f g : ℕ → ℕ) (v w m : ℕ) → v ≤ m → w ≤ m → ((n : ℕ) → n < 2 ^ v → f n < 2 ^ v) → ((n : ℕ) → 2 ^ v ≤ n → f n ≡ n) → ((n : ℕ) → n < 2 ^ w → g n < 2 ^ w) → ((n : ℕ) → 2 ^ w ≤ n → g n ≡ n) → (n : ℕ) → n < 2 ^ m → chained f g n < 2 ^ m
chained_within f g v w m lv lw fin fout gin gout n h = wider_within g w m lw gin gout (f n) (wider_within f v m lv fin fout n h)

-- two in a row leave alone what both leave alone
pub chained_beyond : (f g : ℕ → ℕ) (v w m : ℕ) → v ≤ m → w ≤ m → ((n : ℕ) → 2 ^ v ≤ n → f n ≡ n) → ((n : ℕ) → 2 ^ w ≤ n → g n ≡ n) → (n : ℕ) → 2 ^ m ≤ n → chained f g n ≡ n
chained_beyond f g v w m lv lw fout gout n h = ap g (fout n (le_trans (pow_mono lv) h)) ∙ gout n (le_trans (pow_mono lw) h)
