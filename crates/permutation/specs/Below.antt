-- Functions of the numbers below 2^k that leave every other number alone: the laws of a permutation, once for all formulas.
use Rattle.std.specs.Prelude.{◌≡◌, ℕ, ◌^◌, ◌<◌, ◌≤◌, nat_lt}
use Rattle.std.proofs.Common.{sym, ap, ◌∙◌, subst, ⊎_elim}
use Rattle.std.proofs.lemmas.Bool.{cases_lt, lt-ltb, le-ltb, cond-true, cond-false}
use Rattle.permutation.specs.Formulas.{below}

-- a number below 2^k is carried by the function
pub below_in : (k : ℕ) (f : ℕ → ℕ) (n : ℕ) → n < 2 ^ k → below k f n ≡ f n
below_in k f n h = cond-true (nat_lt n (2 ^ k)) (f n) n (lt-ltb n (2 ^ k) h)

-- a number from 2^k on stays
pub below_out : (k : ℕ) (f : ℕ → ℕ) (n : ℕ) → 2 ^ k ≤ n → below k f n ≡ n
below_out k f n h = cond-false (nat_lt n (2 ^ k)) (f n) n (le-ltb n (2 ^ k) h)

-- where the function stays below 2^k, so does the whole
pub below_within : (k : ℕ) (f : ℕ → ℕ) → ((n : ℕ) → n < 2 ^ k → f n < 2 ^ k) → (n : ℕ) → n < 2 ^ k → below k f n < 2 ^ k
below_within k f within n h = subst (λ (x : ℕ). x < 2 ^ k) (sym (below_in k f n h)) (within n h)

-- where g undoes f below 2^k, the whole is undone everywhere
pub below_returns : (k : ℕ) (f g : ℕ → ℕ) → ((n : ℕ) → n < 2 ^ k → f n < 2 ^ k) → ((n : ℕ) → n < 2 ^ k → g (f n) ≡ n) → (n : ℕ) → below k g (below k f n) ≡ n
below_returns k f g within undoes n =
    ⊎_elim
    (λ h. ap (below k g) (below_in k f n h) ∙ below_in k g (f n) (within n h) ∙ undoes n h)
    (λ h. ap (below k g) (below_out k f n h) ∙ below_out k g n h)
    (cases_lt n (2 ^ k))
