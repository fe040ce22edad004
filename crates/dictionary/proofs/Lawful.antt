-- What the traits' laws give, of any permutation and any table.
use Rattle.std.proofs.Common.{◌≡◌, ℕ, ◌^◌, ◌<◌, ◌≤◌, subst, arith}
use Rattle.std.proofs.lemmas.Nat.{pow_pos}
use Rattle.permutation.specs.declared.Permutation as permutation
use Rattle.table.specs.declared.table.Table as table
use Rattle.dictionary.proofs.Cut.{Mixes}

-- the laws that the proofs use
pub record Lawful {P T : Type 0} (pm : permutation.Ghosts P) (ta : table.Ghosts T) : Type 0 where
  pub within : (p : P) (n : ℕ) → n < 2 ^ pm.width p → pm.forth p n < 2 ^ pm.width p
  pub returns : (p : P) (n : ℕ) → pm.back p (pm.forth p n) ≡ n
  pub beyond : (p : P) (n : ℕ) → 2 ^ pm.width p ≤ n → pm.forth p n ≡ n
  pub grouped : (j : ℕ) × (ta.group ≡ 2 ^ j)

-- from the laws one by one
pub lawful : {P T : Type 0} (pm : permutation.Ghosts P) (ta : table.Ghosts T)
    → ((p : P) (n : ℕ) → n < 2 ^ pm.width p → pm.forth p n < 2 ^ pm.width p)
    → ((p : P) (n : ℕ) → pm.back p (pm.forth p n) ≡ n)
    → ((p : P) (n : ℕ) → 2 ^ pm.width p ≤ n → pm.forth p n ≡ n)
    → ((j : ℕ) × (ta.group ≡ 2 ^ j)) → Lawful pm ta
lawful pm ta a b c d = record { within = a; returns = b; beyond = c; grouped = d }

-- a group has a slot at least
pub some_slot : (S : ℕ) → ((j : ℕ) × (S ≡ 2 ^ j)) → 0 < S
some_slot S g = let p = pow_pos g.0 in let e = g.1 in omega (arith, p, e)

module _ {P T : Type 0} {pm : permutation.Ghosts P} {ta : table.Ghosts T} (law : Lawful pm ta) where
  -- the permutation, at its width
  pub mixes : (p : P) (k : ℕ) → pm.width p ≡ k → Mixes (pm.forth p) (pm.back p) k
  mixes p k e = subst (λ n. Mixes (pm.forth p) (pm.back p) n) e (record { within = law.within p; returns = λ m h. law.returns p m })

  -- what is past it stays
  pub beyond : (p : P) (k : ℕ) → pm.width p ≡ k → (m : ℕ) → 2 ^ k ≤ m → pm.forth p m ≡ m
  beyond p k e = subst (λ n. (m : ℕ) → 2 ^ n ≤ m → pm.forth p m ≡ m) e (law.beyond p)

  -- a group of the table has a slot at least
  pub grouped : 0 < ta.group
  grouped = some_slot ta.group law.grouped
