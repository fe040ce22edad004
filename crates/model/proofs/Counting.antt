-- How many entries of a list pass a test.
use Rattle.std.proofs.Common.{◌≡◌, ℕ, suc, ◌+◌, ◌≤◌, Bool, true, false, cond, ◌&&◌, [], ◌∷◌, ◌++◌, filter, refl, ap, arith}
use Rattle.model.specs.Entries.{Entries, count_if}

-- of two lists, one after the other
pub count_append : (p : ℕ × ℕ → Bool) (a b : Entries) → count_if p (a ++ b) ≡ count_if p a + count_if p b
count_append p [] b = omega arith
count_append p (e ∷ a) b = by (p e) (count_if p (a ++ b)) (count_if p a) (count_if p b) (count_append p a b)
  where
    by : (t : Bool) (x y z : ℕ) → x ≡ y + z → cond t (suc x) x ≡ cond t (suc y) y + z
    by true x y z h = omega arith
    by false x y z h = h

-- of the entries kept by another test
pub count_kept : (p q : ℕ × ℕ → Bool) (l : Entries) → count_if p (filter q l) ≡ count_if (λ e. q e && p e) l
count_kept p q [] = refl
count_kept p q (e ∷ l) = by (q e) (count_kept p q l)
  where
    by : (t : Bool) → count_if p (filter q l) ≡ count_if (λ e. q e && p e) l
        → count_if p (cond t (e ∷ filter q l) (filter q l)) ≡ cond (t && p e) (suc (count_if (λ e. q e && p e) l)) (count_if (λ e. q e && p e) l)
    by true ih = more (p e) ih
      where
        more : (t : Bool) → count_if p (filter q l) ≡ count_if (λ e. q e && p e) l
            → cond t (suc (count_if p (filter q l))) (count_if p (filter q l)) ≡ cond t (suc (count_if (λ e. q e && p e) l)) (count_if (λ e. q e && p e) l)
        more true ih = ap suc ih
        more false ih = ih
    by false ih = ih

-- one more test lets fewer pass
pub count_fewer : (p q : ℕ × ℕ → Bool) (l : Entries) → count_if (λ e. q e && p e) l ≤ count_if p l
count_fewer p q [] = omega arith
count_fewer p q (e ∷ l) = by (q e) (p e) (count_if (λ e. q e && p e) l) (count_if p l) (count_fewer p q l)
  where
    by : (t u : Bool) (x y : ℕ) → x ≤ y → cond (t && u) (suc x) x ≤ cond u (suc y) y
    by true true x y h = omega arith
    by true false x y h = h
    by false true x y h = omega arith
    by false false x y h = h

-- a test that is one of two others, never both
pub two_parts : (a b c : ℕ × ℕ → Bool) → ((e : ℕ × ℕ) → cond (a e) 1 0 ≡ cond (b e) 1 0 + cond (c e) 1 0) → (l : Entries) → count_if a l ≡ count_if b l + count_if c l
two_parts a b c h [] = refl
two_parts a b c h (e ∷ l) = by (a e) (b e) (c e) (count_if a l) (count_if b l) (count_if c l) (h e) (two_parts a b c h l)
  where
    by : (t u v : Bool) (x y z : ℕ) → cond t 1 0 ≡ cond u 1 0 + cond v 1 0 → x ≡ y + z → cond t (suc x) x ≡ cond u (suc y) y + cond v (suc z) z
    by t u v x y z d e = grind arith
