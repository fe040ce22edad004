-- A run cancelled key by key.
use Rattle.std.proofs.Common.{◌≡◌, ℕ, suc, Bool, true, false, cond, not, eqb, [], ◌∷◌, None, refl, ap, subst, ⊎_elim, arith}
use Rattle.std.proofs.lemmas.Bool.{cases_eq, eq-eqb, ne_eqb}
use Rattle.std.proofs.lemmas.Bool.Decides.{nat_tests}
use Rattle.table.specs.Meaning.{value_in, without}
use Rattle.model.specs.Entries.{Entries, within_run, without_run}
use Rattle.model.specs.Laws.{Apart}
use Rattle.model.proofs.Runs.{not_there, run_none}

-- a list without a key, where no key stands twice
pub without_one : (l : Entries) (m : ℕ) → Apart l → without_run m 1 l ≡ without l m
without_one [] m a = refl
without_one (e ∷ l) m a =
    ⊎_elim
    (λ same.
    let u : eqb e.0 m ≡ true = eq-eqb e.0 m same in
    let t : within_run m 1 e.0 ≡ true = grind (arith, nat_tests) in
    rw (u, t) (untouched l m (subst (λ y. value_in l y ≡ None) same a.0)))
    (λ off.
    let u : eqb e.0 m ≡ false = ne_eqb e.0 m off in
    let t : within_run m 1 e.0 ≡ false = grind (arith, nat_tests) in
    rw (u, t) (ap (λ r. e ∷ r) (without_one l m a.1)))
    (cases_eq e.0 m)
  where
    untouched : (l : Entries) (m : ℕ) → value_in l m ≡ None → without_run m 1 l ≡ l
    untouched [] m h = refl
    untouched (d ∷ l) m h =
        let ways = not_there d l m h in
        let off : d.0 ≡ m → ⊥ = ways.0 in
        let t : within_run m 1 d.0 ≡ false = ⊎_elim (λ e. absurd (off e)) (λ e. single d.0 m e) (cases_eq d.0 m) in
        rw t (ap (λ r. d ∷ r) (untouched l m ways.1))
      where
        single : (x m : ℕ) → (x ≡ m → ⊥) → within_run m 1 x ≡ false
        single x m off = grind (arith, nat_tests)

-- the first key of a run, then the others
pub without_more : (l : Entries) (m n : ℕ) → without_run m (suc n) l ≡ without_run (suc m) n (without_run m 1 l)
without_more [] m n = refl
without_more (e ∷ l) m n = by (within_run m 1 e.0) refl (within_run (suc m) n e.0) refl (without_more l m n)
  where
    by : (t : Bool) → within_run m 1 e.0 ≡ t → (u : Bool) → within_run (suc m) n e.0 ≡ u → without_run m (suc n) l ≡ without_run (suc m) n (without_run m 1 l)
        → without_run m (suc n) (e ∷ l) ≡ without_run (suc m) n (cond (not t) (e ∷ without_run m 1 l) (without_run m 1 l))
    by true p u q ih = let w : within_run m (suc n) e.0 ≡ true = grind (arith, nat_tests) in rw w ih
    by false p true q ih = let w : within_run m (suc n) e.0 ≡ true = grind (arith, nat_tests) in rw (w, q) ih
    by false p false q ih = let w : within_run m (suc n) e.0 ≡ false = grind (arith, nat_tests) in rw (w, q) (ap (λ r. e ∷ r) ih)

-- no run at all
pub without_none : (l : Entries) (m : ℕ) → without_run m 0 l ≡ l
without_none [] m = refl
without_none (e ∷ l) m = let t = run_none m e.0 in let ih = without_none l m in rw (t, ih)
