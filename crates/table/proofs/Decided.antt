-- What a test decides that answers true or false.
use Rattle.std.proofs.Common.{◌≡◌, ℕ, true, false, Decides, refl, arith}

-- a test that answers false decides what does not hold
pub refuted : (P : Type 0) → (P → ⊥) → Decides false P
refuted P h = ((λ e. let z : ◌≡◌ {A = ℕ} 0 1 = cc (e) in absurd (omega arith)), (λ p. absurd (h p)))

-- a test that answers true decides what holds
pub shown : (P : Type 0) → P → Decides true P
shown P p = ((λ e. p), (λ q. refl))
