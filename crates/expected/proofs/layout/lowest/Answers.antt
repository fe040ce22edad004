use Rattle.std.proofs.Common.{◌≡◌, ℕ, ◌+◌, ◌*◌, ◌/◌, ◌%◌, ◌^◌, ap, ◌∙◌, arith}
use Rattle.std.proofs.lemmas.Grind.{common_steps}
use Rattle.std.proofs.lemmas.Nat.{mod-pow-add}
use Rattle.expected.proofs.layout.lowest.Goals as goal

-- one bit more
mod_more : (n i : ℕ) → n % 2 ^ (i + 1) ≡ (n / 2 ^ i % 2) * 2 ^ i + n % 2 ^ i
mod_more n i =
    let e : i + 1 ≡ 1 + i = omega arith in
    ap (λ (k : ℕ). n % 2 ^ k) e ∙ mod-pow-add n 1 i

pub loop-i-preserved : goal.loop-i-preserved
loop-i-preserved c = record { low = grind (arith, common_steps, mod_more); room = grind (arith, common_steps) }
