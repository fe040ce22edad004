-- What a slot's ghost field says of its block, taken out of it: there is one proof at most.
use Rattle.std.proofs.Common.{◌≡◌, ℕ, ◌≤◌, List, length, get_or, sum, sym, ap, ap₂, ◌∙◌, subst}
use mathlib.Core.Logic.{∥∥₁_elim}
use mathlib.Core.List.{is_set as List-set}
use Prim.{IsProp}
use native.Mathlib.Bridge.{le_prop}
use native.Mathlib.Nat.{ℕ_set}
use Rattle.bits.specs.Marks.{marks, sizes}
use Rattle.bits.proofs.Unary.{sizes_marks}
use Rattle.blocks.specs.PlainLayout.{Stored}
use Rattle.blocks.specs.PackedLayout.{MarkedBlock}

stored_prop : (block : List ℕ) → IsProp (Stored block)
stored_prop block x y = λ i. record {
  few = le_prop x.few y.few i;
  exact = List-set ℕ_set _ _ x.exact y.exact i;
}

pub bare_stored : (block : List ℕ) → ∥ Stored block ∥₁ → Stored block
bare_stored block h = ∥∥₁_elim h (stored_prop block) (λ x. x)

-- the sizes that a block with marks has are those read from its first word
sizes_read : (k v b : ℕ) (block : List ℕ) (m : MarkedBlock k v b block) → sizes 16 (get_or block 0 0) ≡ m.marked.0
sizes_read k v b block m = ap₂ sizes (sym m.marked.1) m.marked.3 ∙ sizes_marks m.marked.0

pub bare_marked : (k v b : ℕ) (block : List ℕ) → ∥ MarkedBlock k v b block ∥₁ → MarkedBlock k v b block
bare_marked k v b block h =
    let ss = sizes 16 (get_or block 0 0) in
    record {
      long = ∥∥₁_elim h (ℕ_set _ _) (λ m. m.long);
      marked = (
        ss,
        ∥∥₁_elim h (ℕ_set _ _) (λ m. ap length (sizes_read k v b block m) ∙ m.marked.1),
        ∥∥₁_elim h le_prop (λ m. subst (λ t. sum t ≤ 48) (sym (sizes_read k v b block m)) m.marked.2),
        ∥∥₁_elim h (ℕ_set _ _) (λ m. m.marked.3 ∙ ap marks (sym (sizes_read k v b block m))),
      );
    }
