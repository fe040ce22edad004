use Rattle.std.proofs.Common.{◌≡◌, None, sym, ap, ◌∙◌, ⊎_elim, arith, rules}
use Rattle.table.specs.Widths.{shape_where, widths}
use Rattle.table.proofs.Shapes.{unshaped}
use Rattle.blocks.specs.PackedLaws.{too_low, too_high, unbounded}
use Rattle.blocks.proofs.PackedShapes.{none_for, shape_for}
use Rattle.blocks.proofs.packed.PackedBlocks.shape_for.Goals as goal

pub returns-then-b-lt-NARROWEST : goal.returns-then-b-lt-NARROWEST
returns-then-b-lt-NARROWEST c =
    let n = c.args.words in let k = c.args.k in let v = c.args.v in let b = c.args.b in
    record { value = ap (λ t. shape_where t k v b) (sym (⊎_elim (too_low n k v b) (λ p. too_high n k v b p.1) c.then-b-lt-NARROWEST.either)) }

pub returns-in_err-shape : goal.returns-in_err-shape
returns-in_err-shape c =
    let n = c.args.words in let k = c.args.k in let v = c.args.v in let b = c.args.b in
    let r : c.from_residual.result ≡ None = search rules in
    record { value = ap widths r ∙ ap (λ t. shape_where t k v b) (sym (unbounded n k v b (omega arith) (omega arith) (unshaped _ k v b c.in_err-shape.ensures.value))) }

pub returns-then-count-width : goal.returns-then-count-width
returns-then-count-width c =
    record { value = none_for c.args.words c.args.k c.args.v c.args.b (omega arith) (omega arith) c.in_ok-shape.shape c.in_ok-shape.ensures.value c.count.result c.width.result c.count.ensures.value c.width.ensures.value (omega arith) }

pub returns : goal.returns
returns c =
    record { value = shape_for c.args.words c.args.k c.args.v c.args.b (omega arith) (omega arith) c.in_ok-shape.shape c.in_ok-shape.ensures.value c.count.result c.width.result c.count.ensures.value c.width.ensures.value (omega arith) }
