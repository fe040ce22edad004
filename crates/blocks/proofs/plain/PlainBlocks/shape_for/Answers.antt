use Rattle.std.proofs.Common.{sym, ap, ◌∙◌, arith}
use Rattle.std.proofs.lemmas.Nat.{one_shl}
use Rattle.table.specs.Widths.{shape_where}
use Rattle.blocks.specs.PlainLaws.{too_low, too_few, fits_rest}
use Rattle.blocks.proofs.plain.PlainBlocks.shape_for.Goals as goal
use Rattle.blocks.proofs.plain.PlainBlocks.shape_for.Goals.{then-b-gt-WIDEST-via-then-b-gt-WIDEST, then-b-gt-WIDEST-via-else-b-gt-WIDEST+then-b-words}

pub returns-then-b-gt-WIDEST : goal.returns-then-b-gt-WIDEST
returns-then-b-gt-WIDEST c =
    let n = c.args.words in let k = c.args.k in let v = c.args.v in let b = c.args.b in
    record {
      value = ap (λ t. shape_where t k v b) (sym (elim c.then-b-gt-WIDEST.branch [
        | then-b-gt-WIDEST-via-then-b-gt-WIDEST w ↦ too_low n k v b w.if-b-gt-WIDEST.true
        | then-b-gt-WIDEST-via-else-b-gt-WIDEST+then-b-words w ↦ too_few n k v b (let e = one_shl b 64 (omega arith) in omega arith)
      ]));
    }

pub returns : goal.returns
returns c =
    let n = c.args.words in let k = c.args.k in let v = c.args.v in let b = c.args.b in
    let e = one_shl b 64 (omega arith) in
    record { value = c.new.ensures.value ∙ ap (λ t. shape_where t k v b) (fits_rest n k v b c.if-b-gt-WIDEST.false (omega arith)) }
