use Rattle.std.proofs.Common.{◌≡◌, ◌-◌, ◌*◌, min, max, length, ap, ◌∙◌, arith}
use Rattle.bits.specs.Area.{number, words_of, field_removed}
use Rattle.bits.proofs.Edits.{remove_all, remove_none}
use Rattle.bits.proofs.fields.remove.Goals as goal

pub returns-then-index-count : goal.returns-then-index-count
returns-then-index-count c = remove_none _ _ _ _ c.if-index-count.true (λ i. (c.type_inv.area i).fits)

pub returns : goal.returns
returns c =
    let ws = c.args.area.now in
    let w = c.of-width.result.bits in
    let n = c.args.count in
    let t = c.args.index in
    let e : c.min-end.result ≡ min (n * w) (64 * length ws) = omega (arith, c.min-end.ensures, c.bit_len.ensures, c.place.ensures) in
    let l : c.max-last.result ≡ max (c.min-end.result - w) c.place-from.result = omega (arith, c.max-last.ensures, c.saturating_sub.ensures, c.bits.ensures) in
    remove_all ws c.lower.new.area _ w n t c.place-from.result c.min-end.result c.max-last.result c.if-index-count.false c.place-from.ensures e l
    c.lower.auto.area c.lower.ensures c.write_bits.ensures
    ∙ ap (λ u. words_of (length ws) (field_removed u n (number ws) t)) c.of-width.ensures
