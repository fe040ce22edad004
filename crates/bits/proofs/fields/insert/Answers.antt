use Rattle.std.proofs.Common.{◌≡◌, ◌+◌, ◌-◌, ◌*◌, min, max, length, ap, ◌∙◌, add-mul, arith}
use Rattle.bits.specs.Area.{number, words_of, field_inserted}
use Rattle.bits.proofs.Edits.{insert_all}
use Rattle.bits.proofs.fields.insert.Goals as goal

pub returns : goal.returns
returns c =
    let ws = c.args.area.now in
    let w = c.of-width.result.bits in
    let n = c.args.count in
    let e : c.min-end.result ≡ min ((n + 1) * w) (64 * length ws) = omega (arith, c.min-end.ensures, c.bit_len.ensures, c.place.ensures, c.bits.ensures, add-mul n 1 w) in
    let l : c.max-last.result ≡ max (c.min-end.result - w) c.place-from.result = omega (arith, c.max-last.ensures, c.saturating_sub.ensures, c.bits-2.ensures) in
    insert_all ws c.raise.new.area _ w n c.args.index c.args.value c.min.result c.place-from.result c.min-end.result c.max-last.result c.min.ensures
    c.place-from.ensures e l
    c.raise.auto.area c.raise.ensures c.write_bits.ensures
    ∙ ap (λ u. words_of (length ws) (field_inserted u n (number ws) c.args.index c.args.value)) c.of-width.ensures
