use Rattle.std.proofs.Common.{◌≡◌, Some, rules, sym, ◌∙◌}
use Rattle.blocks.proofs.Called.{inside_words, reached}
use Rattle.blocks.proofs.state.BlockTable.spot.Goals as goal
use Rattle.blocks.specs.Means.{items}

pub overflow_mul-start : goal.overflow_mul-start
overflow_mul-start g c =
    let t = c.args.self.now in
    let e : t.shape ≡ Some c.in_ok-shape.shape = search rules in
    let ok = sym c.allows.ensures.value ∙ c.if-not-allows.false in
    let h = inside_words g.L.Blocks.layout g.met.L.Blocks.lawful (items t) t.shape t.well t.exact c.in_ok-shape.shape e c.args.slot c.args.quotient c.args.value ok c.slots.result c.width-width.result c.slots.ensures.value c.width-width.ensures.value in
    search rules

pub overflow_add-result : goal.overflow_add-result
overflow_add-result g c =
    let t = c.args.self.now in
    let e : t.shape ≡ Some c.in_ok-shape.shape = search rules in
    let ok = sym c.allows.ensures.value ∙ c.if-not-allows.false in
    let h = inside_words g.L.Blocks.layout g.met.L.Blocks.lawful (items t) t.shape t.well t.exact c.in_ok-shape.shape e c.args.slot c.args.quotient c.args.value ok c.slots.result c.width-width.result c.slots.ensures.value c.width-width.ensures.value in
    search rules

pub returns : goal.returns
returns g c =
    let t = c.args.self.now in
    let e : t.shape ≡ Some c.in_ok-shape.shape = search rules in
    let ok = sym c.allows.ensures.value ∙ c.if-not-allows.false in
    record { value = reached g.L.Blocks.layout g.met.L.Blocks.lawful (items t) t.shape t.well t.exact c.in_ok-shape.shape e c.args.slot c.args.quotient c.args.value ok c.slots.result c.width-width.result c.slots.ensures.value c.width-width.ensures.value c.slots-2.result c.slots-2.ensures.value }
