use Rattle.std.proofs.Common.{◌≡◌, ◌+◌, ◌*◌, ◌/◌, ◌<◌, min, Ok, sym, ap, ◌∙◌, arith}
use Rattle.std.proofs.lemmas.Result.{err_from_is_err_and}
use Rattle.table.proofs.Loads.{group_pos, sum_more, sum_stops, sum_ends}
use Rattle.table.proofs.table.Table.load.Goals as goal

pub returns-in_err-size : goal.returns-in_err-size
returns-in_err-size g c =
    let T = g.Self.Table in let t = c.args.self.now in let s = c.args.slot in let i = c.loop-i.i in
    let p = err_from_is_err_and c.from_residual.result c.from_residual.ensures.1 in
    record {
      value = λ h.
          let e : c.saturating_add.result ≡ min (s / T.group * T.group + i) 18446744073709551615 =
          c.saturating_add.ensures ∙ ap (λ n. min (s / n * n + i) 18446744073709551615) c.group-group.ensures.value in
          let il : i < T.group = omega (arith, c.group-group.ensures.value, c.loop-i-test.true) in
          rw (p.1, p.2) (sum_stops T.group T.limit (group_pos T.group g.met.Self.Table.grouped) (T.fits t) (g.met.Self.Table.fitting t) (T.means t) (g.met.Self.Table.well t h)
          s i c.loop-i.sum c.ranges.slot.fits il (c.loop-i.invariant h) c.saturating_add.result e c.in_err-size.field-0.0 (sym (c.size.ensures.value h) ∙ c.in_err-size.was));
    }

pub loop-i-preserved : goal.loop-i-preserved
loop-i-preserved g c h =
    let T = g.Self.Table in let t = c.args.self.now in let s = c.args.slot in let i = c.loop-i.i in
    let e : c.saturating_add.result ≡ min (s / T.group * T.group + i) 18446744073709551615 =
    c.saturating_add.ensures ∙ ap (λ n. min (s / n * n + i) 18446744073709551615) c.group-group.ensures.value in
    let il : i < T.group = omega (arith, c.group-group.ensures.value, c.loop-i-test.true) in
    sum_more T.group T.limit (group_pos T.group g.met.Self.Table.grouped) (T.fits t) (g.met.Self.Table.fitting t) (T.means t) (g.met.Self.Table.well t h)
    s i c.loop-i.sum il (c.loop-i.invariant h) c.saturating_add.result e c.in_ok-size.size (sym (c.size.ensures.value h) ∙ c.in_ok-size.was)
    c.saturating_add-sum.result c.saturating_add-sum.ensures

pub returns : goal.returns
returns g c =
    let T = g.Self.Table in let t = c.args.self.now in
    record {
      value = λ h.
          let is : c.loop-i.i ≡ T.group = omega (arith, c.group-group.ensures.value, c.loop-i-test.false, c.loop-i.auto.i-end) in
          let small : T.limit < 18446744073709551616 = omega (arith, c.limit.ensures.value, c.limit.type_inv) in
          ap Ok (c.min.ensures ∙ ap (min c.loop-i.sum) c.limit.ensures.value)
          ∙ sum_ends T.group T.limit (group_pos T.group g.met.Self.Table.grouped) (T.fits t) (g.met.Self.Table.fitting t) (T.means t) (g.met.Self.Table.well t h)
          c.args.slot c.loop-i.i c.loop-i.sum is (c.loop-i.invariant h) small;
    }
