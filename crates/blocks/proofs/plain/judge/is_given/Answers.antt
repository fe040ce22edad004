use Rattle.std.proofs.Common.{◌≡◌, ◌+◌, ◌-◌, get_or, take, drop, ap, arith}
use Rattle.std.proofs.lemmas.List.{take_rest}
use Rattle.blocks.proofs.PlainJudged.{many, dirty, clean}
use Rattle.blocks.proofs.plain.judge.is_given.Goals as goal

pub returns-then-count-gt-LIMIT : goal.returns-then-count-gt-LIMIT
returns-then-count-gt-LIMIT c =
    let s = c.args.shape in
    record { value = many c.args.block.now c.requires s.k s.v s.b (omega arith) c.if-count-gt-LIMIT.true }

pub returns-then-not-all_zero : goal.returns-then-not-all_zero
returns-then-not-all_zero c =
    let s = c.args.shape in
    record {
      value = dirty c.args.block.now c.requires s.k s.v s.b (omega arith) c.if-count-gt-LIMIT.false
          _ (take_rest c.args.block.now (1 + get_or c.args.block.now 0 0)) c.all_zero.result c.if-not-all_zero.true c.all_zero.ensures.value;
    }

pub returns : goal.returns
returns c =
    let s = c.args.shape in
    let n = get_or c.args.block.now 0 0 in
    let e : (1 + n) - 1 ≡ n = omega arith in
    record {
      value = clean c.args.block.now c.requires s.k s.v s.b (omega arith) c.if-count-gt-LIMIT.false
          _ (take_rest c.args.block.now (1 + n)) c.all_zero.result c.if-not-all_zero.false c.all_zero.ensures.value
          _ (ap (λ t. take t (drop 1 c.args.block.now)) e) c.entries_good.result c.entries_good.ensures.value;
    }
