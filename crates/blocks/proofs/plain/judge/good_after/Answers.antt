use Rattle.std.proofs.Common.{◌-◌, ◌/◌, ◌%◌, ◌^◌, ◌<◌, map, arith}
use Rattle.std.proofs.lemmas.Nat.{one_shl}
use Rattle.blocks.specs.PlainLayout.{entry_of}
use Rattle.blocks.proofs.PlainJudged.{none_decides}
use Rattle.blocks.proofs.plain.judge.good_after.Goals as goal

pub returns : goal.returns
returns c =
    let s = c.args.shape in let w = c.args.word in
    let a = one_shl (s.k - s.b) 64 (omega arith) in
    let b = one_shl s.v 64 (omega arith) in
    let low : w % 2 ^ 32 < 2 ^ (s.k - s.b) = omega arith in
    let high : w / 2 ^ 32 < 2 ^ s.v = omega arith in
    record {
      value = none_decides (w % 2 ^ 32 < 2 ^ (s.k - s.b)) (w / 2 ^ 32 < 2 ^ s.v) low high (map entry_of c.args.earlier.now) (w % 2 ^ 32) c.place.result c.is_none.result c.is_none.ensures c.place.ensures.value;
    }
