use Rattle.std.proofs.Common.{ℕ, ◌^◌, ◌<◌, get_or, rules}
use Rattle.std.proofs.lemmas.Bool.Decides.{when_true, when_false, not_from_Decides}
use Rattle.table.proofs.Decided.{refuted}
use Rattle.blocks.specs.PackedLayout.{MarkedBlock}
use Rattle.blocks.specs.Stored.{good_given, marked_given}
use Rattle.blocks.proofs.PackedJudged.{clean_given, given_from}
use Rattle.blocks.proofs.packed.judge.is_given.Goals as goal

pub returns-then-not-is_marks : goal.returns-then-not-is_marks
returns-then-not-is_marks c =
    let s = c.args.shape in
    record { value = refuted _ (λ g. when_false _ _ c.if-not-is_marks.true c.is_marks.ensures (marked_given s.k s.v s.b c.args.block.now g).marked) }

pub returns-then-not-clean : goal.returns-then-not-clean
returns-then-not-clean c =
    let s = c.args.shape in
    record {
      value = refuted _ (λ g.
          let m = marked_given s.k s.v s.b c.args.block.now g in
          let cl = clean_given s.k s.v s.b c.args.block.now g m in
          not_from_Decides c.clean.result c.clean.ensures.value c.if-not-clean.true (cl.quotients, cl.values));
    }

pub returns : goal.returns
returns c =
    let s = c.args.shape in
    let block = c.args.block.now in
    let m : MarkedBlock s.k s.v s.b block = record { long = c.requires; marked = when_true _ _ c.if-not-is_marks.false c.is_marks.ensures } in
    let fits : (i : ℕ) → get_or block i 0 < 2 ^ 64 = λ i. let f : get_or c.args.block.now i 0 < 2 ^ 64 = search rules in f in
    let p = c.clean.ensures.value.0 c.if-not-clean.false in
    record {
      value = (
        (λ e. given_from s.k s.v s.b block m fits (record { quotients = p.0; values = p.1 }) (c.all_apart.ensures.value.0 e)),
        (λ g. c.all_apart.ensures.value.1 (λ j h. (good_given s.k s.v s.b block g).good j h)),
      );
    }
