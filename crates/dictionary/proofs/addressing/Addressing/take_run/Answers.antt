use Rattle.std.proofs.Common.{◌≡◌, ℕ, ◌++◌, ◌≤◌, ltb, None, Ok, Err, Option, refl, ap, ◌∙◌, subst}
use Rattle.std.proofs.lemmas.Result.{err_from_is_err_and}
use Rattle.model.specs.declared.run_refusal.RunRefusal.{RunRefusal}
use Rattle.model.specs.Entries.{Entries, run_of, take_refusal}
use Rattle.dictionary.specs.declared.addressing.Addressing.{Addressing}
use Rattle.dictionary.specs.declared.run.Run.{Run}
use Rattle.dictionary.specs.Stored.{Holds, slot_by}
use Rattle.dictionary.specs.Results.{reach, reply, unreached}
use Rattle.dictionary.proofs.Runs.{ends_done, ends_refused, ends_short, of_both}
use Rattle.dictionary.proofs.addressing.Addressing.take_run.Goals as goal

pub returns-in_err-may_take : goal.returns-in_err-may_take
returns-in_err-may_take g c =
    let judge : Entries → ℕ → Option RunRefusal = λ l n. take_refusal (slot_by g.P.Permutation c.args.self.now) g.T.Table.group g.T.Table.limit l c.args.run.first c.args.run.value 0 n in
    let new : Entries → ℕ → Entries = λ l n. l ++ run_of c.args.run.first c.args.run.value n in
    let reaches = reach c.args.self.now.shape.k c.args.self.now.shape.v c.args.run.first c.args.run.length c.args.run.value in
    let most : reaches ≤ c.args.run.length = subst (λ (y : Run). y.length ≤ c.args.run.length) c.reached-reached.ensures.run c.reached-reached.ensures.most in
    let judged = of_both (λ (x : Addressing g.row.P.Denot) (y : Run). (l : Entries) → Holds g.P.Permutation g.T.Table x c.args.table.now l → c.may_take.result ≡ reply (take_refusal (slot_by g.P.Permutation x) g.T.Table.group g.T.Table.limit l y.first y.value 0 y.length)) c.reached-reached.ensures.by c.reached-reached.ensures.run c.may_take.ensures in
    let out = err_from_is_err_and c.from_residual.result c.from_residual.ensures.1 in
    let ends = ends_refused (Holds g.P.Permutation g.T.Table c.args.self.now) judge new reaches c.args.run.length most c.args.table.now c.may_take.result _ c.from_residual.result judged refl c.in_err-may_take.field-0.0 c.in_err-may_take.was (out.1 ∙ ap Err out.2) in
    record {
      value = ends.value;
      after = ends.after;
      kept = ends.kept;
      len = refl;
      fits = refl;
    }

pub returns-in_err-covers : goal.returns-in_err-covers
returns-in_err-covers g c =
    let judge : Entries → ℕ → Option RunRefusal = λ l n. take_refusal (slot_by g.P.Permutation c.args.self.now) g.T.Table.group g.T.Table.limit l c.args.run.first c.args.run.value 0 n in
    let new : Entries → ℕ → Entries = λ l n. l ++ run_of c.args.run.first c.args.run.value n in
    let reaches = reach c.args.self.now.shape.k c.args.self.now.shape.v c.args.run.first c.args.run.length c.args.run.value in
    let most : reaches ≤ c.args.run.length = subst (λ (y : Run). y.length ≤ c.args.run.length) c.reached-reached.ensures.run c.reached-reached.ensures.most in
    let judged = of_both (λ (x : Addressing g.row.P.Denot) (y : Run). (l : Entries) → Holds g.P.Permutation g.T.Table x c.args.table.now l → c.may_take.result ≡ reply (take_refusal (slot_by g.P.Permutation x) g.T.Table.group g.T.Table.limit l y.first y.value 0 y.length)) c.reached-reached.ensures.by c.reached-reached.ensures.run c.may_take.ensures in
    let reached = subst (λ (y : Run). c.covers.result ≡ reply (unreached y.length (ltb y.length c.args.run.length))) c.reached-reached.ensures.run c.covers.ensures in
    let out = err_from_is_err_and c.from_residual-in_err-covers.result c.from_residual-in_err-covers.ensures.1 in
    let ends = ends_short (Holds g.P.Permutation g.T.Table c.args.self.now) judge new reaches c.args.run.length most c.args.table.now c.may_take.result c.covers.result c.from_residual-in_err-covers.result judged reached c.in_err-covers.field-0.0 c.in_ok-may_take.was c.in_err-covers.was (out.1 ∙ ap Err out.2) in
    record {
      value = ends.value;
      after = ends.after;
      kept = ends.kept;
      len = refl;
      fits = refl;
    }

pub returns : goal.returns
returns g c =
    let judge : Entries → ℕ → Option RunRefusal = λ l n. take_refusal (slot_by g.P.Permutation c.args.self.now) g.T.Table.group g.T.Table.limit l c.args.run.first c.args.run.value 0 n in
    let new : Entries → ℕ → Entries = λ l n. l ++ run_of c.args.run.first c.args.run.value n in
    let reaches = reach c.args.self.now.shape.k c.args.self.now.shape.v c.args.run.first c.args.run.length c.args.run.value in
    let most : reaches ≤ c.args.run.length = subst (λ (y : Run). y.length ≤ c.args.run.length) c.reached-reached.ensures.run c.reached-reached.ensures.most in
    let judged = of_both (λ (x : Addressing g.row.P.Denot) (y : Run). (l : Entries) → Holds g.P.Permutation g.T.Table x c.args.table.now l → c.may_take.result ≡ reply (take_refusal (slot_by g.P.Permutation x) g.T.Table.group g.T.Table.limit l y.first y.value 0 y.length)) c.reached-reached.ensures.by c.reached-reached.ensures.run c.may_take.ensures in
    let reached = subst (λ (y : Run). c.covers.result ≡ reply (unreached y.length (ltb y.length c.args.run.length))) c.reached-reached.ensures.run c.covers.ensures in
    let says = of_both (λ (x : Addressing g.row.P.Denot) (y : Run). (l : Entries) → Holds g.P.Permutation g.T.Table x c.args.table.now l → take_refusal (slot_by g.P.Permutation x) g.T.Table.group g.T.Table.limit l y.first y.value 0 y.length ≡ None → c.take.result ≡ Ok tt) c.reached-reached.ensures.by c.reached-reached.ensures.run c.take.ensures.value in
    let then = of_both (λ (x : Addressing g.row.P.Denot) (y : Run). (l : Entries) → Holds g.P.Permutation g.T.Table x c.args.table.now l → take_refusal (slot_by g.P.Permutation x) g.T.Table.group g.T.Table.limit l y.first y.value 0 y.length ≡ None → Holds g.P.Permutation g.T.Table x c.take.new.table (l ++ run_of y.first y.value y.length)) c.reached-reached.ensures.by c.reached-reached.ensures.run c.take.ensures.after in
    let ends = ends_done (Holds g.P.Permutation g.T.Table c.args.self.now) judge new reaches c.args.run.length most c.args.table.now c.may_take.result c.covers.result c.take.result judged reached c.take.new.table c.in_ok-may_take.was c.in_ok-covers.was says then in
    record {
      value = ends.value;
      after = ends.after;
      kept = ends.kept;
      len = c.take.ensures.len;
      fits = c.take.ensures.fits;
    }
