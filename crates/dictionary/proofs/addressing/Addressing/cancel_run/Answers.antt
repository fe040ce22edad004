use Rattle.std.proofs.Common.{◌≡◌, ℕ, ◌≤◌, ltb, None, Ok, Err, Option, refl, ap, ◌∙◌, subst}
use Rattle.std.proofs.lemmas.Result.{err_from_is_err_and}
use Rattle.model.specs.declared.run_refusal.RunRefusal.{RunRefusal}
use Rattle.model.specs.Entries.{Entries, cancel_refusal, without_run}
use Rattle.dictionary.specs.declared.addressing.Addressing.{Addressing}
use Rattle.dictionary.specs.declared.run.Run.{Run}
use Rattle.dictionary.specs.Stored.{Holds}
use Rattle.dictionary.specs.Results.{reach, reply, unreached}
use Rattle.dictionary.proofs.Runs.{ends_done, ends_refused, ends_short, of_both}
use Rattle.dictionary.proofs.addressing.Addressing.cancel_run.Goals as goal

pub returns-in_err-may_cancel : goal.returns-in_err-may_cancel
returns-in_err-may_cancel g c =
    let judge : Entries → ℕ → Option RunRefusal = λ l n. cancel_refusal l c.args.run.first c.args.run.value 0 n in
    let new : Entries → ℕ → Entries = λ l n. without_run c.args.run.first n l in
    let reaches = reach c.args.self.now.shape.k c.args.self.now.shape.v c.args.run.first c.args.run.length c.args.run.value in
    let most : reaches ≤ c.args.run.length = subst (λ (y : Run). y.length ≤ c.args.run.length) c.reached-reached.ensures.run c.reached-reached.ensures.most in
    let judged = of_both (λ (x : Addressing g.row.P.Denot) (y : Run). (l : Entries) → Holds g.P.Permutation g.T.Table x c.args.table.now l → c.may_cancel.result ≡ reply (cancel_refusal l y.first y.value 0 y.length)) c.reached-reached.ensures.by c.reached-reached.ensures.run c.may_cancel.ensures in
    let out = err_from_is_err_and c.from_residual.result c.from_residual.ensures.1 in
    let ends = ends_refused (Holds g.P.Permutation g.T.Table c.args.self.now) judge new reaches c.args.run.length most c.args.table.now c.may_cancel.result _ c.from_residual.result judged refl c.in_err-may_cancel.field-0.0 c.in_err-may_cancel.was (out.1 ∙ ap Err out.2) in
    record {
      value = ends.value;
      after = ends.after;
      kept = ends.kept;
      len = refl;
      fits = refl;
    }

pub returns-in_err-covers : goal.returns-in_err-covers
returns-in_err-covers g c =
    let judge : Entries → ℕ → Option RunRefusal = λ l n. cancel_refusal l c.args.run.first c.args.run.value 0 n in
    let new : Entries → ℕ → Entries = λ l n. without_run c.args.run.first n l in
    let reaches = reach c.args.self.now.shape.k c.args.self.now.shape.v c.args.run.first c.args.run.length c.args.run.value in
    let most : reaches ≤ c.args.run.length = subst (λ (y : Run). y.length ≤ c.args.run.length) c.reached-reached.ensures.run c.reached-reached.ensures.most in
    let judged = of_both (λ (x : Addressing g.row.P.Denot) (y : Run). (l : Entries) → Holds g.P.Permutation g.T.Table x c.args.table.now l → c.may_cancel.result ≡ reply (cancel_refusal l y.first y.value 0 y.length)) c.reached-reached.ensures.by c.reached-reached.ensures.run c.may_cancel.ensures in
    let reached = subst (λ (y : Run). c.covers.result ≡ reply (unreached y.length (ltb y.length c.args.run.length))) c.reached-reached.ensures.run c.covers.ensures in
    let out = err_from_is_err_and c.from_residual-in_err-covers.result c.from_residual-in_err-covers.ensures.1 in
    let ends = ends_short (Holds g.P.Permutation g.T.Table c.args.self.now) judge new reaches c.args.run.length most c.args.table.now c.may_cancel.result c.covers.result c.from_residual-in_err-covers.result judged reached c.in_err-covers.field-0.0 c.in_ok-may_cancel.was c.in_err-covers.was (out.1 ∙ ap Err out.2) in
    record {
      value = ends.value;
      after = ends.after;
      kept = ends.kept;
      len = refl;
      fits = refl;
    }

pub returns : goal.returns
returns g c =
    let judge : Entries → ℕ → Option RunRefusal = λ l n. cancel_refusal l c.args.run.first c.args.run.value 0 n in
    let new : Entries → ℕ → Entries = λ l n. without_run c.args.run.first n l in
    let reaches = reach c.args.self.now.shape.k c.args.self.now.shape.v c.args.run.first c.args.run.length c.args.run.value in
    let most : reaches ≤ c.args.run.length = subst (λ (y : Run). y.length ≤ c.args.run.length) c.reached-reached.ensures.run c.reached-reached.ensures.most in
    let judged = of_both (λ (x : Addressing g.row.P.Denot) (y : Run). (l : Entries) → Holds g.P.Permutation g.T.Table x c.args.table.now l → c.may_cancel.result ≡ reply (cancel_refusal l y.first y.value 0 y.length)) c.reached-reached.ensures.by c.reached-reached.ensures.run c.may_cancel.ensures in
    let reached = subst (λ (y : Run). c.covers.result ≡ reply (unreached y.length (ltb y.length c.args.run.length))) c.reached-reached.ensures.run c.covers.ensures in
    let says = of_both (λ (x : Addressing g.row.P.Denot) (y : Run). (l : Entries) → Holds g.P.Permutation g.T.Table x c.args.table.now l → cancel_refusal l y.first y.value 0 y.length ≡ None → c.cancel.result ≡ Ok tt) c.reached-reached.ensures.by c.reached-reached.ensures.run c.cancel.ensures.value in
    let then = of_both (λ (x : Addressing g.row.P.Denot) (y : Run). (l : Entries) → Holds g.P.Permutation g.T.Table x c.args.table.now l → cancel_refusal l y.first y.value 0 y.length ≡ None → Holds g.P.Permutation g.T.Table x c.cancel.new.table (without_run y.first y.length l)) c.reached-reached.ensures.by c.reached-reached.ensures.run c.cancel.ensures.after in
    let ends = ends_done (Holds g.P.Permutation g.T.Table c.args.self.now) judge new reaches c.args.run.length most c.args.table.now c.may_cancel.result c.covers.result c.cancel.result judged reached c.cancel.new.table c.in_ok-may_cancel.was c.in_ok-covers.was says then in
    record {
      value = ends.value;
      after = ends.after;
      kept = ends.kept;
      len = c.cancel.ensures.len;
      fits = c.cancel.ensures.fits;
    }
