-- What the calls give back, as an answer, and so as a reply.
--   number_answer   of open and enlarge
--   run_answer      of take and cancel
--   value_answer    of find
--   entry_answer    of at
--   either          the answer, whether it is told as one or as an error
use Rattle.std.specs.Prelude.{ℕ, Ok, Err, Result}
use Rattle.model.specs.declared.answer.Answer.{Answer}
use Rattle.model.specs.declared.answer.Answer.TheVariants.{Number, Value, Entry, Refused, RefusedAt}
use Rattle.model.specs.declared.refusal.Refusal.{Refusal}
use Rattle.model.specs.declared.run_refusal.RunRefusal.{RunRefusal}

-- of open and enlarge
abbrev pub number_answer : {U : Type 0} → Result ℕ Refusal → Answer U
number_answer (Ok n) = Number n
number_answer (Err e) = Refused e

-- of take and cancel
abbrev pub run_answer : {U : Type 0} → Result ℕ RunRefusal → Answer U
run_answer (Ok n) = Number n
run_answer (Err e) = RefusedAt e

-- of find
abbrev pub value_answer : {U : Type 0} → Result U Refusal → Answer U
value_answer (Ok v) = Value v
value_answer (Err e) = Refused e

-- of at
abbrev pub entry_answer : {U : Type 0} → Result (ℕ × ℕ) Refusal → Answer U
entry_answer (Ok e) = Entry e.0 e.1
entry_answer (Err e) = Refused e

-- whether it is told as one or as an error
abbrev pub either : {A : Type 0} → Result A A → A
either (Ok a) = a
either (Err a) = a
