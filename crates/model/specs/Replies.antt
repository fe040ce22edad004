-- The reply that an answer of a register says.
--   reply_of   an answer as a reply: refusals by `says` and `run_says`, an item found by the number that the value coding gives it
use Rattle.std.specs.Prelude.{ℕ, Some, None, Option}
use Rattle.model.specs.declared.answer.Answer.{Answer}
use Rattle.model.specs.declared.answer.Answer.TheVariants.{Number, Value, Entry, Refused, RefusedAt}
use Rattle.model.specs.declared.refusal.Refusal.TheVariants.{Unreached}
use Rattle.model.specs.Model.{Reply, answered, found, listed, declined, declined_at}

-- an item found, by its number; no machine replies what an item without a number says
abbrev pub found_as : Option ℕ → Reply
found_as (Some w) = found w
found_as None = declined Unreached

-- an answer as a reply, where `number` gives the numbers of value items
abbrev pub reply_of : {V : Type 0} → (number : V → Option ℕ) → Answer V → Reply
reply_of number (Number n) = answered n
reply_of number (Value v) = found_as (number v)
reply_of number (Entry m w) = listed m w
reply_of number (Refused e) = declined e
reply_of number (RefusedAt e) = declined_at e
