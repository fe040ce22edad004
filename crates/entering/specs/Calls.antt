-- The calls that enter a day's stays, and what the answers to them say.
--
-- take_of      the call that takes the nights of a stay under its booking
-- calls_of     an open, and then a take for each stay
-- opening      what the answer to the open says: b, or why the register is not open
-- outcome      what an answer to a take says: how many nights are taken, or why none is and at which of them
-- outcome_at   what came of the stay at a place of the list, the first being 0
use Rattle.std.specs.Prelude.{ℕ, suc, List, [], ◌∷◌, map, Some, None, Ok, Err, Option, Result}
use Rattle.std.specs.List.{slice_get}
use Rattle.coding.specs.declared.items.Night.{Night}
use Rattle.coding.specs.declared.items.Booking.{Booking}
use Rattle.model.specs.declared.call.Call.{Call}
use Rattle.model.specs.declared.call.Call.TheVariants.{Open, Take}
use Rattle.model.specs.declared.answer.Answer.{Answer}
use Rattle.model.specs.declared.answer.Answer.TheVariants.{Number, Value, Entry, Refused, RefusedAt}
use Rattle.model.specs.declared.refusal.Refusal.{Refusal}
use Rattle.model.specs.declared.refusal.Refusal.TheVariants.{Unreached}
use Rattle.model.specs.declared.run_refusal.RunRefusal.{RunRefusal}
use Rattle.arrivals.specs.declared.stay.Stay.{Stay}

-- the nights of the pitch from the first on, under the booking
abbrev pub take_of : Stay → Call Night Booking
take_of s = Take (record { pitch = s.pitch; night = s.first }) s.nights (record { number = s.booking })

-- the open comes first
abbrev pub calls_of : (b : ℕ) → List Stay → List (Call Night Booking)
calls_of b stays = Open b ∷ map take_of stays

-- a refusal that no register gives stands for an answer that none gives
abbrev pub opened : Answer Booking → Result ℕ Refusal
opened (Number b) = Ok b
opened (Value v) = Err Unreached
opened (Entry m w) = Err Unreached
opened (Refused e) = Err e
opened (RefusedAt e) = Err Unreached

abbrev pub opening : List (Answer Booking) → Result ℕ Refusal
opening [] = Err Unreached
opening (a ∷ rest) = opened a

abbrev pub outcome : Answer Booking → Result ℕ RunRefusal
outcome (Number n) = Ok n
outcome (Value v) = Err (record { place = 0; why = Unreached })
outcome (Entry m w) = Err (record { place = 0; why = Unreached })
outcome (Refused e) = Err (record { place = 0; why = e })
outcome (RefusedAt e) = Err e

-- of an answer that is not there, too
abbrev pub outcome_of : Option (Answer Booking) → Result ℕ RunRefusal
outcome_of None = Err (record { place = 0; why = Unreached })
outcome_of (Some a) = outcome a

-- the answer to the open is the first, so that to the take at place i is the one at place i + 1
abbrev pub outcome_at : List (Answer Booking) → (i : ℕ) → Result ℕ RunRefusal
outcome_at answers i = outcome_of (slice_get answers (suc i))
