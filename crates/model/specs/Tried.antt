-- The machine tried on numbers: small fixed data, and what comes of calls put to them.
--   between          the coding of the numbers from low to high as themselves
--   fitting_from     the rule of fit of a table with b from low to high
--   nights, mirrored, cards   the fixed data: groups of 4 slots with at most 3 entries, then of 1 slot with at most 2
--   replies          what is replied to a list of calls put to a closed machine
--   Tried            what comes of calls
use Rattle.std.specs.Prelude.{◌≡◌, ℕ, ◌-◌, Bool, true, false, cond, ◌&&◌, List, [], ◌∷◌, Some, None, Option, nat_le, nat_lt}
use Rattle.model.specs.declared.call.Call.{Call}
use Rattle.model.specs.declared.call.Call.TheVariants.{Open, Take, Cancel, Find, Count, At, Enlarge}
use Rattle.table.specs.declared.refusal.TableRefusal.TheVariants.{Held, DoesNotFit}
use Rattle.model.specs.declared.answer.Answer.TheVariants.{Number, Value, Entry, Refused, RefusedAt}
use Rattle.model.specs.declared.refusal.Refusal.TheVariants.{NoSuchPlace, Table}
use Rattle.model.specs.Model.{Coding, Mixing, Kind, Fixed, on_first, slots_of, closed, Reply, refused, refused_at, answered, found, listed}
use Rattle.model.specs.Step.{run, step_by_number}
use Rattle.model.specs.Replies.{reply_of}
use Rattle.model.specs.History.{held, taken, cancelled, quiet, full_take, any_before, history}
use Rattle.model.specs.Laws.{Lawful}

-- the number itself, from low to high
abbrev pub from_to : (low high x : ℕ) → Option ℕ
from_to low high x = cond (nat_le low x && nat_le x high) (Some x) None

-- numbers from low to high, coded as themselves
abbrev pub between : (width low high : ℕ) → Coding ℕ
between width low high = record { width = width; number = from_to low high; item = from_to low high }

-- b from low to high, within the widths of every table
abbrev pub fitting_from : (low high k v b : ℕ) → Bool
fitting_from low high k v b = (nat_le low b && nat_le b high) && (nat_lt b k && (nat_le k 32 && nat_le v 32))

-- groups of 4 slots with at most 3 entries, 2 to 9 bits
abbrev pub wide_groups : Kind
wide_groups = record { group = 4; limit = 3; fits = fitting_from 2 9 }

-- groups of 1 slot with at most 2 entries, up to 4 bits
abbrev pub single_slots : Kind
single_slots = record { group = 1; limit = 2; fits = fitting_from 0 4 }

-- every number stays as it is
abbrev pub unmixed : ℕ → Mixing
unmixed width = record { width = width; forth = λ m. m; back = λ m. m }

-- nights 0 to 731 of one pitch, bookings 1 to 9,999,999
abbrev pub nights : Fixed ℕ ℕ
nights = record { keys = between 10 0 731; values = between 24 1 9999999; mix = unmixed 10; first = wide_groups; second = single_slots }

-- the same with the numbers turned round
abbrev pub mirrored : Fixed ℕ ℕ
mirrored = record { keys = between 10 0 731; values = between 24 1 9999999; mix = record { width = 10; forth = λ m. 1023 - m; back = λ y. 1023 - y }; first = wide_groups; second = single_slots }

-- cards 1 to 4,294,967,295, with a permutation that is too narrow
abbrev pub cards : Fixed ℕ ℕ
cards = record { keys = between 32 1 4294967295; values = between 24 1 9999999; mix = unmixed 31; first = single_slots; second = single_slots }

-- the replies to calls put to a closed machine
abbrev pub replies : Fixed ℕ ℕ → List (Call ℕ ℕ) → List Reply
replies f cs = (run f closed cs).1

-- what comes of calls
pub record Tried : Type 0 where
  -- the laws ask for nothing that cannot be had
  pub lawful : Lawful nights
  -- nights 10 to 13 with 12 held: 3 at place 2, and 10, 11 and 13 stay free
  pub one_held : replies nights (Open 2 ∷ Take 12 1 5 ∷ Take 10 4 6 ∷ Find 10 ∷ Find 11 ∷ Find 12 ∷ Find 13 ∷ Count ∷ [])
      ≡ answered 2 ∷ answered 1 ∷ refused_at 2 3 (Some 3) ∷ refused 5 (Some 5) ∷ refused 5 (Some 5) ∷ found 5 ∷ refused 5 (Some 5) ∷ answered 1 ∷ []
  -- the same cancel twice: 5 at place 0 the second time; 17 and 5 at the first place that has it
  pub cancel_twice : replies nights (Open 2 ∷ Take 10 2 6 ∷ Cancel 10 2 7 ∷ Cancel 11 2 6 ∷ Cancel 10 2 6 ∷ Cancel 10 2 6 ∷ Take 10 2 7 ∷ [])
      ≡ answered 2 ∷ answered 2 ∷ refused_at 0 17 None ∷ refused_at 1 5 (Some 5) ∷ answered 2 ∷ refused_at 0 5 (Some 5) ∷ answered 2 ∷ []
  -- the first place of a cancel decides between 5 and 17
  pub first_of_two : replies nights (Open 2 ∷ Take 10 1 6 ∷ Take 11 1 7 ∷ Cancel 9 3 6 ∷ Cancel 10 3 6 ∷ [])
      ≡ answered 2 ∷ answered 1 ∷ answered 1 ∷ refused_at 0 5 (Some 5) ∷ refused_at 1 17 None ∷ []
  -- n = 0 and n = 65 give 13, also of an unknown key, under an unknown value, while closed; 64 is a length
  pub run_lengths : replies nights (Take 800 0 0 ∷ Take 800 65 0 ∷ Cancel 800 0 0 ∷ Cancel 800 65 0 ∷ Take 10 0 5 ∷ Take 10 65 5 ∷ Take 10 64 5 ∷ [])
      ≡ refused_at 0 13 None ∷ refused_at 0 13 None ∷ refused_at 0 13 None ∷ refused_at 0 13 None ∷ refused_at 0 13 None ∷ refused_at 0 13 None ∷ refused_at 0 14 None ∷ []
  -- bookings 0 and 10,000,000 give 12; the last booking is one
  pub bookings : replies nights (Take 10 1 0 ∷ Take 10 1 10000000 ∷ Take 10 1 9999999 ∷ Cancel 10 1 0 ∷ [])
      ≡ refused_at 0 12 None ∷ refused_at 0 12 None ∷ refused_at 0 14 None ∷ refused_at 0 12 None ∷ []
  -- card 0 gives 11; the width of the permutation is judged before the fit
  pub no_card : replies cards (Find 0 ∷ Take 0 1 1 ∷ Cancel 0 1 1 ∷ Take 4294967295 2 1 ∷ Open 40 ∷ []) ≡ refused 11 None ∷ refused_at 0 11 None ∷ refused_at 0 11 None ∷ refused_at 1 11 None ∷ refused 16 None ∷ []
  -- the order of refusals: the key, a later place's number, the value, whether it is open
  pub on_sight : replies nights (Take 800 1 0 ∷ Take 730 3 0 ∷ Take 10 1 0 ∷ Take 10 1 1 ∷ Cancel 10 1 1 ∷ Find 800 ∷ Find 10 ∷ Count ∷ At 0 ∷ Enlarge ∷ [])
      ≡ refused_at 0 11 None ∷ refused_at 2 11 None ∷ refused_at 0 12 None ∷ refused_at 0 14 None ∷ refused_at 0 14 None ∷ refused 11 None ∷ refused 14 None ∷ answered 0 ∷ refused 14 None ∷ refused 14 None ∷ []
  -- from night 730 two are taken, three are not
  pub last_nights : replies nights (Open 2 ∷ Take 730 3 5 ∷ Take 730 2 5 ∷ Count ∷ Find 731 ∷ Find 732 ∷ [])
      ≡ answered 2 ∷ refused_at 2 11 None ∷ answered 2 ∷ answered 2 ∷ found 5 ∷ refused 11 None ∷ []
  -- open: too few bits, too many, and open already, where it would not fit either
  pub opened_once : replies nights (Open 1 ∷ Open 10 ∷ Open 2 ∷ Open 2 ∷ Open 1 ∷ []) ≡ refused 6 (Some 6) ∷ refused 6 (Some 6) ∷ answered 2 ∷ refused 15 None ∷ refused 15 None ∷ []
  -- the third of a group is taken, the fourth is not, also where the run's own keys fill it; a cancelled place is used again
  pub no_room : replies nights (Open 2 ∷ Take 10 4 6 ∷ Count ∷ Take 10 3 6 ∷ Take 700 1 6 ∷ Cancel 11 1 6 ∷ Take 700 1 6 ∷ [])
      ≡ answered 2 ∷ refused_at 3 4 (Some 4) ∷ answered 0 ∷ answered 3 ∷ refused_at 0 4 (Some 4) ∷ answered 1 ∷ answered 1 ∷ []
  -- the group counts, and not the slot: three keys in three slots fill it
  pub group_counts : replies nights (Open 2 ∷ Take 300 1 6 ∷ Take 600 1 6 ∷ Take 10 1 6 ∷ Take 700 1 6 ∷ [])
      ≡ answered 2 ∷ answered 1 ∷ answered 1 ∷ answered 1 ∷ refused_at 0 4 (Some 4) ∷ []
  -- in a full group a key that is held gives 3
  pub held_first : replies nights (Open 2 ∷ Take 10 3 6 ∷ Take 12 2 6 ∷ Take 13 1 6 ∷ []) ≡ answered 2 ∷ answered 3 ∷ refused_at 0 3 (Some 3) ∷ refused_at 0 4 (Some 4) ∷ []
  -- slots upwards, each in order of arrival; an enlargement changes the slots, and not what arrived when
  pub walk_order : replies nights (Open 2 ∷ Take 600 1 1 ∷ Take 200 1 2 ∷ Take 100 1 3 ∷ At 0 ∷ At 1 ∷ At 2 ∷ At 3 ∷ Enlarge ∷ At 0 ∷ At 1 ∷ At 2 ∷ [])
      ≡ answered 2 ∷ answered 1 ∷ answered 1 ∷ answered 1 ∷ listed 200 2 ∷ listed 100 3 ∷ listed 600 1 ∷ refused 18 None ∷ answered 3 ∷ listed 100 3 ∷ listed 200 2 ∷ listed 600 1 ∷ []
  -- the slot is that of the permuted number
  pub walk_mirrored : replies mirrored (Open 2 ∷ Take 600 1 1 ∷ Take 200 1 2 ∷ Take 100 1 3 ∷ At 0 ∷ At 1 ∷ At 2 ∷ [])
      ≡ answered 2 ∷ answered 1 ∷ answered 1 ∷ answered 1 ∷ listed 600 1 ∷ listed 200 2 ∷ listed 100 3 ∷ []
  -- three in a group of the other table, which has at most two; then b too large for it; then back on the first table's groups
  pub enlarge_refused : replies nights (Open 2 ∷ Take 100 3 1 ∷ Enlarge ∷ Cancel 100 1 1 ∷ Enlarge ∷ Enlarge ∷ Enlarge ∷ Take 103 1 1 ∷ [])
      ≡ answered 2 ∷ answered 3 ∷ refused 4 (Some 4) ∷ answered 1 ∷ answered 3 ∷ answered 4 ∷ refused 6 (Some 6) ∷ answered 1 ∷ []
  -- after an enlargement the other table's groups count
  pub other_groups : replies nights (Open 2 ∷ Take 100 1 1 ∷ Enlarge ∷ Take 101 2 1 ∷ Take 101 1 1 ∷ [])
      ≡ answered 2 ∷ answered 1 ∷ answered 3 ∷ refused_at 1 4 (Some 4) ∷ answered 1 ∷ []
  -- where b + 1 does not fit and a group would be too full, the fit is judged first
  pub fit_first : replies nights (Open 4 ∷ Take 100 3 1 ∷ Enlarge ∷ []) ≡ answered 4 ∷ answered 3 ∷ refused 6 (Some 6) ∷ []
  -- a call by number is judged as one by item is
  pub by_number : (step_by_number nights closed (Take (Some 730) 3 (Some 5))).1 ≡ refused_at 2 11 None
  -- what the history alone tells: a refused take leaves no trace, a cancel takes back what it covers, and no more
  pub held_then : held nights (history nights (Open 2 ∷ Take 10 3 6 ∷ Cancel 11 1 6 ∷ Take 11 2 7 ∷ [])) 11 ∷ held nights (history nights (Open 2 ∷ Take 10 3 6 ∷ Cancel 11 1 6 ∷ Take 11 2 7 ∷ [])) 12
      ∷ held nights (history nights (Open 2 ∷ Take 10 3 6 ∷ Cancel 11 1 6 ∷ Take 11 1 7 ∷ [])) 11 ∷ held nights (history nights (Open 2 ∷ Take 10 3 6 ∷ [])) 13 ∷ []
      ≡ None ∷ Some 6 ∷ Some 7 ∷ None ∷ []
  -- the sums count accepted calls under one value
  pub sums_then : taken nights 6 (history nights (Open 2 ∷ Take 10 3 6 ∷ Cancel 11 2 6 ∷ Take 11 1 7 ∷ Take 10 1 6 ∷ [])) ∷ cancelled nights 6 (history nights (Open 2 ∷ Take 10 3 6 ∷ Cancel 11 2 6 ∷ Cancel 11 2 6 ∷ [])) ∷ []
      ≡ 3 ∷ 2 ∷ []
  -- the reply that each kind of answer says: the three layers of refusals, and items found by their numbers
  pub answers_say : reply_of (from_to 1 9) (Number 7) ∷ reply_of (from_to 1 9) (Value 5) ∷ reply_of (from_to 1 9) (Value 10) ∷ reply_of (from_to 1 9) (Entry 3 4)
      ∷ reply_of (from_to 1 9) (Refused (Table DoesNotFit)) ∷ reply_of (from_to 1 9) (Refused NoSuchPlace) ∷ reply_of (from_to 1 9) (RefusedAt (record { place = 2; why = Table Held })) ∷ []
      ≡ answered 7 ∷ found 5 ∷ refused 99 None ∷ listed 3 4 ∷ refused 6 (Some 6) ∷ refused 18 None ∷ refused_at 2 3 (Some 3) ∷ []
  -- what the table in use means: the slots in order, each in order of arrival, by quotient
  pub slots_then : slots_of nights (record { side = on_first; b = 2; list = (600, 1) ∷ (200, 2) ∷ (100, 3) ∷ [] })
      ≡ ((200, 2) ∷ (100, 3) ∷ []) ∷ [] ∷ ((88, 1) ∷ []) ∷ [] ∷ []
  -- a take answered with 4, at place 2 and no sooner; an enlarge answered so is none
  pub full_then : any_before full_take 3 (history nights (Open 2 ∷ Take 10 3 6 ∷ Take 20 1 6 ∷ [])) ≡ true
  pub room_then : any_before full_take 2 (history nights (Open 2 ∷ Take 10 3 6 ∷ Take 20 1 6 ∷ [])) ≡ false
  pub enlarge_then : any_before full_take 3 (history nights (Open 2 ∷ Take 10 3 6 ∷ Enlarge ∷ [])) ≡ false
  -- a refused take is quiet, an accepted one is not
  pub quiet_then : quiet (history nights (Take 10 1 6 ∷ Open 2 ∷ Count ∷ Find 10 ∷ [])) ≡ true
  pub loud_then : quiet (history nights (Open 2 ∷ Enlarge ∷ [])) ≡ false
