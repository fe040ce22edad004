-- What each call replies and leaves: items become numbers first, and the rest is over numbers alone.
--   numbered             the call with its items' numbers, none where the coding has none
--   Asked, asked         the call as it comes to the machine: refused on sight, or with its numbers
--   answer               what the machine then replies and leaves
--   step_by_number       a call by number;   step   a call by item;   run   a list of calls
use Rattle.std.specs.Prelude.{ℕ, zero, suc, ◌+◌, ◌^◌, Bool, true, false, ◌&&◌, List, [], ◌∷◌, ◌++◌, length, Some, None, Option, ◌==◌, nat_le, nat_lt, slice_index_or}
use Rattle.table.specs.declared.refusal.TableRefusal.TheVariants.{Full, Absent, DoesNotFit}
use Rattle.table.specs.Meaning.{value_in}
use Rattle.model.specs.declared.call.Call.{Call}
use Rattle.model.specs.declared.call.Call.TheVariants.{Open, Take, Cancel, Find, Count, At, Enlarge}
use Rattle.model.specs.declared.refusal.Refusal.{Refusal}
use Rattle.model.specs.declared.refusal.Refusal.TheVariants.{UnknownKey, UnknownValue, RunLength, Closed, AlreadyOpen, PermutationWidth, NoSuchPlace, Table}
use Rattle.model.specs.declared.run_refusal.RunRefusal.{RunRefusal}
use Rattle.model.specs.Entries.{Entries, run_of, without_run, take_refusal, cancel_refusal, groups_hold, walk}
use Rattle.model.specs.Model.{Fixed, on_first, other, State, Model, closed, opened, entries, Reply, answered, found, listed, declined, declined_at, kind, slot_of}

-- a call as it comes to the machine
pub data Asked : Type 0 where
  no_run : RunRefusal → Asked
  no_find : Refusal → Asked
  to_open : (b : ℕ) → Asked
  to_take : (m n w : ℕ) → Asked
  to_cancel : (m n w : ℕ) → Asked
  to_find : (m : ℕ) → Asked
  to_count : Asked
  to_list : (i : ℕ) → Asked
  to_enlarge : Asked

-- a refusal at a place
abbrev pub at_place : ℕ → Refusal → RunRefusal
at_place i e = record { place = i; why = e }

-- a run has 1 to 64 keys
abbrev pub run_length : (n : ℕ) → Bool
run_length n = nat_le 1 n && nat_le n 64

-- place i of a run, whose number has an item or none
abbrev pub no_key_next : {K : Type 0} → (i : ℕ) → Option ℕ → Option K → Option ℕ
no_key_next i later None = Some i
no_key_next i later (Some key) = later

-- a run of keys, its value known or not
abbrev pub read_value : ((w : ℕ) → Asked) → Option ℕ → Asked
read_value make None = no_run (at_place 0 UnknownValue)
read_value make (Some w) = make w

-- a run from m on, a place of it with no key's number or none
abbrev pub read_keys : ((m n w : ℕ) → Asked) → (m n : ℕ) → Option ℕ → Option ℕ → Asked
read_keys make m n value (Some i) = no_run (at_place i UnknownKey)
read_keys make m n value None = read_value (make m n) value

-- a find, its key known or not
abbrev pub read_find : Option ℕ → Asked
read_find None = no_find UnknownKey
read_find (Some m) = to_find m

-- the reply of a find
abbrev pub find_reply : Option ℕ → Reply
find_reply None = declined (Table Absent)
find_reply (Some w) = found w

-- a run that is refused, or done: l is the list after it
abbrev pub run_end : State → (n : ℕ) → Entries → Option RunRefusal → (Model × Reply)
run_end t n l (Some e) = (opened t, declined_at e)
run_end t n l None = (opened (record { side = t.side; b = t.b; list = l }), answered n)

-- place i of the walk, where it is below the count or not
abbrev pub list_place : Entries → (i : ℕ) → Bool → Reply
list_place l i false = declined NoSuchPlace
list_place l i true = listed (slice_index_or l i (0, 0)).0 (slice_index_or l i (0, 0)).1

module _ {K V : Type 0} (f : Fixed K V) where
  -- items to numbers
  abbrev pub numbered : Call K V → Call (Option ℕ) (Option ℕ)
  numbered (Open b) = Open b
  numbered (Take key n value) = Take (f.keys.number key) n (f.values.number value)
  numbered (Cancel key n value) = Cancel (f.keys.number key) n (f.values.number value)
  numbered (Find key) = Find (f.keys.number key)
  numbered Count = Count
  numbered (At i) = At i
  numbered Enlarge = Enlarge

  -- the first of n places, from place i with the number m on, whose number is no key's
  abbrev pub no_key : (m i n : ℕ) → Option ℕ
  no_key m i zero = None
  no_key m i (suc n) = no_key_next i (no_key (suc m) (suc i) n) (f.keys.item m)

  -- a run, its key known or not
  abbrev pub read_key : ((m n w : ℕ) → Asked) → (n : ℕ) → Option ℕ → Option ℕ → Asked
  read_key make n value None = no_run (at_place 0 UnknownKey)
  read_key make n value (Some m) = read_keys make m n value (no_key m 0 n)

  -- a run, of a length that can be or not
  abbrev pub read_run : ((m n w : ℕ) → Asked) → Option ℕ → (n : ℕ) → Option ℕ → Bool → Asked
  read_run make key n value false = no_run (at_place 0 RunLength)
  read_run make key n value true = read_key make n value key

  -- the call as it comes to the machine: 13, then 11, then 12 on sight
  abbrev pub asked : Call (Option ℕ) (Option ℕ) → Asked
  asked (Open b) = to_open b
  asked (Take key n value) = read_run to_take key n value (run_length n)
  asked (Cancel key n value) = read_run to_cancel key n value (run_length n)
  asked (Find key) = read_find key
  asked Count = to_count
  asked (At i) = to_list i
  asked Enlarge = to_enlarge

  -- open, where b fits the first table or not
  abbrev pub open_fit : (b : ℕ) → Bool → (Model × Reply)
  open_fit b false = (closed, declined (Table DoesNotFit))
  open_fit b true = (opened (record { side = on_first; b = b; list = [] }), answered b)

  -- open, where the permutation has the keys' width or not
  abbrev pub open_width : (b : ℕ) → Bool → (Model × Reply)
  open_width b false = (closed, declined PermutationWidth)
  open_width b true = open_fit b (f.first.fits f.keys.width f.values.width b)

  -- open
  abbrev pub opening : (b : ℕ) → Model → (Model × Reply)
  opening b (opened t) = (opened t, declined AlreadyOpen)
  opening b closed = open_width b (f.mix.width == f.keys.width)

  -- what stands against a take, by S and C of the table in use
  abbrev pub take_judged : State → (m n w : ℕ) → Option RunRefusal
  take_judged t m n w = take_refusal (slot_of f t.b) (kind f t.side).group (kind f t.side).limit t.list m w 0 n

  -- take: the keys go to the end of the list
  abbrev pub taking : (m n w : ℕ) → Model → (Model × Reply)
  taking m n w closed = (closed, declined_at (at_place 0 Closed))
  taking m n w (opened t) = run_end t n (t.list ++ run_of m w n) (take_judged t m n w)

  -- cancel: the keys leave the list
  abbrev pub cancelling : (m n w : ℕ) → Model → (Model × Reply)
  cancelling m n w closed = (closed, declined_at (at_place 0 Closed))
  cancelling m n w (opened t) = run_end t n (without_run m n t.list) (cancel_refusal t.list m w 0 n)

  -- find
  abbrev pub finding : (m : ℕ) → Model → Reply
  finding m closed = declined Closed
  finding m (opened t) = find_reply (value_in t.list m)

  -- the walk over the slots of the table in use
  abbrev pub walk_of : Model → Entries
  walk_of closed = []
  walk_of (opened t) = walk (slot_of f t.b) (2 ^ t.b) t.list

  -- at
  abbrev pub listing : (i : ℕ) → Model → Reply
  listing i closed = declined Closed
  listing i (opened t) = list_place (walk_of (opened t)) i (nat_lt i (length t.list))

  -- enlarge, where every group of the other table holds or not
  abbrev pub enlarge_room : State → Bool → (Model × Reply)
  enlarge_room t false = (opened t, declined (Table Full))
  enlarge_room t true = (opened (record { side = other t.side; b = t.b + 1; list = t.list }), answered (t.b + 1))

  -- whether the list has room in the other table at b + 1, by its S and C
  abbrev pub room_judged : State → Bool
  room_judged t = groups_hold (slot_of f (t.b + 1)) (kind f (other t.side)).group (kind f (other t.side)).limit t.list

  -- enlarge, where b + 1 fits the other table or not
  abbrev pub enlarge_fit : State → Bool → (Model × Reply)
  enlarge_fit t false = (opened t, declined (Table DoesNotFit))
  enlarge_fit t true = enlarge_room t (room_judged t)

  -- whether b + 1 fits the other table
  abbrev pub larger_fits : State → Bool
  larger_fits t = (kind f (other t.side)).fits f.keys.width f.values.width (t.b + 1)

  -- enlarge
  abbrev pub enlarging : Model → (Model × Reply)
  enlarging closed = (closed, declined Closed)
  enlarging (opened t) = enlarge_fit t (larger_fits t)

  -- what the machine replies and leaves
  abbrev pub answer : Model → Asked → (Model × Reply)
  answer s (no_run e) = (s, declined_at e)
  answer s (no_find e) = (s, declined e)
  answer s (to_open b) = opening b s
  answer s (to_take m n w) = taking m n w s
  answer s (to_cancel m n w) = cancelling m n w s
  answer s (to_find m) = (s, finding m s)
  answer s to_count = (s, answered (length (entries s)))
  answer s (to_list i) = (s, listing i s)
  answer s to_enlarge = enlarging s

  -- a call by number
  abbrev pub step_by_number : Model → Call (Option ℕ) (Option ℕ) → (Model × Reply)
  step_by_number s c = answer s (asked c)

  -- a call
  abbrev pub step : Model → Call K V → (Model × Reply)
  step s c = step_by_number s (numbered c)

  -- a list of calls: the machine after them, and the replies
  abbrev pub run : Model → List (Call K V) → (Model × List Reply)
  run s [] = (s, [])
  run s (c ∷ cs) = ((run (step s c).0 cs).0, (step s c).1 ∷ (run (step s c).0 cs).1)
