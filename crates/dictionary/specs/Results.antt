-- What each operation answers, of the list that the table holds, for every number that can come in.
--   looked_up                     the value number of a key number
--   reach, InReach                how many keys of a run there are; that all of them are, and the value too
--   past                          what stands against a run that is longer than it reaches
--   take_judged, cancel_judged    what stands against a run, at the first of its places that is refused
--   reply, list_after             the answer, by what stands against a run or a key; the list after a run
--   listed_at                     the entry at a place of the walk
--   moved                         the answer to a move into a table with one more bit
use Rattle.std.specs.Prelude.{ℕ, ◌+◌, ◌-◌, ◌^◌, ◌<◌, min, Bool, true, false, cond, length, Some, None, Ok, Err, Option, Result, nat_lt, slice_index_or}
use Rattle.table.specs.declared.refusal.TableRefusal.{TableRefusal}
use Rattle.table.specs.declared.refusal.TableRefusal.TheVariants.{OutOfRange, DoesNotFit, Full}
use Rattle.table.specs.Meaning.{value_in, answer_of}
use Rattle.model.specs.declared.refusal.Refusal.{Refusal}
use Rattle.model.specs.declared.refusal.Refusal.TheVariants.{Table}
use Rattle.model.specs.declared.run_refusal.RunRefusal.{RunRefusal}
use Rattle.model.specs.Entries.{Entries, take_refusal, cancel_refusal, walk}

-- ---- look up

-- in a list, where the key number is one of k bits or not
abbrev pub look_in : Entries → (m : ℕ) → Bool → Result ℕ TableRefusal
look_in l m true = answer_of (value_in l m)
look_in l m false = Err OutOfRange

-- the value number of a key number
abbrev pub looked_up : (k : ℕ) → Entries → (m : ℕ) → Result ℕ TableRefusal
looked_up k l m = look_in l m (nat_lt m (2 ^ k))

-- ---- runs

-- how many of the n key numbers from m on are of k bits; none where the value number is not of v bits
unfoldable pub reach : (k v m n w : ℕ) → ℕ
reach k v m n w = cond (nat_lt w (2 ^ v)) (min n (2 ^ k - m)) 0

-- every key number is of k bits, and the value number of v bits
abbrev pub InReach : (k v m n w : ℕ) → Type 0
InReach k v m n w = (i : ℕ) → i < n → (m + i < 2 ^ k) × (w < 2 ^ v)

-- the place that a run does not reach, where there is one
abbrev pub unreached : (c : ℕ) → Bool → Option RunRefusal
unreached c true = Some (record { place = c; why = Table OutOfRange })
unreached c false = None

-- a run of n that reaches c: what stands against those c, else against the place after them
abbrev pub past : (c n : ℕ) → Option RunRefusal → Option RunRefusal
past c n (Some e) = Some e
past c n None = unreached c (nat_lt c n)

-- what stands against taking the n key numbers from m on, under w
abbrev pub take_judged : (slot : ℕ → ℕ) → (S C k v : ℕ) → Entries → (m n w : ℕ) → Option RunRefusal
take_judged slot S C k v l m n w = past (reach k v m n w) n (take_refusal slot S C l m w 0 (reach k v m n w))

-- what stands against cancelling them
abbrev pub cancel_judged : (k v : ℕ) → Entries → (m n w : ℕ) → Option RunRefusal
cancel_judged k v l m n w = past (reach k v m n w) n (cancel_refusal l m w 0 (reach k v m n w))

-- the answer, by what stands against it
abbrev pub reply : {E : Type 0} → Option E → Result (Unit {0}) E
reply None = Ok tt
reply (Some e) = Err e

-- the list after a run: the new one, unless something stands against it
abbrev pub list_after : (old new : Entries) → Option RunRefusal → Entries
list_after old new None = new
list_after old new (Some e) = old

-- ---- the walk

-- an entry, where the place is below the count or not
abbrev pub entry_if : Entries → (i : ℕ) → Bool → Option (ℕ × ℕ)
entry_if l i true = Some (slice_index_or l i (0, 0))
entry_if l i false = None

-- the entry at place i of the walk over the 2^b slots
abbrev pub listed_at : (slot : ℕ → ℕ) → (b : ℕ) → Entries → (i : ℕ) → Option (ℕ × ℕ)
listed_at slot b l i = entry_if (walk slot (2 ^ b) l) i (nat_lt i (length l))

-- ---- redistributing

-- the answer, where every group of the other table holds or not
abbrev pub moved_room : Bool → Result (Unit {0}) Refusal
moved_room true = Ok tt
moved_room false = Err (Table Full)

-- the answer, where the widths fit the other table or not
abbrev pub moved : (fits holds : Bool) → Result (Unit {0}) Refusal
moved false holds = Err (Table DoesNotFit)
moved true holds = moved_room holds
