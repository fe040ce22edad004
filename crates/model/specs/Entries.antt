-- Lists of entries, a key number and a value number each, in order of arrival; a look-up in one is the table's `value_in`.
--   Entries                            the lists
--   within_run, run_of, without_run    the n key numbers from m on: whether x is one; their entries; a list without them
--   count_if, group_load               how many entries pass a test; how many keys fall into a group of S slots
--   take_refusal, cancel_refusal       what stands against a run, at the first of its places that is refused
--   groups_hold                        whether no group holds more than C
--   slot_list, content                 what a table means that holds the list: the entries of one slot, and of each
--   walk                               the entries slot by slot, slots upwards, each in order of arrival
use Rattle.std.specs.Prelude.{ℕ, zero, suc, ◌+◌, ◌/◌, Bool, true, false, cond, not, ◌&&◌, List, [], ◌∷◌, ◌++◌, map, Some, None, filter, Option, ◌==◌, nat_eq, nat_le, nat_lt}
use Rattle.std.specs.List.{range_with_len}
use Rattle.table.specs.declared.refusal.TableRefusal.TheVariants.{Held, Full, Absent}
use Rattle.table.specs.Slots.{full, within}
use Rattle.table.specs.Meaning.{value_in}
use Rattle.model.specs.declared.refusal.Refusal.{Refusal}
use Rattle.model.specs.declared.refusal.Refusal.TheVariants.{OtherValue, Table}
use Rattle.model.specs.declared.run_refusal.RunRefusal.{RunRefusal}

-- pairs of a key number and a value number, in order of arrival
abbrev pub Entries : Type 0
Entries = List (ℕ × ℕ)

-- whether x is one of the n numbers from m on
abbrev pub within_run : (m n x : ℕ) → Bool
within_run m n x = nat_le m x && nat_lt x (m + n)

-- n entries with one value number, for the key numbers from m on
abbrev pub run_of : (m w n : ℕ) → Entries
run_of m w zero = []
run_of m w (suc n) = (m, w) ∷ run_of (suc m) w n

-- a list without the n key numbers from m on
abbrev pub without_run : (m n : ℕ) → Entries → Entries
without_run m n l = filter (λ e. not (within_run m n e.0)) l

-- how many entries of a list pass a test
abbrev pub count_if : (ℕ × ℕ → Bool) → Entries → ℕ
count_if p [] = 0
count_if p (e ∷ es) = cond (p e) (suc (count_if p es)) (count_if p es)

-- a refusal at place i if there is one, else what the later places say
abbrev pub first_of : (i : ℕ) → Option RunRefusal → Option Refusal → Option RunRefusal
first_of i later (Some e) = Some (record { place = i; why = e })
first_of i later None = later

-- cancel one key: whether it is held under the value w, where it is held under u
abbrev pub cancel_other : Bool → Option Refusal
cancel_other true = None
cancel_other false = Some OtherValue

-- cancel one key, from what it is held under
abbrev pub cancel_one : (w : ℕ) → Option ℕ → Option Refusal
cancel_one w None = Some (Table Absent)
cancel_one w (Some u) = cancel_other (u == w)

-- what stands against cancelling the n key numbers from m on, the first of them at place i
abbrev pub cancel_refusal : Entries → (m w i n : ℕ) → Option RunRefusal
cancel_refusal l m w i zero = None
cancel_refusal l m w i (suc n) = first_of i (cancel_refusal l (suc m) w (suc i) n) (cancel_one w (value_in l m))

-- take one key that is not held: whether its group is full
abbrev pub take_room : Bool → Option Refusal
take_room true = Some (Table Full)
take_room false = None

-- how many entries of a list have their key in group g, in groups of S slots
abbrev pub group_load : (slot : ℕ → ℕ) → (S : ℕ) → Entries → (g : ℕ) → ℕ
group_load slot S l g = count_if (λ e. nat_eq (slot e.0 / S) g) l

-- where keys stand, in groups of S slots with at most C entries
module _ (slot : ℕ → ℕ) (S C : ℕ) where
  -- take one key, from what it is held under: it is free, and then its group holds less than C
  abbrev pub take_one : Entries → (m : ℕ) → Option ℕ → Option Refusal
  take_one l m (Some u) = Some (Table Held)
  take_one l m None = take_room (full C (group_load slot S l (slot m / S)))

  -- what stands against taking the n key numbers from m on, one by one, each after the earlier ones; the first of them at place i
  abbrev pub take_refusal : Entries → (m w i n : ℕ) → Option RunRefusal
  take_refusal l m w i zero = None
  take_refusal l m w i (suc n) = first_of i (take_refusal (l ++ ((m, w) ∷ [])) (suc m) w (suc i) n) (take_one l m (value_in l m))

  -- whether each of these entries has its key in a group, of the whole list, that is within C
  abbrev pub entries_hold : Entries → Entries → Bool
  entries_hold l [] = true
  entries_hold l (e ∷ es) = within C (group_load slot S l (slot e.0 / S)) && entries_hold l es

  -- whether no group holds more than C; one without entries does not
  abbrev pub groups_hold : Entries → Bool
  groups_hold l = entries_hold l l

-- quotient and value number of the entries in slot s, in order of arrival
abbrev pub slot_list : (slot quotient : ℕ → ℕ) → (s : ℕ) → Entries → Entries
slot_list slot quotient s [] = []
slot_list slot quotient s (e ∷ es) =
    cond (slot e.0 == s) ((quotient e.0, e.1) ∷ slot_list slot quotient s es) (slot_list slot quotient s es)

-- the same of each of n slots
unfoldable pub content : (slot quotient : ℕ → ℕ) → (n : ℕ) → Entries → List Entries
content slot quotient n l = map (λ s. slot_list slot quotient s l) (range_with_len 0 n)

-- the entries of n slots, slots upwards, each in order of arrival
unfoldable pub walk : (slot : ℕ → ℕ) → (n : ℕ) → Entries → Entries
walk slot zero l = []
walk slot (suc n) l = walk slot n l ++ filter (λ e. nat_eq (slot e.0) n) l
