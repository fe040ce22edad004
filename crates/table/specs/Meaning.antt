-- What a table means, and what each call leaves and answers.
--   Meaning                    unformed, or formed with k, v, b and the entries (quotient, value) of each slot
--   value_in, without          an entry of one slot, looked up and taken out
--   total, load                how many entries lists hold together; a slot's group, in groups of S slots
--   has_slot, in_range         which slots, and which quotients and values, there are
--   formed_anew, cleared       form and clear
--   weighed                    what stands against one more entry, where its group counts n
--   added, removed_from        add and remove: the meaning after, and the reply
--   found, sized, entered      find, size and entry: the reply
--   loaded, admitted           the load of a slot's group; what add would reply with `earlier` more in the group
--   Fit, Good, WellFormed      widths that fit any table; a slot, and a formed content, as they have to be
use Rattle.std.specs.Prelude.{◌≡◌, ℕ, ◌+◌, ◌-◌, ◌*◌, ◌/◌, ◌%◌, ◌^◌, ◌<◌, ◌≤◌, Bool, true, false, cond, ◌&&◌, List, [], ◌∷◌, ◌++◌, length, get_or, take, drop, replicate, Some, None, Ok, Err, Option, Result, ◌==◌, ◌≢◌, nat_lt, slice_index_or, slice_set}
use Rattle.table.specs.declared.refusal.TableRefusal.{TableRefusal}
use Rattle.table.specs.declared.refusal.TableRefusal.TheVariants.{Unformed, OutOfRange, Held, Full, Absent, DoesNotFit}
use Rattle.table.specs.Slots.{full, within}

-- nothing yet, or k, v, b and a list of entries for each slot
pub data Meaning : Type 0 where
  unformed : Meaning
  formed : ℕ → ℕ → ℕ → List (List (ℕ × ℕ)) → Meaning

-- the value of a quotient among the entries of a slot
abbrev pub value_in : List (ℕ × ℕ) → ℕ → Option ℕ
value_in [] q = None
value_in (e ∷ es) q = cond (e.0 == q) (Some e.1) (value_in es q)

-- the entries without the first one of that quotient, the others in their order
abbrev pub without : List (ℕ × ℕ) → ℕ → List (ℕ × ℕ)
without [] q = []
without (e ∷ es) q = cond (e.0 == q) es (e ∷ without es q)

-- how many entries some slots hold together
abbrev pub total : List (List (ℕ × ℕ)) → ℕ
total [] = 0
total (s ∷ ss) = length s + total ss

-- how many entries the group of a slot holds, in groups of S slots
unfoldable pub load : ℕ → List (List (ℕ × ℕ)) → ℕ → ℕ
load S slots s = total (take S (drop (s / S * S) slots))

-- whether there is such a slot among 2^b
abbrev pub has_slot : (b s : ℕ) → Bool
has_slot b s = nat_lt s (2 ^ b)

-- whether there are such a slot and such a quotient
abbrev pub in_range : (k b s q : ℕ) → Bool
in_range k b s q = has_slot b s && nat_lt q (2 ^ (k - b))

-- ---- form and clear

-- formed with empty slots where the widths fit
abbrev pub formed_at : Meaning → (k v b : ℕ) → Bool → (Meaning × Result (Unit {0}) TableRefusal)
formed_at m k v b true = (formed k v b (replicate (2 ^ b) []), Ok tt)
formed_at m k v b false = (m, Err DoesNotFit)

-- form
abbrev pub formed_anew : (ℕ → ℕ → ℕ → Bool) → Meaning → (k v b : ℕ) → (Meaning × Result (Unit {0}) TableRefusal)
formed_anew fits m k v b = formed_at m k v b (fits k v b)

-- clear
abbrev pub cleared : Meaning → Meaning
cleared m = unformed

-- ---- find

-- the value that was found, or none
abbrev pub answer_of : Option ℕ → Result ℕ TableRefusal
answer_of None = Err Absent
answer_of (Some w) = Ok w

-- find among the slots, where slot and quotient are in range or not
abbrev pub found_at : List (List (ℕ × ℕ)) → (s q : ℕ) → Bool → Result ℕ TableRefusal
found_at slots s q true = answer_of (value_in (slice_index_or slots s []) q)
found_at slots s q false = Err OutOfRange

-- find
abbrev pub found : Meaning → (s q : ℕ) → Result ℕ TableRefusal
found unformed s q = Err Unformed
found (formed k v b slots) s q = found_at slots s q (in_range k b s q)

-- ---- size and entry

-- the size of a slot, where there is such a slot or not
abbrev pub sized_at : List (List (ℕ × ℕ)) → (s : ℕ) → Bool → Result ℕ TableRefusal
sized_at slots s true = Ok (length (slice_index_or slots s []))
sized_at slots s false = Err OutOfRange

-- size
abbrev pub sized : Meaning → (s : ℕ) → Result ℕ TableRefusal
sized unformed s = Err Unformed
sized (formed k v b slots) s = sized_at slots s (has_slot b s)

-- the entry at a place of a slot, where there is such a place or not
abbrev pub picked_at : List (ℕ × ℕ) → (i : ℕ) → Bool → Result (ℕ × ℕ) TableRefusal
picked_at es i true = Ok (slice_index_or es i (0, 0))
picked_at es i false = Err OutOfRange

-- the entry at a place of a slot
abbrev pub picked : List (ℕ × ℕ) → (i : ℕ) → Result (ℕ × ℕ) TableRefusal
picked es i = picked_at es i (nat_lt i (length es))

-- entry among the slots, where there is such a slot or not
abbrev pub entered_at : List (List (ℕ × ℕ)) → (s i : ℕ) → Bool → Result (ℕ × ℕ) TableRefusal
entered_at slots s i true = picked (slice_index_or slots s []) i
entered_at slots s i false = Err OutOfRange

-- entry
abbrev pub entered : Meaning → (s i : ℕ) → Result (ℕ × ℕ) TableRefusal
entered unformed s i = Err Unformed
entered (formed k v b slots) s i = entered_at slots s i (has_slot b s)

-- ---- the load of a slot's group

-- the load, where there is such a slot or not
abbrev pub loaded_at : ℕ → List (List (ℕ × ℕ)) → (s : ℕ) → Bool → Result ℕ TableRefusal
loaded_at S slots s true = Ok (load S slots s)
loaded_at S slots s false = Err OutOfRange

-- the load of a slot's group
abbrev pub loaded : ℕ → Meaning → (s : ℕ) → Result ℕ TableRefusal
loaded S unformed s = Err Unformed
loaded S (formed k v b slots) s = loaded_at S slots s (has_slot b s)

-- ---- add

-- whether the group takes one more
abbrev pub weigh_room : Bool → Result (Unit {0}) TableRefusal
weigh_room true = Err Full
weigh_room false = Ok tt

-- whether the slot holds the quotient; then whether a group of n entries takes one more
abbrev pub weigh_held : (C n : ℕ) → Option ℕ → Result (Unit {0}) TableRefusal
weigh_held C n (Some x) = Err Held
weigh_held C n None = weigh_room (full C n)

-- whether the numbers are in range; then the slot and the group
abbrev pub weigh_range : (C n : ℕ) → List (ℕ × ℕ) → (q : ℕ) → Bool → Result (Unit {0}) TableRefusal
weigh_range C n es q true = weigh_held C n (value_in es q)
weigh_range C n es q false = Err OutOfRange

-- what stands against one more entry, where its group counts n
abbrev pub weighed : (C k v b : ℕ) → List (List (ℕ × ℕ)) → (s q w n : ℕ) → Result (Unit {0}) TableRefusal
weighed C k v b slots s q w n = weigh_range C n (slice_index_or slots s []) q (in_range k b s q && nat_lt w (2 ^ v))

-- the entry at the end of the slot's list, unless something stands against it
abbrev pub add_reply : (k v b : ℕ) → List (List (ℕ × ℕ)) → (s q w : ℕ) → Result (Unit {0}) TableRefusal → (Meaning × Result (Unit {0}) TableRefusal)
add_reply k v b slots s q w (Ok u) = (formed k v b (slice_set slots s (slice_index_or slots s [] ++ ((q, w) ∷ []))), Ok tt)
add_reply k v b slots s q w (Err e) = (formed k v b slots, Err e)

-- add
abbrev pub added : (S C : ℕ) → Meaning → (s q w : ℕ) → (Meaning × Result (Unit {0}) TableRefusal)
added S C unformed s q w = (unformed, Err Unformed)
added S C (formed k v b slots) s q w = add_reply k v b slots s q w (weighed C k v b slots s q w (load S slots s))

-- what add would reply, were `earlier` more entries in the slot's group
abbrev pub admitted : (S C : ℕ) → Meaning → (s q w earlier : ℕ) → Result (Unit {0}) TableRefusal
admitted S C unformed s q w earlier = Err Unformed
admitted S C (formed k v b slots) s q w earlier = weighed C k v b slots s q w (load S slots s + earlier)

-- ---- remove

-- the slot without the entry, where it holds one
abbrev pub remove_end : (k v b : ℕ) → List (List (ℕ × ℕ)) → (s q : ℕ) → Option ℕ → (Meaning × Result ℕ TableRefusal)
remove_end k v b slots s q (Some x) = (formed k v b (slice_set slots s (without (slice_index_or slots s []) q)), Ok x)
remove_end k v b slots s q None = (formed k v b slots, Err Absent)

-- remove among the slots, where slot and quotient are in range or not
abbrev pub remove_at : (k v b : ℕ) → List (List (ℕ × ℕ)) → (s q : ℕ) → Bool → (Meaning × Result ℕ TableRefusal)
remove_at k v b slots s q true = remove_end k v b slots s q (value_in (slice_index_or slots s []) q)
remove_at k v b slots s q false = (formed k v b slots, Err OutOfRange)

-- remove
abbrev pub removed_from : Meaning → (s q : ℕ) → (Meaning × Result ℕ TableRefusal)
removed_from unformed s q = (unformed, Err Unformed)
removed_from (formed k v b slots) s q = remove_at k v b slots s q (in_range k b s q)

-- ---- what is well formed

-- widths that fit any table of groups of S slots
pub record Fit (S k v b : ℕ) : Type 0 where
  pub some : 1 ≤ k
  pub narrow : k ≤ 32
  pub thin : v ≤ 32
  pub below : b < k
  pub whole : 2 ^ b % S ≡ 0

-- the entries of one slot: quotients below 2^q and apart, values below 2^v
pub record Good (q v : ℕ) (es : List (ℕ × ℕ)) : Type 0 where
  pub quotients : (i : ℕ) → i < length es → (get_or es i (0, 0)).0 < 2 ^ q
  pub values : (i : ℕ) → i < length es → (get_or es i (0, 0)).1 < 2 ^ v
  pub apart : (i j : ℕ) → i < j → j < length es → (get_or es i (0, 0)).0 ≢ (get_or es j (0, 0)).0

-- a formed content that a table of groups of S slots, at most C entries to a group, can have
pub record WellFormed (S C : ℕ) (fits : ℕ → ℕ → ℕ → Bool) (k v b : ℕ) (slots : List (List (ℕ × ℕ))) : Type 0 where
  pub fit : fits k v b ≡ true
  pub long : length slots ≡ 2 ^ b
  pub good : (s : ℕ) → s < 2 ^ b → Good (k - b) v (slice_index_or slots s [])
  pub limited : (s : ℕ) → s < 2 ^ b → within C (load S slots s) ≡ true
