-- What a table means that holds a list of entries, each a key number and a value number, through a permutation.
--   slot_of, quotient_of   where a key number stands: those of its permuted number
--   stored                 the meaning: formed, with the content of the list
--   mixing                 a permutation as the model has it
--   Stores                 a sound table that means it, with keys below 2^k and apart
--   Holds, slot_by         a table that holds the list under an addressing; the slot of a key number under it
--   in_slot, range_load    the entries of one slot; how many there are in some slots
use Rattle.std.specs.Prelude.{◌≡◌, ℕ, ◌+◌, ◌^◌, ◌<◌, ◌&&◌, filter, nat_eq, nat_le, nat_lt}
use Rattle.std.specs.List.{AllByRecursion}
use Rattle.permutation.specs.declared.Permutation as permutation
use Rattle.table.specs.declared.table.Table as table
use Rattle.table.specs.Slots.{slot, quotient}
use Rattle.table.specs.Meaning.{Meaning, formed}
use Rattle.model.specs.Entries.{Entries, content, count_if}
use Rattle.model.specs.Model.{Mixing}
use Rattle.model.specs.Laws.{Apart}
use Rattle.dictionary.specs.declared.addressing.Addressing.{Addressing}

-- the slot of a key number of k bits among 2^b
abbrev pub slot_of : (forth : ℕ → ℕ) → (k b m : ℕ) → ℕ
slot_of forth k b m = slot k b (forth m)

-- its quotient
abbrev pub quotient_of : (forth : ℕ → ℕ) → (k b m : ℕ) → ℕ
quotient_of forth k b m = quotient k b (forth m)

-- formed, with the entries of the list in their slots
abbrev pub stored : (forth : ℕ → ℕ) → (k v b : ℕ) → Entries → Meaning
stored forth k v b l = formed k v b (content (slot_of forth k b) (quotient_of forth k b) (2 ^ b) l)

-- a permutation, as the model has it
abbrev pub mixing : {P : Type 0} → permutation.Ghosts P → P → Mixing
mixing pm p = record { width = pm.width p; forth = pm.forth p; back = pm.back p }

-- the table holds the list, through the permutation, at the widths k, v and b
pub record Stores {T : Type 0} (ta : table.Ghosts T) (mix : Mixing) (t : T) (k v b : ℕ) (l : Entries) : Type 0 where
  pub sound : ta.sound t
  pub means : ta.means t ≡ stored mix.forth k v b l
  pub below : AllByRecursion (λ e. e.0 < 2 ^ k) l
  pub apart : Apart l
  pub widths : mix.width ≡ k

-- the table holds the list, under an addressing
abbrev pub Holds : {P T : Type 0} → permutation.Ghosts P → table.Ghosts T → Addressing P → T → Entries → Type 0
Holds pm ta by t l = Stores ta (mixing pm by.permutation.now) t by.shape.k by.shape.v by.shape.b l

-- the slot of a key number, under an addressing
abbrev pub slot_by : {P : Type 0} → permutation.Ghosts P → Addressing P → (m : ℕ) → ℕ
slot_by pm by m = slot_of (pm.forth by.permutation.now) by.shape.k by.shape.b m

-- the entries whose key stands in slot s, in order of arrival
abbrev pub in_slot : (slot : ℕ → ℕ) → (s : ℕ) → Entries → Entries
in_slot slot s l = filter (λ e. nat_eq (slot e.0) s) l

-- how many keys of a list stand in the n slots from `first` on
unfoldable pub range_load : (slot : ℕ → ℕ) → (first n : ℕ) → Entries → ℕ
range_load slot first n l = count_if (λ e. nat_le first (slot e.0) && nat_lt (slot e.0) (first + n)) l
