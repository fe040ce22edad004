-- The plain machine that a register must answer like: what is fixed, what changes, and what is replied.
--   Coding, Mixing, Kind, Fixed   the codings, the permutation and the tables, as far as the machine knows them
--   Side, other                   which of the two tables is in use
--   State, Model                  side, b and list of an open machine; closed, or open
--   entries                       the list of a machine, none of a closed one
--   Reply, declined, declined_at  what is replied to a call; a refusal as a reply
--   kind, slot_of, quotient_of    a side's table; where a key number stands at a b
--   table_of                      what a side's table means
use Rattle.std.specs.Prelude.{ℕ, ◌^◌, Bool, List, [], Option}
use Rattle.table.specs.Slots.{slot, quotient}
use Rattle.table.specs.Meaning.{Meaning, unformed, formed}
use Rattle.model.specs.declared.refusal.Refusal.{Refusal}
use Rattle.model.specs.declared.run_refusal.RunRefusal.{RunRefusal}
use Rattle.model.specs.Refusals.{says, run_says}
use Rattle.model.specs.Entries.{Entries, content}

-- a coding: its width, the number of an item, and the item of a number
pub record Coding (Item : Type 0) : Type 0 where
  pub width : ℕ
  pub number : Item → Option ℕ
  pub item : ℕ → Option Item

-- a permutation: its width, there, and back
pub record Mixing : Type 0 where
  pub width : ℕ
  pub forth : ℕ → ℕ
  pub back : ℕ → ℕ

-- a table: S slots make a group, at most C entries in a group, and which k, v, b fit
pub record Kind : Type 0 where
  pub group : ℕ
  pub limit : ℕ
  pub fits : (k v b : ℕ) → Bool

-- what does not change: k is the keys' width, v the values'
pub record Fixed (K V : Type 0) : Type 0 where
  pub keys : Coding K
  pub values : Coding V
  pub mix : Mixing
  pub first : Kind
  pub second : Kind

-- which of the two tables is in use
pub data Side : Type 0 where
  on_first : Side
  on_second : Side

-- the other one
abbrev pub other : Side → Side
other on_first = on_second
other on_second = on_first

-- an open machine: the table in use, its b, and what is held in order of arrival
pub record State : Type 0 where
  pub side : Side
  pub b : ℕ
  pub list : Entries

-- the machine: closed, or open
pub data Model : Type 0 where
  closed : Model
  opened : State → Model

-- the list of a machine; a closed one holds nothing
abbrev pub entries : Model → Entries
entries closed = []
entries (opened t) = t.list

-- a refusal by its number, with the table's own number inside where there is one, and of a run its place; or the numbers answered
pub data Reply : Type 0 where
  refused : (number : ℕ) → (inside : Option ℕ) → Reply
  refused_at : (place number : ℕ) → (inside : Option ℕ) → Reply
  answered : ℕ → Reply
  found : (w : ℕ) → Reply
  listed : (m w : ℕ) → Reply

-- a refusal as a reply
abbrev pub declined : Refusal → Reply
declined e = refused (says e).0 (says e).1

-- a run's refusal as a reply
abbrev pub declined_at : RunRefusal → Reply
declined_at e = refused_at (run_says e).0 (run_says e).1 (run_says e).2

module _ {K V : Type 0} (f : Fixed K V) where
  -- the table of a side
  abbrev pub kind : Side → Kind
  kind on_first = f.first
  kind on_second = f.second

  -- the slot of a key number at b: that of its permuted number
  abbrev pub slot_of : (b m : ℕ) → ℕ
  slot_of b m = slot f.keys.width b (f.mix.forth m)

  -- its quotient
  abbrev pub quotient_of : (b m : ℕ) → ℕ
  quotient_of b m = quotient f.keys.width b (f.mix.forth m)

  -- the slots of the table in use
  abbrev pub slots_of : State → List Entries
  slots_of t = content (slot_of t.b) (quotient_of t.b) (2 ^ t.b) t.list

  -- what the table in use means
  abbrev pub in_use : State → Meaning
  in_use t = formed f.keys.width f.values.width t.b (slots_of t)

  -- what the table of a side means, where the machine is on one side
  abbrev pub on_side : Side → Side → State → Meaning
  on_side on_first on_first t = in_use t
  on_side on_first on_second t = unformed
  on_side on_second on_first t = unformed
  on_side on_second on_second t = in_use t

  -- what the table of a side means: unformed unless it is in use
  abbrev pub table_of : Side → Model → Meaning
  table_of s closed = unformed
  table_of s (opened t) = on_side s t.side t
