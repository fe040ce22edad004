-- What the register's own functions over numbers promise: they pick the table in use, below the items and above the tables.
--   other_side          the other side
--   counted, reopened   a register with another count; with another side and b
--   relisted, enlarged  an open machine with another list; on its other side, with one more bit
--   Chosen, Finds       the table in use with its widths; what looking for it gives
--   Reached             a run whose keys and value have items
--   RunEnds             a run of key numbers that is refused or done
--   MoveEnds            an enlargement that is refused or done
use Rattle.std.specs.Prelude.{◌≡◌, ℕ, ◌+◌, length, Some, None, Ok, Err, Option, Result}
use Rattle.coding.specs.declared.Coding as coding
use Rattle.permutation.specs.declared.Permutation as permutation
use Rattle.table.specs.declared.table.Table as table
use Rattle.model.specs.declared.refusal.Refusal.{Refusal}
use Rattle.model.specs.declared.refusal.Refusal.TheVariants.{Closed}
use Rattle.model.specs.declared.run_refusal.RunRefusal.{RunRefusal}
use Rattle.model.specs.Entries.{Entries}
use Rattle.model.specs.Model.{Fixed, other, State, Model, closed, opened}
use Rattle.model.specs.Step.{larger_fits, room_judged}
use Rattle.dictionary.specs.Results.{InReach, reply, moved}
use Rattle.register.specs.declared.side.Side as sides
use Rattle.register.specs.declared.side.Side.TheVariants.{First, Second}
use Rattle.register.specs.declared.in_use.InUse.{InUse}
use Rattle.register.specs.declared.state.Opened.{Opened}
use Rattle.register.specs.declared.state.Register.{Register}
use Rattle.register.specs.Fixed.{fixed}
use Rattle.register.specs.Stands.{side_of, HasItem, Stands}

-- the other side
abbrev pub other_side : sides.Side → sides.Side
other_side First = Second
other_side Second = First

-- a register with another count
abbrev pub counted : {K V P A B T U : Type 0} → Register K V P A B T U → ℕ → Register K V P A B T U
counted r n = record { keys = r.keys; values = r.values; permutation = r.permutation; first = r.first; second = r.second; opened = r.opened; count = n }

-- a register with another side and b
abbrev pub reopened : {K V P A B T U : Type 0} → Register K V P A B T U → Opened → Register K V P A B T U
reopened r o = record { keys = r.keys; values = r.values; permutation = r.permutation; first = r.first; second = r.second; opened = Some o; count = r.count }

-- an open machine with another list
abbrev pub relisted : State → Entries → State
relisted t l = record { side = t.side; b = t.b; list = l }

-- an open machine on its other side, with one more bit
abbrev pub enlarged : State → State
enlarged t = record { side = other t.side; b = t.b + 1; list = t.list }

-- a run whose keys and value have items
pub record Reached {K V : Type 0} (f : Fixed K V) (m n w : ℕ) : Type 0 where
  pub keys : InReach f.keys.width f.values.width m n w
  pub value : HasItem f w

module _ {K T V U P A B : Type 0} (kc : coding.Ghosts K T) (vc : coding.Ghosts V U) (pm : permutation.Ghosts P) (ta : table.Ghosts A) (tb : table.Ghosts B) where
  -- the table in use, and its widths
  pub record Chosen (r : Register K V P A B T U) (t : State) (u : InUse) : Type 0 where
    pub side : side_of u.side ≡ t.side
    pub k : u.shape.k ≡ kc.width r.keys
    pub v : u.shape.v ≡ vc.width r.values
    pub b : u.shape.b ≡ t.b

  -- what looking for it gives: a closed register has none
  abbrev pub Finds : Register K V P A B T U → Model → Result InUse Refusal → Type 0
  Finds r closed x = x ≡ Err Closed
  Finds r (opened t) x = (u : InUse) × ((x ≡ Ok u) × Chosen r t u)

  -- a run of key numbers, against which stands `judged`; `new` is the list after it
  pub record RunEnds (r s : Register K V P A B T U) (t : State) (new : Entries) (judged : Option RunRefusal) (x : Result (Unit {0}) RunRefusal) : Type 0 where
    pub says : x ≡ reply judged
    pub then : judged ≡ None → Stands kc vc pm ta tb (counted s (length new)) (opened (relisted t new))
    pub kept : (e : RunRefusal) → judged ≡ Some e → s ≡ r
    pub count : s.count ≡ r.count

  -- an enlargement: all entries into the other table, and the one they came from cleared
  pub record MoveEnds (r s : Register K V P A B T U) (t : State) (x : Result (Unit {0}) Refusal) : Type 0 where
    pub says : x ≡ moved (larger_fits (fixed kc vc pm ta tb r) t) (room_judged (fixed kc vc pm ta tb r) t)
    pub then : x ≡ Ok tt → (o : Opened) → side_of o.side ≡ other t.side → o.b ≡ t.b + 1 → Stands kc vc pm ta tb (reopened s o) (opened (enlarged t))
    pub kept : (e : Refusal) → x ≡ Err e → s ≡ r
