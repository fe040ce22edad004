-- What ties a register to the plain machine.
--   side_of        a side, as the machine has it
--   Uses           what a register says that it uses: nothing where the machine is closed, else its side and b
--   Means          a sound table with a meaning
--   Entered        what the list of an open machine keeps: keys below 2^k and apart, values that items have
--   Stands         a register stands for a machine
--   MadeOf         a register of five parts: what is fixed, and the numbers of words, are those of the parts
--   Same           two states of one register: what is fixed, and the numbers of words, are the same
use Rattle.std.specs.Prelude.{◌≡◌, ℕ, ◌^◌, ◌<◌, length, Some, None, Option}
use Rattle.std.specs.List.{AllByRecursion}
use Rattle.coding.specs.declared.Coding as coding
use Rattle.permutation.specs.declared.Permutation as permutation
use Rattle.table.specs.declared.table.Table as table
use Rattle.table.specs.Meaning.{Meaning}
use Rattle.model.specs.Model.{Fixed, Side, on_first, on_second, State, Model, closed, opened, entries, table_of}
use Rattle.model.specs.Laws.{Apart}
use Rattle.register.specs.declared.side.Side as sides
use Rattle.register.specs.declared.side.Side.TheVariants.{First, Second}
use Rattle.register.specs.declared.parts.Parts.{Parts}
use Rattle.register.specs.declared.state.Opened.{Opened}
use Rattle.register.specs.declared.state.Register.{Register}
use Rattle.register.specs.Fixed.{fixed, fixed_of}

-- a side, as the machine has it
abbrev pub side_of : sides.Side → Side
side_of First = on_first
side_of Second = on_second

-- what a register says that it uses, and the machine does
abbrev pub Uses : Option Opened → Model → Type 0
Uses None closed = Unit {0}
Uses None (opened t) = ⊥
Uses (Some o) closed = ⊥
Uses (Some o) (opened t) = (side_of o.side ≡ t.side) × (o.b ≡ t.b)

-- a sound table with a meaning
pub record Means {A : Type 0} (ta : table.Ghosts A) (t : A) (m : Meaning) : Type 0 where
  pub sound : ta.sound t
  pub means : ta.means t ≡ m

-- some item has the value number w
abbrev pub HasItem : {K V : Type 0} → Fixed K V → (w : ℕ) → Type 0
HasItem {K} {V} f w = (item : V) × (f.values.number item ≡ Some w)

-- what the list of an open machine keeps
pub record Entered {K V : Type 0} (f : Fixed K V) (t : State) : Type 0 where
  pub widths : f.mix.width ≡ f.keys.width
  pub below : AllByRecursion (λ e. e.0 < 2 ^ f.keys.width) t.list
  pub apart : Apart t.list
  pub known : AllByRecursion (λ e. HasItem f e.1) t.list

-- the same of a machine; a closed one has no list
abbrev pub Listed : {K V : Type 0} → Fixed K V → Model → Type 0
Listed f closed = Unit {0}
Listed f (opened t) = Entered f t

module _ {K T V U P A B : Type 0} (kc : coding.Ghosts K T) (vc : coding.Ghosts V U) (pm : permutation.Ghosts P) (ta : table.Ghosts A) (tb : table.Ghosts B) where
  -- A relation: the machine has the order of arrival over all slots, which no table keeps, so no function takes a register to its machine.
  -- a register stands for a machine: open alike, as many entries, each table means what the machine says, and the list is in order
  pub record Stands (r : Register K V P A B T U) (m : Model) : Type 0 where
    pub uses : Uses r.opened m
    pub count : r.count ≡ length (entries m)
    pub first : Means ta r.first (table_of (fixed kc vc pm ta tb r) on_first m)
    pub second : Means tb r.second (table_of (fixed kc vc pm ta tb r) on_second m)
    pub listed : Listed (fixed kc vc pm ta tb r) m

  -- a register of five parts
  pub record MadeOf (r : Register K V P A B T U) (p : Parts K V P A B) : Type 0 where
    pub parts : fixed kc vc pm ta tb r ≡ fixed_of kc vc pm ta tb p
    pub first_words : length (ta.words r.first) ≡ length (ta.words p.first)
    pub second_words : length (tb.words r.second) ≡ length (tb.words p.second)

  -- two states of one register
  pub record Same (r s : Register K V P A B T U) : Type 0 where
    pub parts : fixed kc vc pm ta tb s ≡ fixed kc vc pm ta tb r
    pub first_words : length (ta.words s.first) ≡ length (ta.words r.first)
    pub second_words : length (tb.words s.second) ≡ length (tb.words r.second)
