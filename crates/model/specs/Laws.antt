-- The laws over whole histories, for every fixed data that keep theirs.
--   LawfulCoding, LawfulMixing, LawfulKind, Lawful   what the fixed data keep
--   Apart                            no key twice
--   Held, AlwaysHeld                 held is what the last accepted take or cancel says
--   Lists, Walked, Listing, AlwaysListed   listing
--   Counts, AlwaysCounted            counts
--   SameCoding, SameCodings          equal codings
--   Follows, Alike, AlwaysAlike      alike
--   half_list, Moves, Enlarged, AlwaysMoved   what an enlargement does in the tables
--   Fair, AlwaysFair                 what makes the machine a fair judge
use Rattle.std.specs.Prelude.{◌≡◌, ℕ, suc, ◌+◌, ◌-◌, ◌*◌, ◌/◌, ◌%◌, ◌^◌, ◌<◌, ◌≤◌, Bool, true, false, cond, List, [], ◌∷◌, ◌++◌, length, get_or, Some, None, ◌==◌, nat_eq, slice_index_or}
use Rattle.std.specs.List.{ContainsAt, AllByRecursion, slice_get}
use Rattle.table.specs.Slots.{within}
use Rattle.table.specs.Meaning.{Meaning, unformed, formed, value_in, load, Fit, WellFormed}
use Rattle.model.specs.declared.call.Call.{Call}
use Rattle.model.specs.declared.call.Call.TheVariants.{Open, Take, Cancel, Find, Count, At, Enlarge}
use Rattle.model.specs.Entries.{Entries, count_if, group_load, content}
use Rattle.model.specs.Model.{Coding, Mixing, Kind, Fixed, on_first, on_second, other, State, Model, closed, opened, entries, Reply, answered, listed, kind, slot_of, quotient_of, slots_of, table_of}
use Rattle.model.specs.Step.{step, run}
use Rattle.model.specs.History.{History, calls_of, accepted, from_key, held, LastTake, held_under, held_count, taken, cancelled, quiet, answers_four, full_take, any_before, history}

-- ---- what the fixed data keep

-- numbers below 2^width; item to number to item; number to item to number
pub record LawfulCoding {Item : Type 0} (c : Coding Item) : Type 0 where
  pub below : (item : Item) (m : ℕ) → c.number item ≡ Some m → m < 2 ^ c.width
  pub back : (item : Item) (m : ℕ) → c.number item ≡ Some m → c.item m ≡ Some item
  pub forth : (item : Item) (m : ℕ) → c.item m ≡ Some item → c.number item ≡ Some m

-- numbers below 2^width stay below it; there and back returns the number
pub record LawfulMixing (p : Mixing) : Type 0 where
  pub below : (m : ℕ) → m < 2 ^ p.width → p.forth m < 2 ^ p.width
  pub returns : (m : ℕ) → m < 2 ^ p.width → p.back (p.forth m) ≡ m

-- the group size is a power of two, the limit at least 1, and what fits has the widths of every table
pub record LawfulKind (d : Kind) : Type 0 where
  pub grouped : (j : ℕ) × (d.group ≡ 2 ^ j)
  pub limited : 1 ≤ d.limit
  pub fitting : (k v b : ℕ) → d.fits k v b ≡ true → Fit d.group k v b

-- all of them
pub record Lawful {K V : Type 0} (f : Fixed K V) : Type 0 where
  pub keys : LawfulCoding f.keys
  pub values : LawfulCoding f.values
  pub mix : LawfulMixing f.mix
  pub first : LawfulKind f.first
  pub second : LawfulKind f.second

-- no key twice
abbrev pub Apart : Entries → Type 0
Apart [] = Unit {0}
Apart (e ∷ l) = (value_in l e.0 ≡ None) × Apart l

-- how many entries of some slots have the value number w
abbrev pub slots_with : (w : ℕ) → List Entries → ℕ
slots_with w [] = 0
slots_with w (s ∷ ss) = count_if (λ e. nat_eq e.1 w) s + slots_with w ss

-- how many entries of a table have it
abbrev pub entries_with : (w : ℕ) → Meaning → ℕ
entries_with w unformed = 0
entries_with w (formed k v b slots) = slots_with w slots

-- the entries whose quotient's top bit is t, with that bit dropped, in their order; half is what that bit is worth
abbrev pub half_list : (half t : ℕ) → Entries → Entries
half_list half t [] = []
half_list half t (e ∷ es) = cond (e.0 / half == t) ((e.0 % half, e.1) ∷ half_list half t es) (half_list half t es)

-- slot i's entries go to slots 2i and 2i + 1 by the quotient's top bit, which is dropped, order kept
pub record Moves (half : ℕ) (old new : List Entries) : Type 0 where
  pub long : length new ≡ 2 * length old
  pub low : (i : ℕ) → i < length old → slice_index_or new (2 * i) [] ≡ half_list half 0 (slice_index_or old i [])
  pub high : (i : ℕ) → i < length old → slice_index_or new (2 * i + 1) [] ≡ half_list half 1 (slice_index_or old i [])

-- take, cancel, find and count: the calls whose replies do not hang on where keys stand
abbrev pub plain : {K V : Type 0} → Call K V → Bool
plain (Open b) = false
plain (Take key n value) = true
plain (Cancel key n value) = true
plain (Find key) = true
plain Count = true
plain (At i) = false
plain Enlarge = false

module _ {K V : Type 0} (f : Fixed K V) where
  -- ---- held

  -- held says what the last accepted take or cancel that covers the key number says
  pub record Held (h : History K V) (m w : ℕ) : Type 0 where
    pub last : held f h m ≡ Some w → LastTake f h m w
    pub back : LastTake f h m w → held f h m ≡ Some w

  -- ---- listing

  -- l lists what is held after `before`, each once; the places and counts asked for in `middle` were answered from it
  pub record Lists (before middle : History K V) (l : Entries) : Type 0 where
    pub long : length l ≡ held_count f before
    pub counted : length l ≡ length (entries (run f closed (calls_of before)).0)
    pub apart : Apart l
    pub only_held : (m w : ℕ) → ContainsAt l (m, w) → held f before m ≡ Some w
    pub all_held : (m w : ℕ) → held f before m ≡ Some w → ContainsAt l (m, w)
    pub answers : (i : ℕ) (r : Reply) → ContainsAt middle (At i, r) → i < length l → r ≡ listed (get_or l i (0, 0)).0 (get_or l i (0, 0)).1
    pub no_others : (i : ℕ) (r : Reply) → ContainsAt middle (At i, r) → length l ≤ i → accepted r ≡ false
    pub counts : (r : Reply) → ContainsAt middle (Count, r) → r ≡ answered (length l)

  -- the answers are exactly the pairs held after `before`, each once
  pub record Walked (before middle : History K V) : Type 0 where
    pub none_else : (i m w : ℕ) → ContainsAt middle (At i, listed m w) → held f before m ≡ Some w
    pub none_left : (m w : ℕ) → held f before m ≡ Some w → (i : ℕ) × ContainsAt middle (At i, listed m w)
    pub once : (i j m w u : ℕ) → ContainsAt middle (At i, listed m w) → ContainsAt middle (At j, listed m u) → i ≡ j

  -- the list, and its consequence where at was put for every place below the count
  pub record Listing (before middle : History K V) : Type 0 where
    pub lists : (l : Entries) × Lists before middle l
    pub walked : ((i : ℕ) → i < held_count f before → (r : Reply) × ContainsAt middle (At i, r)) → Walked before middle

  -- ---- counts

  -- held and cancelled is taken, and the tables have as many entries with w as are held under it
  pub record Counts (calls : List (Call K V)) (w : ℕ) : Type 0 where
    pub balance : held_under f w (history f calls) + cancelled f w (history f calls) ≡ taken f w (history f calls)
    pub stored : entries_with w (table_of f on_first (run f closed calls).0) + entries_with w (table_of f on_second (run f closed calls).0) ≡ held_under f w (history f calls)

  -- ---- enlarging

  -- what an accepted enlarge leaves: the table in use emptied, its entries moved into the other
  pub record Enlarged (t : State) (after : Model) : Type 0 where
    pub new_slots : List Entries
    pub new : table_of f (other t.side) after ≡ formed f.keys.width f.values.width (t.b + 1) new_slots
    pub old : table_of f t.side after ≡ unformed
    pub moves : Moves (2 ^ (f.keys.width - (t.b + 1))) (slots_of f t) new_slots

  -- a group of the other table would hold more than C
  abbrev pub Overfull : State → Type 0
  Overfull t = (g : ℕ) × ((kind f (other t.side)).limit < group_load (slot_of f (t.b + 1)) (kind f (other t.side)).group t.list g)

  -- of a machine after any calls: what enlarge does, and that it refuses with 4 only where a group would pass C
  abbrev pub Enlarging : Model → Type 0
  Enlarging closed = Unit {0}
  Enlarging (opened t) =
      (accepted (step f (opened t) Enlarge).1 ≡ true → Enlarged t (step f (opened t) Enlarge).0)
      × (answers_four (step f (opened t) Enlarge).1 ≡ true → Overfull t)

  -- ---- a fair judge

  -- the table in use is well formed, each group with its load within C, by the list as by the slots
  pub record WellUsed (t : State) (d : Kind) : Type 0 where
    pub well : WellFormed d.group d.limit d.fits f.keys.width f.values.width t.b (slots_of f t)
    pub loads : (s : ℕ) → load d.group (slots_of f t) s ≡ group_load (slot_of f t.b) d.group t.list (s / d.group)
    pub limited : (g : ℕ) → within d.limit (group_load (slot_of f t.b) d.group t.list g) ≡ true

  -- the same of a machine; a closed one uses no table
  abbrev pub InUse : Model → Type 0
  InUse closed = Unit {0}
  InUse (opened t) = WellUsed t (kind f t.side)

  -- what makes the machine a fair judge, after any calls
  pub record Fair (calls : List (Call K V)) : Type 0 where
    pub apart : Apart (entries (run f closed calls).0)
    pub below : AllByRecursion (λ e. e.0 < 2 ^ f.keys.width) (entries (run f closed calls).0)
    pub tells : (m : ℕ) → held f (history f calls) m ≡ value_in (entries (run f closed calls).0) m
    pub joined : (b m : ℕ) → slot_of f b m * 2 ^ (f.keys.width - b) + quotient_of f b m ≡ f.mix.forth m
    pub returns : AllByRecursion (λ e. f.mix.back (f.mix.forth e.0) ≡ e.0) (entries (run f closed calls).0)
    pub used : InUse (run f closed calls).0
    pub leaves : (c : Call K V) → accepted (step f (run f closed calls).0 c).1 ≡ false → (step f (run f closed calls).0 c).0 ≡ (run f closed calls).0
    pub again : (key : K) (n : ℕ) (value : V) → accepted (step f (run f closed calls).0 (Cancel key n value)).1 ≡ true
        → (step f (step f (run f closed calls).0 (Cancel key n value)).0 (Take key n value)).1 ≡ answered n

-- ---- alike

-- equal codings: widths, numbers and items
pub record SameCoding {Item : Type 0} (c d : Coding Item) : Type 0 where
  pub width : c.width ≡ d.width
  pub number : (item : Item) → c.number item ≡ d.number item
  pub item : (m : ℕ) → c.item m ≡ d.item m

-- of keys and of values
pub record SameCodings {K V : Type 0} (f g : Fixed K V) : Type 0 where
  pub keys : SameCoding f.keys g.keys
  pub values : SameCoding f.values g.values

module _ {K V : Type 0} (f g : Fixed K V) where
  -- what a take or a cancel covers, and a find asks about, is held alike
  abbrev pub AgreeOn : Call K V → (l r : Entries) → Type 0
  AgreeOn (Open b) l r = ⊥
  AgreeOn (Take key n value) l r = (x : ℕ) → from_key (f.keys.number key) n x ≡ true → value_in l x ≡ value_in r x
  AgreeOn (Cancel key n value) l r = (x : ℕ) → from_key (f.keys.number key) n x ≡ true → value_in l x ≡ value_in r x
  AgreeOn (Find key) l r = (x : ℕ) → from_key (f.keys.number key) 1 x ≡ true → value_in l x ≡ value_in r x
  AgreeOn Count l r = ⊥
  AgreeOn (At i) l r = ⊥
  AgreeOn Enlarge l r = ⊥

  -- a reply to take, cancel or find other than 4 follows from the codings and from what is held at the keys that it covers
  abbrev pub Follows : Type 0
  Follows = (t u : State) (c : Call K V) → AgreeOn c t.list u.list
      → answers_four (step f (opened t) c).1 ≡ false → answers_four (step g (opened u) c).1 ≡ false
      → (step f (opened t) c).1 ≡ (step g (opened u) c).1

  -- the same calls put to two machines: at a place up to which neither has answered a take with 4, the same reply
  abbrev pub Alike : List (Call K V) → Type 0
  Alike calls = (i : ℕ) (c : Call K V) → slice_get calls i ≡ Some c → plain c ≡ true
      → any_before full_take (suc i) (history f calls) ≡ false
      → any_before full_take (suc i) (history g calls) ≡ false
      → slice_get (run f closed calls).1 i ≡ slice_get (run g closed calls).1 i

-- ---- the laws, each of every list of calls

-- held
abbrev pub AlwaysHeld : (K V : Type 0) → Type 0
AlwaysHeld K V = (f : Fixed K V) (h : History K V) (m w : ℕ) → Held f h m w

-- listing: wherever the history is cut in three, with no accepted take, cancel or enlarge in the middle
abbrev pub AlwaysListed : (K V : Type 0) → Type 0
AlwaysListed K V = (f : Fixed K V) → Lawful f → (calls : List (Call K V)) (before middle after : History K V)
    → history f calls ≡ before ++ (middle ++ after) → quiet middle ≡ true → Listing f before middle

-- counts: of every value number
abbrev pub AlwaysCounted : (K V : Type 0) → Type 0
AlwaysCounted K V = (f : Fixed K V) → Lawful f → (calls : List (Call K V)) (w : ℕ) → Counts f calls w

-- alike: the list begins with an open that both accept
abbrev pub AlwaysAlike : (K V : Type 0) → Type 0
AlwaysAlike K V = (f g : Fixed K V) → SameCodings f g → (b : ℕ) (rest : List (Call K V))
    → accepted (step f closed (Open b)).1 ≡ true → accepted (step g closed (Open b)).1 ≡ true → Alike f g (Open b ∷ rest)

-- and what it follows from
abbrev pub AlwaysFollows : (K V : Type 0) → Type 0
AlwaysFollows K V = (f g : Fixed K V) → SameCodings f g → Follows f g

-- enlarging moves entries: of the content of any list at b and at b + 1
abbrev pub AlwaysMoved : (K V : Type 0) → Type 0
AlwaysMoved K V = (f : Fixed K V) (b : ℕ) → b < f.keys.width → (l : Entries)
    → Moves (2 ^ (f.keys.width - (b + 1))) (content (slot_of f b) (quotient_of f b) (2 ^ b) l) (content (slot_of f (b + 1)) (quotient_of f (b + 1)) (2 ^ (b + 1)) l)

-- and so of an accepted enlarge after any calls
abbrev pub AlwaysEnlarged : (K V : Type 0) → Type 0
AlwaysEnlarged K V = (f : Fixed K V) → Lawful f → (calls : List (Call K V)) → Enlarging f (run f closed calls).0

-- a fair judge
abbrev pub AlwaysFair : (K V : Type 0) → Type 0
AlwaysFair K V = (f : Fixed K V) → Lawful f → (calls : List (Call K V)) → Fair f calls
