-- Words in blocks: the words of a content and the reading back, one text for every table that keeps a group to a block.
--   group_at, groups          the slots of one group; all the groups
--   group_added, group_removed   add and remove, in one slot of a group
--   GoodGroup                 a group as it has to be
--   Layout                    how a kind of table keeps its groups in words
--   part                      the block of number g, of w words
--   words_of                  the words of a meaning
--   content, meaning          what words read as
--   Well                      a meaning that n words can have
use Rattle.std.specs.Prelude.{◌≡◌, ℕ, ◌-◌, ◌*◌, ◌<◌, Bool, true, List, [], ◌∷◌, ◌++◌, map, length, take, drop, replicate, Some, None, Ok, Err, Option, Result, slice_index_or, slice_set}
use Rattle.std.specs.List.{range_with_len, flat_map}
use Rattle.table.specs.declared.refusal.TableRefusal.{TableRefusal}
use Rattle.table.specs.declared.refusal.TableRefusal.TheVariants.{Absent}
use Rattle.table.specs.declared.shape.Shape.{Shape}
use Rattle.table.specs.Slots.{within}
use Rattle.table.specs.Meaning.{Meaning, unformed, formed, value_in, without, total, weigh_held, Good, WellFormed}

-- the slots of group g, in groups of S
abbrev pub group_at : {E : Type 0} → (S : ℕ) → List E → ℕ → List E
group_at S slots g = take S (drop (g * S) slots)

-- the first m groups
abbrev pub groups : {E : Type 0} → (S m : ℕ) → List E → List (List E)
groups S m slots = map (λ g. group_at S slots g) (range_with_len 0 m)

-- an entry at the end of slot j of a group, unless something stands against it
abbrev pub group_reply : List (List (ℕ × ℕ)) → (j q w : ℕ) → Result (Unit {0}) TableRefusal → (List (List (ℕ × ℕ)) × Result (Unit {0}) TableRefusal)
group_reply G j q w (Ok u) = (slice_set G j (slice_index_or G j [] ++ ((q, w) ∷ [])), Ok tt)
group_reply G j q w (Err e) = (G, Err e)

-- add in slot j of a group, the numbers in range
abbrev pub group_added : ℕ → List (List (ℕ × ℕ)) → (j q w : ℕ) → (List (List (ℕ × ℕ)) × Result (Unit {0}) TableRefusal)
group_added C G j q w = group_reply G j q w (weigh_held C (total G) (value_in (slice_index_or G j []) q))

-- slot j of a group without an entry, where it holds one
abbrev pub group_without : List (List (ℕ × ℕ)) → (j q : ℕ) → Option ℕ → (List (List (ℕ × ℕ)) × Result ℕ TableRefusal)
group_without G j q (Some x) = (slice_set G j (without (slice_index_or G j []) q), Ok x)
group_without G j q None = (G, Err Absent)

-- remove in slot j of a group, the numbers in range
abbrev pub group_removed : List (List (ℕ × ℕ)) → (j q : ℕ) → (List (List (ℕ × ℕ)) × Result ℕ TableRefusal)
group_removed G j q = group_without G j q (value_in (slice_index_or G j []) q)

-- a group of S slots: quotients below 2^q and apart within a slot, values below 2^v, within the limit together
pub record GoodGroup (S C q v : ℕ) (G : List (List (ℕ × ℕ))) : Type 0 where
  pub whole : length G ≡ S
  pub good : (j : ℕ) → j < S → Good q v (slice_index_or G j [])
  pub limited : within C (total G) ≡ true

-- groups of S slots, at most C entries to a group; which widths fit n words; how many blocks there are;
-- how many words a block has; the block of a group; the group that a block reads as
pub record Layout : Type 0 where
  pub S : ℕ
  pub C : ℕ
  pub fits : (n k v b : ℕ) → Bool
  pub count : (b : ℕ) → ℕ
  pub width : (k v b : ℕ) → ℕ
  pub block : (k v b : ℕ) → List (List (ℕ × ℕ)) → List ℕ
  pub read : (k v b : ℕ) → List ℕ → List (List (ℕ × ℕ))

-- run number g of w words
abbrev pub part : (w g : ℕ) → List ℕ → List ℕ
part w g ws = take w (drop (g * w) ws)

-- the n words of a meaning: the blocks of its groups one after the other, then zeros
unfoldable pub words_of : Layout → ℕ → Meaning → List ℕ
words_of L n unformed = replicate n 0
words_of L n (formed k v b slots) = flat_map (L.block k v b) (groups L.S (L.count b) slots) ++ replicate (n - L.count b * L.width k v b) 0

-- the slots that words read as
unfoldable pub content : Layout → (k v b : ℕ) → List ℕ → List (List (ℕ × ℕ))
content L k v b ws = flat_map (λ G. G) (map (λ g. L.read k v b (part (L.width k v b) g ws)) (range_with_len 0 (L.count b)))

-- what words mean under a shape
abbrev pub meaning : Layout → List ℕ → Option Shape → Meaning
meaning L ws None = unformed
meaning L ws (Some s) = formed s.k s.v s.b (content L s.k s.v s.b ws)

-- a meaning that n words can have
abbrev pub Well : Layout → ℕ → Meaning → Type 0
Well L n unformed = Unit {0}
Well L n (formed k v b slots) = WellFormed L.S L.C (L.fits n) k v b slots
