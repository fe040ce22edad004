-- What a layout has to keep, so that words and contents go one to one.
--   Lawful   the laws of a layout
use Rattle.std.specs.Prelude.{◌≡◌, ℕ, ◌-◌, ◌*◌, ◌^◌, ◌<◌, ◌≤◌, true, List, [], length, replicate}
use Rattle.table.specs.Layout.{Layout, GoodGroup}

-- a group has a slot; where widths fit: the groups make up all slots, their blocks have room, a good group has a block of the width and is what it reads as, and one with no entries has zeros
pub record Lawful (L : Layout) : Type 0 where
  pub pos : 0 < L.S
  pub whole : (n k v b : ℕ) → L.fits n k v b ≡ true → L.count b * L.S ≡ 2 ^ b
  pub room : (n k v b : ℕ) → L.fits n k v b ≡ true → L.count b * L.width k v b ≤ n
  pub long : (n k v b : ℕ) → L.fits n k v b ≡ true → (G : List (List (ℕ × ℕ))) → GoodGroup L.S L.C (k - b) v G → length (L.block k v b G) ≡ L.width k v b
  pub back : (n k v b : ℕ) → L.fits n k v b ≡ true → (G : List (List (ℕ × ℕ))) → GoodGroup L.S L.C (k - b) v G → L.read k v b (L.block k v b G) ≡ G
  pub empty : (n k v b : ℕ) → L.fits n k v b ≡ true → L.block k v b (replicate L.S []) ≡ replicate (L.width k v b) 0
