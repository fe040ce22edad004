-- When words are those of a content, and which block is the first that is none's.
--   Given     some well-formed group has this block
--   Holds     some well-formed content has these words
--   Wrong     the number of the first block that no content gives, or of all blocks where only a later word is not zero
--   Checked   what a check answers
use Rattle.std.specs.Prelude.{◌≡◌, ℕ, ◌-◌, ◌*◌, ◌<◌, true, false, ◌⊎◌, List, length, drop, replicate, Ok, Err, Result, ◌≢◌}
use Rattle.table.specs.declared.check_refusal.CheckRefusal.{CheckRefusal}
use Rattle.table.specs.declared.check_refusal.CheckRefusal.TheVariants.{DoesNotFit, WrongBlock}
use Rattle.table.specs.Meaning.{formed, WellFormed}
use Rattle.table.specs.Layout.{Layout, GoodGroup, part, words_of}

-- some well-formed group has this block
pub record Given (L : Layout) (k v b : ℕ) (block : List ℕ) : Type 0 where
  pub slots : List (List (ℕ × ℕ))
  pub good : GoodGroup L.S L.C (k - b) v slots
  pub made : block ≡ L.block k v b slots

-- some well-formed content has these words
pub record Holds (L : Layout) (ws : List ℕ) (k v b : ℕ) : Type 0 where
  pub slots : List (List (ℕ × ℕ))
  pub well : WellFormed L.S L.C (L.fits (length ws)) k v b slots
  pub made : ws ≡ words_of L (length ws) (formed k v b slots)

-- g is the number of the first block that no content gives; or every block is one, g is their number, and a later word is not zero
pub record Wrong (L : Layout) (ws : List ℕ) (k v b g : ℕ) : Type 0 where
  pub fit : L.fits (length ws) k v b ≡ true
  pub before : (i : ℕ) → i < g → Given L k v b (part (L.width k v b) i ws)
  pub here : ((g < L.count b) × (Given L k v b (part (L.width k v b) g ws) → ⊥))
      ⊎ ((g ≡ L.count b) × (drop (L.count b * L.width k v b) ws ≢ replicate (length ws - L.count b * L.width k v b) 0))

-- what a check answers
abbrev pub Checked : Layout → List ℕ → (k v b : ℕ) → Result (Unit {0}) CheckRefusal → Type 0
Checked L ws k v b (Ok u) = Holds L ws k v b
Checked L ws k v b (Err DoesNotFit) = L.fits (length ws) k v b ≡ false
Checked L ws k v b (Err (WrongBlock g)) = Wrong L ws k v b g
