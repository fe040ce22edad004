-- What is looked up in the table in use.
use Rattle.std.proofs.Common.{◌≡◌, ℕ, ◌^◌, ◌<◌, ap, ◌∙◌}
use Rattle.std.proofs.lemmas.Bool.{lt-ltb}
use Rattle.table.specs.Meaning.{answer_of, value_in}
use Rattle.model.specs.Entries.{Entries}
use Rattle.dictionary.specs.Stored.{slot_of}
use Rattle.dictionary.specs.Results.{listed_at, look_in, looked_up}

-- a key number of k bits is looked up in the list
pub looked_below : (j k : ℕ) (l : Entries) (m : ℕ) → j ≡ k → m < 2 ^ k → looked_up j l m ≡ answer_of (value_in l m)
looked_below j k l m e below = ap (λ i. looked_up i l m) e ∙ ap (look_in l m) (lt-ltb m (2 ^ k) below)

-- the entry at a place, at equal widths
pub listed_as : (forth : ℕ → ℕ) (k b k' b' : ℕ) (l : Entries) (i : ℕ) → k' ≡ k → b' ≡ b → listed_at (slot_of forth k' b') b' l i ≡ listed_at (slot_of forth k b) b l i
listed_as forth k b k' b' l i p q = ap (λ j. listed_at (slot_of forth j b') b' l i) p ∙ ap (λ j. listed_at (slot_of forth k j) j l i) q
