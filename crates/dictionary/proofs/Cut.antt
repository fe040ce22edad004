-- Where key numbers stand: the slots and quotients of permuted numbers.
use Rattle.std.proofs.Common.{◌≡◌, ℕ, ◌+◌, ◌-◌, ◌*◌, ◌^◌, ◌<◌, ◌≤◌, true, false, ltb, sym, ap, ◌∙◌, arith}
use Rattle.std.proofs.lemmas.Nat.{le-div, mod_below, pow-add, pow_pos}
use Rattle.std.proofs.ByRecursion.{All-weaker}
use Rattle.std.proofs.lemmas.Bool.{and_from, and_left, le-ltb, lt-ltb}
use Rattle.std.specs.List.{AllByRecursion as All}
use Rattle.table.specs.Meaning.{in_range}
use Rattle.model.specs.Entries.{Entries}
use Rattle.model.proofs.Standing.{slot_within, whole_from_parts}
use Rattle.dictionary.specs.Stored.{quotient_of, slot_of}

-- what a permutation of the numbers below 2^k keeps
pub record Mixes (forth back : ℕ → ℕ) (k : ℕ) : Type 0 where
  pub within : (m : ℕ) → m < 2 ^ k → forth m < 2 ^ k
  pub returns : (m : ℕ) → m < 2 ^ k → back (forth m) ≡ m

module _ {forth back : ℕ → ℕ} {k : ℕ} (mix : Mixes forth back k) (b : ℕ) (narrow : b ≤ k) where
  -- the slot is one of 2^b
  pub slot_below : (m : ℕ) → m < 2 ^ k → slot_of forth k b m < 2 ^ b
  slot_below m h = slot_within (forth m) k b narrow (mix.within m h)

  -- the quotient has the bits that are left
  pub quotient_below : (m : ℕ) → quotient_of forth k b m < 2 ^ (k - b)
  quotient_below m = mod_below (forth m) (2 ^ (k - b)) (pow_pos (k - b))

  -- they tell the key number
  pub key_from : (m n : ℕ) → m < 2 ^ k → n < 2 ^ k → slot_of forth k b m ≡ slot_of forth k b n → quotient_of forth k b m ≡ quotient_of forth k b n → m ≡ n
  key_from m n h j s q = sym (mix.returns m h) ∙ ap back (whole_from_parts (forth m) (forth n) (2 ^ (k - b)) s q) ∙ mix.returns n j

  -- a key number of k bits has its place
  pub in_here : (m : ℕ) → m < 2 ^ k → in_range k b (slot_of forth k b m) (quotient_of forth k b m) ≡ true
  in_here m h =
      and_from (ltb (slot_of forth k b m) (2 ^ b)) (ltb (quotient_of forth k b m) (2 ^ (k - b)))
      (lt-ltb (slot_of forth k b m) (2 ^ b) (slot_below m h)) (lt-ltb (quotient_of forth k b m) (2 ^ (k - b)) (quotient_below m))

  -- any other has none
  pub out_there : (m : ℕ) → 2 ^ k ≤ m → forth m ≡ m → in_range k b (slot_of forth k b m) (quotient_of forth k b m) ≡ false
  out_there m h stays =
      let split : 2 ^ k ≡ 2 ^ b * 2 ^ (k - b) = let e : k ≡ b + (k - b) = omega arith in ap (λ n. 2 ^ n) e ∙ pow-add 2 b (k - b) in
      let past : 2 ^ b * 2 ^ (k - b) ≤ forth m = omega arith in
      and_left (ltb (slot_of forth k b m) (2 ^ b)) (ltb (quotient_of forth k b m) (2 ^ (k - b)))
      (le-ltb (slot_of forth k b m) (2 ^ b) (le-div (2 ^ b) (forth m) (2 ^ (k - b)) (pow_pos (k - b)) past))

  -- every key of a list has a slot
  pub slots_below : (l : Entries) → All (λ e. e.0 < 2 ^ k) l → All (λ e. slot_of forth k b e.0 < 2 ^ b) l
  slots_below l below = All-weaker (λ e. e.0 < 2 ^ k) (λ e. slot_of forth k b e.0 < 2 ^ b) (λ e h. slot_below e.0 h) l below

-- slot s and quotient q are those of the key number m
pub record Placed (forth : ℕ → ℕ) (k b m s q : ℕ) : Type 0 where
  pub slot : s ≡ slot_of forth k b m
  pub quotient : q ≡ quotient_of forth k b m
