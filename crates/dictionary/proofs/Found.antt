-- What a table answers that holds a list: a look-up, a load, and what stands against one more entry.
use Rattle.std.proofs.Common.{◌≡◌, ℕ, ◌/◌, ◌^◌, ◌<◌, ◌≤◌, ltb, List, [], get_or, sym, ap, ◌∙◌, ⊎_elim}
use Rattle.std.proofs.lemmas.Bool.{and_from, cases_lt, le-ltb, lt-ltb}
use Rattle.std.specs.List.{AllByRecursion as All}
use Rattle.table.specs.Meaning.{answer_of, found, found_at, in_range, load, value_in, weigh_held, weigh_range, weighed}
use Rattle.model.specs.Entries.{Entries, content, group_load}
use Rattle.model.proofs.Content.{value_content}
use Rattle.model.proofs.SlotLoads.{load_content}
use Rattle.dictionary.specs.Stored.{quotient_of, slot_of, stored}
use Rattle.dictionary.specs.Results.{look_in, looked_up}
use Rattle.dictionary.proofs.Cut.{Mixes, in_here, key_from, out_there, slot_below, slots_below}

module _ {forth back : ℕ → ℕ} {k : ℕ} (mix : Mixes forth back k) (b : ℕ) (narrow : b ≤ k) (l : Entries) (below : All (λ e. e.0 < 2 ^ k) l) where
  -- the slots of the list
  abbrev slots : List Entries
  slots = content (slot_of forth k b) (quotient_of forth k b) (2 ^ b) l

  -- the value in a key's slot is that in the list
  pub value_here : (m : ℕ) → m < 2 ^ k → value_in (get_or (content (slot_of forth k b) (quotient_of forth k b) (2 ^ b) l) (slot_of forth k b m) []) (quotient_of forth k b m) ≡ value_in l m
  value_here m h = value_content (slot_of forth k b) (quotient_of forth k b) (2 ^ k) (key_from mix b narrow) (2 ^ b) l m below h (slot_below mix b narrow m h)

  -- find answers as the list does
  pub found_is : ((m : ℕ) → 2 ^ k ≤ m → forth m ≡ m) → (v m : ℕ) → found (stored forth k v b l) (slot_of forth k b m) (quotient_of forth k b m) ≡ looked_up k l m
  found_is beyond v m =
      ⊎_elim
      (λ inside.
      ap (found_at slots (slot_of forth k b m) (quotient_of forth k b m)) (in_here mix b narrow m inside)
      ∙ ap answer_of (value_here m inside)
      ∙ sym (ap (look_in l m) (lt-ltb m (2 ^ k) inside)))
      (λ outside.
      ap (found_at slots (slot_of forth k b m) (quotient_of forth k b m)) (out_there mix b narrow m outside (beyond m outside))
      ∙ sym (ap (look_in l m) (le-ltb m (2 ^ k) outside)))
      (cases_lt m (2 ^ k))

  -- the load of a key's group is how many keys of the list fall into it
  pub load_here : (S m : ℕ) → 0 < S → load S (content (slot_of forth k b) (quotient_of forth k b) (2 ^ b) l) (slot_of forth k b m) ≡ group_load (slot_of forth k b) S l (slot_of forth k b m / S)
  load_here S m pos = load_content (slot_of forth k b) (quotient_of forth k b) S (2 ^ b) l (slot_of forth k b m) pos (slots_below mix b narrow l below)

  -- what stands against a key and a value that are in range is judged by the list
  pub weighed_here : (C v m w n : ℕ) → m < 2 ^ k → w < 2 ^ v
      → weighed C k v b (content (slot_of forth k b) (quotient_of forth k b) (2 ^ b) l) (slot_of forth k b m) (quotient_of forth k b m) w n ≡ weigh_held C n (value_in l m)
  weighed_here C v m w n h small =
      ap (weigh_range C n (get_or slots (slot_of forth k b m) []) (quotient_of forth k b m))
      (and_from (in_range k b (slot_of forth k b m) (quotient_of forth k b m)) (ltb w (2 ^ v)) (in_here mix b narrow m h) (lt-ltb w (2 ^ v) small))
      ∙ ap (weigh_held C n) (value_here m h)
