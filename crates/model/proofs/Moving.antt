-- What an enlargement does to the slots.
use Rattle.std.proofs.Common.{◌≡◌, ℕ, ◌+◌, ◌-◌, ◌*◌, ◌/◌, ◌%◌, ◌^◌, ◌<◌, Bool, true, false, cond, ◌&&◌, eqb, List, [], ◌∷◌, length, get_or, sym, refl, ap, ◌∙◌, subst, arith, pow_pos, pow-add}
use native.Mathlib.Nat.{div-div-eq-div-mul}
use Rattle.std.proofs.lemmas.Nat.{div-add-mod', div-mul-add, mod_below, mod-mul-add, mod-pow-add}
use Rattle.std.proofs.lemmas.Bool.{false≢true}
use Rattle.std.proofs.lemmas.Bool.Decides.{nat_tests}
use Rattle.table.specs.Meaning.{unformed}
use Rattle.model.specs.declared.call.Call.{Call}
use Rattle.model.specs.Entries.{Entries, content, slot_list}
use Rattle.model.specs.Model.{Fixed, Model, Side, State, closed, in_use, kind, on_first, on_second, on_side, opened, other, quotient_of, slot_of, slots_of}
use Rattle.model.specs.Step.{enlarge_fit, enlarge_room, larger_fits, room_judged, run}
use Rattle.model.specs.History.{accepted, answers_four}
use Rattle.model.specs.Laws.{Enlarged, Enlarging, Lawful, Moves, Overfull, half_list}
use Rattle.model.proofs.Content.{getD_content, length_content}
use Rattle.model.proofs.Loads.{overfull}
use Rattle.model.proofs.Standing.{narrow}
use Rattle.model.proofs.Tells.{Sound, Well, run_well}

-- one number y, cut at c and at c + 1
module _ (y c : ℕ) where
  -- the slot at one bit less is half of it
  half_slot : y / 2 ^ (1 + c) ≡ y / 2 ^ c / 2
  half_slot =
      let p : 2 ^ (1 + c) ≡ 2 ^ c * 2 = let q = pow-add 2 1 c in omega arith in
      rw p (sym (div-div-eq-div-mul y (2 ^ c) 2))

  -- the quotient's top bit is the larger slot's lowest
  top_bit : y % 2 ^ (1 + c) / 2 ^ c ≡ y / 2 ^ c % 2
  top_bit = ap (λ x. x / 2 ^ c) (mod-pow-add y 1 c) ∙ div-mul-add (y / 2 ^ c % 2 ^ 1) (2 ^ c) (y % 2 ^ c) (mod_below y (2 ^ c) (pow_pos c))

  -- what is below the top bit is the smaller quotient
  low_bits : y % 2 ^ (1 + c) % 2 ^ c ≡ y % 2 ^ c
  low_bits = ap (λ x. x % 2 ^ c) (mod-pow-add y 1 c) ∙ mod-mul-add (y / 2 ^ c % 2 ^ 1) (2 ^ c) (y % 2 ^ c) (mod_below y (2 ^ c) (pow_pos c))

-- a number is 2 i + t exactly where its half is i and its lowest bit t
two_ways : (z i t : ℕ) → t < 2 → eqb z (2 * i + t) ≡ (eqb (z / 2) i && eqb (z % 2) t)
two_ways z i t h =
    let whole = div-add-mod' z 2 in
    let small : z % 2 < 2 = mod_below z 2 (omega arith) in
    by z (z / 2) (z % 2) i t whole small h
  where
    by : (z q r i t : ℕ) → q * 2 + r ≡ z → r < 2 → t < 2 → eqb z (2 * i + t) ≡ (eqb q i && eqb r t)
    by z q r i t a b c = grind (arith, nat_tests)

module _ (slot quotient slot' quotient' : ℕ → ℕ) (half i t s : ℕ)
    (goes : (m : ℕ) → eqb (slot' m) s ≡ (eqb (slot m) i && eqb (quotient m / half) t))
    (drops : (m : ℕ) → quotient' m ≡ quotient m % half) where
  -- the entries of one slot that go to another
  lists_move : (l : Entries) → slot_list slot' quotient' s l ≡ half_list half t (slot_list slot quotient i l)
  lists_move [] = refl
  lists_move (e ∷ l) =
      let g = goes e.0 in
      let d = drops e.0 in
      rw (g, d) (by (eqb (slot e.0) i) (lists_move l))
    where
      by : (u : Bool) → slot_list slot' quotient' s l ≡ half_list half t (slot_list slot quotient i l)
          → cond (u && eqb (quotient e.0 / half) t) ((quotient e.0 % half, e.1) ∷ slot_list slot' quotient' s l) (slot_list slot' quotient' s l)
          ≡ half_list half t (cond u ((quotient e.0, e.1) ∷ slot_list slot quotient i l) (slot_list slot quotient i l))
      by true ih = rw ih
      by false ih = ih

module _ {K V : Type 0} (f : Fixed K V) where
  -- slot 2 i + t at b + 1 has the entries of slot i at b whose quotient's top bit is t
  slot_moves : (b : ℕ) → b < f.keys.width → (l : Entries) (i t : ℕ) → t < 2
      → slot_list (slot_of f (b + 1)) (quotient_of f (b + 1)) (2 * i + t) l ≡ half_list (2 ^ (f.keys.width - (b + 1))) t (slot_list (slot_of f b) (quotient_of f b) i l)
  slot_moves b narrow l i t h =
      let k = f.keys.width in
      let y : ℕ → ℕ = f.mix.forth in
      let c = k - (b + 1) in
      let w : k - b ≡ 1 + c = omega arith in
      lists_move (slot_of f b) (quotient_of f b) (slot_of f (b + 1)) (quotient_of f (b + 1)) (2 ^ c) i t (2 * i + t)
      (λ m. two_ways (y m / 2 ^ c) i t h
      ∙ ap (λ x. eqb x i && eqb (y m / 2 ^ c % 2) t) (sym (ap (λ x. y m / 2 ^ x) w ∙ half_slot (y m) c))
      ∙ ap (λ x. eqb (y m / 2 ^ (k - b)) i && eqb x t) (sym (ap (λ x. y m % 2 ^ x / 2 ^ c) w ∙ top_bit (y m) c)))
      (λ m. sym (ap (λ x. y m % 2 ^ x % 2 ^ c) w ∙ low_bits (y m) c))
      l

  -- the same of the contents
  pub content_moves : (b : ℕ) → b < f.keys.width → (l : Entries)
      → Moves (2 ^ (f.keys.width - (b + 1))) (content (slot_of f b) (quotient_of f b) (2 ^ b) l) (content (slot_of f (b + 1)) (quotient_of f (b + 1)) (2 ^ (b + 1)) l)
  content_moves b narrow l =
      let half = 2 ^ (f.keys.width - (b + 1)) in
      let twice : 2 ^ (b + 1) ≡ 2 * 2 ^ b = let p = pow-add 2 b 1 in omega arith in
      let many = length_content (slot_of f b) (quotient_of f b) (2 ^ b) l in
      let more = length_content (slot_of f (b + 1)) (quotient_of f (b + 1)) (2 ^ (b + 1)) l in
      let goes : (i t : ℕ) → i < length (content (slot_of f b) (quotient_of f b) (2 ^ b) l) → t < 2
      → get_or (content (slot_of f (b + 1)) (quotient_of f (b + 1)) (2 ^ (b + 1)) l) (2 * i + t) [] ≡ half_list half t (get_or (content (slot_of f b) (quotient_of f b) (2 ^ b) l) i []) =
      λ i t lt small.
      let less : i < 2 ^ b = omega arith in
      let inside : 2 * i + t < 2 ^ (b + 1) = omega arith in
      getD_content (slot_of f (b + 1)) (quotient_of f (b + 1)) (2 ^ (b + 1)) l (2 * i + t) inside
      ∙ slot_moves b narrow l i t small
      ∙ ap (half_list half t) (sym (getD_content (slot_of f b) (quotient_of f b) (2 ^ b) l i less)) in
      record {
        long = more ∙ twice ∙ ap (λ n. 2 * n) (sym many);
        low = λ i lt.
            let z : 2 * i + 0 ≡ 2 * i = omega arith in
            subst (λ n. get_or (content (slot_of f (b + 1)) (quotient_of f (b + 1)) (2 ^ (b + 1)) l) n [] ≡ half_list half 0 (get_or (content (slot_of f b) (quotient_of f b) (2 ^ b) l) i [])) z (goes i 0 lt (omega arith));
        high = λ i lt. goes i 1 lt (omega arith);
      }

-- what the table of the other side means after the sides are exchanged
module _ {K V : Type 0} (f : Fixed K V) (t : State) where
  -- the machine on the other side, with one bit more
  abbrev larger : State
  larger = record { side = other t.side; b = t.b + 1; list = t.list }

  -- the other table is in use
  now_used : (s : Side) → on_side f (other s) (other s) larger ≡ in_use f larger
  now_used on_first = refl
  now_used on_second = refl

  -- the one before is not
  now_unused : (s : Side) → on_side f s (other s) larger ≡ unformed
  now_unused on_first = refl
  now_unused on_second = refl

module _ {K V : Type 0} (f : Fixed K V) (law : Lawful f) where
  -- an enlarge with room
  room_enlarged : (t : State) → Sound f t → (u : Bool) → accepted (enlarge_room f t u).1 ≡ true → Enlarged f t (enlarge_room f t u).0
  room_enlarged t ok false h = absurd (false≢true h)
  room_enlarged t ok true h = record {
    new_slots = slots_of f (larger f t);
    new = now_used f t t.side;
    old = now_unused f t t.side;
    moves = content_moves f t.b (narrow f law t ok) t.list;
  }

  -- the same before its fit is known
  fit_enlarged : (t : State) → Sound f t → (u : Bool) → accepted (enlarge_fit f t u).1 ≡ true → Enlarged f t (enlarge_fit f t u).0
  fit_enlarged t ok false h = absurd (false≢true h)
  fit_enlarged t ok true h = room_enlarged t ok (room_judged f t) h

  -- a refusal with 4 shows a group that would pass C
  room_overfull : (t : State) (u : Bool) → room_judged f t ≡ u → answers_four (enlarge_room f t u).1 ≡ true → Overfull f t
  room_overfull t false e h = overfull (slot_of f (t.b + 1)) (kind f (other t.side)).group (kind f (other t.side)).limit t.list t.list e
  room_overfull t true e h = absurd (false≢true h)

  -- the same before its fit is known
  fit_overfull : (t : State) (u : Bool) → answers_four (enlarge_fit f t u).1 ≡ true → Overfull f t
  fit_overfull t false h = absurd (false≢true h)
  fit_overfull t true h = room_overfull t (room_judged f t) refl h

  -- an enlarge of any machine
  enlarging_at : (s : Model) → Well f s → Enlarging f s
  enlarging_at closed ok = tt
  enlarging_at (opened t) ok = (fit_enlarged t ok (larger_fits f t), fit_overfull t (larger_fits f t))

  -- an enlarge after any calls
  pub always_enlarged : (calls : List (Call K V)) → Enlarging f (run f closed calls).0
  always_enlarged calls = enlarging_at (run f closed calls).0 (run_well f law closed calls tt)
