-- The examples compute, and the laws ask for nothing that cannot be had.
use Rattle.std.proofs.Common.{◌≡◌, ℕ, ◌+◌, ◌-◌, ◌*◌, ◌%◌, ◌^◌, ◌<◌, ◌≤◌, Bool, true, false, cond, ◌&&◌, ltb, leb, Some, None, sym, refl, ap, ◌∙◌, arith, pow_pos, pow-add}
use Rattle.std.proofs.lemmas.Nat.{mod-mul-add}
use Rattle.std.proofs.lemmas.Bool.{and_parts, leb-true, ltb-true}
use Rattle.model.specs.Entries.{content, walk}
use Rattle.model.specs.History.{is}
use Rattle.model.specs.Laws.{Lawful, LawfulCoding, LawfulKind}
use Rattle.model.specs.Tried.{Tried, between, fitting_from, from_to, nights}

-- a number in the range is itself
from_to_is : (low high x m : ℕ) → from_to low high x ≡ Some m → (x ≡ m) × (m ≤ high)
from_to_is low high x m = by (leb low x && leb x high) refl
  where
    by : (t : Bool) → (leb low x && leb x high) ≡ t → cond t (Some x) None ≡ Some m → (x ≡ m) × (m ≤ high)
    by true is h =
        let xm : x ≡ m = cc in
        let le : x ≤ high = leb-true x high (and_parts (leb low x) (leb x high) is).1 in
        (xm, omega arith)
    by false is h = let z : ◌≡◌ {A = ℕ} 0 1 = cc in absurd (omega arith)

-- and its own number
from_to_turns : (low high x m : ℕ) → from_to low high x ≡ Some m → from_to low high m ≡ Some x
from_to_turns low high x m h = let xm = (from_to_is low high x m h).0 in ap (from_to low high) (sym xm) ∙ h ∙ ap Some (sym xm)

-- a range of numbers is lawfully coded as themselves
between_lawful : (width low high : ℕ) → high < 2 ^ width → LawfulCoding (between width low high)
between_lawful width low high h = record {
  below = λ x m is. let le = (from_to_is low high x m is).1 in omega arith;
  back = λ x m is. from_to_turns low high x m is;
  forth = λ x m is. from_to_turns low high m x is;
}

-- a number of at least j bits' worth of slots is in whole groups of 2^j
whole_groups : (j b : ℕ) → j ≤ b → 2 ^ b % 2 ^ j ≡ 0
whole_groups j b h =
    let e : b ≡ (b - j) + j = omega arith in
    let p : 2 ^ b ≡ 2 ^ (b - j) * 2 ^ j + 0 = ap (λ n. 2 ^ n) e ∙ pow-add 2 (b - j) j ∙ omega arith in
    ap (λ n. n % 2 ^ j) p ∙ mod-mul-add (2 ^ (b - j)) (2 ^ j) 0 (pow_pos j)

-- what fits by such a rule has the widths of every table
fitting_lawful : (j low high limit : ℕ) → j ≤ low → 1 ≤ limit → LawfulKind (record { group = 2 ^ j; limit = limit; fits = fitting_from low high })
fitting_lawful j low high limit le some = record {
  grouped = (j, refl);
  limited = some;
  fitting = λ k v b h.
      let both = and_parts (leb low b && leb b high) (ltb b k && (leb k 32 && leb v 32)) h in
      let range = and_parts (leb low b) (leb b high) both.0 in
      let rest = and_parts (ltb b k) (leb k 32 && leb v 32) both.1 in
      let widths = and_parts (leb k 32) (leb v 32) rest.1 in
      let below : b < k = ltb-true b k rest.0 in
      let from : low ≤ b = leb-true low b range.0 in
      record { some = omega arith; narrow = leb-true k 32 widths.0; thin = leb-true v 32 widths.1; below = below; whole = whole_groups j b (omega arith) };
}

-- the nights of the examples keep the laws
nights_lawful : Lawful nights
nights_lawful = record {
  keys = between_lawful 10 0 731 (omega arith);
  values = between_lawful 24 1 9999999 (omega arith);
  mix = record { below = λ m h. h; returns = λ m h. refl };
  first = fitting_lawful 2 2 9 3 (omega arith) (omega arith);
  second = fitting_lawful 0 0 4 2 (omega arith) (omega arith);
}

-- the examples
pub tried : Tried
unfolding content walk
tried = record {
  lawful = nights_lawful;
  one_held = refl;
  cancel_twice = refl;
  first_of_two = refl;
  run_lengths = refl;
  bookings = refl;
  no_card = refl;
  on_sight = refl;
  last_nights = refl;
  opened_once = refl;
  no_room = refl;
  group_counts = refl;
  held_first = refl;
  walk_order = refl;
  walk_mirrored = refl;
  enlarge_refused = refl;
  other_groups = refl;
  fit_first = refl;
  by_number = refl;
  held_then = refl;
  sums_then = refl;
  answers_say = refl;
  slots_then = refl;
  full_then = refl;
  room_then = refl;
  enlarge_then = refl;
  quiet_then = refl;
  loud_then = refl;
}
