-- Where the keys of an open machine stand, from the laws of the fixed data.
use Rattle.std.proofs.Common.{◌≡◌, ℕ, ◌+◌, ◌-◌, ◌*◌, ◌/◌, ◌%◌, ◌^◌, ◌<◌, ◌≤◌, sym, ap, ◌∙◌, subst, arith, pow_pos}
use Rattle.std.proofs.lemmas.Nat.{div-add-mod', shr_below}
use Rattle.std.proofs.ByRecursion.{All-weaker}
use Rattle.std.specs.List.{AllByRecursion as All}
use Rattle.table.specs.Slots.{slot}
use Rattle.model.specs.Model.{Fixed, Side, State, kind, on_first, on_second, quotient_of, slot_of}
use Rattle.model.specs.Laws.{Lawful, LawfulKind}
use Rattle.model.proofs.Tells.{Sound}

-- the slot of a number below 2^k is one of 2^b
pub slot_within : (x k b : ℕ) → b ≤ k → x < 2 ^ k → slot k b x < 2 ^ b
slot_within x k b h l =
    let e : k ≡ b + (k - b) = omega arith in
    let l2 : x < 2 ^ (b + (k - b)) = rw (← e) l in
    shr_below x b (k - b) l2

-- the slot and the quotient tell the number
pub whole_from_parts : (x y d : ℕ) → x / d ≡ y / d → x % d ≡ y % d → x ≡ y
whole_from_parts x y d p q =
    let one : x / d * d + x % d ≡ x = div-add-mod' x d in
    let two : y / d * d + y % d ≡ y = div-add-mod' y d in
    cc

module _ {K V : Type 0} (f : Fixed K V) (law : Lawful f) where
  -- the laws of the table of a side
  pub kind_law : (s : Side) → LawfulKind (kind f s)
  kind_law on_first = law.first
  kind_law on_second = law.second

  -- b is below k
  pub narrow : (t : State) → Sound f t → t.b < f.keys.width
  narrow t ok = ((kind_law t.side).fitting f.keys.width f.values.width t.b ok.fit).below

  -- a group has a slot at least
  pub grouped : (s : Side) → 0 < (kind f s).group
  grouped s = let g = (kind_law s).grouped in let p = pow_pos g.0 in let e = g.1 in omega (arith, p, e)

  -- permuted key numbers stay below 2^k
  pub mixed_below : f.mix.width ≡ f.keys.width → (m : ℕ) → m < 2 ^ f.keys.width → f.mix.forth m < 2 ^ f.keys.width
  mixed_below e m h = subst (λ n. f.mix.forth m < 2 ^ n) e (law.mix.below m (subst (λ n. m < 2 ^ n) (sym e) h))

  -- and go back
  pub mixed_returns : f.mix.width ≡ f.keys.width → (m : ℕ) → m < 2 ^ f.keys.width → f.mix.back (f.mix.forth m) ≡ m
  mixed_returns e m h = law.mix.returns m (subst (λ n. m < 2 ^ n) (sym e) h)

  -- so the slot and the quotient tell the key number
  pub key_from : f.mix.width ≡ f.keys.width → (b m n : ℕ) → m < 2 ^ f.keys.width → n < 2 ^ f.keys.width
      → slot_of f b m ≡ slot_of f b n → quotient_of f b m ≡ quotient_of f b n → m ≡ n
  key_from e b m n p q s r =
      sym (mixed_returns e m p)
      ∙ ap f.mix.back (whole_from_parts (f.mix.forth m) (f.mix.forth n) (2 ^ (f.keys.width - b)) s r)
      ∙ mixed_returns e n q

  -- every key of the list stands in one of the 2^b slots
  pub slots_below : (t : State) → Sound f t → All (λ e. slot_of f t.b e.0 < 2 ^ t.b) t.list
  slots_below t ok =
      let le : t.b ≤ f.keys.width = let lt = narrow t ok in omega arith in
      All-weaker (λ e. e.0 < 2 ^ f.keys.width) (λ e. slot_of f t.b e.0 < 2 ^ t.b)
      (λ e h. slot_within (f.mix.forth e.0) f.keys.width t.b le (mixed_below ok.widths e.0 h)) t.list ok.below
