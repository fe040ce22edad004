-- The plain layout keeps the laws of a layout.
use Rattle.std.specs.Prelude.{◌≡◌, ℕ, ◌+◌, ◌-◌, ◌*◌, ◌^◌, ◌<◌, ◌≤◌, Bool, true, false, ◌&&◌, leb, List, [], ◌∷◌, length, Some, nat_le, slice_index_or, refl}
use Rattle.std.proofs.Common.{sym, ap, ap₂, subst, ◌∙◌, mul-one, pow_mono, arith}
use Rattle.std.proofs.Math.Nat.{mod-one}
use Rattle.std.proofs.lemmas.Bool.{and_parts, leb-true, ltb-true, le-leb, lt-leb}
use Rattle.table.specs.declared.shape.Shape.{Shape}
use Rattle.table.specs.Widths.{bounded, shape_where, widths}
use Rattle.table.proofs.Setting.{shape_fits}
use Rattle.table.specs.Meaning.{total, Good, Fit}
use Rattle.table.specs.Layout.{GoodGroup}
use Rattle.table.specs.Lawful.{Lawful}
use Rattle.table.specs.Checking.{Given}
use Rattle.blocks.specs.PlainLayout.{block_of, block_of_group, fits, plain, Stored}
use Rattle.blocks.specs.PlainBlocks.{length_block, entries_block, stored_good}

-- what fits, as bounds
pub record Fitting (n k v b : ℕ) : Type 0 where
  pub narrow : k ≤ 32
  pub thin : v ≤ 32
  pub below : b < k
  pub low : b ≤ 20
  pub room : 2 ^ b * 16 ≤ n

pub fitting : (n k v b : ℕ) → fits n k v b ≡ true → Fitting n k v b
unfolding fits
fitting n k v b h =
    let p = and_parts (nat_le b 20 && nat_le (2 ^ b * 16) n) (bounded k v b) h in
    let q = and_parts _ _ p.0 in
    let r = and_parts _ _ p.1 in
    let s = and_parts _ _ r.1 in
    record { narrow = leb-true _ _ r.0; thin = leb-true _ _ s.0; below = ltb-true _ _ s.1; low = leb-true _ _ q.0; room = leb-true _ _ q.1 }

-- a group of one slot is that slot
pub single : (G : List (List (ℕ × ℕ))) → length G ≡ 1 → slice_index_or G 0 [] ∷ [] ≡ G
single [] h = absurd (omega arith)
single (x ∷ []) h = refl
single (x ∷ (y ∷ G)) h = absurd (omega arith)

single_total : (G : List (List (ℕ × ℕ))) → length G ≡ 1 → total G ≡ length (slice_index_or G 0 [])
single_total G h = sym (ap total (single G h)) ∙ omega arith

module _ (q v : ℕ) (G : List (List (ℕ × ℕ))) (g : GoodGroup 1 15 q v G) where
  -- its slot is good
  pub slot_good : Good q v (slice_index_or G 0 [])
  slot_good = g.good 0 (omega arith)

  -- and holds at most 15
  pub slot_few : length (slice_index_or G 0 []) ≤ 15
  slot_few = omega (arith, single_total G g.whole, leb-true (total G) 15 g.limited)

  -- its block is stored
  pub group_stored : q ≤ 32 → Stored (block_of_group G)
  group_stored h = stored_good q v (slice_index_or G 0 []) h slot_good slot_few

-- a good slot of at most 15 is a good group
pub group_from : (q v : ℕ) (es : List (ℕ × ℕ)) → Good q v es → nat_le (length es) 15 ≡ true → GoodGroup 1 15 q v (es ∷ [])
group_from q v es g l = record {
  whole = refl;
  good = λ j h. let e : j ≡ 0 = omega arith in subst (λ t. Good q v (slice_index_or (es ∷ []) t [])) (sym e) g;
  limited = let e : length es + 0 ≡ length es = omega arith in ap (λ t. leb t 15) e ∙ l;
}

-- k - b bits, where they fit
pub narrow_fit : (n k v b : ℕ) → fits n k v b ≡ true → k - b ≤ 32
narrow_fit n k v b h = let f = fitting n k v b h in omega arith

empty_block : block_of [] ≡ 0 ∷ (0 ∷ (0 ∷ (0 ∷ (0 ∷ (0 ∷ (0 ∷ (0 ∷ (0 ∷ (0 ∷ (0 ∷ (0 ∷ (0 ∷ (0 ∷ (0 ∷ (0 ∷ [])))))))))))))))
unfolding block_of
empty_block = refl

-- the laws
pub plain_laws : Lawful plain
plain_laws = record {
  pos = omega arith;
  whole = λ n k v b h. mul-one (2 ^ b);
  room = λ n k v b h. (fitting n k v b h).room;
  long = λ n k v b h G g. length_block (slice_index_or G 0 []) (slot_few (k - b) v G g);
  back = λ n k v b h G g. ap (λ t. t ∷ []) (entries_block (k - b) v (slice_index_or G 0 []) (narrow_fit n k v b h) (slot_good (k - b) v G g)) ∙ single G g.whole;
  empty = λ n k v b h. empty_block;
}

-- what fits, fits every table of groups of one slot
pub fit_law : (n k v b : ℕ) → fits n k v b ≡ true → Fit 1 k v b
fit_law n k v b h =
    let f = fitting n k v b h in
    record { some = omega arith; narrow = f.narrow; thin = f.thin; below = f.below; whole = mod-one (2 ^ b) }

-- a shape made of widths that fit, fits
pub fit_here : (n k v b : ℕ) (shape : Shape) → widths (Some shape) ≡ shape_where (fits n k v b) k v b → fits n shape.k shape.v shape.b ≡ true
fit_here n k v b shape e = shape_fits (fits n) k v b shape e

shut : (t u : Bool) → ((t && false) && u) ≡ false
shut true u = refl
shut false u = refl

-- too many slots
pub too_low : (n k v b : ℕ) → 20 < b → fits n k v b ≡ false
unfolding fits
too_low n k v b h = ap (λ t. (t && nat_le (2 ^ b * 16) n) && bounded k v b) (lt-leb b 20 h)

-- too few words
pub too_few : (n k v b : ℕ) → n < 2 ^ b * 16 → fits n k v b ≡ false
unfolding fits
too_few n k v b h = ap (λ t. (nat_le b 20 && t) && bounded k v b) (lt-leb (2 ^ b * 16) n h) ∙ shut (nat_le b 20) (bounded k v b)

-- neither: the bounds of every table decide
pub fits_rest : (n k v b : ℕ) → b ≤ 20 → 2 ^ b * 16 ≤ n → bounded k v b ≡ fits n k v b
unfolding fits
fits_rest n k v b l h = sym (ap₂ (λ t u. (t && u) && bounded k v b) (le-leb b 20 l) (le-leb (2 ^ b * 16) n h))

-- a slot takes an entry
pub some_room : 1 ≤ plain.C
some_room = omega arith

-- a block that a group gives is stored
pub given_stored : (k v b : ℕ) (block : List ℕ) → k ≤ 32 → Given plain k v b block → Stored block
given_stored k v b block h g = subst Stored (sym g.made) (group_stored (k - b) v g.slots g.good (omega arith))

-- what is of at most 32 bits fits half a word
pub below_32 : (q x : ℕ) → q ≤ 32 → x < 2 ^ q → x < 2 ^ 32
below_32 q x h l = let p : 2 ^ q ≤ 2 ^ 32 = pow_mono h in omega arith
