-- The packed layout keeps the laws of a layout.
use Rattle.std.specs.Prelude.{◌≡◌, ℕ, zero, suc, ◌+◌, ◌-◌, ◌*◌, ◌%◌, ◌^◌, ◌<◌, ◌≤◌, Bool, true, false, ◌&&◌, [], ◌∷◌, ◌++◌, replicate, nat_le, refl}
use Rattle.std.proofs.Common.{sym, ap, ◌∙◌, arith, pow-add}
use Rattle.std.proofs.Math.Path.{ap₂}
use Rattle.std.proofs.Math.Nat.{mul-mod_left}
use Rattle.std.proofs.lemmas.Bool.{and_parts, leb-true, ltb-true, le-leb, lt-leb}
use Rattle.std.proofs.lemmas.List.{replicate-append-replicate}
use Rattle.bits.specs.Area.{words_of, packed}
use Rattle.bits.specs.Marks.{marks}
use Rattle.table.specs.Widths.{bounded}
use Rattle.table.specs.Meaning.{Fit}
use Rattle.table.specs.Lawful.{Lawful}
use Rattle.blocks.specs.PackedLayout.{room, width, areas, block_of, fits, packed_table}
use Rattle.blocks.specs.Areas.{block_long, read_back}

-- what fits, as bounds
pub record Fitting (n k v b : ℕ) : Type 0 where
  pub narrow : k ≤ 32
  pub thin : v ≤ 32
  pub below : b < k
  pub one : 4 ≤ b
  pub low : b ≤ 20
  pub room : 2 ^ (b - 4) * width 1 k v b ≤ n

pub fitting : (n k v b : ℕ) → fits n k v b ≡ true → Fitting n k v b
unfolding fits
fitting n k v b h =
    let p = and_parts (nat_le 4 b && nat_le b 20) (bounded k v b && nat_le (2 ^ (b - 4) * width 1 k v b) n) h in
    let q = and_parts _ _ p.0 in
    let r = and_parts _ _ p.1 in
    let s = and_parts _ _ r.0 in
    let t = and_parts _ _ s.1 in
    record { narrow = leb-true _ _ s.0; thin = leb-true _ _ t.0; below = ltb-true _ _ t.1; one = leb-true _ _ q.0; low = leb-true _ _ q.1; room = leb-true _ _ r.1 }

-- 2^b slots are 2^(b-4) groups of 16
pub groups_whole : (b : ℕ) → 4 ≤ b → 2 ^ (b - 4) * 16 ≡ 2 ^ b
groups_whole b h = let e : b - 4 + 4 ≡ b = omega arith in sym (pow-add 2 (b - 4) 4) ∙ ap (λ t. 2 ^ t) e

-- ---- no entries, no ones

words_zero : (n : ℕ) → words_of n 0 ≡ replicate n 0
unfolding words_of
words_zero zero = refl
words_zero (suc n) = ap (λ t. 0 ∷ t) (words_zero n)

empty_parts : (k v b : ℕ) → block_of 1 k v b (replicate 16 []) ≡ words_of 1 0 ++ (words_of (room 1 (k - b)) 0 ++ words_of (room 1 v) 0)
unfolding block_of areas packed marks
empty_parts k v b = refl

pub empty_block : (k v b : ℕ) → block_of 1 k v b (replicate 16 []) ≡ replicate (width 1 k v b) 0
empty_block k v b =
    let a = room 1 (k - b) in let c = room 1 v in
    empty_parts k v b
    ∙ ap₂ (λ x y. x ++ y) (words_zero 1) (ap₂ (λ x y. x ++ y) (words_zero a) (words_zero c) ∙ replicate-append-replicate a c 0)
    ∙ replicate-append-replicate 1 (a + c) 0

-- the laws
pub packed_laws : Lawful packed_table
packed_laws = record {
  pos = omega arith;
  whole = λ n k v b h. groups_whole b (fitting n k v b h).one;
  room = λ n k v b h. (fitting n k v b h).room;
  long = λ n k v b h G g. block_long k v b G g;
  back = λ n k v b h G g. read_back k v b G g;
  empty = λ n k v b h. empty_block k v b;
}

-- what fits, fits every table of groups of 16 slots
pub fit_law : (n k v b : ℕ) → fits n k v b ≡ true → Fit 16 k v b
fit_law n k v b h =
    let f = fitting n k v b h in
    record { some = omega arith; narrow = f.narrow; thin = f.thin; below = f.below; whole = ap (λ t. t % 16) (sym (groups_whole b f.one)) ∙ mul-mod_left (2 ^ (b - 4)) 16 }

shut : (t : Bool) → (t && false) ≡ false
shut true = refl
shut false = refl

-- too few slots
pub too_low : (n k v b : ℕ) → b < 4 → fits n k v b ≡ false
unfolding fits
too_low n k v b h = ap (λ t. (t && nat_le b 20) && (bounded k v b && nat_le (2 ^ (b - 4) * width 1 k v b) n)) (lt-leb 4 b h)

-- too many
pub too_high : (n k v b : ℕ) → 20 < b → fits n k v b ≡ false
unfolding fits
too_high n k v b h =
    ap (λ t. (nat_le 4 b && t) && (bounded k v b && nat_le (2 ^ (b - 4) * width 1 k v b) n)) (lt-leb b 20 h)
    ∙ ap (λ t. t && (bounded k v b && nat_le (2 ^ (b - 4) * width 1 k v b) n)) (shut (nat_le 4 b))

module _ (n k v b : ℕ) (l : 4 ≤ b) (h : b ≤ 20) where
  rest : fits n k v b ≡ (bounded k v b && nat_le (2 ^ (b - 4) * width 1 k v b) n)
  unfolding fits
  rest = ap₂ (λ t u. (t && u) && (bounded k v b && nat_le (2 ^ (b - 4) * width 1 k v b) n)) (le-leb 4 b l) (le-leb b 20 h)

  -- widths past the bounds of every table
  pub unbounded : bounded k v b ≡ false → fits n k v b ≡ false
  unbounded e = rest ∙ ap (λ t. t && nat_le (2 ^ (b - 4) * width 1 k v b) n) e

  -- too few words
  pub too_few : bounded k v b ≡ true → n < 2 ^ (b - 4) * width 1 k v b → fits n k v b ≡ false
  too_few e f = rest ∙ ap₂ (λ t u. t && u) e (lt-leb (2 ^ (b - 4) * width 1 k v b) n f)

  -- neither
  pub enough : bounded k v b ≡ true → 2 ^ (b - 4) * width 1 k v b ≤ n → fits n k v b ≡ true
  enough e f = rest ∙ ap₂ (λ t u. t && u) e (le-leb (2 ^ (b - 4) * width 1 k v b) n f)

-- a group takes an entry
pub some_room : 1 ≤ packed_table.C
some_room = omega arith
