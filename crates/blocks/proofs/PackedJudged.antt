-- What the tests of slots, areas and blocks decide.
use Rattle.std.proofs.Common.{◌≡◌, ℕ, ◌+◌, ◌-◌, ◌*◌, ◌/◌, ◌%◌, ◌^◌, ◌<◌, Bool, true, false, List, [], ◌∷◌, ◌++◌, map, length, get_or, take, drop, Decides, sym, refl, ap, ◌∙◌, subst, ap₂, zero-mul, arith, pow_pos}
use native.Mathlib.Nat.{div-eq_of_lt}
use lib.Pow.{split}
use Rattle.std.specs.List.{range_with_len, AllWithin, HoldsAt}
use Rattle.std.specs.Bool.{MatchBool}
use Rattle.std.proofs.lemmas.Bool.{le-leb}
use Rattle.std.proofs.lemmas.Bool.Decides.{not_from_Decides, Decides-like}
use Rattle.std.proofs.lemmas.List.{ext_get_or, length-map, get_or-map}
use Rattle.std.proofs.lemmas.List.FromFn.{get_or-map-range_with_len, length-range_with_len, get_or-range_with_len}
use Rattle.bits.specs.Area.{number, words_of, field, fields, packed}
use Rattle.bits.specs.Laws.{Below}
use Rattle.bits.specs.Marks.{marks, entries_before}
use Rattle.bits.proofs.Numbers.{words_number}
use Rattle.bits.proofs.Packs.{packed_lt, packed_fields, length_fields, getD_fields}
use Rattle.bits.proofs.Lists.{below_take, below_drop}
use Rattle.bits.proofs.Splices.{bits_lt}
use Rattle.table.specs.Meaning.{Good, total}
use Rattle.table.specs.Places.{First}
use Rattle.table.specs.Checking.{Given}
use Rattle.table.specs.Layout.{GoodGroup}
use Rattle.table.proofs.Decided.{refuted, shown}
use Rattle.blocks.specs.PackedLayout.{room, entries, quotient_area, value_area, pairs, slots_of, packed_table, MarkedBlock}
use Rattle.blocks.specs.Entries.{length_entries}
use Rattle.blocks.specs.Areas.{parts_of, block_parts, block_is}
use Rattle.blocks.specs.Views.{entry_is, slots_sixteen, total_few, word_marks, entries_are, A, B}
use Rattle.blocks.specs.Stored.{quotients_given, values_given}

-- a test of every number below n
pub below_decided : (P : ℕ → Type 0) (n : ℕ) (r : Bool)
    → MatchBool r (AllWithin P (range_with_len 0 n) 0 (length (range_with_len 0 n))) ((i : ℕ) × (i < length (range_with_len 0 n)) × HoldsAt (λ x. P x → ⊥) (range_with_len 0 n) i)
    → Decides r ((j : ℕ) → j < n → P j)
below_decided P n true m = shown _ (λ j h.
    let at : get_or (range_with_len 0 n) j 0 ≡ j = get_or-range_with_len 0 n j 0 h ∙ omega arith in
    subst P at (m j 0 (omega arith) (omega (arith, length-range_with_len 0 n))))
below_decided P n false m = refuted _ (λ all.
    let h : m.0 < n = omega (arith, length-range_with_len 0 n, m.1) in
    let at : get_or (range_with_len 0 n) m.0 0 ≡ m.0 = get_or-range_with_len 0 n m.0 0 h ∙ omega arith in
    m.2 0 (subst P (sym at) (all m.0 h)))

module _ (k v b : ℕ) (block : List ℕ) (mb : MarkedBlock k v b block) where
  -- ---- one slot

  module _ (j : ℕ) (h : j < 16) where
    -- fields are within their widths; quotients apart make the slot good
    good_from : ((m n : ℕ) → m < n → n < length (get_or (slots_of 1 k v b block) j []) → (get_or (get_or (slots_of 1 k v b block) j []) m (0, 0)).0 ≡ (get_or (get_or (slots_of 1 k v b block) j []) n (0, 0)).0 → ⊥)
        → Good (k - b) v (get_or (slots_of 1 k v b block) j [])
    good_from inv = record {
      quotients = λ i l. subst (λ t. t.0 < 2 ^ (k - b)) (sym (entry_is k v b block mb j h i l)) (bits_lt (A k v b block mb) ((entries_before j (get_or block 0 0) + i) * (k - b)) (k - b));
      values = λ i l. subst (λ t. t.1 < 2 ^ v) (sym (entry_is k v b block mb j h i l)) (bits_lt (B k v b block mb) ((entries_before j (get_or block 0 0) + i) * v) v);
      apart = inv;
    }

    -- each quotient stands first at its own place, or one does not
    pub apart_decided : (n : ℕ) → n ≡ length (get_or (slots_of 1 k v b block) j []) → (r : Bool)
        → MatchBool r (AllWithin (λ x. First (get_or (slots_of 1 k v b block) j []) (get_or (get_or (slots_of 1 k v b block) j []) x (0, 0)).0 x) (range_with_len 0 n) 0 (length (range_with_len 0 n)))
        ((i : ℕ) × (i < length (range_with_len 0 n)) × HoldsAt (λ x. First (get_or (slots_of 1 k v b block) j []) (get_or (get_or (slots_of 1 k v b block) j []) x (0, 0)).0 x → ⊥) (range_with_len 0 n) i)
        → Decides r (Good (k - b) v (get_or (slots_of 1 k v b block) j []))
    apart_decided n ns r m =
        let es = get_or (slots_of 1 k v b block) j [] in
        Decides-like r
        (λ f. good_from (λ x y xy yl same. (f y (omega (arith, ns))).before x xy same))
        (λ g i h. record { inside = omega (arith, ns); here = refl; before = λ a al e. g.apart a i al (omega (arith, ns)) e })
        (below_decided (λ x. First es (get_or es x (0, 0)).0 x) n r m)

  -- ---- the areas

  -- a test of the bits past the fields of an area
  pub record Clean : Type 0 where
    pub quotients : number (quotient_area 1 k b block) / 2 ^ (total (slots_of 1 k v b block) * (k - b)) ≡ 0
    pub values : number (value_area 1 k b block) / 2 ^ (total (slots_of 1 k v b block) * v) ≡ 0

  nothing_above : (a n : ℕ) → a / 2 ^ n ≡ 0 → a % 2 ^ n ≡ a
  nothing_above a n e = let z : a / 2 ^ n * 2 ^ n ≡ 0 = ap (λ t. t * 2 ^ n) e ∙ zero-mul (2 ^ n) in omega (arith, split a n)

  -- the fields of an area, as the entries have them
  fields_are : (w X : ℕ) (f : ℕ × ℕ → ℕ) → ((t : ℕ) → f (field (k - b) (A k v b block mb) t, field v (B k v b block mb) t) ≡ field w X t)
      → map f (entries (slots_of 1 k v b block)) ≡ fields (total (slots_of 1 k v b block)) w X
  unfolding pairs
  fields_are w X f same =
      let R = slots_of 1 k v b block in
      let n = total R in
      let F : ℕ → (ℕ × ℕ) = λ t. (field (k - b) (A k v b block mb) t, field v (B k v b block mb) t) in
      let es : entries R ≡ map F (range_with_len 0 n) = entries_are k v b block mb in
      let ln : length (map f (entries R)) ≡ n = length-map (entries R) f ∙ length_entries R in
      ext_get_or 0 (map f (entries R)) (fields n w X) (ln ∙ sym (length_fields n w X)) (λ i h.
      let l : i < n = omega arith in
      let m : i < length (entries R) = omega (arith, length_entries R) in
      get_or-map f (entries R) i (0, 0) 0 m ∙ ap (λ t. f (get_or t i (0, 0))) es ∙ ap f (get_or-map-range_with_len F 0 n i i (0, 0) l (omega arith)) ∙ same i ∙ sym (getD_fields n w X i l))

  -- an area that is clean holds the fields of the entries and nothing else
  area_is : (w : ℕ) (ws : List ℕ) (f : ℕ × ℕ → ℕ) (n : ℕ) → length ws ≡ n → Below (2 ^ 64) ws
      → map f (entries (slots_of 1 k v b block)) ≡ fields (total (slots_of 1 k v b block)) w (number ws) → number ws / 2 ^ (total (slots_of 1 k v b block) * w) ≡ 0
      → ws ≡ words_of n (packed w (map f (entries (slots_of 1 k v b block))))
  area_is w ws f n ln below fs z =
      let m = total (slots_of 1 k v b block) in
      sym (words_number ws below) ∙ ap (λ t. words_of t (number ws)) ln
      ∙ ap (words_of n) (sym (ap (packed w) fs ∙ packed_fields m w (number ws) ∙ nothing_above (number ws) (m * w) z))

  one_word : (xs : List ℕ) → 0 < length xs → take 1 xs ≡ get_or xs 0 0 ∷ []
  one_word [] h = absurd (omega arith)
  one_word (x ∷ xs) h = refl

  -- marks, clean areas and quotients apart: the block is that of what it reads as
  module _ (below : Below (2 ^ 64) block) (clean : Clean) (good : (j : ℕ) → j < 16 → Good (k - b) v (get_or (slots_of 1 k v b block) j [])) where
    good_read : GoodGroup 16 48 (k - b) v (slots_of 1 k v b block)
    good_read = record { whole = slots_sixteen k v b block mb; good = good; limited = le-leb (total (slots_of 1 k v b block)) 48 (total_few k v b block mb) }

    pub given_from : Given packed_table k v b block
    unfolding A B
    given_from =
        let R = slots_of 1 k v b block in
        let ps = parts_of k v b block mb.long in
        let first : take 1 block ≡ marks (map length R) ∷ [] = one_word block (omega (arith, mb.long)) ∙ ap (λ t. t ∷ []) (word_marks k v b block mb) in
        let qs = area_is (k - b) (quotient_area 1 k b block) (λ e. e.0) (room 1 (k - b)) ps.quotients (below_take (2 ^ 64) (room 1 (k - b)) (drop 1 block) (pow_pos 64) (below_drop (2 ^ 64) 1 block below))
        (fields_are (k - b) (number (quotient_area 1 k b block)) (λ e. e.0) (λ t. refl)) clean.quotients in
        let vs = area_is v (value_area 1 k b block) (λ e. e.1) (room 1 v) ps.values (below_drop (2 ^ 64) (1 + room 1 (k - b)) block below)
        (fields_are v (number (value_area 1 k b block)) (λ e. e.1) (λ t. refl)) clean.values in
        record {
          slots = R;
          good = good_read;
          made = block_parts k v b block ∙ ap₂ (λ (x y : List ℕ). x ++ y) first (ap₂ (λ (x y : List ℕ). x ++ y) qs vs) ∙ sym (block_is k v b R good_read);
        }

-- a block that is given is clean
pub clean_given : (k v b : ℕ) (block : List ℕ) (gv : Given packed_table k v b block) (mb : MarkedBlock k v b block) → Clean k v b block mb
clean_given k v b block gv mb =
    let R = slots_of 1 k v b block in
    let off : (w : ℕ) (f : ℕ × ℕ → ℕ) (X : ℕ) → X ≡ packed w (map f (entries R)) → X / 2 ^ (total R * w) ≡ 0 =
    λ w f X e.
    let n : length (map f (entries R)) ≡ total R = length-map (entries R) f ∙ length_entries R in
    let h : packed w (map f (entries R)) < 2 ^ (total R * w) = subst (λ t. packed w (map f (entries R)) < 2 ^ (t * w)) n (packed_lt w (map f (entries R))) in
    ap (λ t. t / 2 ^ (total R * w)) e ∙ div-eq_of_lt h in
    record { quotients = off (k - b) (λ e. e.0) (number (quotient_area 1 k b block)) (quotients_given k v b block gv); values = off v (λ e. e.1) (number (value_area 1 k b block)) (values_given k v b block gv) }

-- the two tests of areas
module _ (k v b : ℕ) (block : List ℕ) (count : ℕ) (cs : count ≡ total (slots_of 1 k v b block)) (qs : List ℕ) (qe : qs ≡ quotient_area 1 k b block)
    (r : Bool) (d : Decides r (number qs / 2 ^ (count * (k - b)) ≡ 0)) where
  quotient_test : Decides r (number (quotient_area 1 k b block) / 2 ^ (total (slots_of 1 k v b block) * (k - b)) ≡ 0)
  quotient_test = subst (λ t. Decides r (number t / 2 ^ (total (slots_of 1 k v b block) * (k - b)) ≡ 0)) qe (subst (λ t. Decides r (number qs / 2 ^ (t * (k - b)) ≡ 0)) cs d)

  -- bits past the quotients
  pub past_dirty : r ≡ false
      → Decides false ((number (quotient_area 1 k b block) / 2 ^ (total (slots_of 1 k v b block) * (k - b)) ≡ 0) × (number (value_area 1 k b block) / 2 ^ (total (slots_of 1 k v b block) * v) ≡ 0))
  past_dirty off = refuted _ (λ p. not_from_Decides r quotient_test off p.0)

  -- none: those past the values decide
  pub past_clean : r ≡ true → (vs : List ℕ) → vs ≡ value_area 1 k b block → (a : Bool) → Decides a (number vs / 2 ^ (count * v) ≡ 0)
      → Decides a ((number (quotient_area 1 k b block) / 2 ^ (total (slots_of 1 k v b block) * (k - b)) ≡ 0) × (number (value_area 1 k b block) / 2 ^ (total (slots_of 1 k v b block) * v) ≡ 0))
  past_clean on vs ve a e =
      let t : Decides a (number (value_area 1 k b block) / 2 ^ (total (slots_of 1 k v b block) * v) ≡ 0) =
      subst (λ u. Decides a (number u / 2 ^ (total (slots_of 1 k v b block) * v) ≡ 0)) ve (subst (λ u. Decides a (number vs / 2 ^ (u * v) ≡ 0)) cs e) in
      ((λ y. (quotient_test.0 on, t.0 y)), (λ p. t.1 p.1))
