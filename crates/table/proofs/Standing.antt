-- Words that stand for a content, in any lawful layout.
use Rattle.std.proofs.Common.{◌≡◌, ℕ, zero, suc, ◌+◌, ◌-◌, ◌*◌, ◌/◌, ◌^◌, ◌<◌, ◌≤◌, Bool, true, List, [], ◌∷◌, ◌++◌, map, length, get_or, take, drop, set, replicate, Some, None, vec_items, Option, Vec, sym, refl, ap, ◌∙◌, subst, ap₂, add-mul, one-mul, zero-mul, add-one, arith}
use mathlib.Core.Logic.{∥∥₁_elim}
use Prim.{IsProp}
use std.HLevel.{Π_prop, ⊥_prop}
use native.Mathlib.Bridge.{le_prop}
use native.Mathlib.Nat.{ℕ_set}
use base.Stored.{Coded-set, coded_bool}
use borrow.Rule.Slice.PartMut.{put_mid}
use Rattle.std.specs.List.{range_with_len, flat_map}
use Rattle.std.proofs.lemmas.Nat.{div_below}
use Rattle.std.proofs.lemmas.Bool.{le-leb}
use Rattle.std.proofs.lemmas.List.{length-replicate, get_or-replicate, replicate-append-replicate, length-set, take-replicate, drop-replicate, with_items_is}
use Rattle.std.specs.Vec.{with_items}
use Rattle.table.specs.declared.shape.Shape.{Shape}
use Rattle.table.specs.Meaning.{Meaning, unformed, formed, total, load, Good, WellFormed}
use Rattle.table.specs.Layout.{Layout, group_at, groups, GoodGroup, part, words_of, content, meaning, Well}
use Rattle.table.specs.Lawful.{Lawful}
use Rattle.table.proofs.Slots.{good_empty}
use Rattle.table.proofs.Calls.{Changed}
use Rattle.table.proofs.Blocks as blocks
use Rattle.table.proofs.Groups.{inside_groups, length_groups, getD_groups, joined_groups, well_groups, groups_well}

-- ---- one proof at most

good_prop : (q v : ℕ) (es : List (ℕ × ℕ)) → IsProp (Good q v es)
good_prop q v es x y = λ i. record {
  quotients = Π_prop (λ k. Π_prop (λ h. le_prop)) x.quotients y.quotients i;
  values = Π_prop (λ k. Π_prop (λ h. le_prop)) x.values y.values i;
  apart = Π_prop (λ k. Π_prop (λ h. Π_prop (λ l. Π_prop (λ m. Π_prop (λ e. ⊥_prop))))) x.apart y.apart i;
}

well_prop : (S C : ℕ) (fits : ℕ → ℕ → ℕ → Bool) (k v b : ℕ) (slots : List (List (ℕ × ℕ))) → IsProp (WellFormed S C fits k v b slots)
well_prop S C fits k v b slots x y = λ i. record {
  fit = Coded-set coded_bool _ _ x.fit y.fit i;
  long = ℕ_set _ _ x.long y.long i;
  good = Π_prop (λ s. Π_prop (λ h. good_prop (k - b) v (get_or slots s []))) x.good y.good i;
  limited = Π_prop (λ s. Π_prop (λ h. Coded-set coded_bool _ _)) x.limited y.limited i;
}

unit_prop : IsProp (Unit {0})
unit_prop x y = refl

-- that a meaning is well formed has one proof at most
pub wells_prop : (L : Layout) (n : ℕ) (m : Meaning) → IsProp (Well L n m)
wells_prop L n unformed = unit_prop
wells_prop L n (formed k v b slots) = well_prop L.S L.C (L.fits n) k v b slots

-- so it comes out of a ghost field
pub bare : (L : Layout) (n : ℕ) (m : Meaning) → ∥ Well L n m ∥₁ → Well L n m
bare L n m h = ∥∥₁_elim h (wells_prop L n m) (λ x. x)

-- ---- words of a content

module _ (L : Layout) (law : Lawful L) where
  module _ (n k v b : ℕ) (slots : List (List (ℕ × ℕ))) (wf : WellFormed L.S L.C (L.fits n) k v b slots) where
    -- the slots are those of all groups
    pub slot_count : length slots ≡ L.count b * L.S
    slot_count = wf.long ∙ sym (law.whole n k v b wf.fit)

    -- each group is good
    pub fine : (g : ℕ) → g < L.count b → GoodGroup L.S L.C (k - b) v (get_or (groups L.S (L.count b) slots) g [])
    fine = well_groups L.S L.C (L.fits n) k v b (L.count b) law.pos (law.whole n k v b wf.fit) slots wf

    -- as many words as the table has
    pub length_words : length (words_of L n (formed k v b slots)) ≡ n
    unfolding words_of
    length_words = blocks.length_words [] (L.width k v b) (L.block k v b) (L.read k v b) (GoodGroup L.S L.C (k - b) v) (law.long n k v b wf.fit) (law.back n k v b wf.fit)
        n (L.count b) (law.room n k v b wf.fit) (groups L.S (L.count b) slots) (length_groups [] L.S (L.count b) law.pos slots) fine

    -- the block of a group
    pub block_words : (g : ℕ) → g < L.count b → part (L.width k v b) g (words_of L n (formed k v b slots)) ≡ L.block k v b (group_at L.S slots g)
    unfolding words_of
    block_words g h =
        blocks.block_words [] (L.width k v b) (L.block k v b) (L.read k v b) (GoodGroup L.S L.C (k - b) v) (law.long n k v b wf.fit) (law.back n k v b wf.fit)
        n (L.count b) (law.room n k v b wf.fit) (groups L.S (L.count b) slots) (length_groups [] L.S (L.count b) law.pos slots) fine g h
        ∙ ap (L.block k v b) (getD_groups [] L.S (L.count b) law.pos slots g h)

    -- the words past the blocks
    pub tail_words : drop (L.count b * L.width k v b) (words_of L n (formed k v b slots)) ≡ replicate (n - L.count b * L.width k v b) 0
    unfolding words_of
    tail_words = blocks.tail_words [] (L.width k v b) (L.block k v b) (L.read k v b) (GoodGroup L.S L.C (k - b) v) (law.long n k v b wf.fit) (law.back n k v b wf.fit)
        n (L.count b) (law.room n k v b wf.fit) (groups L.S (L.count b) slots) (length_groups [] L.S (L.count b) law.pos slots) fine

    -- the words read back
    pub content_words : content L k v b (words_of L n (formed k v b slots)) ≡ slots
    unfolding words_of content
    content_words =
        ap (flat_map (λ G. G))
        (blocks.read_words [] (L.width k v b) (L.block k v b) (L.read k v b) (GoodGroup L.S L.C (k - b) v) (law.long n k v b wf.fit) (law.back n k v b wf.fit)
        n (L.count b) (law.room n k v b wf.fit) (groups L.S (L.count b) slots) (length_groups [] L.S (L.count b) law.pos slots) fine)
        ∙ joined_groups [] L.S (L.count b) law.pos slots slot_count

    -- one group changed
    module _ (g : ℕ) (h : g < L.count b) (G : List (List (ℕ × ℕ))) (good : GoodGroup L.S L.C (k - b) v G) (after : Meaning)
        (c : Changed L.S (L.count b) k v b slots g G after) where
      -- its block replaced
      pub put_words : put_mid (g * L.width k v b) (L.width k v b) (words_of L n (formed k v b slots)) (L.block k v b G) ≡ words_of L n (formed k v b c.new)
      unfolding words_of
      put_words =
          blocks.put_words [] (L.width k v b) (L.block k v b) (L.read k v b) (GoodGroup L.S L.C (k - b) v) (law.long n k v b wf.fit) (law.back n k v b wf.fit)
          n (L.count b) (law.room n k v b wf.fit) (groups L.S (L.count b) slots) (length_groups [] L.S (L.count b) law.pos slots) fine g h G
          ∙ ap (λ t. flat_map (L.block k v b) t ++ replicate (n - L.count b * L.width k v b) 0) (sym c.same)

      -- and the content is well formed
      pub well_new : WellFormed L.S L.C (L.fits n) k v b c.new
      well_new =
          let gs = groups L.S (L.count b) slots in
          let new = set gs g G in
          let gl = length_groups [] L.S (L.count b) law.pos slots in
          let each = blocks.set_fine [] (L.width k v b) (L.block k v b) (L.read k v b) (GoodGroup L.S L.C (k - b) v) (law.long n k v b wf.fit) (law.back n k v b wf.fit)
          n (L.count b) (law.room n k v b wf.fit) gs gl fine g h G good in
          let back : flat_map (λ G. G) new ≡ c.new = ap (flat_map (λ G. G)) (sym c.same) ∙ joined_groups [] L.S (L.count b) law.pos c.new (c.long ∙ slot_count) in
          subst (WellFormed L.S L.C (L.fits n) k v b) back
          (groups_well L.S L.C (L.fits n) k v b (L.count b) law.pos (law.whole n k v b wf.fit) new (length-set gs g G ∙ gl) each wf.fit)

  -- ---- words that are those of a meaning have it, and stand
  pub record Stands (n : ℕ) (ws : List ℕ) (o : Option Shape) (m : Meaning) : Type 0 where
    pub long : length ws ≡ n
    pub means : meaning L ws o ≡ m
    pub well : Well L (length ws) (meaning L ws o)
    pub exact : ws ≡ words_of L (length ws) (meaning L ws o)

  stands_some : (n : ℕ) (ws : List ℕ) (shape : Shape) (slots : List (List (ℕ × ℕ))) → WellFormed L.S L.C (L.fits n) shape.k shape.v shape.b slots
      → ws ≡ words_of L n (formed shape.k shape.v shape.b slots) → Stands n ws (Some shape) (formed shape.k shape.v shape.b slots)
  stands_some n ws shape slots f e =
      let k = shape.k in let v = shape.v in let b = shape.b in
      let back : content L k v b ws ≡ slots = ap (content L k v b) e ∙ content_words n k v b slots f in
      let long : n ≡ length ws = sym (ap length e ∙ length_words n k v b slots f) in
      let m : formed k v b slots ≡ meaning L ws (Some shape) = ap (formed k v b) (sym back) in
      record {
        long = sym long;
        means = sym m;
        well = subst (Well L (length ws)) m (subst (λ t. WellFormed L.S L.C (L.fits t) k v b slots) long f);
        exact = e ∙ ap₂ (words_of L) long m;
      }

  -- zeros stand for an unformed table
  pub stands_none : (n : ℕ) (ws : List ℕ) → ws ≡ replicate n 0 → Stands n ws None unformed
  unfolding words_of
  stands_none n ws e = record { long = ap length e ∙ length-replicate n 0; means = refl; well = tt; exact = e ∙ ap (λ t. replicate t 0) (sym (ap length e ∙ length-replicate n 0)) }

  -- words of a content stand for it, under a shape of its widths
  pub stands_found : (n : ℕ) (ws : List ℕ) (shape : Shape) (k v b : ℕ) → shape.k ≡ k → shape.v ≡ v → shape.b ≡ b → (slots : List (List (ℕ × ℕ)))
      → WellFormed L.S L.C (L.fits n) k v b slots → ws ≡ words_of L n (formed k v b slots) → Stands n ws (Some shape) (formed k v b slots)
  stands_found n ws shape k v b ke ve be slots f e =
      let fs : WellFormed L.S L.C (L.fits n) shape.k shape.v shape.b slots = subst (λ t. t) (cc (ke, ve, be)) f in
      let m : formed k v b slots ≡ formed shape.k shape.v shape.b slots = cc (ke, ve, be) in
      subst (Stands n ws (Some shape)) (sym m) (stands_some n ws shape slots fs (e ∙ ap (words_of L n) m))

  -- ---- a table with no entries

  empty_total : (m : ℕ) → total (replicate m []) ≡ 0
  empty_total zero = refl
  empty_total (suc m) = let i = empty_total m in omega arith

  zero_blocks : (w m : ℕ) (f : List (List (ℕ × ℕ)) → List ℕ) (G : List (List (ℕ × ℕ))) → f G ≡ replicate w 0 → flat_map f (replicate m G) ≡ replicate (m * w) 0
  zero_blocks w zero f G e = ap (λ t. replicate t 0) (sym (zero-mul w))
  zero_blocks w (suc m) f G e =
      let s : w + m * w ≡ suc m * w = omega (arith, add-mul m 1 w, one-mul w, ap (λ t. t * w) (add-one m)) in
      ap₂ (λ x y. x ++ y) e (zero_blocks w m f G e) ∙ replicate-append-replicate w (m * w) 0 ∙ ap (λ t. replicate t 0) s

  empty_groups : (S m a n : ℕ) → n ≡ (a + m) * S → map (λ g. group_at S (replicate {A = List (ℕ × ℕ)} n []) g) (range_with_len a m) ≡ replicate m (replicate S [])
  empty_groups S zero a n e = refl
  empty_groups S (suc m) a n e =
      let le : a < a + suc m = omega arith in
      let i = inside_groups S (a + suc m) a le in
      let l : S ≤ n - a * S = omega arith in
      let one : group_at S (replicate {A = List (ℕ × ℕ)} n []) a ≡ replicate S [] = ap (take S) (drop-replicate (a * S) n []) ∙ take-replicate S (n - a * S) [] l in
      let s : a + suc m ≡ a + 1 + m = omega arith in
      ap₂ (λ x y. x ∷ y) one (empty_groups S m (a + 1) n (e ∙ ap (λ t. t * S) s))

  -- zeros stand for a table formed anew
  pub stands_empty : (n : ℕ) (ws : List ℕ) (shape : Shape) (k v b : ℕ) → shape.k ≡ k → shape.v ≡ v → shape.b ≡ b → L.fits n k v b ≡ true → ws ≡ replicate n 0
      → Stands n ws (Some shape) (formed k v b (replicate (2 ^ b) []))
  unfolding words_of load
  stands_empty n ws shape k v b ke ve be fit e =
      let slots = replicate {A = List (ℕ × ℕ)} (2 ^ b) [] in
      let S = L.S in let m = L.count b in let w = L.width k v b in
      let whole = law.whole n k v b fit in
      let room = law.room n k v b fit in
      let gs : groups S m slots ≡ replicate m (replicate S []) = empty_groups S m 0 (2 ^ b) (sym whole ∙ ap (λ t. t * S) (omega arith)) in
      let sum : m * w + (n - m * w) ≡ n = omega arith in
      let is : replicate n 0 ≡ words_of L n (formed k v b slots) =
      sym (ap (λ t. flat_map (L.block k v b) t ++ replicate (n - m * w) 0) gs
      ∙ ap (λ t. t ++ replicate (n - m * w) 0) (zero_blocks w m (L.block k v b) (replicate S []) (law.empty n k v b fit))
      ∙ replicate-append-replicate (m * w) (n - m * w) 0 ∙ ap (λ t. replicate t 0) sum) in
      let f : WellFormed S L.C (L.fits n) k v b slots = record {
        fit = fit;
        long = length-replicate (2 ^ b) [];
        good = λ s h. subst (Good (k - b) v) (sym (get_or-replicate (2 ^ b) s [] [] h)) (good_empty (k - b) v);
        limited = λ s h.
            let g : s / S < m = div_below s S m law.pos (omega arith) in
            let i = inside_groups S m (s / S) g in
            let l : S ≤ 2 ^ b - s / S * S = omega arith in
            let none : load S slots s ≡ 0 = ap (λ t. total (take S t)) (drop-replicate (s / S * S) (2 ^ b) []) ∙ ap total (take-replicate S (2 ^ b - s / S * S) [] l) ∙ empty_total S in
            le-leb (load S slots s) L.C (omega arith);
      } in
      stands_found n ws shape k v b ke ve be slots f (e ∙ is)

  -- a Vec that holds other words as many
  pub refilled_stands : {Z : Type 0} (t : Vec ℕ Z) (o : Option Shape) (m : Meaning) (zs : List ℕ) → length (vec_items t) ≡ t.len
      → Stands (length (vec_items t)) zs o m → Stands (length (vec_items t)) (vec_items (with_items t zs)) o m
  refilled_stands t o m zs len st = subst (λ u. Stands (length (vec_items t)) u o m) (sym (with_items_is t zs (st.long ∙ len))) st
