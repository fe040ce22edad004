-- A formed table's words: one group's block in them, and a call that changes that block.
use Rattle.std.proofs.Common.{◌≡◌, ℕ, ◌+◌, ◌-◌, ◌*◌, ◌/◌, ◌%◌, ◌^◌, ◌<◌, ◌≤◌, true, ◌&&◌, ltb, List, [], length, get_or, take, drop, Some, Option, Result, sym, refl, ap, ◌∙◌, subst, ap₂, arith}
use borrow.Rule.Slice.PartMut.{put_mid}
use Rattle.std.proofs.lemmas.Nat.{div_below, mod_below}
use Rattle.std.proofs.lemmas.Bool.{and_parts, ltb-true}
use Rattle.table.specs.declared.refusal.TableRefusal.{TableRefusal}
use Rattle.table.specs.declared.shape.Shape.{Shape}
use Rattle.table.specs.Meaning.{Meaning, formed, in_range, has_slot, added, removed_from, WellFormed}
use Rattle.table.specs.Layout.{Layout, group_at, group_added, group_removed, GoodGroup, part, words_of, content, meaning, Well}
use Rattle.table.specs.Lawful.{Lawful}
use Rattle.table.proofs.Groups.{inside_groups, getD_groups, slot_at}
use Rattle.table.proofs.Calls.{good_added, good_taken, Changed, added_changes, added_answers, removed_changes, removed_answers}
use Rattle.table.proofs.Standing.{bare, Stands, stands_found, slot_count, fine, block_words, put_words, well_new}

-- what a changing call leaves and answers
pub record Step (L : Layout) (law : Lawful L) (n : ℕ) (zs : List ℕ) (o : Option Shape) (A : Type 0) (m : Meaning × A) (r : A) : Type 0 where
  pub stands : Stands L law n zs o m.0
  pub value : r ≡ m.1

module _ (L : Layout) (law : Lawful L) (ws : List ℕ) (o : Option Shape) (shape : Shape) (wl : ∥ Well L (length ws) (meaning L ws o) ∥₁)
    (e : ws ≡ words_of L (length ws) (meaning L ws o)) (is : o ≡ Some shape) where
  -- what a formed table means
  pub means_here : meaning L ws o ≡ formed shape.k shape.v shape.b (content L shape.k shape.v shape.b ws)
  means_here = ap (meaning L ws) is

  -- its content is well formed
  pub well_here : WellFormed L.S L.C (L.fits (length ws)) shape.k shape.v shape.b (content L shape.k shape.v shape.b ws)
  well_here = subst (Well L (length ws)) means_here (bare L (length ws) (meaning L ws o) wl)

  -- its words are those of the content
  exact_here : ws ≡ words_of L (length ws) (formed shape.k shape.v shape.b (content L shape.k shape.v shape.b ws))
  exact_here = e ∙ ap (words_of L (length ws)) means_here

  module _ (s : ℕ) (h : s < 2 ^ shape.b) where
    in_all : s < L.count shape.b * L.S
    in_all = omega (arith, law.whole (length ws) shape.k shape.v shape.b well_here.fit)

    group_in : s / L.S < L.count shape.b
    group_in = div_below s L.S (L.count shape.b) law.pos in_all

    -- the slot's block is inside the words
    pub inside : s / L.S * L.width shape.k shape.v shape.b + L.width shape.k shape.v shape.b ≤ length ws
    inside =
        omega (arith, inside_groups (L.width shape.k shape.v shape.b) (L.count shape.b) (s / L.S) group_in, law.room (length ws) shape.k shape.v shape.b well_here.fit)

    -- the slot's group is good
    pub good_here : GoodGroup L.S L.C (shape.k - shape.b) shape.v (group_at L.S (content L shape.k shape.v shape.b ws) (s / L.S))
    good_here =
        let slots = content L shape.k shape.v shape.b ws in
        subst (GoodGroup L.S L.C (shape.k - shape.b) shape.v) (getD_groups [] L.S (L.count shape.b) law.pos slots (s / L.S) group_in)
        (fine L law (length ws) shape.k shape.v shape.b slots well_here (s / L.S) group_in)

    -- the slot, in its group
    pub slot_here : get_or (content L shape.k shape.v shape.b ws) s [] ≡ get_or (group_at L.S (content L shape.k shape.v shape.b ws) (s / L.S)) (s % L.S) []
    slot_here = slot_at [] L.S (L.count shape.b) law.pos (content L shape.k shape.v shape.b ws) s

    module _ (ys : List ℕ) (same : ys ≡ ws) (start : ℕ) (at : start ≡ s / L.S * L.width shape.k shape.v shape.b) (n : ℕ) (wide : n ≡ L.width shape.k shape.v shape.b) where
      -- the part is the block of the slot's group
      pub block_here : take n (drop start ys) ≡ L.block shape.k shape.v shape.b (group_at L.S (content L shape.k shape.v shape.b ws) (s / L.S))
      block_here =
          let k = shape.k in let v = shape.v in let b = shape.b in
          let w = L.width k v b in let g = s / L.S in
          ap (λ t. take t (drop start ys)) wide ∙ ap₂ (λ t u. take w (drop t u)) at same ∙ ap (part w g) exact_here
          ∙ block_words L law (length ws) k v b (content L k v b ws) well_here g group_in

      -- and reads as it
      pub read_here : L.read shape.k shape.v shape.b (take n (drop start ys)) ≡ group_at L.S (content L shape.k shape.v shape.b ws) (s / L.S)
      read_here = ap (L.read shape.k shape.v shape.b) block_here ∙ law.back (length ws) shape.k shape.v shape.b well_here.fit _ good_here

      -- the words after the block of one group was replaced
      changed : (zs block : List ℕ) → zs ≡ put_mid start n ys block → (G : List (List (ℕ × ℕ))) → GoodGroup L.S L.C (shape.k - shape.b) shape.v G
          → block ≡ L.block shape.k shape.v shape.b G → (after : Meaning)
          → Changed L.S (L.count shape.b) shape.k shape.v shape.b (content L shape.k shape.v shape.b ws) (s / L.S) G after
          → Stands L law (length ws) zs o after
      changed zs block z G good made after c =
          let k = shape.k in let v = shape.v in let b = shape.b in
          let w = L.width k v b in let g = s / L.S in
          let slots = content L k v b ws in
          let words : zs ≡ words_of L (length ws) (formed k v b c.new) =
          z ∙ ap (λ t. put_mid start t ys block) wide ∙ ap₂ (λ t u. put_mid t w u block) at (same ∙ exact_here)
          ∙ ap (put_mid (g * w) w (words_of L (length ws) (formed k v b slots))) made
          ∙ put_words L law (length ws) k v b slots well_here g group_in G good after c in
          subst (λ t. Stands L law (length ws) zs t after) (sym is)
          (subst (Stands L law (length ws) zs (Some shape)) (sym c.is)
          (stands_found L law (length ws) zs shape k v b refl refl refl c.new (well_new L law (length ws) k v b slots well_here g group_in G good after c) words))

      module _ (j : ℕ) (place : j ≡ s % L.S) (q : ℕ) where
        -- add
        pub add_step : (w : ℕ) → (in_range shape.k shape.b s q && ltb w (2 ^ shape.v)) ≡ true
            → (zs block : List ℕ) (r : Result (Unit {0}) TableRefusal) → zs ≡ put_mid start n ys block
            → block ≡ L.block shape.k shape.v shape.b (group_added L.C (L.read shape.k shape.v shape.b (take n (drop start ys))) j q w).0
            → r ≡ (group_added L.C (L.read shape.k shape.v shape.b (take n (drop start ys))) j q w).1
            → Step L law (length ws) zs o (Result (Unit {0}) TableRefusal) (added L.S L.C (meaning L ws o) s q w) r
        add_step w ok zs block r z made answer =
            let k = shape.k in let v = shape.v in let b = shape.b in
            let slots = content L k v b ws in
            let G = group_at L.S slots (s / L.S) in
            let p = and_parts (in_range k b s q) (ltb w (2 ^ v)) ok in
            let qh = ltb-true q (2 ^ (k - b)) (and_parts (has_slot b s) (ltb q (2 ^ (k - b))) p.0).1 in
            let wh = ltb-true w (2 ^ v) p.1 in
            let new = group_added L.C G (s % L.S) q w in
            let there : group_added L.C (L.read k v b (take n (drop start ys))) j q w ≡ new = ap₂ (λ t u. group_added L.C t u q w) read_here place in
            let sc = slot_count L law (length ws) k v b slots well_here in
            let c = added_changes L.S (L.count b) law.pos k v b slots sc s in_all q w L.C ok in
            let good = good_added L.S L.C (k - b) v G good_here (s % L.S) (mod_below s L.S law.pos) q w qh wh in
            record {
              stands = subst (λ t. Stands L law (length ws) zs o (added L.S L.C t s q w).0) (sym means_here)
                  (changed zs block z new.0 good (made ∙ ap (λ t. L.block k v b t.0) there) (added L.S L.C (formed k v b slots) s q w).0 c);
              value = answer ∙ ap (λ t. t.1) there ∙ sym (ap (λ t. (added L.S L.C t s q w).1) means_here ∙ added_answers L.S (L.count b) law.pos k v b slots sc s in_all q w L.C ok);
            }

        -- remove
        pub remove_step : in_range shape.k shape.b s q ≡ true
            → (zs block : List ℕ) (r : Result ℕ TableRefusal) → zs ≡ put_mid start n ys block
            → block ≡ L.block shape.k shape.v shape.b (group_removed (L.read shape.k shape.v shape.b (take n (drop start ys))) j q).0
            → r ≡ (group_removed (L.read shape.k shape.v shape.b (take n (drop start ys))) j q).1
            → Step L law (length ws) zs o (Result ℕ TableRefusal) (removed_from (meaning L ws o) s q) r
        remove_step ok zs block r z made answer =
            let k = shape.k in let v = shape.v in let b = shape.b in
            let slots = content L k v b ws in
            let G = group_at L.S slots (s / L.S) in
            let new = group_removed G (s % L.S) q in
            let there : group_removed (L.read k v b (take n (drop start ys))) j q ≡ new = ap₂ (λ t u. group_removed t u q) read_here place in
            let sc = slot_count L law (length ws) k v b slots well_here in
            let c = removed_changes L.S (L.count b) law.pos k v b slots sc s in_all q ok in
            let good = good_taken L.S L.C (k - b) v G good_here (s % L.S) (mod_below s L.S law.pos) q in
            record {
              stands = subst (λ t. Stands L law (length ws) zs o (removed_from t s q).0) (sym means_here)
                  (changed zs block z new.0 good (made ∙ ap (λ t. L.block k v b t.0) there) (removed_from (formed k v b slots) s q).0 c);
              value = answer ∙ ap (λ t. t.1) there ∙ sym (ap (λ t. (removed_from t s q).1) means_here ∙ removed_answers L.S (L.count b) law.pos k v b slots sc s in_all q ok);
            }
