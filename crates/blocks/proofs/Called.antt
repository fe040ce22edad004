-- What the calls answer and leave, in any kind of table: one group's block in its words.
use Rattle.std.proofs.Common.{◌≡◌, ℕ, ◌+◌, ◌-◌, ◌*◌, ◌/◌, ◌%◌, ◌^◌, ◌<◌, ◌≤◌, true, ◌&&◌, List, [], length, get_or, take, drop, Some, None, Ok, Err, Option, Result, Vec, vec_items, nat_lt, slice_index_or, slice_set, refl, sym, ap, ap₂, subst, ◌∙◌, arith}
use borrow.Rule.Slice.PartMut.{put_mid}
use Rattle.std.proofs.lemmas.Bool.{and_parts, ltb-true}
use Rattle.std.proofs.lemmas.Nat.{mod_below}
use Rattle.table.specs.declared.refusal.TableRefusal.{TableRefusal}
use Rattle.table.specs.declared.shape.Shape.{Shape}
use Rattle.table.specs.Meaning.{formed, value_in, total, load, has_slot, in_range, weigh_held, weigh_range, added, add_reply, removed_from, remove_at, remove_end}
use Rattle.table.specs.Layout.{Layout, group_at, group_added, group_reply, group_removed, group_without, words_of, content, meaning, Well}
use Rattle.table.specs.Lawful.{Lawful}
use Rattle.table.specs.Checking.{Given}
use Rattle.table.specs.Places.{First}
use Rattle.table.proofs.Slots.{first_value, first_without}
use Rattle.table.specs.declared.refusal.TableRefusal.TheVariants.{Absent}
use Rattle.blocks.specs.Places.{without_place}
use Rattle.std.specs.Vec.{with_items}
use Rattle.table.proofs.Setting.{len_items}
use Rattle.table.proofs.Standing.{refilled_stands}
use Rattle.table.proofs.Steps.{Step, inside, good_here, slot_here, block_here, read_here, add_step, remove_step}
use Rattle.blocks.specs.declared.state.spot.Spot.{Spot}
use Rattle.blocks.specs.Slots.{Read}
use Rattle.blocks.specs.Spots.{Reached}

-- the block of a slot in range is there
module _ (L : Layout) (law : Lawful L) (ws : List ℕ) (o : Option Shape) (wl : ∥ Well L (length ws) (meaning L ws o) ∥₁) (exact : ws ≡ words_of L (length ws) (meaning L ws o))
    (shape : Shape) (is : o ≡ Some shape) (s q w : ℕ) (ok : (in_range shape.k shape.b s q && nat_lt w (2 ^ shape.v)) ≡ true)
    (S W : ℕ) (ss : S ≡ L.S) (width : W ≡ L.width shape.k shape.v shape.b) where
  at_start : s / S * W ≡ s / L.S * L.width shape.k shape.v shape.b
  at_start = ap₂ (λ (x y : ℕ). s / x * y) ss width

  -- inside the words
  pub inside_words : s / S * W + W ≤ length ws
  inside_words =
      let low = ltb-true s (2 ^ shape.b) (and_parts _ _ (and_parts _ _ ok).0).0 in
      omega (arith, at_start, inside L law ws o shape wl exact is s low)

  -- and where it lies
  pub reached : (S2 : ℕ) → S2 ≡ L.S → Reached L (length ws) o s q w (record { shape = shape; start = s / S * W; end = s / S * W + W; slot = s % S2 })
  reached S2 s2 = record {
    formed = is;
    allowed = ok;
    start = at_start;
    end = ap (λ t. s / S * W + t) width;
    slot = ap (λ t. s % t) s2;
    inside = inside_words;
  }

module _ (L : Layout) (law : Lawful L) (ws : List ℕ) (o : Option Shape) (wl : ∥ Well L (length ws) (meaning L ws o) ∥₁) (exact : ws ≡ words_of L (length ws) (meaning L ws o))
    (s q w : ℕ) (at : Spot) (r : Reached L (length ws) o s q w at) where
  in_range_at : in_range at.shape.k at.shape.b s q ≡ true
  in_range_at = (and_parts _ _ r.allowed).0

  low : s < 2 ^ at.shape.b
  low = ltb-true s (2 ^ at.shape.b) (and_parts _ _ in_range_at).0

  -- the quotient and the value fit
  pub fits_here : (q < 2 ^ (at.shape.k - at.shape.b)) × (w < 2 ^ at.shape.v)
  fits_here = (ltb-true _ _ (and_parts _ _ in_range_at).1, ltb-true _ _ (and_parts _ _ r.allowed).1)

  -- the slot is one of the group
  pub slot_below : at.slot < L.S
  slot_below = subst (λ t. t < L.S) (sym r.slot) (mod_below s L.S law.pos)

  wide : at.end - at.start ≡ L.width at.shape.k at.shape.v at.shape.b
  wide = omega (arith, r.end)

  module _ (ys : List ℕ) (same : ys ≡ ws) where
    -- the part is a block that the group gives
    pub given_here : Given L at.shape.k at.shape.v at.shape.b (take (at.end - at.start) (drop at.start ys))
    given_here = record {
      slots = group_at L.S (content L at.shape.k at.shape.v at.shape.b ws) (s / L.S);
      good = good_here L law ws o at.shape wl exact r.formed s low;
      made = block_here L law ws o at.shape wl exact r.formed s low ys same at.start r.start _ wide;
    }

    reads_here : L.read at.shape.k at.shape.v at.shape.b (take (at.end - at.start) (drop at.start ys)) ≡ group_at L.S (content L at.shape.k at.shape.v at.shape.b ws) (s / L.S)
    reads_here = read_here L law ws o at.shape wl exact r.formed s low ys same at.start r.start _ wide

    -- it reads as the slot's entries, and counts as the slot's group
    pub read_at : Read L ws o s q w at.shape at.slot (take (at.end - at.start) (drop at.start ys))
    unfolding load
    read_at = record {
      formed = r.formed;
      allowed = r.allowed;
      entries = ap₂ (λ (G : List (List (ℕ × ℕ))) (j : ℕ). get_or G j []) reads_here r.slot ∙ sym (slot_here L law ws o at.shape wl exact r.formed s low);
      counted = ap total reads_here;
    }

    -- also where it was copied
    pub read_copy : (shape : Shape) (j : ℕ) (block : List ℕ) → block ≡ take (at.end - at.start) (drop at.start ys) → shape ≡ at.shape → j ≡ at.slot → Read L ws o s q w shape j block
    read_copy shape j block be se je =
        subst (λ x. Read L ws o s q w x j block) (sym se)
        (subst (λ x. Read L ws o s q w at.shape x block) (sym je)
        (subst (λ x. Read L ws o s q w at.shape at.slot x) (sym be) read_at))

    -- what was said of a copy holds of the part itself
    pub moved_copy : (P : List (List (ℕ × ℕ)) → ℕ → Type 0) (shape : Shape) (j : ℕ) (block : List ℕ) → block ≡ take (at.end - at.start) (drop at.start ys) → shape ≡ at.shape → j ≡ at.slot
        → P (L.read shape.k shape.v shape.b block) j → P (L.read at.shape.k at.shape.v at.shape.b (take (at.end - at.start) (drop at.start ys))) at.slot
    moved_copy P shape j block be se je p =
        subst (λ x. P (L.read at.shape.k at.shape.v at.shape.b (take (at.end - at.start) (drop at.start ys))) x) je
        (subst (λ x. P (L.read x.k x.v x.b (take (at.end - at.start) (drop at.start ys))) j) se
        (subst (λ x. P (L.read shape.k shape.v shape.b x) j) be p))

-- the calls that are refused by what the slot and its group hold
module _ (L : Layout) (ws : List ℕ) (o : Option Shape) (s q w : ℕ) (shape : Shape) (j : ℕ) (block : List ℕ) (r : Read L ws o s q w shape j block) where
  -- the slots that the words read as
  slots : List (List (ℕ × ℕ))
  slots = content L shape.k shape.v shape.b ws

  means_it : meaning L ws o ≡ formed shape.k shape.v shape.b slots
  unfolding slots
  means_it = ap (meaning L ws) r.formed

  in_it : in_range shape.k shape.b s q ≡ true
  in_it = (and_parts _ _ r.allowed).0

  slot_in : has_slot shape.b s ≡ true
  slot_in = (and_parts _ _ in_it).0

  -- add, where something stands against it
  pub stood : (e : TableRefusal) → weigh_held L.C (total (L.read shape.k shape.v shape.b block)) (value_in (slice_index_or (L.read shape.k shape.v shape.b block) j []) q) ≡ Err e
      → (meaning L ws o, Err e) ≡ added L.S L.C (meaning L ws o) s q w
  unfolding slots
  stood e h =
      let k = shape.k in let v = shape.v in let b = shape.b in
      let p : Err e ≡ weigh_held L.C (load L.S slots s) (value_in (slice_index_or slots s []) q) =
      sym h ∙ ap₂ (λ (x : ℕ) (y : List (ℕ × ℕ)). weigh_held L.C x (value_in y q)) r.counted r.entries in
      ap (λ m. (m, Err e)) means_it
      ∙ ap (add_reply k v b slots s q w) (p ∙ ap (weigh_range L.C (load L.S slots s) (slice_index_or slots s []) q) (sym r.allowed))
      ∙ ap (λ m. added L.S L.C m s q w) (sym means_it)

  -- remove, where the slot does not hold the quotient
  pub absent : value_in (slice_index_or (L.read shape.k shape.v shape.b block) j []) q ≡ None → (meaning L ws o, Err Absent) ≡ removed_from (meaning L ws o) s q
  unfolding slots
  absent h =
      let k = shape.k in let v = shape.v in let b = shape.b in
      let p : None ≡ value_in (slice_index_or slots s []) q = sym h ∙ ap (λ y. value_in y q) r.entries in
      ap (λ m. (m, Err Absent)) means_it ∙ ap (remove_end k v b slots s q) p ∙ ap (remove_at k v b slots s q) (sym in_it) ∙ ap (λ m. removed_from m s q) (sym means_it)

-- a group with one more entry, where nothing stands against it
pub free_reply : (C : ℕ) (G : List (List (ℕ × ℕ))) (j q w : ℕ) → weigh_held C (total G) (value_in (slice_index_or G j []) q) ≡ Ok tt → Ok tt ≡ (group_added C G j q w).1
free_reply C G j q w h = ap (λ t. (group_reply G j q w t).1) (sym h)

-- a group without the entry that stands first at a place
pub out_reply : (G : List (List (ℕ × ℕ))) (j q i : ℕ) → First (slice_index_or G j []) q i
    → (without_place G j i, Ok (slice_index_or (slice_index_or G j []) i (0, 0)).1) ≡ group_removed G j q
out_reply G j q i f =
    let es = slice_index_or G j [] in
    ap (λ t. (slice_set G j t, Ok (slice_index_or es i (0, 0)).1)) (sym (first_without es q i f)) ∙ ap (group_without G j q) (sym (first_value es q i f))

-- the calls that change a block of a Vec's words
module _ {Z : Type 0} (L : Layout) (law : Lawful L) (vec : Vec ℕ Z) (o : Option Shape) (wl : ∥ Well L (length (vec_items vec)) (meaning L (vec_items vec) o) ∥₁)
    (exact : vec_items vec ≡ words_of L (length (vec_items vec)) (meaning L (vec_items vec) o))
    (s q w : ℕ) (at : Spot) (r : Reached L (length (vec_items vec)) o s q w at) (ys : List ℕ) (same : ys ≡ vec_items vec) (block : List ℕ) where
  -- add
  pub add_here : (x : Result (Unit {0}) TableRefusal)
      → block ≡ L.block at.shape.k at.shape.v at.shape.b (group_added L.C (L.read at.shape.k at.shape.v at.shape.b (take (at.end - at.start) (drop at.start ys))) at.slot q w).0
      → x ≡ (group_added L.C (L.read at.shape.k at.shape.v at.shape.b (take (at.end - at.start) (drop at.start ys))) at.slot q w).1
      → Step L law (length (vec_items vec)) (vec_items (with_items vec (put_mid at.start (at.end - at.start) ys block))) o (Result (Unit {0}) TableRefusal) (added L.S L.C (meaning L (vec_items vec) o) s q w) x
  add_here x made value =
      let ws = vec_items vec in
      let st = add_step L law ws o at.shape wl exact r.formed s (low L law ws o wl exact s q w at r) ys same at.start r.start _ (wide L law ws o wl exact s q w at r) at.slot r.slot q w r.allowed _ block x refl made value in
      record { stands = refilled_stands L law vec o (added L.S L.C (meaning L ws o) s q w).0 _ (sym (len_items vec)) st.stands; value = st.value }

  -- remove
  pub remove_here : (x : Result ℕ TableRefusal)
      → block ≡ L.block at.shape.k at.shape.v at.shape.b (group_removed (L.read at.shape.k at.shape.v at.shape.b (take (at.end - at.start) (drop at.start ys))) at.slot q).0
      → x ≡ (group_removed (L.read at.shape.k at.shape.v at.shape.b (take (at.end - at.start) (drop at.start ys))) at.slot q).1
      → Step L law (length (vec_items vec)) (vec_items (with_items vec (put_mid at.start (at.end - at.start) ys block))) o (Result ℕ TableRefusal) (removed_from (meaning L (vec_items vec) o) s q) x
  remove_here x made value =
      let ws = vec_items vec in
      let st = remove_step L law ws o at.shape wl exact r.formed s (low L law ws o wl exact s q w at r) ys same at.start r.start _ (wide L law ws o wl exact s q w at r) at.slot r.slot q (in_range_at L law ws o wl exact s q w at r) _ block x refl made value in
      record { stands = refilled_stands L law vec o (removed_from (meaning L ws o) s q).0 _ (sym (len_items vec)) st.stands; value = st.value }
