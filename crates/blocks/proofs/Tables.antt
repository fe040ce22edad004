-- A table's words in any kind: the block of one slot's group in them, and what the calls answer and leave.
use Rattle.std.proofs.Common.{◌≡◌, ℕ, ◌+◌, ◌*◌, ◌/◌, ◌%◌, ◌^◌, ◌<◌, ◌≤◌, true, ◌&&◌, List, [], length, get_or, take, drop, replicate, Some, None, Ok, Option, Result, Vec, vec_items, nat_lt, slice_index_or, sym, refl, ap, ap₂, ◌∙◌}
use borrow.Rule.Slice.PartMut.{put_mid}
use Rattle.std.specs.Vec.{with_items}
use Rattle.std.proofs.lemmas.Bool.{ltb-true}
use Rattle.table.specs.declared.refusal.TableRefusal.{TableRefusal}
use Rattle.table.specs.declared.shape.Shape.{Shape}
use Rattle.table.specs.Meaning.{Meaning, formed, formed_anew, value_in, total, load, has_slot, in_range, answer_of, found, found_at, sized, sized_at, picked, entered, entered_at, loaded, loaded_at, weigh_held, weigh_range, added, admitted, removed_from, WellFormed}
use Rattle.table.specs.Widths.{shape_where, widths}
use Rattle.table.specs.Layout.{Layout, group_at, group_added, group_removed, words_of, content, meaning, Well}
use Rattle.table.specs.Lawful.{Lawful}
use Rattle.table.specs.Checking.{Given, Holds}
use Rattle.table.proofs.Setting.{len_items, form_step, count_moved, unfit}
use Rattle.table.proofs.Shapes.{Shaped}
use Rattle.table.proofs.Standing.{Stands, refilled_stands, stands_found}
use Rattle.table.proofs.Steps.{Step, means_here, inside, good_here, slot_here, block_here, read_here, add_step, remove_step}

module _ (L : Layout) (law : Lawful L) (ws : List ℕ) (o : Option Shape) (wl : ∥ Well L (length ws) (meaning L ws o) ∥₁) (exact : ws ≡ words_of L (length ws) (meaning L ws o))
    (shape : Shape) (is : o ≡ Some shape) (s : ℕ) (ok : has_slot shape.b s ≡ true) where
  low : s < 2 ^ shape.b
  low = ltb-true s (2 ^ shape.b) ok

  -- the block of the slot's group is inside the words
  pub inside_table : s / L.S * L.width shape.k shape.v shape.b + L.width shape.k shape.v shape.b ≤ length ws
  inside_table = inside L law ws o shape wl exact is s low

  -- the slots that the words read as
  slots : List (List (ℕ × ℕ))
  slots = content L shape.k shape.v shape.b ws

  -- what the table means
  pub means_table : meaning L ws o ≡ formed shape.k shape.v shape.b (content L shape.k shape.v shape.b ws)
  means_table = means_here L law ws o shape wl exact is

  module _ (ys : List ℕ) (same : ys ≡ ws) (start : ℕ) (at : start ≡ s / L.S * L.width shape.k shape.v shape.b) (n : ℕ) (wide : n ≡ L.width shape.k shape.v shape.b) where
    -- the part is a block that the group gives
    pub given_table : Given L shape.k shape.v shape.b (take n (drop start ys))
    given_table = record {
      slots = group_at L.S (content L shape.k shape.v shape.b ws) (s / L.S);
      good = good_here L law ws o shape wl exact is s low;
      made = block_here L law ws o shape wl exact is s low ys same start at n wide;
    }

    pub reads_table : L.read shape.k shape.v shape.b (take n (drop start ys)) ≡ group_at L.S (content L shape.k shape.v shape.b ws) (s / L.S)
    reads_table = read_here L law ws o shape wl exact is s low ys same start at n wide

    -- it counts as the slot's group
    pub total_table : total (L.read shape.k shape.v shape.b (take n (drop start ys))) ≡ load L.S (content L shape.k shape.v shape.b ws) s
    unfolding load
    total_table = ap total reads_table

    -- load
    pub loaded_table : Ok (total (L.read shape.k shape.v shape.b (take n (drop start ys)))) ≡ loaded L.S (meaning L ws o) s
    unfolding slots
    loaded_table = ap Ok total_table ∙ ap (loaded_at L.S slots s) (sym ok) ∙ ap (λ m. loaded L.S m s) (sym means_table)

    module _ (j : ℕ) (place : j ≡ s % L.S) where
      -- it reads as the slot's entries
      pub slot_table : slice_index_or (L.read shape.k shape.v shape.b (take n (drop start ys))) j [] ≡ slice_index_or (content L shape.k shape.v shape.b ws) s []
      slot_table = ap₂ (λ (G : List (List (ℕ × ℕ))) (i : ℕ). get_or G i []) reads_table place ∙ sym (slot_here L law ws o shape wl exact is s low)

      -- find
      pub found_table : (q : ℕ) → in_range shape.k shape.b s q ≡ true
          → answer_of (value_in (slice_index_or (L.read shape.k shape.v shape.b (take n (drop start ys))) j []) q) ≡ found (meaning L ws o) s q
      unfolding slots
      found_table q in-it = ap (λ u. answer_of (value_in u q)) slot_table ∙ ap (found_at slots s q) (sym in-it) ∙ ap (λ m. found m s q) (sym means_table)

      -- size
      pub sized_table : Ok (length (slice_index_or (L.read shape.k shape.v shape.b (take n (drop start ys))) j [])) ≡ sized (meaning L ws o) s
      unfolding slots
      sized_table = ap (λ u. Ok (length u)) slot_table ∙ ap (sized_at slots s) (sym ok) ∙ ap (λ m. sized m s) (sym means_table)

      -- entry
      pub entered_table : (i : ℕ) → picked (slice_index_or (L.read shape.k shape.v shape.b (take n (drop start ys))) j []) i ≡ entered (meaning L ws o) s i
      unfolding slots
      entered_table i = ap (λ u. picked u i) slot_table ∙ ap (entered_at slots s i) (sym ok) ∙ ap (λ m. entered m s i) (sym means_table)

      -- what stands against one more entry
      pub admitted_table : (q w earlier : ℕ) → (in_range shape.k shape.b s q && nat_lt w (2 ^ shape.v)) ≡ true
          → weigh_held L.C (total (L.read shape.k shape.v shape.b (take n (drop start ys))) + earlier) (value_in (slice_index_or (L.read shape.k shape.v shape.b (take n (drop start ys))) j []) q)
          ≡ admitted L.S L.C (meaning L ws o) s q w earlier
      unfolding slots
      admitted_table q w earlier in-it =
          ap₂ (λ (x : ℕ) (y : List (ℕ × ℕ)). weigh_held L.C (x + earlier) (value_in y q)) total_table slot_table
          ∙ ap (weigh_range L.C (load L.S slots s + earlier) (slice_index_or slots s []) q) (sym in-it)
          ∙ ap (λ m. admitted L.S L.C m s q w earlier) (sym means_table)

-- the calls that change a block of a Vec's words
module _ {Z : Type 0} (L : Layout) (law : Lawful L) (vec : Vec ℕ Z) (o : Option Shape) (wl : ∥ Well L (length (vec_items vec)) (meaning L (vec_items vec) o) ∥₁)
    (exact : vec_items vec ≡ words_of L (length (vec_items vec)) (meaning L (vec_items vec) o))
    (shape : Shape) (is : o ≡ Some shape) (s : ℕ) (ok : has_slot shape.b s ≡ true)
    (ys : List ℕ) (same : ys ≡ vec_items vec) (start : ℕ) (at : start ≡ s / L.S * L.width shape.k shape.v shape.b) (n : ℕ) (wide : n ≡ L.width shape.k shape.v shape.b)
    (j : ℕ) (place : j ≡ s % L.S) (q : ℕ) (block : List ℕ) where
  -- add
  pub add_table : (w : ℕ) → (in_range shape.k shape.b s q && nat_lt w (2 ^ shape.v)) ≡ true → (r : Result (Unit {0}) TableRefusal)
      → block ≡ L.block shape.k shape.v shape.b (group_added L.C (L.read shape.k shape.v shape.b (take n (drop start ys))) j q w).0
      → r ≡ (group_added L.C (L.read shape.k shape.v shape.b (take n (drop start ys))) j q w).1
      → Step L law (length (vec_items vec)) (vec_items (with_items vec (put_mid start n ys block))) o (Result (Unit {0}) TableRefusal) (added L.S L.C (meaning L (vec_items vec) o) s q w) r
  add_table w in-it r made value =
      let ws = vec_items vec in
      let st = add_step L law ws o shape wl exact is s (ltb-true s (2 ^ shape.b) ok) ys same start at n wide j place q w in-it (put_mid start n ys block) block r refl made value in
      record { stands = refilled_stands L law vec o (added L.S L.C (meaning L ws o) s q w).0 (put_mid start n ys block) (sym (len_items vec)) st.stands; value = st.value }

  -- remove
  pub remove_table : in_range shape.k shape.b s q ≡ true → (r : Result ℕ TableRefusal)
      → block ≡ L.block shape.k shape.v shape.b (group_removed (L.read shape.k shape.v shape.b (take n (drop start ys))) j q).0
      → r ≡ (group_removed (L.read shape.k shape.v shape.b (take n (drop start ys))) j q).1
      → Step L law (length (vec_items vec)) (vec_items (with_items vec (put_mid start n ys block))) o (Result ℕ TableRefusal) (removed_from (meaning L (vec_items vec) o) s q) r
  remove_table in-it r made value =
      let ws = vec_items vec in
      let st = remove_step L law ws o shape wl exact is s (ltb-true s (2 ^ shape.b) ok) ys same start at n wide j place q in-it (put_mid start n ys block) block r refl made value in
      record { stands = refilled_stands L law vec o (removed_from (meaning L ws o) s q).0 (put_mid start n ys block) (sym (len_items vec)) st.stands; value = st.value }

module _ (L : Layout) (law : Lawful L) where
  -- form, the words made zero
  pub form_table : {Z : Type 0} (vec : Vec ℕ Z) (m : Meaning) (k v b : ℕ) (shape : Shape) (n : ℕ) → n ≡ vec.len → widths (Some shape) ≡ shape_where (L.fits n k v b) k v b
      → (ys : List ℕ) → ys ≡ vec_items vec → (zs : List ℕ) → zs ≡ replicate (length ys) 0
      → Step L law (length (vec_items vec)) (vec_items (with_items vec zs)) (Some shape) (Result (Unit {0}) TableRefusal) (formed_anew (L.fits (length (vec_items vec))) m k v b) (Ok tt)
  form_table vec m k v b shape n ns made ys same zs zero = form_step L law k v b vec m shape n ns made ys same zs zero

  -- keep, the words found to be a content's
  pub keep_table : (ws : List ℕ) (k v b : ℕ) (shape : Shape) → Shaped (L.fits (length ws) k v b) k v b shape
      → (slots : List (List (ℕ × ℕ))) → WellFormed L.S L.C (L.fits (length ws)) k v b slots → ws ≡ words_of L (length ws) (formed k v b slots)
      → Stands L law (length ws) ws (Some shape) (formed k v b slots)
  keep_table ws k v b shape s slots f e = stands_found L law (length ws) ws shape k v b s.ks s.vs s.bs slots f e

  -- no shape, no content
  pub unfit_table : (ws : List ℕ) (k v b : ℕ) (n : ℕ) → n ≡ length ws → widths None ≡ shape_where (L.fits n k v b) k v b → Holds L ws k v b → ⊥
  unfit_table ws k v b n e h = unfit L law k v b ws n e h

-- a shape made for n words is one for these, n in number
pub kept_table : (L : Layout) (ws : List ℕ) (k v b : ℕ) (shape : Shape) (n : ℕ) → n ≡ length ws → widths (Some shape) ≡ shape_where (L.fits n k v b) k v b
    → widths (Some shape) ≡ shape_where (L.fits (length ws) k v b) k v b
kept_table L ws k v b shape n e h = count_moved L.fits n (length ws) k v b (Some shape) e h
