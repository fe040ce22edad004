-- A block that some group gives: it is the block of what it reads as, and stays one under an add and a removal.
use Rattle.std.specs.Prelude.{◌≡◌, ℕ, ◌+◌, ◌-◌, ◌%◌, ◌^◌, ◌<◌, List, [], ◌∷◌, ◌++◌, map, length, get_or, take, set, None, Ok, Err, sum, Result, count_ones, slice_index, slice_index_or, slice_set, refl}
use Rattle.std.proofs.Common.{sym, ap, ap₂, subst, ◌∙◌, mod-eq_of_lt, add-zero, arith}
use Rattle.std.specs.List.{remove}
use Rattle.std.proofs.lemmas.List.{length-map, length_push, map-set, get_or-map}
use Rattle.std.proofs.lemmas.List.Edits.{length-remove}
use Rattle.bits.specs.Area.{number, words_of, packed, field_inserted, field_removed}
use Rattle.bits.specs.Laws.{Below}
use Rattle.bits.specs.Marks.{marks, entries_before, size_of, one_more, one_less}
use Rattle.bits.proofs.Lists.{insert_packed, remove_packed}
use Rattle.bits.proofs.Unary.{more_marks, less_marks}
use Rattle.table.specs.declared.refusal.TableRefusal.{TableRefusal}
use Rattle.table.specs.declared.refusal.TableRefusal.TheVariants.{Absent}
use Rattle.table.specs.Meaning.{total, value_in, without, weigh_held}
use Rattle.table.specs.Places.{First}
use Rattle.table.specs.Layout.{GoodGroup, group_added, group_reply, group_removed, group_without}
use Rattle.table.specs.Checking.{Given}
use Rattle.table.proofs.Slots.{first_value, first_without}
use Rattle.table.proofs.Calls.{good_added, good_taken}
use Rattle.blocks.specs.Places.{without_place}
use Rattle.blocks.specs.PackedLayout.{room, entries, block_of, quotient_area, value_area, with_areas, slots_of, packed_table, MarkedBlock}
use Rattle.blocks.specs.Entries.{sum_sizes, length_entries, insert_entry, remove_entry, map_inserted, map_removed}
use Rattle.blocks.specs.Areas.{few, quotients_below, values_below, marks_fit, block_is, first_word, block_long, quotient_number, value_number, read_back}
use Rattle.blocks.specs.Views.{load_is, before_here, size_here}

module _ (k v b : ℕ) (block : List ℕ) (gv : Given packed_table k v b block) where
  reads : slots_of 1 k v b block ≡ gv.slots
  reads = ap (slots_of 1 k v b) gv.made ∙ read_back k v b gv.slots gv.good

  -- it reads as a good group
  pub good_given : GoodGroup 16 48 (k - b) v (slots_of 1 k v b block)
  good_given = subst (GoodGroup 16 48 (k - b) v) (sym reads) gv.good

  -- and is the block of that
  pub exact_given : block ≡ block_of 1 k v b (slots_of 1 k v b block)
  exact_given = gv.made ∙ ap (block_of 1 k v b) (sym reads)

  word_given : get_or block 0 0 ≡ marks (map length (slots_of 1 k v b block))
  word_given = ap (λ t. slice_index t 0) exact_given ∙ first_word k v b (slots_of 1 k v b block) good_given

  -- its first word is marks
  pub marked_given : MarkedBlock k v b block
  marked_given =
      let R = slots_of 1 k v b block in
      record {
        long = ap length exact_given ∙ block_long k v b R good_given;
        marked = (map length R, length-map R (λ (x : List (ℕ × ℕ)). length x) ∙ good_given.whole, omega (arith, sum_sizes R, few k v b R good_given), word_given);
      }

  -- its areas hold the entries
  pub quotients_given : number (quotient_area 1 k b block) ≡ packed (k - b) (map (λ e. e.0) (entries (slots_of 1 k v b block)))
  quotients_given = ap (λ t. number (quotient_area 1 k b t)) exact_given ∙ quotient_number k v b (slots_of 1 k v b block) good_given

  pub values_given : number (value_area 1 k b block) ≡ packed v (map (λ e. e.1) (entries (slots_of 1 k v b block)))
  values_given = ap (λ t. number (value_area 1 k b t)) exact_given ∙ value_number k v b (slots_of 1 k v b block) good_given

  -- other areas and another first word make the block of another group
  rebuilt : (G : List (List (ℕ × ℕ))) → GoodGroup 16 48 (k - b) v G → (last : List ℕ) (A B r : ℕ) → last ≡ with_areas k v b block A B
      → r ≡ marks (map length G) → A ≡ packed (k - b) (map (λ e. e.0) (entries G)) → B ≡ packed v (map (λ e. e.1) (entries G)) → slice_set last 0 r ≡ block_of 1 k v b G
  rebuilt G good last A B r e m a c =
      let R = slots_of 1 k v b block in
      let X = words_of (room 1 (k - b)) A ++ words_of (room 1 v) B in
      let one : take 1 block ≡ marks (map length R) ∷ [] = ap (take 1) (exact_given ∙ block_is k v b R good_given) in
      ap (λ t. set t 0 r) e ∙ ap (λ t. set (t ++ X) 0 r) one
      ∙ ap₂ (λ (x : ℕ) (y : List ℕ). x ∷ y) m (ap₂ (λ (x y : ℕ). words_of (room 1 (k - b)) x ++ words_of (room 1 v) y) a c)
      ∙ sym (block_is k v b G good)

  -- as many as the ones of the first word
  count_is : (count : ℕ) → count ≡ count_ones (slice_index block 0) → (f : ℕ × ℕ → ℕ) → count ≡ length (map f (entries (slots_of 1 k v b block)))
  count_is count c f =
      let R = slots_of 1 k v b block in
      c ∙ load_is k v b block marked_given ∙ sym (length-map (entries R) f ∙ length_entries R)

  module _ (j : ℕ) (h : j < 16) where
    slot_in : j < length (slots_of 1 k v b block)
    slot_in = omega (arith, good_given.whole)

    sizes_in : j < length (map length (slots_of 1 k v b block))
    sizes_in = omega (arith, length-map (slots_of 1 k v b block) (λ (x : List (ℕ × ℕ)). length x), slot_in)

    size_at : get_or (map length (slots_of 1 k v b block)) j 0 ≡ length (slice_index_or (slots_of 1 k v b block) j [])
    size_at = get_or-map length (slots_of 1 k v b block) j [] 0 slot_in

    -- the marks of the group with another slot j, which has n entries
    marks_set : (es : List (ℕ × ℕ)) (n : ℕ) → n ≡ length es → marks (slice_set (map length (slots_of 1 k v b block)) j n) ≡ marks (map length (slice_set (slots_of 1 k v b block) j es))
    marks_set es n e = ap (λ t. marks (slice_set (map length (slots_of 1 k v b block)) j t)) e ∙ ap marks (sym (map-set length (slots_of 1 k v b block) j es))

    -- ---- one entry more

    module _ (q w : ℕ) (qh : q < 2 ^ (k - b)) (wh : w < 2 ^ v) (r : Result (Unit {0}) TableRefusal)
        (weighs : r ≡ weigh_held 48 (total (slots_of 1 k v b block) + 0) (value_in (slice_index_or (slots_of 1 k v b block) j []) q)) where
      -- what adding leaves and answers
      pub record Appended (last : List ℕ) (a : Result (Unit {0}) TableRefusal) : Type 0 where
        pub after : last ≡ block_of 1 k v b (group_added 48 (slots_of 1 k v b block) j q w).0
        pub value : a ≡ (group_added 48 (slots_of 1 k v b block) j q w).1

      whole : group_reply (slots_of 1 k v b block) j q w r ≡ group_added 48 (slots_of 1 k v b block) j q w
      whole =
          let R = slots_of 1 k v b block in
          ap (group_reply R j q w) (weighs ∙ ap (λ t. weigh_held 48 t (value_in (slice_index_or R j []) q)) (add-zero (total R)))

      -- something stands against it
      pub refused_case : (e : TableRefusal) → r ≡ Err e → Appended block (Err e)
      refused_case e is =
          let p = ap (group_reply (slots_of 1 k v b block) j q w) (sym is) ∙ whole in
          record { after = exact_given ∙ ap (λ t. block_of 1 k v b t.0) p; value = ap (λ t. t.1) p }

      -- nothing does, and it is put in
      module _ (u : Unit {0}) (is : r ≡ Ok u) (count before size : ℕ) (cs : count ≡ count_ones (slice_index block 0)) (bs : before ≡ entries_before j (slice_index block 0)) (ns : size ≡ size_of j (slice_index block 0)) where
        taken : group_reply (slots_of 1 k v b block) j q w (Ok u) ≡ group_added 48 (slots_of 1 k v b block) j q w
        taken = ap (group_reply (slots_of 1 k v b block) j q w) (sym is) ∙ whole

        good_new : GoodGroup 16 48 (k - b) v (slice_set (slots_of 1 k v b block) j (slice_index_or (slots_of 1 k v b block) j [] ++ ((q, w) ∷ [])))
        good_new = subst (λ t. GoodGroup 16 48 (k - b) v t.0) (sym taken) (good_added 16 48 (k - b) v (slots_of 1 k v b block) good_given j h q w qh wh)

        marks_new : (m : ℕ) → m ≡ one_more j (slice_index block 0) % 2 ^ 64 → m ≡ marks (map length (slice_set (slots_of 1 k v b block) j (slice_index_or (slots_of 1 k v b block) j [] ++ ((q, w) ∷ []))))
        marks_new m e =
            let R = slots_of 1 k v b block in
            let ml = map length R in
            let es = slice_index_or R j [] ++ ((q, w) ∷ []) in
            let n : get_or ml j 0 + 1 ≡ length es = omega (arith, size_at, length_push (slice_index_or R j []) (q, w)) in
            let x : one_more j (slice_index block 0) ≡ marks (map length (slice_set R j es)) = ap (one_more j) word_given ∙ more_marks ml j sizes_in ∙ marks_set es (slice_index ml j + 1) n in
            e ∙ ap (λ t. t % 2 ^ 64) x ∙ mod-eq_of_lt (marks_fit k v b (slice_set R j es) good_new)

        place_is : before + size ≡ sum (take j (map length (slots_of 1 k v b block))) + length (slice_index_or (slots_of 1 k v b block) j [])
        place_is = ap₂ (λ (x y : ℕ). x + y) (bs ∙ before_here k v b block marked_given j h) (ns ∙ size_here k v b block marked_given j h)

        -- an area with the entry's field put in
        area_new : (z : ℕ) (f : ℕ × ℕ → ℕ) (A x : ℕ) → A ≡ packed z (map f (entries (slots_of 1 k v b block))) → Below (2 ^ z) (map f (entries (slots_of 1 k v b block))) → x ≡ f (q, w)
            → field_inserted z count A (before + size) x ≡ packed z (map f (entries (slice_set (slots_of 1 k v b block) j (slice_index_or (slots_of 1 k v b block) j [] ++ ((q, w) ∷ [])))))
        area_new z f A x a below xe =
            let R = slots_of 1 k v b block in
            let xs = map f (entries R) in
            let p = sum (take j (map length R)) + length (slice_index_or R j []) in
            ap₂ (λ (n t : ℕ). field_inserted z n A t x) (count_is count cs f) place_is ∙ ap₂ (λ (t y : ℕ). field_inserted z (length xs) t p y) a xe
            ∙ insert_packed z xs below p (f (q, w)) ∙ ap (packed z) (sym (map_inserted f (entries R) p (q, w))) ∙ ap (λ t. packed z (map f t)) (insert_entry R j (q, w) slot_in)

        pub put_case : (last : List ℕ) → last ≡ with_areas k v b block (field_inserted (k - b) count (number (quotient_area 1 k b block)) (before + size) q) (field_inserted v count (number (value_area 1 k b block)) (before + size) w)
            → (m : ℕ) → m ≡ one_more j (slice_index block 0) % 2 ^ 64 → Appended (slice_set last 0 m) (Ok tt)
        put_case last e m me =
            let R = slots_of 1 k v b block in
            record {
              after = rebuilt (slice_set R j (slice_index_or R j [] ++ ((q, w) ∷ []))) good_new last _ _ m e (marks_new m me)
                  (area_new (k - b) (λ x. x.0) (number (quotient_area 1 k b block)) q quotients_given (quotients_below k v b R good_given) refl)
                  (area_new v (λ x. x.1) (number (value_area 1 k b block)) w values_given (values_below k v b R good_given) refl)
                  ∙ ap (λ t. block_of 1 k v b t.0) taken;
              value = ap (λ t. t.1) taken;
            }

    -- ---- one entry less

    module _ (i : ℕ) (l : i < length (slice_index_or (slots_of 1 k v b block) j [])) where
      -- quotients apart: the one at a place stands there first
      pub first_here : First (slice_index_or (slots_of 1 k v b block) j []) (get_or (slice_index_or (slots_of 1 k v b block) j []) i (0, 0)).0 i
      first_here = record { inside = l; here = refl; before = λ a al e. (good_given.good j h).apart a i al l e }

      good_less : GoodGroup 16 48 (k - b) v (without_place (slots_of 1 k v b block) j i)
      good_less =
          let R = slots_of 1 k v b block in
          let es = get_or R j [] in
          let q = (get_or es i (0, 0)).0 in
          let p : group_removed R j q ≡ (slice_set R j (without es q), Ok (get_or es i (0, 0)).1) = ap (group_without R j q) (first_value es q i first_here) in
          subst (GoodGroup 16 48 (k - b) v) (ap (λ t. t.0) p ∙ ap (set R j) (first_without es q i first_here)) (good_taken 16 48 (k - b) v R good_given j h q)

      module _ (count before : ℕ) (cs : count ≡ count_ones (slice_index block 0)) (bs : before ≡ entries_before j (slice_index block 0)) where
        marks_less : (m : ℕ) → m ≡ one_less j (slice_index block 0) → m ≡ marks (map length (without_place (slots_of 1 k v b block) j i))
        marks_less m e =
            let R = slots_of 1 k v b block in
            let ml = map length R in
            let es = remove (slice_index_or R j []) i in
            let n : get_or ml j 0 - 1 ≡ length es = omega (arith, size_at, length-remove (slice_index_or R j []) i l) in
            e ∙ ap (one_less j) word_given ∙ less_marks ml j sizes_in ∙ marks_set es (slice_index ml j - 1) n

        -- an area with the entry's field taken out
        area_less : (z : ℕ) (f : ℕ × ℕ → ℕ) (A : ℕ) → A ≡ packed z (map f (entries (slots_of 1 k v b block))) → Below (2 ^ z) (map f (entries (slots_of 1 k v b block)))
            → field_removed z count A (before + i) ≡ packed z (map f (entries (without_place (slots_of 1 k v b block) j i)))
        area_less z f A a below =
            let R = slots_of 1 k v b block in
            let xs = map f (entries R) in
            let p = sum (take j (map length R)) + i in
            let pe : before + i ≡ p = ap (λ t. t + i) (bs ∙ before_here k v b block marked_given j h) in
            ap₂ (λ (n t : ℕ). field_removed z n A t) (count_is count cs f) pe ∙ ap (λ t. field_removed z (length xs) t p) a
            ∙ remove_packed z xs below p ∙ ap (packed z) (sym (map_removed f (entries R) p)) ∙ ap (λ t. packed z (map f t)) (remove_entry R j i slot_in l)

        -- the block without the entry
        pub out_block : (last : List ℕ) → last ≡ with_areas k v b block (field_removed (k - b) count (number (quotient_area 1 k b block)) (before + i)) (field_removed v count (number (value_area 1 k b block)) (before + i))
            → (m : ℕ) → m ≡ one_less j (slice_index block 0) → slice_set last 0 m ≡ block_of 1 k v b (without_place (slots_of 1 k v b block) j i)
        out_block last e m me =
            let R = slots_of 1 k v b block in
            rebuilt (without_place R j i) good_less last _ _ m e (marks_less m me)
            (area_less (k - b) (λ x. x.0) (number (quotient_area 1 k b block)) quotients_given (quotients_below k v b R good_given))
            (area_less v (λ x. x.1) (number (value_area 1 k b block)) values_given (values_below k v b R good_given))

    -- what a removal leaves and answers
    module _ (q : ℕ) where
      pub record Removed (last : List ℕ) (a : Result ℕ TableRefusal) : Type 0 where
        pub after : last ≡ block_of 1 k v b (group_removed (slots_of 1 k v b block) j q).0
        pub value : a ≡ (group_removed (slots_of 1 k v b block) j q).1

      -- the slot does not hold the quotient
      pub absent_case : value_in (slice_index_or (slots_of 1 k v b block) j []) q ≡ None → Removed block (Err Absent)
      absent_case e =
          let R = slots_of 1 k v b block in
          let p : (R, Err Absent) ≡ group_removed R j q = ap (group_without R j q) (sym e) in
          record { after = exact_given ∙ ap (λ t. block_of 1 k v b t.0) p; value = ap (λ t. t.1) p }

      -- it holds it first at place i
      pub removed_case : (i : ℕ) → First (slice_index_or (slots_of 1 k v b block) j []) q i → (last : List ℕ) → last ≡ block_of 1 k v b (without_place (slots_of 1 k v b block) j i)
          → (x : ℕ) → x ≡ (get_or (slice_index_or (slots_of 1 k v b block) j []) i (0, 0)).1 → Removed last (Ok x)
      removed_case i f last e x xe =
          let R = slots_of 1 k v b block in
          let es = get_or R j [] in
          let p : (slice_set R j (without es q), Ok (get_or es i (0, 0)).1) ≡ group_removed R j q = ap (group_without R j q) (sym (first_value es q i f)) in
          record { after = e ∙ ap (λ t. block_of 1 k v b (slice_set R j t)) (sym (first_without es q i f)) ∙ ap (λ t. block_of 1 k v b t.0) p; value = ap Ok xe ∙ ap (λ t. t.1) p }
