-- The entries of a group, slot by slot: one put in at the end of a slot, one taken out of a slot.
use Rattle.std.specs.Prelude.{◌≡◌, ℕ, zero, suc, ◌+◌, ◌<◌, ◌≤◌, List, [], ◌∷◌, ◌++◌, map, length, take, drop, sum, slice_index_or, slice_set, refl}
use Rattle.std.proofs.Common.{sym, ap, ap₂, subst, ◌∙◌, arith, take-add, ⊎_elim}
use Rattle.std.specs.List.{insert, remove}
use Rattle.std.proofs.lemmas.List.{append_assoc, length-append, map-append, take-map, drop-map, take_at, drop_at, drop-drop, take-append-le, drop-append-le, get_or-map, get_or_past, length-map}
use Rattle.std.proofs.lemmas.Bool.{cases_lt}
use Rattle.bits.specs.Laws.{Below}
use Rattle.bits.proofs.Lists.{below_append}
use Rattle.table.specs.Meaning.{total}
use Rattle.blocks.specs.PackedLayout.{entries}
use Rattle.blocks.specs.Chops.{sum_cons}

-- the sizes together are the load
pub sum_sizes : (G : List (List (ℕ × ℕ))) → sum (map length G) ≡ total G
sum_sizes [] = refl
sum_sizes (x ∷ G) = sum_cons (length x) (map length G) ∙ ap (λ t. length x + t) (sum_sizes G)

-- and so are the entries
pub length_entries : (G : List (List (ℕ × ℕ))) → length (entries G) ≡ total G
length_entries [] = refl
length_entries (x ∷ G) = length-append x (entries G) ∙ ap (λ t. length x + t) (length_entries G)

-- ---- lists with one element more or less

module _ {X : Type 0} (xs ys : List X) (p : ℕ) where
  take_past : take (length xs + p) (xs ++ ys) ≡ xs ++ take p ys
  take_past = take-add (length xs) p (xs ++ ys) ∙ ap₂ (λ (u v : List X). u ++ take p v) (take_at xs ys (length xs) refl) (drop_at xs ys (length xs) refl)

  drop_past : drop (length xs + p) (xs ++ ys) ≡ drop p ys
  drop_past = sym (drop-drop p (length xs) (xs ++ ys)) ∙ ap (drop p) (drop_at xs ys (length xs) refl)

module _ {X : Type 0} (xs ys : List X) where
  -- behind a front
  inserted_past : (p : ℕ) (e : X) → insert (xs ++ ys) (length xs + p) e ≡ xs ++ insert ys p e
  inserted_past p e = ap₂ (λ (u v : List X). u ++ (e ∷ v)) (take_past xs ys p) (drop_past xs ys p) ∙ append_assoc xs (take p ys) (e ∷ drop p ys)

  removed_past : (p : ℕ) → remove (xs ++ ys) (length xs + p) ≡ xs ++ remove ys p
  removed_past p =
      let s : suc (length xs + p) ≡ length xs + suc p = omega arith in
      ap₂ (λ (u v : List X). u ++ v) (take_past xs ys p) (ap (λ t. drop t (xs ++ ys)) s ∙ drop_past xs ys (suc p)) ∙ append_assoc xs (take p ys) (drop (suc p) ys)

  -- at its end
  inserted_end : (e : X) → insert (xs ++ ys) (0 + length xs) e ≡ (xs ++ (e ∷ [])) ++ ys
  inserted_end e =
      let z : 0 + length xs ≡ length xs = omega arith in
      ap (λ t. insert (xs ++ ys) t e) z ∙ ap₂ (λ (u v : List X). u ++ (e ∷ v)) (take_at xs ys (length xs) refl) (drop_at xs ys (length xs) refl) ∙ sym (append_assoc xs (e ∷ []) ys)

  -- within it
  removed_front : (p : ℕ) → p < length xs → remove (xs ++ ys) (0 + p) ≡ remove xs p ++ ys
  removed_front p h =
      let z : 0 + p ≡ p = omega arith in
      let l : p ≤ length xs = omega arith in
      ap (remove (xs ++ ys)) z ∙ ap₂ (λ (u v : List X). u ++ v) (take-append-le p xs ys l) (drop-append-le (suc p) xs ys h) ∙ sym (append_assoc (take p xs) (drop (suc p) xs) ys)

module _ {X Y : Type 0} (f : X → Y) (xs : List X) (p : ℕ) where
  -- the image of a list with one more
  pub map_inserted : (e : X) → map f (insert xs p e) ≡ insert (map f xs) p (f e)
  map_inserted e = map-append f (take p xs) (e ∷ drop p xs) ∙ ap₂ (λ (u v : List Y). u ++ (f e ∷ v)) (sym (take-map f p xs)) (sym (drop-map f p xs))

  -- and with one less
  pub map_removed : map f (remove xs p) ≡ remove (map f xs) p
  map_removed = map-append f (take p xs) (drop (suc p) xs) ∙ ap₂ (λ (u v : List Y). u ++ v) (sym (take-map f p xs)) (sym (drop-map f (suc p) xs))

-- ---- one slot of a group

-- an entry at the end of slot j, among all
pub insert_entry : (G : List (List (ℕ × ℕ))) (j : ℕ) (e : ℕ × ℕ) → j < length G
    → insert (entries G) (sum (take j (map length G)) + length (slice_index_or G j [])) e ≡ entries (slice_set G j (slice_index_or G j [] ++ (e ∷ [])))
insert_entry [] j e h = absurd (omega arith)
insert_entry (x ∷ G) zero e h = inserted_end x (entries G) e
insert_entry (x ∷ G) (suc j) e h =
    let p = sum (take j (map length G)) + length (slice_index_or G j []) in
    let s : sum (take (suc j) (map length (x ∷ G))) + length (slice_index_or G j []) ≡ length x + p = omega (arith, sum_cons (length x) (take j (map length G))) in
    ap (λ t. insert (x ++ entries G) t e) s ∙ inserted_past x (entries G) p e ∙ ap (λ t. x ++ t) (insert_entry G j e (omega arith))

-- the entry at place i of slot j taken out
pub remove_entry : (G : List (List (ℕ × ℕ))) (j i : ℕ) → j < length G → i < length (slice_index_or G j [])
    → remove (entries G) (sum (take j (map length G)) + i) ≡ entries (slice_set G j (remove (slice_index_or G j []) i))
remove_entry [] j i h l = absurd (omega arith)
remove_entry (x ∷ G) zero i h l = removed_front x (entries G) i l
remove_entry (x ∷ G) (suc j) i h l =
    let p = sum (take j (map length G)) + i in
    let s : sum (take (suc j) (map length (x ∷ G))) + i ≡ length x + p = omega (arith, sum_cons (length x) (take j (map length G))) in
    ap (remove (x ++ entries G)) s ∙ removed_past x (entries G) p ∙ ap (λ t. x ++ t) (remove_entry G j i (omega arith) l)

-- ---- what holds of each entry

-- a part of each entry is below a bound, slot by slot
pub below_entries : (f : ℕ × ℕ → ℕ) (b : ℕ) → 0 < b → (G : List (List (ℕ × ℕ))) → ((j i : ℕ) → j < length G → i < length (slice_index_or G j []) → f (slice_index_or (slice_index_or G j []) i (0, 0)) < b) → Below b (map f (entries G))
below_entries f b pos [] h = λ i. pos
below_entries f b pos (x ∷ G) h =
    let here : Below b (map f x) =
    λ i. ⊎_elim
    (λ l. let m : i < length x = omega (arith, length-map x f) in subst (λ t. t < b) (sym (get_or-map f x i (0, 0) 0 m)) (h 0 i (omega arith) m))
    (λ l. subst (λ t. t < b) (sym (get_or_past (map f x) i 0 l)) pos)
    (cases_lt i (length (map f x))) in
    let rest = below_entries f b pos G (λ j i l m. h (suc j) i (omega arith) m) in
    subst (Below b) (sym (map-append f x (entries G))) (below_append b (map f x) (map f (entries G)) here rest)
