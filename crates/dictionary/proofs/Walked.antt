-- The walk over the slots, place by place: what the table says of a slot's entries.
use Rattle.std.proofs.Common.{◌≡◌, ℕ, zero, suc, ◌+◌, ◌-◌, ◌*◌, ◌^◌, ◌<◌, ◌≤◌, true, eqb, [], map, length, get_or, Some, None, Ok, Option, Result, sym, refl, ap, ◌∙◌, subst, ⊎_elim, arith, pow_mono}
use Rattle.std.proofs.lemmas.Nat.{mod_below, pow_pos, shr_split}
use Rattle.std.proofs.ByRecursion.{All-get_or, kept_by_passes}
use Rattle.std.proofs.lemmas.List.{length-append, length-map}
use Rattle.std.proofs.lemmas.Option.{get_or_from_slice_get, slice_get-get_or, slice_get-map, slice_get_past, slice_get_within}
use Rattle.std.proofs.lemmas.Bool.{cases_eq, cases_lt, eqb-true, le-ltb, lt-ltb}
use Rattle.std.specs.List.{AllByRecursion as All, slice_get}
use Rattle.std.specs.Option.{option_map}
use Rattle.std.specs.Result.{result_ok}
use Rattle.table.specs.declared.table.Table as table
use Rattle.table.specs.declared.refusal.TableRefusal.{TableRefusal}
use Rattle.table.specs.Joined.{joined}
use Rattle.table.specs.Meaning.{entered, entered_at, picked, picked_at, sized, sized_at}
use Rattle.model.specs.Entries.{Entries, content, slot_list, walk}
use Rattle.model.specs.Model.{Mixing}
use Rattle.model.proofs.Content.{getD_content}
use Rattle.model.proofs.Places.{slot_kept, walk_place}
use Rattle.model.proofs.Walks.{length_walk}
use Rattle.dictionary.specs.Stored.{Stores, in_slot, quotient_of, slot_of}
use Rattle.dictionary.specs.Results.{entry_if, listed_at}

-- what there is is not none
pub some_none : {A : Type 0} (o : Option A) (x : A) → o ≡ Some x → o ≡ None → ⊥
some_none o x p q = let z : ◌≡◌ {A = ℕ} 0 1 = cc in omega arith

-- none of one is none of the other
pub none_of : {A B C : Type 0} (f : A → B) (g : A → C) (o : Option A) → None ≡ option_map f o → None ≡ option_map g o
none_of f g None e = refl
none_of f g (Some x) e = absurd (some_none None (f x) e refl)

-- the entry at a place of a list, as an answer and as what there is
picked_get : (es : Entries) (i : ℕ) → result_ok (picked es i) ≡ slice_get es i
picked_get es i =
    ⊎_elim
    (λ h. ap (λ t. result_ok (picked_at es i t)) (lt-ltb i (length es) h) ∙ sym (slice_get-get_or es i (0, 0) h))
    (λ h. ap (λ t. result_ok (picked_at es i t)) (le-ltb i (length es) h) ∙ sym (slice_get_past es i h))
    (cases_lt i (length es))

-- the entries of a slot have their keys there
pub there : (slot : ℕ → ℕ) (s : ℕ) (l : Entries) (i : ℕ) → i < length (in_slot slot s l) → slot (get_or (in_slot slot s l) i (0, 0)).0 ≡ s
there slot s l i h = eqb-true (slot (get_or (in_slot slot s l) i (0, 0)).0) s (All-get_or (λ e. eqb (slot e.0) s ≡ true) (in_slot slot s l) i (0, 0) h (kept_by_passes (λ e. eqb (slot e.0) s) l))

module _ (slot : ℕ → ℕ) (l : Entries) where
  -- no slot yet
  pub walk_zero : length (walk slot 0 l) ≡ 0
  unfolding walk
  walk_zero = refl

  -- one more slot
  pub walk_next : (s : ℕ) → length (walk slot (s + 1) l) ≡ length (walk slot s l) + length (in_slot slot s l)
  unfolding walk
  walk_next s =
      let e : s + 1 ≡ suc s = omega arith in
      ap (λ x. length (walk slot x l)) e ∙ length-append (walk slot s l) (in_slot slot s l)

  -- more slots have no fewer entries
  walk_grows : (s n : ℕ) → s ≤ n → length (walk slot s l) ≤ length (walk slot n l)
  walk_grows s zero h = let e : s ≡ 0 = omega arith in let same = ap (λ x. length (walk slot x l)) e in omega (arith, same)
  walk_grows s (suc n) h =
      ⊎_elim
      (λ same. let is = ap (λ x. length (walk slot x l)) same in omega (arith, is))
      (λ off.
      let less : s ≤ n = omega arith in
      let ih = walk_grows s n less in
      let e : n + 1 ≡ suc n = omega arith in
      let more : length (walk slot (suc n) l) ≡ length (walk slot n l) + length (in_slot slot n l) = ap (λ x. length (walk slot x l)) (sym e) ∙ walk_next n in
      omega arith)
      (cases_eq s (suc n))

  -- a place of a slot is within the walk
  pub walk_within : (n s j : ℕ) → s < n → j < length (in_slot slot s l) → length (walk slot s l) + j < length (walk slot n l)
  walk_within n s j h less =
      let next = walk_next s in
      let le : s + 1 ≤ n = omega arith in
      let grows = walk_grows (s + 1) n le in
      omega arith

  -- and has the slot's entry there
  pub walk_at : (quotient : ℕ → ℕ) (n s j : ℕ) → s < n → j < length (in_slot slot s l) → get_or (walk slot n l) (length (walk slot s l) + j) (0, 0) ≡ get_or (in_slot slot s l) j (0, 0)
  walk_at quotient n s j h less =
      let same : length (slot_list slot quotient s l) ≡ length (in_slot slot s l) = ap length (slot_kept slot quotient s l) ∙ length-map (in_slot slot s l) (λ e. (quotient e.0, e.1)) in
      let inside : j < length (slot_list slot quotient s l) = omega arith in
      walk_place slot quotient l n s j h inside

  -- the entry at a place of the walk, where all slots are below 2^b
  module _ (b : ℕ) (below : All (λ e. slot e.0 < 2 ^ b) l) where
    pub listed_there : (quotient : ℕ → ℕ) (s j i : ℕ) → s < 2 ^ b → j < length (in_slot slot s l) → j + length (walk slot s l) ≡ i → listed_at slot b l i ≡ Some (get_or (in_slot slot s l) j (0, 0))
    listed_there quotient s j i h less is =
        let whole = length_walk slot (2 ^ b) l below in
        let within = walk_within (2 ^ b) s j h less in
        let place : i ≡ length (walk slot s l) + j = omega arith in
        let inside : i < length l = omega arith in
        ap (entry_if (walk slot (2 ^ b) l) i) (lt-ltb i (length l) inside)
        ∙ ap Some (ap (λ x. get_or (walk slot (2 ^ b) l) x (0, 0)) place ∙ walk_at quotient (2 ^ b) s j h less)

    pub listed_none : (left i : ℕ) → left + length (walk slot (2 ^ b) l) ≡ i → listed_at slot b l i ≡ None
    listed_none left i is =
        let whole = length_walk slot (2 ^ b) l below in
        let past : length l ≤ i = omega arith in
        ap (entry_if (walk slot (2 ^ b) l) i) (le-ltb i (length l) past)

pub same_some : {A : Type 0} {x y : A} → ◌≡◌ {A = Option A} (Some x) (Some y) → x ≡ y
same_some e = cc

module _ {T : Type 0} {ta : table.Ghosts T} {mi : Mixing} {t : T} {k v b : ℕ} {l : Entries} (st : Stores ta mi t k v b l) where
  -- the slot has what the list keeps for it, by quotient
  pub slot_as : (s : ℕ) → s < 2 ^ b
      → get_or (content (slot_of mi.forth k b) (quotient_of mi.forth k b) (2 ^ b) l) s [] ≡ map (λ e. (quotient_of mi.forth k b e.0, e.1)) (in_slot (slot_of mi.forth k b) s l)
  slot_as s h = getD_content (slot_of mi.forth k b) (quotient_of mi.forth k b) (2 ^ b) l s h ∙ slot_kept (slot_of mi.forth k b) (quotient_of mi.forth k b) s l

  -- the size of a slot
  pub size_told : (s : ℕ) → s < 2 ^ b → (r : Result ℕ TableRefusal) → (ta.sound t → r ≡ sized (ta.means t) s) → r ≡ Ok (length (in_slot (slot_of mi.forth k b) s l))
  size_told s h r value =
      value st.sound
      ∙ ap (λ x. sized x s) st.means
      ∙ ap (sized_at (content (slot_of mi.forth k b) (quotient_of mi.forth k b) (2 ^ b) l) s) (lt-ltb s (2 ^ b) h)
      ∙ ap Ok (ap length (slot_as s h) ∙ length-map (in_slot (slot_of mi.forth k b) s l) (λ e. (quotient_of mi.forth k b e.0, e.1)))

  -- the entry at a place of a slot
  pub entry_told : (s i : ℕ) → s < 2 ^ b → (r : Result (ℕ × ℕ) TableRefusal) → (ta.sound t → r ≡ entered (ta.means t) s i)
      → result_ok r ≡ option_map (λ e. (quotient_of mi.forth k b e.0, e.1)) (slice_get (in_slot (slot_of mi.forth k b) s l) i)
  entry_told s i h r value =
      let kept = in_slot (slot_of mi.forth k b) s l in
      let f : ℕ × ℕ → ℕ × ℕ = λ e. (quotient_of mi.forth k b e.0, e.1) in
      ap result_ok
      (value st.sound
      ∙ ap (λ x. entered x s i) st.means
      ∙ ap (entered_at (content (slot_of mi.forth k b) (quotient_of mi.forth k b) (2 ^ b) l) s i) (lt-ltb s (2 ^ b) h)
      ∙ ap (λ es. picked es i) (slot_as s h))
      ∙ picked_get (map f kept) i
      ∙ slice_get-map f kept i

  -- joined with its slot, the quotient is the permuted number
  pub joined_told : (s i q w j : ℕ) → s < 2 ^ b → b ≤ 32
      → ◌≡◌ {A = Option (ℕ × ℕ)} (Some (q, w)) (option_map (λ e. (quotient_of mi.forth k b e.0, e.1)) (slice_get (in_slot (slot_of mi.forth k b) s l) i))
      → (s < 2 ^ 32 → q < 2 ^ (k - b) → j ≡ joined k b s q)
      → ◌≡◌ {A = Option (ℕ × ℕ)} (Some (j, w)) (option_map (λ e. (mi.forth e.0, e.1)) (slice_get (in_slot (slot_of mi.forth k b) s l) i))
  joined_told s i q w j h narrow is join = by (slice_get kept i) refl is
    where
      kept : Entries
      kept = in_slot (slot_of mi.forth k b) s l

      by : (o : Option (ℕ × ℕ)) → slice_get kept i ≡ o → ◌≡◌ {A = Option (ℕ × ℕ)} (Some (q, w)) (option_map (λ e. (quotient_of mi.forth k b e.0, e.1)) o)
          → ◌≡◌ {A = Option (ℕ × ℕ)} (Some (j, w)) (option_map (λ e. (mi.forth e.0, e.1)) o)
      by None at is = absurd (some_none (Some (q, w)) (q, w) refl is)
      by (Some e) at is =
          let both : ◌≡◌ {A = ℕ × ℕ} (q, w) (quotient_of mi.forth k b e.0, e.1) = cc in
          let q_is : q ≡ quotient_of mi.forth k b e.0 = ap (λ (x : ℕ × ℕ). x.0) both in
          let w_is : w ≡ e.1 = ap (λ (x : ℕ × ℕ). x.1) both in
          let made : ℕ → ℕ → Option (ℕ × ℕ) = λ x y. Some (x, y) in
          let wide : 2 ^ b ≤ 2 ^ 32 = pow_mono narrow in
          let small : s < 2 ^ 32 = omega arith in
          let low : q < 2 ^ (k - b) = subst (λ x. x < 2 ^ (k - b)) (sym q_is) (mod_below (mi.forth e.0) (2 ^ (k - b)) (pow_pos (k - b))) in
          let here : slot_of mi.forth k b e.0 ≡ s =
          ap (λ (x : ℕ × ℕ). slot_of mi.forth k b x.0) (sym (get_or_from_slice_get kept i e (0, 0) at)) ∙ there (slot_of mi.forth k b) s l i (slice_get_within kept i e at) in
          let j_is : j ≡ mi.forth e.0 =
          join small low ∙ ap (λ x. s * 2 ^ (k - b) + x) q_is ∙ ap (λ x. x * 2 ^ (k - b) + quotient_of mi.forth k b e.0) (sym here) ∙ shr_split (mi.forth e.0) (k - b) in
          ap (λ x. made x w) j_is ∙ ap (made (mi.forth e.0)) w_is

-- the permuted entry at a place that there is
pub permuted_told : (forth : ℕ → ℕ) (kept : Entries) (i : ℕ) → i < length kept → (o : Option (ℕ × ℕ)) → o ≡ option_map (λ e. (forth e.0, e.1)) (slice_get kept i) → o ≡ Some (forth (get_or kept i (0, 0)).0, (get_or kept i (0, 0)).1)
permuted_told forth kept i less o is = is ∙ ap (option_map (λ (e : ℕ × ℕ). (forth e.0, e.1))) (slice_get-get_or kept i (0, 0) less)

-- a permuted number taken back is the key number
pub taken_back : (forth back : ℕ → ℕ) (e : ℕ × ℕ) (y w r : ℕ) → back (forth e.0) ≡ e.0 → ◌≡◌ {A = Option (ℕ × ℕ)} (Some (y, w)) (Some (forth e.0, e.1)) → r ≡ back y → ◌≡◌ {A = Option (ℕ × ℕ)} (Some (r, w)) (Some e)
taken_back forth back e y w r returns is at =
    let both : ◌≡◌ {A = ℕ × ℕ} (y, w) (forth e.0, e.1) = cc in
    let made : ℕ → ℕ → Option (ℕ × ℕ) = λ x u. Some (x, u) in
    ap (λ x. made x w) (at ∙ ap back (ap (λ (x : ℕ × ℕ). x.0) both) ∙ returns) ∙ ap (made e.0) (ap (λ (x : ℕ × ℕ). x.1) both)
