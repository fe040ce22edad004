-- The slots of a list of entries: what a key put to its end, a key taken out of it, a look-up and a load come to.
use Rattle.std.proofs.Common.{◌≡◌, ℕ, zero, suc, ◌+◌, ◌<◌, Bool, true, false, cond, eqb, [], ◌∷◌, ◌++◌, map, length, get_or, set, replicate, sym, refl, ap, ◌∙◌, ⊎_elim, arith}
use Rattle.std.proofs.lemmas.List.FromFn.{get_or-map-range_with_len, length-map-range_with_len}
use Rattle.std.proofs.lemmas.List.{append-nil, ext_get_or, get_or-set_other, get_or-set_same, length-set}
use Rattle.std.proofs.lemmas.Bool.{cases_eq, eq-eqb, ne_eqb}
use Rattle.std.specs.List.{range_with_len, AllByRecursion as All}
use Rattle.table.specs.Meaning.{value_in, without}
use Rattle.model.specs.Entries.{Entries, content, slot_list}
use Rattle.model.specs.Laws.{Apart}

module _ (slot quotient : ℕ → ℕ) where
  -- the slot of two lists, one after the other
  slot_append : (s : ℕ) (l r : Entries) → slot_list slot quotient s (l ++ r) ≡ slot_list slot quotient s l ++ slot_list slot quotient s r
  slot_append s [] r = refl
  slot_append s (e ∷ l) r = by (eqb (slot e.0) s) (slot_append s l r)
    where
      by : (t : Bool) → slot_list slot quotient s (l ++ r) ≡ slot_list slot quotient s l ++ slot_list slot quotient s r
          → cond t ((quotient e.0, e.1) ∷ slot_list slot quotient s (l ++ r)) (slot_list slot quotient s (l ++ r))
          ≡ cond t ((quotient e.0, e.1) ∷ slot_list slot quotient s l) (slot_list slot quotient s l) ++ slot_list slot quotient s r
      by true ih = ap (λ t. (quotient e.0, e.1) ∷ t) ih
      by false ih = ih

  -- there are n slots
  pub length_content : (n : ℕ) (l : Entries) → length (content slot quotient n l) ≡ n
  unfolding content
  length_content n l = length-map-range_with_len (λ s. slot_list slot quotient s l) 0 n

  -- each has its own entries
  pub getD_content : (n : ℕ) (l : Entries) (s : ℕ) → s < n → get_or (content slot quotient n l) s [] ≡ slot_list slot quotient s l
  unfolding content
  getD_content n l s h = get_or-map-range_with_len (λ s. slot_list slot quotient s l) 0 n s s [] h (omega arith)

  -- without entries all are empty
  pub content_nil : (n : ℕ) → content slot quotient n [] ≡ replicate n []
  unfolding content
  content_nil n = from 0 n
    where
      from : (o n : ℕ) → map (λ s. slot_list slot quotient s []) (range_with_len o n) ≡ replicate n []
      from o zero = refl
      from o (suc n) = ap (λ t. [] ∷ t) (from (o + 1) n)

  -- contents that differ in slot s alone
  one_slot : (n : ℕ) (l r : Entries) (s : ℕ) (es : Entries) → s < n → slot_list slot quotient s r ≡ es
      → ((i : ℕ) → (i ≡ s → ⊥) → slot_list slot quotient i r ≡ slot_list slot quotient i l)
      → content slot quotient n r ≡ set (content slot quotient n l) s es
  one_slot n l r s es lt here away =
      let old = content slot quotient n l in
      let long : length old ≡ n = length_content n l in
      sym (ext_get_or [] (set old s es) (content slot quotient n r) (length-set old s es ∙ long ∙ sym (length_content n r))
      (λ i h.
      let within : i < n = omega (arith, length-set old s es) in
      let new = getD_content n r i within in
      ⊎_elim
      (λ same.
      let inside : s < length old = omega arith in
      ap (λ k. get_or (set old s es) k []) same ∙ get_or-set_same old s es [] inside ∙ sym here ∙ ap (λ k. slot_list slot quotient k r) (sym same) ∙ sym new)
      (λ off. get_or-set_other old s i es [] off ∙ getD_content n l i within ∙ sym (away i off) ∙ sym new)
      (cases_eq i s)))

  -- a key put to the end of the list goes to the end of its slot
  pub content_push : (n : ℕ) (l : Entries) (m w : ℕ) → slot m < n
      → content slot quotient n (l ++ ((m, w) ∷ [])) ≡ set (content slot quotient n l) (slot m) (get_or (content slot quotient n l) (slot m) [] ++ ((quotient m, w) ∷ []))
  content_push n l m w h =
      one_slot n l (l ++ ((m, w) ∷ [])) (slot m) (get_or (content slot quotient n l) (slot m) [] ++ ((quotient m, w) ∷ [])) h
      (slot_append (slot m) l ((m, w) ∷ []) ∙ mine)
      (λ i off.
      let t : eqb (slot m) i ≡ false = ne_eqb (slot m) i (λ e. off (sym e)) in
      slot_append i l ((m, w) ∷ []) ∙ rw (t, append-nil))
    where
      mine : slot_list slot quotient (slot m) l ++ slot_list slot quotient (slot m) ((m, w) ∷ []) ≡ get_or (content slot quotient n l) (slot m) [] ++ ((quotient m, w) ∷ [])
      mine = let t : eqb (slot m) (slot m) ≡ true = eq-eqb (slot m) (slot m) refl in rw (t, getD_content n l (slot m) h)

-- where slot and quotient tell a key number below N
module _ (slot quotient : ℕ → ℕ) (N : ℕ) (key_from : (m n : ℕ) → m < N → n < N → slot m ≡ slot n → quotient m ≡ quotient n → m ≡ n) where
  -- a look-up in a key's slot is one in the list
  pub value_slot : (l : Entries) (m s : ℕ) → All (λ e. e.0 < N) l → m < N → slot m ≡ s → value_in (slot_list slot quotient s l) (quotient m) ≡ value_in l m
  value_slot [] m s below lt at = refl
  value_slot (e ∷ l) m s below lt at =
      ⊎_elim
      (λ same.
      let u : eqb e.0 m ≡ true = eq-eqb e.0 m same in
      let us : eqb (slot e.0) s ≡ true = eq-eqb (slot e.0) s (ap slot same ∙ at) in
      let uq : eqb (quotient e.0) (quotient m) ≡ true = eq-eqb (quotient e.0) (quotient m) (ap quotient same) in
      rw (us, u, uq))
      (λ off.
      let ih = value_slot l m s below.1 lt at in
      let u : eqb e.0 m ≡ false = ne_eqb e.0 m off in
      ⊎_elim
      (λ near.
      let us : eqb (slot e.0) s ≡ true = eq-eqb (slot e.0) s near in
      let uq : eqb (quotient e.0) (quotient m) ≡ false = ne_eqb (quotient e.0) (quotient m) (λ q. off (key_from e.0 m below.0 lt (near ∙ sym at) q)) in
      rw (us, u, uq) ih)
      (λ far.
      let us : eqb (slot e.0) s ≡ false = ne_eqb (slot e.0) s far in
      rw (us, u) ih)
      (cases_eq (slot e.0) s))
      (cases_eq e.0 m)

  -- no quotient stands twice in a slot
  pub apart_slot : (l : Entries) (s : ℕ) → All (λ e. e.0 < N) l → Apart l → Apart (slot_list slot quotient s l)
  apart_slot [] s below a = tt
  apart_slot (e ∷ l) s below a =
      let ih = apart_slot l s below.1 a.1 in
      ⊎_elim
      (λ near.
      let us : eqb (slot e.0) s ≡ true = eq-eqb (slot e.0) s near in
      rw us (value_slot l e.0 s below.1 below.0 near ∙ a.0, ih))
      (λ far.
      let us : eqb (slot e.0) s ≡ false = ne_eqb (slot e.0) s far in
      rw us ih)
      (cases_eq (slot e.0) s)

  -- the same of the content
  pub value_content : (n : ℕ) (l : Entries) (m : ℕ) → All (λ e. e.0 < N) l → m < N → slot m < n
      → value_in (get_or (content slot quotient n l) (slot m) []) (quotient m) ≡ value_in l m
  value_content n l m below lt h = ap (λ es. value_in es (quotient m)) (getD_content slot quotient n l (slot m) h) ∙ value_slot l m (slot m) below lt refl

  -- the slot of a list without a key has its entry taken out
  slot_without : (l : Entries) (m : ℕ) → All (λ e. e.0 < N) l → m < N
      → slot_list slot quotient (slot m) (without l m) ≡ without (slot_list slot quotient (slot m) l) (quotient m)
  slot_without [] m below lt = refl
  slot_without (e ∷ l) m below lt =
      ⊎_elim
      (λ same.
      let u : eqb e.0 m ≡ true = eq-eqb e.0 m same in
      let us : eqb (slot e.0) (slot m) ≡ true = eq-eqb (slot e.0) (slot m) (ap slot same) in
      let uq : eqb (quotient e.0) (quotient m) ≡ true = eq-eqb (quotient e.0) (quotient m) (ap quotient same) in
      rw (u, us, uq))
      (λ off.
      let ih = slot_without l m below.1 lt in
      let u : eqb e.0 m ≡ false = ne_eqb e.0 m off in
      ⊎_elim
      (λ close.
      let us : eqb (slot e.0) (slot m) ≡ true = eq-eqb (slot e.0) (slot m) close in
      let uq : eqb (quotient e.0) (quotient m) ≡ false = ne_eqb (quotient e.0) (quotient m) (λ q. off (key_from e.0 m below.0 lt close q)) in
      rw (u, us, uq) (ap (λ r. (quotient e.0, e.1) ∷ r) ih))
      (λ far.
      let us : eqb (slot e.0) (slot m) ≡ false = ne_eqb (slot e.0) (slot m) far in
      rw (u, us) ih)
      (cases_eq (slot e.0) (slot m)))
      (cases_eq e.0 m)

  -- a slot elsewhere has what it had
  slot_elsewhere : (l : Entries) (m i : ℕ) → (i ≡ slot m → ⊥) → slot_list slot quotient i (without l m) ≡ slot_list slot quotient i l
  slot_elsewhere [] m i off = refl
  slot_elsewhere (e ∷ l) m i off =
      let ih = slot_elsewhere l m i off in
      ⊎_elim
      (λ same.
      let u : eqb e.0 m ≡ true = eq-eqb e.0 m same in
      let us : eqb (slot e.0) i ≡ false = ne_eqb (slot e.0) i (λ q. off (sym q ∙ ap slot same)) in
      rw (u, us))
      (λ other.
      let u : eqb e.0 m ≡ false = ne_eqb e.0 m other in
      rw (u, ih))
      (cases_eq e.0 m)

  -- a key taken out of the list is its entry taken out of its slot
  pub content_without : (n : ℕ) (l : Entries) (m : ℕ) → All (λ e. e.0 < N) l → m < N → slot m < n
      → content slot quotient n (without l m) ≡ set (content slot quotient n l) (slot m) (without (get_or (content slot quotient n l) (slot m) []) (quotient m))
  content_without n l m below lt h =
      one_slot slot quotient n l (without l m) (slot m) (without (get_or (content slot quotient n l) (slot m) []) (quotient m)) h
      (slot_without l m below lt ∙ ap (λ es. without es (quotient m)) (sym (getD_content slot quotient n l (slot m) h)))
      (λ i off. slot_elsewhere l m i off)
