-- What slots hold together is how many keys of the list fall into them.
use Rattle.std.proofs.Common.{◌≡◌, ℕ, zero, suc, ◌+◌, ◌-◌, ◌*◌, ◌/◌, ◌%◌, ◌<◌, ◌≤◌, min, Bool, true, false, cond, ◌&&◌, eqb, ltb, leb, [], ◌∷◌, map, length, take, drop, sym, refl, ap, ◌∙◌, subst, suc-mul, arith}
use Rattle.std.proofs.lemmas.Nat.{div-add-mod', div_below, le-div, mod_below}
use Rattle.std.proofs.lemmas.List.{drop-map, take-map}
use Rattle.std.proofs.lemmas.Bool.{and_from, and_parts, le-leb, leb-true, lt-ltb, ltb-true}
use Rattle.std.proofs.lemmas.Bool.Decides.{Decides-eqb, same_from_decides, nat_tests}
use Rattle.std.specs.List.{range_with_len, AllByRecursion as All}
use Rattle.table.specs.Meaning.{load, total}
use Rattle.model.specs.Entries.{Entries, content, count_if, group_load, slot_list}
use Rattle.model.proofs.Counting.{two_parts}

module _ (slot quotient : ℕ → ℕ) where
  -- a slot holds the keys that fall into it
  pub length_slot : (s : ℕ) (l : Entries) → length (slot_list slot quotient s l) ≡ count_if (λ e. eqb (slot e.0) s) l
  length_slot s [] = refl
  length_slot s (e ∷ l) = by (eqb (slot e.0) s) (length_slot s l)
    where
      by : (t : Bool) → length (slot_list slot quotient s l) ≡ count_if (λ e. eqb (slot e.0) s) l
          → length (cond t ((quotient e.0, e.1) ∷ slot_list slot quotient s l) (slot_list slot quotient s l)) ≡ cond t (suc (count_if (λ e. eqb (slot e.0) s) l)) (count_if (λ e. eqb (slot e.0) s) l)
      by true ih = ap suc ih
      by false ih = ih

  -- some slots in a row
  total_range : (l : Entries) (c a : ℕ) → total (map (λ s. slot_list slot quotient s l) (range_with_len a c)) ≡ count_if (λ e. leb a (slot e.0) && ltb (slot e.0) (a + c)) l
  total_range l zero a = sym (none l)
    where
      none : (l : Entries) → count_if (λ e. leb a (slot e.0) && ltb (slot e.0) (a + 0)) l ≡ 0
      none [] = refl
      none (e ∷ l) =
          let t : (leb a (slot e.0) && ltb (slot e.0) (a + 0)) ≡ false = grind (arith, nat_tests) in
          let ih = none l in
          rw (t, ih)
  total_range l (suc c) a =
      ap (λ x. x + total (map (λ s. slot_list slot quotient s l) (range_with_len (a + 1) c))) (length_slot a l)
      ∙ ap (λ x. count_if (λ e. eqb (slot e.0) a) l + x) (total_range l c (a + 1))
      ∙ sym (two_parts (λ e. leb a (slot e.0) && ltb (slot e.0) (a + suc c)) (λ e. eqb (slot e.0) a) (λ e. leb (a + 1) (slot e.0) && ltb (slot e.0) (a + 1 + c)) (λ e. tests (slot e.0)) l)
    where
      tests : (s : ℕ) → cond (leb a s && ltb s (a + suc c)) 1 0 ≡ cond (eqb s a) 1 0 + cond (leb (a + 1) s && ltb s (a + 1 + c)) 1 0
      tests s = grind (arith, nat_tests)

  -- x falls into the group g of S slots, of n in all
  pub in_group : (S g n x : ℕ) → 0 < S → x < n → (leb (g * S) x && ltb x (g * S + min S (n - g * S))) ≡ eqb (x / S) g
  in_group S g n x pos inside =
      same_from_decides (leb (g * S) x && ltb x (g * S + min S (n - g * S))) (eqb (x / S) g) (
        (λ t.
            let both = and_parts (leb (g * S) x) (ltb x (g * S + min S (n - g * S))) t in
            let low : g * S ≤ x = leb-true (g * S) x both.0 in
            let high : x < g * S + min S (n - g * S) = ltb-true x (g * S + min S (n - g * S)) both.1 in
            let more : suc g * S ≡ g * S + S = suc-mul g S in
            let below : x < suc g * S = omega arith in
            let one : g ≤ x / S = le-div g x S pos low in
            let two : x / S < suc g = div_below x S (suc g) pos below in
            omega arith),
        (λ e.
            let whole : g * S + x % S ≡ x = subst (λ q. q * S + x % S ≡ x) e (div-add-mod' x S) in
            let rest : x % S < S = mod_below x S pos in
            let low : g * S ≤ x = omega arith in
            let high : x < g * S + min S (n - g * S) = omega arith in
            and_from (leb (g * S) x) (ltb x (g * S + min S (n - g * S))) (le-leb (g * S) x low) (lt-ltb x (g * S + min S (n - g * S)) high)),
      )
      (Decides-eqb (x / S) g)

  -- so the tests agree on a list
  all_in_group : (S g n : ℕ) (l : Entries) → 0 < S → All (λ e. slot e.0 < n) l
      → count_if (λ e. leb (g * S) (slot e.0) && ltb (slot e.0) (g * S + min S (n - g * S))) l ≡ count_if (λ e. eqb (slot e.0 / S) g) l
  all_in_group S g n [] pos h = refl
  all_in_group S g n (e ∷ l) pos h = let one = in_group S g n (slot e.0) pos h.0 in let ih = all_in_group S g n l pos h.1 in rw (one, ih)

  -- the load of a slot's group is the load of the group by the list
  pub load_content : (S n : ℕ) (l : Entries) (s : ℕ) → 0 < S → All (λ e. slot e.0 < n) l
      → load S (content slot quotient n l) s ≡ group_load slot S l (s / S)
  unfolding content load
  load_content S n l s pos h =
      let f : ℕ → Entries = λ s. slot_list slot quotient s l in
      let a = s / S * S in
      let one : take S (drop a (map f (range_with_len 0 n))) ≡ map f (range_with_len (0 + a) (min S (n - a))) =
      ap (take S) (drop-map f a (range_with_len 0 n)) ∙ take-map f S (drop a (range_with_len 0 n)) ∙ ap (map f) (ap (take S) (drop_counting a 0 n) ∙ take_counting S (0 + a) (n - a)) in
      let zeroed : 0 + a ≡ a = omega arith in
      ap total (one ∙ ap (λ t. map f (range_with_len t (min S (n - a)))) zeroed)
      ∙ total_range l (min S (n - a)) a
      ∙ all_in_group S (s / S) n l pos h
    where
      drop_counting : (a o n : ℕ) → drop a (range_with_len o n) ≡ range_with_len (o + a) (n - a)
      drop_counting zero o n = let p : o + 0 ≡ o = omega arith in let q : n - 0 ≡ n = omega arith in rw (p, q)
      drop_counting (suc a) o zero = let q : 0 - suc a ≡ 0 = omega arith in rw q
      drop_counting (suc a) o (suc n) =
          let p : o + suc a ≡ o + 1 + a = omega arith in
          let q : suc n - suc a ≡ n - a = omega arith in
          rw (p, q) (drop_counting a (o + 1) n)

      take_counting : (c o n : ℕ) → take c (range_with_len o n) ≡ range_with_len o (min c n)
      take_counting zero o n = let q : min 0 n ≡ 0 = omega arith in rw q
      take_counting (suc c) o zero = let q : min (suc c) 0 ≡ 0 = omega arith in rw q
      take_counting (suc c) o (suc n) =
          let q : min (suc c) (suc n) ≡ suc (min c n) = omega arith in
          rw q (ap (λ t. o ∷ t) (take_counting c (o + 1) n))
