-- The load of a slot's group as the sum of its slots' sizes, taken one after the other by sums that stop at 2^64 - 1.
use Rattle.std.proofs.Common.{◌≡◌, ℕ, ◌+◌, ◌-◌, ◌*◌, ◌/◌, ◌^◌, ◌<◌, ◌≤◌, min, Bool, true, false, List, [], ◌∷◌, ◌++◌, length, get_or, take, drop, Ok, Err, sym, refl, ap, ◌∙◌, subst, ⊎_elim, arith, pow_pos, pow_mono}
use Rattle.std.proofs.lemmas.Nat.{mod_below, div_below, div-add-mod', div-mul-add}
use Rattle.std.proofs.lemmas.Bool.{ltb-true, ltb-false, lt-ltb, le-ltb, leb-true, cases_lt}
use Rattle.std.proofs.lemmas.List.{take_more, get_or-drop, length-drop}
use Rattle.table.specs.declared.refusal.TableRefusal.{TableRefusal}
use Rattle.table.specs.declared.refusal.TableRefusal.TheVariants.{OutOfRange}
use Rattle.table.specs.Meaning.{Meaning, unformed, formed, total, load, has_slot, sized, sized_at, loaded, loaded_at, Fit, WellFormed}
use Rattle.table.proofs.Groups.{inside_groups}

-- the sum of the first i slots of a slot's group; past the first, the slot is one of the table's
abbrev pub Summed : (S : ℕ) → Meaning → (s i sum : ℕ) → Type 0
Summed S unformed s i sum = i ≡ 0
Summed S (formed k v b slots) s i sum = (0 < i → s < 2 ^ b) × (sum ≡ min (total (take i (drop (s / S * S) slots))) (2 ^ 64 - 1))

total_append : (xs ys : List (List (ℕ × ℕ))) → total (xs ++ ys) ≡ total xs + total ys
total_append [] ys = omega arith
total_append (x ∷ xs) ys = let i = total_append xs ys in omega arith

-- what a size tells of the slot
slot_told : (slots : List (List (ℕ × ℕ))) (at n : ℕ) (t : Bool) → sized_at slots at t ≡ Ok n → (t ≡ true) × (length (get_or slots at []) ≡ n)
slot_told slots at n true e = (refl, cc (e))
slot_told slots at n false e = let z : ◌≡◌ {A = ℕ} 0 1 = cc (e) in absurd (omega arith)

slot_denied : (slots : List (List (ℕ × ℕ))) (at : ℕ) (x : TableRefusal) (t : Bool) → sized_at slots at t ≡ Err x → (t ≡ false) × (x ≡ OutOfRange)
slot_denied slots at x false e = (refl, cc (e))
slot_denied slots at x true e = let z : ◌≡◌ {A = ℕ} 0 1 = cc (e) in absurd (omega arith)

-- nothing summed yet
pub sum_none : (S : ℕ) (m : Meaning) (s : ℕ) → Summed S m s 0 0
sum_none S unformed s = refl
sum_none S (formed k v b slots) s = ((λ h. absurd (omega arith)), refl)

module _ (S C : ℕ) (pos : 0 < S) (fits : ℕ → ℕ → ℕ → Bool) (fit_law : (k v b : ℕ) → fits k v b ≡ true → Fit S k v b) where
  -- a slot and its group in a well-formed content
  module _ (k v b : ℕ) (slots : List (List (ℕ × ℕ))) (w : WellFormed S C fits k v b slots) (s i : ℕ) (il : i < S) where
    whole : 2 ^ b / S * S ≡ 2 ^ b
    whole = omega (arith, div-add-mod' (2 ^ b) S, (fit_law k v b w.fit).whole)

    few : 2 ^ b ≤ 2 ^ 32
    few = let f = fit_law k v b w.fit in let l : b ≤ 32 = omega arith in pow_mono l

    -- a slot of the group is one of the table's: so are all of them
    up : s / S * S + i < 2 ^ b → s < 2 ^ b
    up h =
        let g : (s / S * S + i) / S < 2 ^ b / S = div_below (s / S * S + i) S (2 ^ b / S) pos (omega (arith, whole)) in
        let l : s / S < 2 ^ b / S = subst (λ t. t < 2 ^ b / S) (div-mul-add (s / S) S i il) g in
        omega (arith, inside_groups S (2 ^ b / S) (s / S) l, div-add-mod' s S, mod_below s S pos, whole)

    down : s < 2 ^ b → s / S * S + i < 2 ^ b
    down h =
        let l : s / S < 2 ^ b / S = div_below s S (2 ^ b / S) pos (omega (arith, whole)) in
        omega (arith, inside_groups S (2 ^ b / S) (s / S) l, whole)

    more : s / S * S + i < 2 ^ b → total (take (i + 1) (drop (s / S * S) slots)) ≡ total (take i (drop (s / S * S) slots)) + length (get_or slots (s / S * S + i) [])
    more h =
        let f = s / S * S in
        let l : i < length (drop f slots) = omega (arith, length-drop f slots, w.long) in
        ap total (take_more (drop f slots) i [] l) ∙ total_append (take i (drop f slots)) (get_or (drop f slots) i [] ∷ [])
        ∙ ap (λ t. total (take i (drop f slots)) + (length t + 0)) (get_or-drop f slots i []) ∙ omega arith

  -- one more slot
  pub sum_more : (m : Meaning) → ((k v b : ℕ) (slots : List (List (ℕ × ℕ))) → m ≡ formed k v b slots → WellFormed S C fits k v b slots)
      → (s i sum : ℕ) → i < S → Summed S m s i sum → (at : ℕ) → at ≡ min (s / S * S + i) (2 ^ 64 - 1) → (n : ℕ) → sized m at ≡ Ok n
      → (next : ℕ) → next ≡ min (sum + n) (2 ^ 64 - 1) → Summed S m s (i + 1) next
  sum_more unformed well s i sum il inv at is n e next add = let z : ◌≡◌ {A = ℕ} 0 1 = cc (e) in absurd (omega arith)
  sum_more (formed k v b slots) well s i sum il inv at is n e next add =
      let w = well k v b slots refl in
      let told = slot_told slots at n (has_slot b at) e in
      let al = ltb-true at (2 ^ b) told.0 in
      let fw = few k v b slots w s i il in
      let here : at ≡ s / S * S + i = omega arith in
      let fl : s / S * S + i < 2 ^ b = omega arith in
      let t = more k v b slots w s i il fl in
      let l : length (get_or slots (s / S * S + i) []) ≡ n = ap (λ x. length (get_or slots x [])) (sym here) ∙ told.1 in
      ((λ h. up k v b slots w s i il fl), omega (arith, inv.1, t, l, add))

  -- a slot that there is not
  pub sum_stops : (m : Meaning) → ((k v b : ℕ) (slots : List (List (ℕ × ℕ))) → m ≡ formed k v b slots → WellFormed S C fits k v b slots)
      → (s i sum : ℕ) → s < 2 ^ 64 → i < S → Summed S m s i sum → (at : ℕ) → at ≡ min (s / S * S + i) (2 ^ 64 - 1) → (x : TableRefusal) → sized m at ≡ Err x → Err x ≡ loaded S m s
  sum_stops unformed well s i sum small il inv at is x e = sym e
  sum_stops (formed k v b slots) well s i sum small il inv at is x e =
      let w = well k v b slots refl in
      let told = slot_denied slots at x (has_slot b at) e in
      let al = ltb-false at (2 ^ b) told.0 in
      let fw = few k v b slots w s i il in
      let div = div-add-mod' s S in
      let out : has_slot b s ≡ false = ⊎_elim
      (λ l. let d = down k v b slots w s i il l in absurd (omega arith))
      (λ l. le-ltb s (2 ^ b) l)
      (cases_lt s (2 ^ b)) in
      ap Err told.1 ∙ ap (loaded_at S slots s) (sym out)

  -- all slots of the group
  pub sum_ends : (m : Meaning) → ((k v b : ℕ) (slots : List (List (ℕ × ℕ))) → m ≡ formed k v b slots → WellFormed S C fits k v b slots)
      → (s i sum : ℕ) → i ≡ S → Summed S m s i sum → C < 2 ^ 64 → Ok (min sum C) ≡ loaded S m s
  unfolding load
  sum_ends unformed well s i sum is inv c = absurd (omega arith)
  sum_ends (formed k v b slots) well s i sum is inv c =
      let w = well k v b slots refl in
      let h : s < 2 ^ b = inv.0 (omega arith) in
      let all : total (take i (drop (s / S * S) slots)) ≡ load S slots s = ap (λ t. total (take t (drop (s / S * S) slots))) is in
      let le = leb-true (load S slots s) C (w.limited s h) in
      let sum_is : min sum C ≡ load S slots s = omega (arith, inv.1, all) in
      ap Ok sum_is ∙ ap (loaded_at S slots s) (sym (lt-ltb s (2 ^ b) h))

-- a group of a power of two has a slot
pub group_pos : (S : ℕ) → ((j : ℕ) × (S ≡ 2 ^ j)) → 0 < S
group_pos S p = subst (λ t. 0 < t) (sym p.1) (pow_pos p.0)
