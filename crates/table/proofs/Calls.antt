-- Add and remove as changes of one group, and what a refusal leaves.
use Rattle.std.proofs.Common.{◌≡◌, ℕ, zero, suc, ◌+◌, ◌*◌, ◌/◌, ◌%◌, ◌^◌, ◌<◌, ◌≤◌, Bool, true, false, ◌&&◌, ltb, List, [], ◌∷◌, ◌++◌, length, get_or, set, Some, None, Ok, Err, Option, Result, sym, refl, ap, ◌∙◌, subst, ⊎_elim, add-zero, arith}
use Rattle.std.proofs.lemmas.Nat.{div_below}
use Rattle.std.proofs.lemmas.Bool.{cases_eq, leb-true, leb-false, le-leb}
use Rattle.std.proofs.lemmas.List.{length_push, length-set, set-get_or, get_or-set_same, get_or-set_other}
use Rattle.table.specs.declared.refusal.TableRefusal.{TableRefusal}
use Rattle.table.specs.Slots.{full}
use Rattle.table.specs.Meaning.{Meaning, unformed, formed, Good, value_in, without, total, load, in_range, formed_anew, formed_at, weigh_held, weigh_room, weigh_range, weighed, added, add_reply, admitted, removed_from, remove_at, remove_end}
use Rattle.table.specs.Layout.{group_at, groups, group_added, group_reply, group_removed, group_without, GoodGroup}
use Rattle.table.proofs.Slots.{good_push, good_without, length_without}
use Rattle.table.proofs.Groups.{getD_groups, slot_at, set_groups}

-- ---- loads

-- one slot of a group replaced
pub total_set : (G : List (List (ℕ × ℕ))) (j : ℕ) → j < length G → (es : List (ℕ × ℕ)) → total (set G j es) + length (get_or G j []) ≡ total G + length es
total_set [] j h es = absurd (omega arith)
total_set (x ∷ G) zero h es = omega arith
total_set (x ∷ G) (suc j) h es = let i = total_set G j (omega arith) es in omega arith

-- ---- what is not refused

-- an entry that nothing stands against: the slot does not hold its quotient
pub room_miss : (C n : ℕ) (o : Option ℕ) (u : Unit {0}) → weigh_held C n o ≡ Ok u → o ≡ None
room_miss C n None u e = refl
room_miss C n (Some x) u e = let z : ◌≡◌ {A = ℕ} 0 1 = cc (e) in absurd (omega arith)

roomy : (t : Bool) (u : Unit {0}) → weigh_room t ≡ Ok u → t ≡ false
roomy true u e = let z : ◌≡◌ {A = ℕ} 0 1 = cc (e) in absurd (omega arith)
roomy false u e = refl

-- and its group holds less than the limit
pub room_below : (C n : ℕ) (o : Option ℕ) (u : Unit {0}) → weigh_held C n o ≡ Ok u → n < C
room_below C n (Some x) u e = let z : ◌≡◌ {A = ℕ} 0 1 = cc (e) in absurd (omega arith)
room_below C n None u e = leb-false C n (roomy (full C n) u e)

-- ---- a group stays as it has to be

module _ (S C qs v : ℕ) (G : List (List (ℕ × ℕ))) (gg : GoodGroup S C qs v G) (j : ℕ) (jl : j < S) where
  -- one slot replaced by a good one, within the limit
  set_good : (es : List (ℕ × ℕ)) → Good qs v es → total (set G j es) ≤ C → GoodGroup S C qs v (set G j es)
  set_good es g l = record {
    whole = length-set G j es ∙ gg.whole;
    good = λ i h. ⊎_elim
        (λ at. subst (Good qs v) (sym (ap (λ t. get_or (set G j es) t []) at ∙ get_or-set_same G j es [] (omega (arith, gg.whole)))) g)
        (λ off. subst (Good qs v) (sym (get_or-set_other G j i es [] off)) (gg.good i h))
        (cases_eq i j);
    limited = le-leb (total (set G j es)) C l;
  }

  reply_good : (q w : ℕ) → q < 2 ^ qs → w < 2 ^ v → (r : Result (Unit {0}) TableRefusal) → weigh_held C (total G) (value_in (get_or G j []) q) ≡ r
      → GoodGroup S C qs v (group_reply G j q w r).0
  reply_good q w qh wh (Err e) p = gg
  reply_good q w qh wh (Ok u) p =
      let es = get_or G j [] in
      let o = value_in es q in
      let t = total_set G j (omega (arith, gg.whole)) (es ++ ((q, w) ∷ [])) in
      set_good (es ++ ((q, w) ∷ [])) (good_push qs v es (gg.good j jl) q w qh wh (room_miss C (total G) o u p))
      (omega (arith, t, length_push es (q, w), room_below C (total G) o u p))

  -- a group after an add
  pub good_added : (q w : ℕ) → q < 2 ^ qs → w < 2 ^ v → GoodGroup S C qs v (group_added C G j q w).0
  good_added q w qh wh = reply_good q w qh wh (weigh_held C (total G) (value_in (get_or G j []) q)) refl

  out_good : (q : ℕ) (o : Option ℕ) → value_in (get_or G j []) q ≡ o → GoodGroup S C qs v (group_without G j q o).0
  out_good q None p = gg
  out_good q (Some x) p =
      let es = get_or G j [] in
      let t = total_set G j (omega (arith, gg.whole)) (without es q) in
      let l = leb-true (total G) C gg.limited in
      set_good (without es q) (good_without qs v es (gg.good j jl) q x p) (omega (arith, t, length_without es q x p))

  -- a group after a removal
  pub good_taken : (q : ℕ) → GoodGroup S C qs v (group_removed G j q).0
  good_taken q = out_good q (value_in (get_or G j []) q) refl

-- ---- a call as the change of one group

-- the slots of a meaning are those from before, but for group g, which is now G
pub record Changed (S m k v b : ℕ) (slots : List (List (ℕ × ℕ))) (g : ℕ) (G : List (List (ℕ × ℕ))) (after : Meaning) : Type 0 where
  pub new : List (List (ℕ × ℕ))
  pub is : after ≡ formed k v b new
  pub same : groups S m new ≡ set (groups S m slots) g G
  pub long : length new ≡ length slots

module _ (S m : ℕ) (pos : 0 < S) (k v b : ℕ) (slots : List (List (ℕ × ℕ))) (count : length slots ≡ m * S) (s : ℕ) (h : s < m * S) where
  unchanged : Changed S m k v b slots (s / S) (group_at S slots (s / S)) (formed k v b slots)
  unchanged =
      let gs = groups S m slots in let g = s / S in
      record {
        new = slots;
        is = refl;
        same = sym (ap (set gs g) (sym (getD_groups [] S m pos slots g (div_below s S m pos h))) ∙ set-get_or gs g []);
        long = refl;
      }

  replaced : (y : List (ℕ × ℕ)) → Changed S m k v b slots (s / S) (set (group_at S slots (s / S)) (s % S) y) (formed k v b (set slots s y))
  replaced y = record { new = set slots s y; is = refl; same = set_groups [] S m pos slots count s h y; long = length-set slots s y }

  -- the slot, as it stands in its group
  here : get_or slots s [] ≡ get_or (group_at S slots (s / S)) (s % S) []
  here = slot_at [] S m pos slots s

  module _ (q w : ℕ) where
    reply_changes : (r : Result (Unit {0}) TableRefusal) → Changed S m k v b slots (s / S) (group_reply (group_at S slots (s / S)) (s % S) q w r).0 (add_reply k v b slots s q w r).0
    reply_changes (Err e) = unchanged
    reply_changes (Ok u) =
        subst (λ t. Changed S m k v b slots (s / S) (set (group_at S slots (s / S)) (s % S) (t ++ ((q, w) ∷ []))) (formed k v b (set slots s (get_or slots s [] ++ ((q, w) ∷ []))))) here
        (replaced (get_or slots s [] ++ ((q, w) ∷ [])))

    reply_same : (G : List (List (ℕ × ℕ))) (j : ℕ) (r : Result (Unit {0}) TableRefusal) → (add_reply k v b slots s q w r).1 ≡ (group_reply G j q w r).1
    reply_same G j (Err e) = refl
    reply_same G j (Ok u) = refl

    module _ (C : ℕ) (ok : (in_range k b s q && ltb w (2 ^ v)) ≡ true) where
      -- in range, what stands against an entry is what stands against it in its group
      weigh_is : (n : ℕ) → weighed C k v b slots s q w n ≡ weigh_held C n (value_in (get_or (group_at S slots (s / S)) (s % S) []) q)
      weigh_is n = ap (weigh_range C n (get_or slots s []) q) ok ∙ ap (λ t. weigh_held C n (value_in t q)) here

      -- add
      pub added_changes : Changed S m k v b slots (s / S) (group_added C (group_at S slots (s / S)) (s % S) q w).0 (added S C (formed k v b slots) s q w).0
      unfolding load
      added_changes =
          let G = group_at S slots (s / S) in
          subst (λ t. Changed S m k v b slots (s / S) (group_reply G (s % S) q w t).0 (added S C (formed k v b slots) s q w).0) (weigh_is (load S slots s))
          (reply_changes (weighed C k v b slots s q w (load S slots s)))

      pub added_answers : (added S C (formed k v b slots) s q w).1 ≡ (group_added C (group_at S slots (s / S)) (s % S) q w).1
      unfolding load
      added_answers =
          let G = group_at S slots (s / S) in
          reply_same G (s % S) (weighed C k v b slots s q w (load S slots s)) ∙ ap (λ t. (group_reply G (s % S) q w t).1) (weigh_is (load S slots s))

      -- what add would answer
      pub admitted_is : (earlier : ℕ) → admitted S C (formed k v b slots) s q w earlier
          ≡ weigh_held C (total (group_at S slots (s / S)) + earlier) (value_in (get_or (group_at S slots (s / S)) (s % S) []) q)
      unfolding load
      admitted_is earlier = weigh_is (load S slots s + earlier)

  module _ (q : ℕ) where
    out_changes : (o : Option ℕ) → Changed S m k v b slots (s / S) (group_without (group_at S slots (s / S)) (s % S) q o).0 (remove_end k v b slots s q o).0
    out_changes None = unchanged
    out_changes (Some x) =
        subst (λ t. Changed S m k v b slots (s / S) (set (group_at S slots (s / S)) (s % S) (without t q)) (formed k v b (set slots s (without (get_or slots s []) q)))) here
        (replaced (without (get_or slots s []) q))

    out_same : (G : List (List (ℕ × ℕ))) (j : ℕ) (o : Option ℕ) → (remove_end k v b slots s q o).1 ≡ (group_without G j q o).1
    out_same G j None = refl
    out_same G j (Some x) = refl

    module _ (ok : in_range k b s q ≡ true) where
      out_is : removed_from (formed k v b slots) s q ≡ remove_end k v b slots s q (value_in (get_or (group_at S slots (s / S)) (s % S) []) q)
      out_is = ap (remove_at k v b slots s q) ok ∙ ap (λ t. remove_end k v b slots s q (value_in t q)) here

      -- remove
      pub removed_changes : Changed S m k v b slots (s / S) (group_removed (group_at S slots (s / S)) (s % S) q).0 (removed_from (formed k v b slots) s q).0
      removed_changes =
          let G = group_at S slots (s / S) in
          subst (λ t. Changed S m k v b slots (s / S) (group_removed G (s % S) q).0 t.0) (sym out_is) (out_changes (value_in (get_or G (s % S) []) q))

      pub removed_answers : (removed_from (formed k v b slots) s q).1 ≡ (group_removed (group_at S slots (s / S)) (s % S) q).1
      removed_answers =
          let G = group_at S slots (s / S) in
          ap (λ t. t.1) out_is ∙ out_same G (s % S) (value_in (get_or G (s % S) []) q)

-- ---- a refused call changes nothing

ok_not : {A : Type 0} (x : A) (e : TableRefusal) → Ok x ≡ Err e → ⊥
ok_not x e p = let z : ◌≡◌ {A = ℕ} 0 1 = cc (p) in omega arith

reply_refused : (k v b : ℕ) (slots : List (List (ℕ × ℕ))) (s q w : ℕ) (e : TableRefusal) (r : Result (Unit {0}) TableRefusal)
    → (add_reply k v b slots s q w r).1 ≡ Err e → (add_reply k v b slots s q w r).0 ≡ formed k v b slots
reply_refused k v b slots s q w e (Ok u) p = absurd (ok_not tt e p)
reply_refused k v b slots s q w e (Err x) p = refl

-- a refused add
pub added_refused : (S C : ℕ) (m : Meaning) (s q w : ℕ) (e : TableRefusal) → (added S C m s q w).1 ≡ Err e → (added S C m s q w).0 ≡ m
added_refused S C unformed s q w e p = refl
added_refused S C (formed k v b slots) s q w e p = reply_refused k v b slots s q w e (weighed C k v b slots s q w (load S slots s)) p

reply_says : (k v b : ℕ) (slots : List (List (ℕ × ℕ))) (s q w : ℕ) (r : Result (Unit {0}) TableRefusal) → (add_reply k v b slots s q w r).1 ≡ r
reply_says k v b slots s q w (Ok u) = refl
reply_says k v b slots s q w (Err x) = refl

-- what add answers is what is admitted with none earlier
pub added_admitted : (S C : ℕ) (m : Meaning) (s q w : ℕ) → (added S C m s q w).1 ≡ admitted S C m s q w 0
added_admitted S C unformed s q w = refl
added_admitted S C (formed k v b slots) s q w =
    reply_says k v b slots s q w (weighed C k v b slots s q w (load S slots s)) ∙ ap (weighed C k v b slots s q w) (sym (add-zero (load S slots s)))

out_refused : (k v b : ℕ) (slots : List (List (ℕ × ℕ))) (s q : ℕ) (e : TableRefusal) (o : Option ℕ)
    → (remove_end k v b slots s q o).1 ≡ Err e → (remove_end k v b slots s q o).0 ≡ formed k v b slots
out_refused k v b slots s q e None p = refl
out_refused k v b slots s q e (Some x) p = absurd (ok_not x e p)

at_refused : (k v b : ℕ) (slots : List (List (ℕ × ℕ))) (s q : ℕ) (e : TableRefusal) (t : Bool)
    → (remove_at k v b slots s q t).1 ≡ Err e → (remove_at k v b slots s q t).0 ≡ formed k v b slots
at_refused k v b slots s q e true p = out_refused k v b slots s q e (value_in (get_or slots s []) q) p
at_refused k v b slots s q e false p = refl

-- a refused removal
pub removed_refused : (m : Meaning) (s q : ℕ) (e : TableRefusal) → (removed_from m s q).1 ≡ Err e → (removed_from m s q).0 ≡ m
removed_refused unformed s q e p = refl
removed_refused (formed k v b slots) s q e p = at_refused k v b slots s q e (in_range k b s q) p

form_refused : (m : Meaning) (k v b : ℕ) (e : TableRefusal) (t : Bool) → (formed_at m k v b t).1 ≡ Err e → (formed_at m k v b t).0 ≡ m
form_refused m k v b e true p = absurd (ok_not tt e p)
form_refused m k v b e false p = refl

-- a refused form
pub formed_refused : (fits : ℕ → ℕ → ℕ → Bool) (m : Meaning) (k v b : ℕ) (e : TableRefusal) → (formed_anew fits m k v b).1 ≡ Err e → (formed_anew fits m k v b).0 ≡ m
formed_refused fits m k v b e p = form_refused m k v b e (fits k v b) p
