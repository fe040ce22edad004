-- Entries moved into a table with one more bit of slots, in the order of the walk.
use Rattle.std.proofs.Common.{◌≡◌, ℕ, suc, ◌+◌, ◌-◌, ◌*◌, ◌/◌, ◌^◌, ◌<◌, ◌≤◌, Bool, true, false, cond, eqb, List, [], ◌∷◌, ◌++◌, map, length, get_or, take, drop, Some, None, Ok, Option, Result, sym, refl, ap, ◌∙◌, subst, arith}
use Rattle.std.proofs.lemmas.Nat.{div_below, pow-add}
use Rattle.std.proofs.ByRecursion.{All-get_or, all_kept_by}
use Rattle.std.proofs.lemmas.List.{drop_more, get_or-map, length-map, take_all, take-append-drop, take_more}
use Rattle.std.proofs.lemmas.Bool.{eq-eqb, lt-leb, ne_eqb}
use Rattle.table.specs.declared.table.Table as table
use Rattle.table.specs.declared.refusal.TableRefusal.{TableRefusal}
use Rattle.table.specs.Slots.{slot as slot_in, quotient as quotient_in}
use Rattle.table.specs.Meaning.{Good, WellFormed, added, formed, formed_anew, formed_at, value_in}
use Rattle.model.specs.Entries.{Entries, content, count_if, group_load, groups_hold, take_one, take_room, walk}
use Rattle.model.specs.Model.{Mixing}
use Rattle.model.specs.Laws.{Apart, LawfulMixing}
use Rattle.model.proofs.Content.{content_nil}
use Rattle.model.proofs.Counting.{count_append}
use Rattle.model.proofs.Runs.{not_there}
use Rattle.model.proofs.Walks.{apart_walk}
use Rattle.std.specs.List.{AllByRecursion as All}
use Rattle.dictionary.specs.Stored.{Stores, in_slot, quotient_of, slot_of, stored}
use Rattle.dictionary.proofs.Cut.{Mixes, Placed, slots_below}
use Rattle.dictionary.proofs.Added.{added_ok, added_stores}
use Rattle.dictionary.proofs.Walked.{slot_as, walk_at, walk_within}
use Rattle.dictionary.proofs.Halves.{content_walk, load_walk}
use Rattle.dictionary.proofs.Ranges.{hold_within}

-- a permutation's laws at its width
pub lawful_mixes : (mi : Mixing) → LawfulMixing mi → (k : ℕ) → mi.width ≡ k → Mixes mi.forth mi.back k
lawful_mixes mi law k e = subst (λ n. Mixes mi.forth mi.back n) e (record { within = law.below; returns = law.returns })

-- half of a slot of the larger table
pub half_below : (s b : ℕ) → s < 2 ^ (b + 1) → s / 2 < 2 ^ b
half_below s b h = let twice : s < 2 ^ b * 2 = let e = pow-add 2 b 1 in omega arith in div_below s 2 (2 ^ b) (omega arith) twice

none_mid : (l : Entries) (e : ℕ × ℕ) (r : Entries) (x : ℕ) → value_in (l ++ (e ∷ r)) x ≡ None → e.0 ≡ x → ⊥
none_mid [] e r x h = (not_there e r x h).0
none_mid (d ∷ l) e r x h = none_mid l e r x (not_there d (l ++ (e ∷ r)) x h).1

apart_before : (l : Entries) (e : ℕ × ℕ) (r : Entries) → Apart (l ++ (e ∷ r)) → value_in l e.0 ≡ None
apart_before [] e r a = refl
apart_before (d ∷ l) e r a =
    let off : e.0 ≡ d.0 → ⊥ = none_mid l e r d.0 a.0 in
    let t : eqb d.0 e.0 ≡ false = ne_eqb d.0 e.0 (λ q. off (sym q)) in
    rw t (apart_before l e r a.1)

module _ {forth back : ℕ → ℕ} {k : ℕ} (mix : Mixes forth back k) (b : ℕ) (narrow : b < k) (l : Entries) (below : All (λ e. e.0 < 2 ^ k) l) (apart : Apart l) (S C : ℕ) (pos : 0 < S)
    (hold : groups_hold (slot_of forth k (b + 1)) S C l ≡ true) where
  -- nothing stands against the next entry of the walk, after those before it
  free_next : (c : ℕ) → c < length (walk (slot_of forth k b) (2 ^ b) l)
      → take_one (slot_of forth k (b + 1)) S C (take c (walk (slot_of forth k b) (2 ^ b) l)) (get_or (walk (slot_of forth k b) (2 ^ b) l) c (0, 0)).0
      (value_in (take c (walk (slot_of forth k b) (2 ^ b) l)) (get_or (walk (slot_of forth k b) (2 ^ b) l) c (0, 0)).0) ≡ None
  free_next c h =
      let slot = slot_of forth k (b + 1) in
      let whole = walk (slot_of forth k b) (2 ^ b) l in
      let e = get_or whole c (0, 0) in
      let g = slot e.0 / S in
      let before = take c whole in
      let rest = drop (c + 1) whole in
      let near : ℕ × ℕ → Bool = λ d. eqb (slot d.0 / S) g in
      let split : whole ≡ before ++ (e ∷ rest) = sym (take-append-drop c whole) ∙ ap (λ x. before ++ x) (drop_more whole c (0, 0) h) in
      let none : value_in before e.0 ≡ None = apart_before before e rest (subst Apart split (apart_walk (slot_of forth k b) (2 ^ b) l apart)) in
      let wide : b + 1 ≤ k = omega arith in
      let all : group_load slot S whole g ≤ C = subst (λ x. x ≤ C) (sym (load_walk forth k b narrow l S (slot e.0) pos (slots_below mix (b + 1) wide l below))) (hold_within slot S C l hold g) in
      let t : near e ≡ true = eq-eqb (slot e.0 / S) g refl in
      let parts : group_load slot S whole g ≡ group_load slot S before g + suc (count_if near rest) =
      ap (λ x. group_load slot S x g) split ∙ count_append near before (e ∷ rest) ∙ ap (λ u. group_load slot S before g + cond u (suc (count_if near rest)) (count_if near rest)) t in
      let room : group_load slot S before g < C = below_limit (group_load slot S whole g) (group_load slot S before g) (count_if near rest) C parts all in
      ap (take_one slot S C before e.0) none ∙ ap take_room (lt-leb C (group_load slot S before g) room)
    where
      below_limit : (a d n c : ℕ) → a ≡ d + suc n → a ≤ c → d < c
      below_limit a d n c p q = omega arith

-- what a table that stands says of the entries of a slot
module _ {A : Type 0} {ta : table.Ghosts A}
    (well : (t : A) → ta.sound t → (k v b : ℕ) (slots : List (List (ℕ × ℕ))) → ta.means t ≡ formed k v b slots → WellFormed ta.group ta.limit (ta.fits t) k v b slots)
    {mi : Mixing} {t : A} {k v b : ℕ} {l : Entries} (st : Stores ta mi t k v b l) where
  -- their values are of v bits
  value_small : (s i : ℕ) → s < 2 ^ b → i < length (in_slot (slot_of mi.forth k b) s l) → (get_or (in_slot (slot_of mi.forth k b) s l) i (0, 0)).1 < 2 ^ v
  value_small s i h less =
      let slots = content (slot_of mi.forth k b) (quotient_of mi.forth k b) (2 ^ b) l in
      let kept = in_slot (slot_of mi.forth k b) s l in
      let f : ℕ × ℕ → ℕ × ℕ = λ e. (quotient_of mi.forth k b e.0, e.1) in
      let good : Good (k - b) v (map f kept) = subst (λ (x : Entries). Good (k - b) v x) (slot_as st s h) ((well t st.sound k v b slots st.means).good s h) in
      let inside : i < length (map f kept) = subst (λ n. i < n) (sym (length-map kept f)) less in
      subst (λ (x : ℕ × ℕ). x.1 < 2 ^ v) (get_or-map f kept i (0, 0) (0, 0) less) (good.values i inside)

  -- one entry goes over
  module _ {B : Type 0} {tb : table.Ghosts B} (pos : 0 < tb.group) (mix : Mixes mi.forth mi.back k) (narrow : b < k)
      (hold : groups_hold (slot_of mi.forth k (b + 1)) tb.group tb.limit l ≡ true) {u : B} (s i : ℕ) (h : s < 2 ^ b) (less : i < length (in_slot (slot_of mi.forth k b) s l))
      (to : Stores tb mi u k v (b + 1) (take (length (walk (slot_of mi.forth k b) s l) + i) (walk (slot_of mi.forth k b) (2 ^ b) l)))
      {y w ps pq : ℕ}
      (is : ◌≡◌ {A = Option (ℕ × ℕ)} (Some (y, w)) (Some (mi.forth (get_or (in_slot (slot_of mi.forth k b) s l) i (0, 0)).0, (get_or (in_slot (slot_of mi.forth k b) s l) i (0, 0)).1)))
      (slot_at : ps ≡ slot_in k (b + 1) y) (quotient_at : pq ≡ quotient_in k (b + 1) y) where
    abbrev e : ℕ × ℕ
    e = get_or (in_slot (slot_of mi.forth k b) s l) i (0, 0)

    abbrev whole : Entries
    whole = walk (slot_of mi.forth k b) (2 ^ b) l

    abbrev c : ℕ
    c = length (walk (slot_of mi.forth k b) s l) + i

    both : ◌≡◌ {A = ℕ × ℕ} (y, w) (mi.forth e.0, e.1)
    both = cc

    w_is : w ≡ e.1
    w_is = ap (λ (x : ℕ × ℕ). x.1) both

    next : get_or whole c (0, 0) ≡ e
    next = walk_at (slot_of mi.forth k b) l (quotient_of mi.forth k b) (2 ^ b) s i h less

    at : Placed mi.forth k (b + 1) e.0 ps pq
    at =
        let y_is : y ≡ mi.forth e.0 = ap (λ (x : ℕ × ℕ). x.0) both in
        record { slot = slot_at ∙ ap (slot_in k (b + 1)) y_is; quotient = quotient_at ∙ ap (quotient_in k (b + 1)) y_is }

    inside : e.0 < 2 ^ k
    inside = All-get_or (λ d. d.0 < 2 ^ k) (in_slot (slot_of mi.forth k b) s l) i (0, 0) less (all_kept_by (λ d. eqb (slot_of mi.forth k b d.0) s) (λ d. d.0 < 2 ^ k) l st.below)

    small : w < 2 ^ v
    small = subst (λ x. x < 2 ^ v) (sym w_is) (value_small s i h less)

    free : take_one (slot_of mi.forth k (b + 1)) tb.group tb.limit (take c whole) e.0 (value_in (take c whole) e.0) ≡ None
    free =
        subst (λ (x : ℕ × ℕ). take_one (slot_of mi.forth k (b + 1)) tb.group tb.limit (take c whole) x.0 (value_in (take c whole) x.0) ≡ None) next
        (free_next mix b narrow l st.below st.apart tb.group tb.limit pos hold c (walk_within (slot_of mi.forth k b) l (2 ^ b) s i h less))

    wide : b + 1 ≤ k
    wide = omega arith

    -- it is not refused
    pub turn_ok : (r : Result (Unit {0}) TableRefusal) → (tb.sound u → r ≡ (added tb.group tb.limit (tb.means u) ps pq w).1) → r ≡ Ok tt
    turn_ok r value = added_ok pos mix to wide w at inside small free r value

    -- and the walk has gone one place further
    pub turn_stores : (u' : B) → (tb.sound u → tb.sound u') → (tb.sound u → tb.means u' ≡ (added tb.group tb.limit (tb.means u) ps pq w).0)
        → Stores tb mi u' k v (b + 1) (take (length (walk (slot_of mi.forth k b) s l) + (i + 1)) (walk (slot_of mi.forth k b) (2 ^ b) l))
    turn_stores u' sound after =
        let pair : ℕ → ℕ × ℕ = λ x. (e.0, x) in
        let more : c + 1 ≡ length (walk (slot_of mi.forth k b) s l) + (i + 1) = omega arith in
        subst (λ (x : Entries). Stores tb mi u' k v (b + 1) x)
        (ap (λ (x : ℕ × ℕ). take c whole ++ (x ∷ [])) (ap pair w_is ∙ sym next)
        ∙ sym (take_more whole c (0, 0) (walk_within (slot_of mi.forth k b) l (2 ^ b) s i h less))
        ∙ ap (λ n. take n whole) more)
        (added_stores pos mix to wide w at inside small free u' sound after)

-- the table as it is formed, and as it is filled
module _ {B : Type 0} {tb : table.Ghosts B} {mi : Mixing} {k v : ℕ} (b : ℕ) where
  pub formed_stores : (u u' : B) → mi.width ≡ k → tb.sound u' → tb.fits u k v (b + 1) ≡ true → tb.means u' ≡ (formed_anew (tb.fits u) (tb.means u) k v (b + 1)).0 → Stores tb mi u' k v (b + 1) []
  formed_stores u u' widths sound fit is = record {
    sound = sound;
    means = is ∙ ap (λ t. (formed_at (tb.means u) k v (b + 1) t).0) fit ∙ ap (formed k v (b + 1)) (sym (content_nil (slot_of mi.forth k (b + 1)) (quotient_of mi.forth k (b + 1)) (2 ^ (b + 1))));
    below = tt;
    apart = tt;
    widths = widths;
  }

  pub filled_stores : {A : Type 0} {ta : table.Ghosts A} {t : A} (u : B) (l : Entries) → Stores ta mi t k v b l → b < k
      → Stores tb mi u k v (b + 1) (take (length (walk (slot_of mi.forth k b) (2 ^ b) l)) (walk (slot_of mi.forth k b) (2 ^ b) l)) → Stores tb mi u k v (b + 1) l
  filled_stores u l from narrow to =
      let whole = walk (slot_of mi.forth k b) (2 ^ b) l in
      let all : take (length whole) whole ≡ whole = take_all (length whole) whole (omega arith) in
      record {
        sound = to.sound;
        means = to.means ∙ ap (stored mi.forth k v (b + 1)) all ∙ ap (formed k v (b + 1)) (content_walk mi.forth k b narrow l);
        below = from.below;
        apart = from.apart;
        widths = from.widths;
      }
