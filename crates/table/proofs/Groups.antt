-- A list of slots as groups of S slots: the groups, a slot in its group, and one slot replaced.
use Rattle.std.proofs.Common.{◌≡◌, ℕ, ◌+◌, ◌-◌, ◌*◌, ◌/◌, ◌%◌, ◌^◌, ◌<◌, ◌≤◌, Bool, true, ◌≢◌, List, [], length, get_or, take, drop, set, sym, refl, ap, ◌∙◌, subst, ⊎_elim, mul-le-mul_right, add-mul, one-mul, zero-mul, arith}
use lib.Seq.{take-set-lt}
use Rattle.std.specs.List.{flat_map, AllByRecursion as All}
use Rattle.std.proofs.lemmas.Nat.{mod_below, div_below, div-add-mod', div-mul-add}
use Rattle.std.proofs.lemmas.Bool.{cases_eq}
use Rattle.std.proofs.lemmas.List.{ext_get_or, length-set, length-drop, length-take-le, get_or-set_same, get_or-set_other, get_or-take, get_or-drop, drop-set-add, take_all, append-nil}
use Rattle.std.proofs.ByRecursion.{All-from_get_or}
use Rattle.std.proofs.lemmas.List.FromFn.{get_or-map-range_with_len, length-map-range_with_len}
use Rattle.table.specs.Slots.{within}
use Rattle.table.specs.Meaning.{total, load, Good, WellFormed}
use Rattle.table.specs.Layout.{group_at, groups, GoodGroup}
use Rattle.table.proofs.Runs.{joined_read, length_joined, piece}

-- a group within the groups
pub inside_groups : (S m g : ℕ) → g < m → g * S + S ≤ m * S
inside_groups S m g h =
    let le : g + 1 ≤ m = omega arith in
    let p : (g + 1) * S ≤ m * S = mul-le-mul_right S le in
    omega (arith, add-mul g 1 S, one-mul S)

module _ {E : Type 0} (none : E) (S m : ℕ) (pos : 0 < S) where
  module _ (slots : List E) where
    -- how many groups there are
    pub length_groups : length (groups S m slots) ≡ m
    length_groups = length-map-range_with_len (group_at S slots) 0 m

    -- one of the groups
    pub getD_groups : (g : ℕ) → g < m → get_or (groups S m slots) g [] ≡ group_at S slots g
    getD_groups g h = get_or-map-range_with_len (group_at S slots) 0 m g g [] h (omega arith)

    -- a slot of a group
    pub at_group : (g j : ℕ) → j < S → get_or (group_at S slots g) j none ≡ get_or slots (g * S + j) none
    at_group g j h = get_or-take S (drop (g * S) slots) j none h ∙ get_or-drop (g * S) slots j none

    -- a slot in its group
    pub slot_at : (s : ℕ) → get_or slots s none ≡ get_or (group_at S slots (s / S)) (s % S) none
    slot_at s = sym (at_group (s / S) (s % S) (mod_below s S pos) ∙ ap (λ t. get_or slots t none) (div-add-mod' s S))

  module _ (slots : List E) (count : length slots ≡ m * S) where
    -- each group has S slots
    pub length_group : (g : ℕ) → g < m → length (group_at S slots g) ≡ S
    length_group g h =
        let i = inside_groups S m g h in
        let l : S ≤ length (drop (g * S) slots) = omega (arith, length-drop (g * S) slots) in
        length-take-le S (drop (g * S) slots) l

    -- the slots are the groups one after the other
    pub joined_groups : flat_map (λ x. x) (groups S m slots) ≡ slots
    joined_groups =
        let l : length slots ≤ m * S = omega arith in
        joined_read S (λ x. x) (λ x. x) slots 0 m (λ g a b. refl)
        ∙ ap (λ t. take (m * S) (drop t slots)) (zero-mul S) ∙ take_all (m * S) slots l

  module _ (slots : List E) (count : length slots ≡ m * S) (s : ℕ) (h : s < m * S) (y : E) where
    -- the group of the slot that was replaced
    here : group_at S (set slots s y) (s / S) ≡ set (group_at S slots (s / S)) (s % S) y
    here =
        let g = s / S in let j = s % S in
        ap (λ t. take S (drop (g * S) (set slots t y))) (sym (div-add-mod' s S))
        ∙ ap (take S) (drop-set-add (g * S) slots j y) ∙ take-set-lt S (drop (g * S) slots) j y (mod_below s S pos)

    -- another group
    apart : (g : ℕ) → g < m → g ≢ s / S → group_at S (set slots s y) g ≡ group_at S slots g
    apart g gl off =
        let a = length_group (set slots s y) (length-set slots s y ∙ count) g gl in
        let b = length_group slots count g gl in
        ext_get_or none (group_at S (set slots s y) g) (group_at S slots g) (a ∙ sym b) (λ i l.
        let il : i < S = omega arith in
        at_group (set slots s y) g i il
        ∙ get_or-set_other slots s (g * S + i) y none (λ e. off (sym (div-mul-add g S i il) ∙ ap (λ t. t / S) e))
        ∙ sym (at_group slots g i il))

    -- the groups after one slot was replaced
    pub set_groups : groups S m (set slots s y) ≡ set (groups S m slots) (s / S) (set (group_at S slots (s / S)) (s % S) y)
    set_groups =
        let g = s / S in
        let gl : g < m = div_below s S m pos h in
        let new = set (group_at S slots g) (s % S) y in
        let ln = length_groups slots in
        let lm = length_groups (set slots s y) in
        ext_get_or [] (groups S m (set slots s y)) (set (groups S m slots) g new) (lm ∙ sym (length-set (groups S m slots) g new ∙ ln)) (λ i l.
        let il : i < m = omega arith in
        getD_groups (set slots s y) i il
        ∙ ⊎_elim
        (λ same. ap (group_at S (set slots s y)) same ∙ here
        ∙ sym (ap (λ t. get_or (set (groups S m slots) g new) t []) same ∙ get_or-set_same (groups S m slots) g new [] (omega arith)))
        (λ other. apart i il other ∙ sym (get_or-set_other (groups S m slots) g i new [] other ∙ getD_groups slots i il))
        (cases_eq i g))

  module _ (gs : List (List E)) (count : length gs ≡ m) (even : All (λ x. length x ≡ S) gs) where
    -- how many slots the groups have together
    pub length_slots : length (flat_map (λ x. x) gs) ≡ m * S
    length_slots = length_joined S (λ x. x) gs even ∙ ap (λ t. t * S) count

    -- a group of the slots
    pub group_is : (g : ℕ) → g < m → group_at S (flat_map (λ x. x) gs) g ≡ get_or gs g []
    group_is g h =
        ap (λ t. take S (drop (g * S) t)) (sym (append-nil (flat_map (λ x. x) gs))) ∙ piece S (λ x. x) gs even g [] (omega arith) []

    -- the groups of the slots
    pub groups_joined : groups S m (flat_map (λ x. x) gs) ≡ gs
    groups_joined =
        let l = length_groups (flat_map (λ x. x) gs) in
        ext_get_or [] (groups S m (flat_map (λ x. x) gs)) gs (l ∙ sym count) (λ i h.
        let il : i < m = omega arith in getD_groups (flat_map (λ x. x) gs) i il ∙ group_is i il)

-- a well-formed content by its groups, and back
module _ (S C : ℕ) (fits : ℕ → ℕ → ℕ → Bool) (k v b m : ℕ) (pos : 0 < S) (whole : m * S ≡ 2 ^ b) where
  -- each group of a well-formed content is good
  pub well_groups : (slots : List (List (ℕ × ℕ))) → WellFormed S C fits k v b slots → (g : ℕ) → g < m → GoodGroup S C (k - b) v (get_or (groups S m slots) g [])
  unfolding load
  well_groups slots w g h =
      let i = inside_groups S m g h in
      let count : length slots ≡ m * S = w.long ∙ sym whole in
      let e = getD_groups [] S m pos slots g h in
      let at0 : (g * S + 0) / S ≡ g = div-mul-add g S 0 pos in
      subst (GoodGroup S C (k - b) v) (sym e) (record {
        whole = length_group [] S m pos slots count g h;
        good = λ j l. subst (Good (k - b) v) (sym (at_group [] S m pos slots g j l)) (w.good (g * S + j) (omega arith));
        limited = ap (λ t. within C (total (group_at S slots t))) (sym at0) ∙ w.limited (g * S + 0) (omega arith);
      })

  module _ (gs : List (List (List (ℕ × ℕ)))) (count : length gs ≡ m) (fine : (g : ℕ) → g < m → GoodGroup S C (k - b) v (get_or gs g [])) where
    -- good groups have S slots each
    pub even_groups : All (λ x. length x ≡ S) gs
    even_groups = All-from_get_or (λ x. length x ≡ S) gs [] (λ i h. let l : i < m = omega arith in (fine i l).whole)

    -- good groups make a well-formed content
    pub groups_well : fits k v b ≡ true → WellFormed S C fits k v b (flat_map (λ x. x) gs)
    unfolding load
    groups_well fit =
        let slots = flat_map (λ x. x) gs in
        let in_group : (s : ℕ) → s < 2 ^ b → group_at S slots (s / S) ≡ get_or gs (s / S) [] =
        λ s h. group_is [] S m pos gs count even_groups (s / S) (div_below s S m pos (omega arith)) in
        record {
          fit = fit;
          long = length_slots [] S m pos gs count even_groups ∙ whole;
          good = λ s h.
              let gl : s / S < m = div_below s S m pos (omega arith) in
              subst (Good (k - b) v) (sym (slot_at [] S m pos slots s ∙ ap (λ t. get_or t (s % S) []) (in_group s h))) ((fine (s / S) gl).good (s % S) (mod_below s S pos));
          limited = λ s h.
              let gl : s / S < m = div_below s S m pos (omega arith) in
              ap (λ t. within C (total t)) (in_group s h) ∙ (fine (s / S) gl).limited;
        }
