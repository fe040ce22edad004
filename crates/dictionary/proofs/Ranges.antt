-- How many keys stand in some slots in a row, and whether every group holds.
use Rattle.std.proofs.Common.{◌≡◌, ℕ, zero, suc, ◌+◌, ◌-◌, ◌*◌, ◌/◌, ◌%◌, ◌^◌, ◌<◌, ◌≤◌, min, Bool, true, false, cond, ◌&&◌, eqb, ltb, leb, ◌⊎◌, [], ◌∷◌, length, get_or, sym, refl, ap, ◌∙◌, subst, inl, inr, ⊎_elim, arith}
use Rattle.std.proofs.lemmas.Nat.{div-add-mod', div_below, pow-add, shl_whole}
use Rattle.std.proofs.lemmas.Bool.{and_parts, cases_Bool, cases_eq, cases_lt, leb-false, leb-true, ne_eqb}
use Rattle.std.proofs.lemmas.Bool.Decides.{nat_tests}
use Rattle.std.proofs.lemmas.List.FromFn.{get_or-range_with_len, length-range_with_len}
use Rattle.std.specs.Bool.{MatchBool}
use Rattle.std.specs.List.{AllByRecursion as All, AllWithin, HoldsAt, range_with_len}
use Rattle.table.specs.Slots.{within}
use Rattle.table.proofs.Groups.{inside_groups}
use Rattle.model.specs.Entries.{Entries, count_if, entries_hold, group_load, groups_hold}
use Rattle.model.proofs.Counting.{two_parts}
use Rattle.model.proofs.Loads.{overfull}
use Rattle.model.proofs.SlotLoads.{in_group}
use Rattle.dictionary.specs.Stored.{range_load}

-- tests that agree count alike
count_same : (p q : ℕ × ℕ → Bool) → ((e : ℕ × ℕ) → p e ≡ q e) → (l : Entries) → count_if p l ≡ count_if q l
count_same p q h [] = refl
count_same p q h (e ∷ l) = let one = h e in let ih = count_same p q h l in rw (one, ih)

count_none : (p : ℕ × ℕ → Bool) (l : Entries) → All (λ e. p e ≡ false) l → count_if p l ≡ 0
count_none p [] h = refl
count_none p (e ∷ l) h = let one = h.0 in let ih = count_none p l h.1 in rw (one, ih)

module _ (slot : ℕ → ℕ) (l : Entries) where
  -- no slot yet
  pub range_zero : (first : ℕ) → range_load slot first 0 l ≡ 0
  unfolding range_load
  range_zero first = none l
    where
      none : (l : Entries) → count_if (λ e. leb first (slot e.0) && ltb (slot e.0) (first + 0)) l ≡ 0
      none [] = refl
      none (e ∷ l) = let t : (leb first (slot e.0) && ltb (slot e.0) (first + 0)) ≡ false = grind (arith, nat_tests) in let ih = none l in rw (t, ih)

  -- one more slot
  pub range_more : (first i : ℕ) → range_load slot first (i + 1) l ≡ range_load slot first i l + count_if (λ e. eqb (slot e.0) (first + i)) l
  unfolding range_load
  range_more first i =
      two_parts (λ e. leb first (slot e.0) && ltb (slot e.0) (first + (i + 1))) (λ e. leb first (slot e.0) && ltb (slot e.0) (first + i)) (λ e. eqb (slot e.0) (first + i)) (λ e. tests (slot e.0)) l
    where
      tests : (s : ℕ) → cond (leb first s && ltb s (first + (i + 1))) 1 0 ≡ cond (leb first s && ltb s (first + i)) 1 0 + cond (eqb s (first + i)) 1 0
      tests s = grind (arith, nat_tests)

  -- more slots have no fewer keys
  pub range_grows : (first i n : ℕ) → i ≤ n → range_load slot first i l ≤ range_load slot first n l
  range_grows first i zero h = let e : i ≡ 0 = omega arith in let same = ap (λ x. range_load slot first x l) e in omega (arith, same)
  range_grows first i (suc n) h =
      ⊎_elim
      (λ same. let is = ap (λ x. range_load slot first x l) same in omega (arith, is))
      (λ off.
      let less : i ≤ n = omega arith in
      let ih = range_grows first i n less in
      let e : n + 1 ≡ suc n = omega arith in
      let more = ap (λ x. range_load slot first x l) (sym e) ∙ range_more first n in
      omega arith)
      (cases_eq i (suc n))

  -- the slots of a group
  pub range_group : (S g : ℕ) → 0 < S → range_load slot (g * S) S l ≡ group_load slot S l g
  unfolding range_load
  range_group S g pos = count_same (λ e. leb (g * S) (slot e.0) && ltb (slot e.0) (g * S + S)) (λ e. eqb (slot e.0 / S) g) (λ e. one (slot e.0)) l
    where
      one : (x : ℕ) → (leb (g * S) x && ltb x (g * S + S)) ≡ eqb (x / S) g
      one x =
          let n = g * S + S + suc x in
          let whole : min S (n - g * S) ≡ S = omega arith in
          ap (λ y. leb (g * S) x && ltb x (g * S + y)) (sym whole) ∙ in_group slot slot S g n x pos (omega arith)

module _ (slot : ℕ → ℕ) (S C : ℕ) (l : Entries) where
  seen : (es : Entries) (g : ℕ) → entries_hold slot S C l es ≡ true → (count_if (λ e. eqb (slot e.0 / S) g) es ≡ 0) ⊎ (group_load slot S l g ≤ C)
  seen [] g h = inl refl
  seen (e ∷ es) g h =
      let both = and_parts (leb (group_load slot S l (slot e.0 / S)) C) (entries_hold slot S C l es) h in
      ⊎_elim
      (λ same. inr (subst (λ x. group_load slot S l x ≤ C) same (leb-true (group_load slot S l (slot e.0 / S)) C both.0)))
      (λ off.
      let t : eqb (slot e.0 / S) g ≡ false = ne_eqb (slot e.0 / S) g off in
      ⊎_elim (λ none. inl (rw t none)) (λ good. inr good) (seen es g both.1))
      (cases_eq (slot e.0 / S) g)

  -- where every group holds, each is within C
  pub hold_within : groups_hold slot S C l ≡ true → (g : ℕ) → group_load slot S l g ≤ C
  hold_within h g = ⊎_elim (λ none. omega (arith, none)) (λ good. good) (seen l g h)

  -- a group that is not shows that not every one holds
  pub not_hold : (g : ℕ) → C < group_load slot S l g → false ≡ groups_hold slot S C l
  not_hold g over = ⊎_elim (λ t. let le = hold_within t g in absurd (omega arith)) sym (cases_Bool (groups_hold slot S C l))

  -- every group holds, where those of the first n slots are within C and no key stands past them
  pub all_hold : (n : ℕ) → 0 < S → All (λ e. slot e.0 < n * S) l → ((g : ℕ) → g < n → group_load slot S l g ≤ C) → true ≡ groups_hold slot S C l
  all_hold n pos below h =
      ⊎_elim sym
      (λ f.
      let over = overfull slot S C l l f in
      ⊎_elim
      (λ inside. let le = h over.0 inside in let gt = over.1 in absurd (omega arith))
      (λ outside. let none = count_none (λ e. eqb (slot e.0 / S) over.0) l (past l over.0 outside below) in let gt = over.1 in absurd (omega (arith, none, gt)))
      (cases_lt over.0 n))
      (cases_Bool (groups_hold slot S C l))
    where
      past : (l : Entries) (g : ℕ) → n ≤ g → All (λ e. slot e.0 < n * S) l → All (λ e. eqb (slot e.0 / S) g ≡ false) l
      past [] g h below = tt
      past (e ∷ l) g h below =
          let less : slot e.0 / S < n = div_below (slot e.0) S n pos below.0 in
          let off : slot e.0 / S ≡ g → ⊥ = λ same. omega arith in
          (ne_eqb (slot e.0 / S) g off, past l g h below.1)

-- the slots of group g are among n
pub group_inside : (n S g : ℕ) → g < n / S → g * S + S ≤ n
group_inside n S g h = let a = inside_groups S (n / S) g h in let e = div-add-mod' n S in omega arith

-- whole groups
pub whole_groups : (n S : ℕ) → n % S ≡ 0 → n ≡ n / S * S
whole_groups n S h = let e = div-add-mod' n S in omega arith

-- twice as many slots
pub two_shl : (b : ℕ) → b ≤ 32 → (2 * 2 ^ b) % 2 ^ 64 ≡ 2 ^ (b + 1)
two_shl b h = let e = pow-add 2 b 1 in let two : 2 < 2 ^ 2 = omega arith in let w = shl_whole 2 2 b 64 two (omega arith) in omega arith

-- what is told of the slots of a group is told of the group
pub group_told : (slot : ℕ → ℕ) (l : Entries) (S C size limit g : ℕ) → 0 < S → size ≡ S → limit ≡ C → (r : Bool) → r ≡ within limit (range_load slot (g * size) size l) → r ≡ within C (group_load slot S l g)
group_told slot l S C size limit g pos sized limited r is =
    is ∙ ap (λ x. within limit (range_load slot (g * x) x l)) sized ∙ ap (λ x. within x (range_load slot (g * S) S l)) limited ∙ ap (within C) (range_group slot l S g pos)

-- what `all` says of the numbers below n
pub all_told : (Yes No : ℕ → Type 0) (n : ℕ) (r : Bool) → MatchBool r (AllWithin Yes (range_with_len 0 n) 0 (length (range_with_len 0 n))) ((k : ℕ) × (k < length (range_with_len 0 n)) × HoldsAt No (range_with_len 0 n) k)
    → MatchBool r ((k : ℕ) → k < n → Yes k) ((k : ℕ) × (k < n) × No k)
all_told Yes No n true h = λ k less. let many = length-range_with_len 0 n in subst Yes (at k less) (h k 0 (omega arith) (omega (arith, less, many)))
  where
    at : (k : ℕ) → k < n → get_or (range_with_len 0 n) k 0 ≡ k
    at k less = let e = get_or-range_with_len 0 n k 0 less in omega (arith, e)
all_told Yes No n false h = let many = length-range_with_len 0 n in let less : h.0 < n = omega (arith, h.1, many) in (h.0, less, subst No (let e = get_or-range_with_len 0 n h.0 0 less in omega (arith, e)) (h.2 0))

-- the same, where what is said of each says more
pub by_cases : (r : Bool) (Yes No : ℕ → Type 0) (n : ℕ) (P Q : ℕ → Type 0) → ((k : ℕ) → k < n → Yes k → P k) → ((k : ℕ) → k < n → No k → Q k) → MatchBool r ((k : ℕ) → k < n → Yes k) ((k : ℕ) × (k < n) × No k)
    → MatchBool r ((k : ℕ) → k < n → P k) ((k : ℕ) × (k < n) × Q k)
by_cases true Yes No n P Q f g h = λ k less. f k less (h k less)
by_cases false Yes No n P Q f g h = (h.0, h.1, g h.0 h.1 h.2)

-- whether every group holds, by what is said of each of the first n
pub hold_told : (slot : ℕ → ℕ) (S C : ℕ) (l : Entries) (n : ℕ) → 0 < S → All (λ e. slot e.0 < n * S) l → (r : Bool) → MatchBool r ((g : ℕ) → g < n → true ≡ within C (group_load slot S l g)) ((g : ℕ) × (g < n) × (false ≡ within C (group_load slot S l g)))
    → r ≡ groups_hold slot S C l
hold_told slot S C l n pos below true h = all_hold slot S C l n pos below (λ g less. leb-true (group_load slot S l g) C (sym (h g less)))
hold_told slot S C l n pos below false h = not_hold slot S C l h.0 (leb-false (group_load slot S l h.0) C (sym h.2))
