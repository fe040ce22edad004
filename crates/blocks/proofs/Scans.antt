-- The blocks of a table's words, one by one, and the words past them, in any lawful layout.
use Rattle.std.proofs.Common.{◌≡◌, ℕ, ◌+◌, ◌-◌, ◌*◌, ◌<◌, ◌≤◌, true, List, length, get_or, take, drop, Some, None, Err, Option, inl, refl, sym, ap, ◌∙◌, ap₂, subst, ⊎_elim, arith}
use Rattle.std.proofs.Math.Nat.{eq-or-lt_of_le}
use Rattle.std.specs.List.{range_with_len, AllWithin, HoldsAt}
use Rattle.std.specs.Option.{MatchOption}
use Rattle.std.proofs.lemmas.List.{take_rest}
use Rattle.std.proofs.lemmas.List.FromFn.{length-range_with_len, get_or-range_with_len}
use Rattle.table.specs.declared.check_refusal.CheckRefusal.TheVariants.{WrongBlock}
use Rattle.table.specs.Layout.{Layout, part}
use Rattle.table.specs.Lawful.{Lawful}
use Rattle.table.specs.Checking.{Given}
use Rattle.table.proofs.Checks.{Answer, answered}
use Rattle.table.proofs.Groups.{inside_groups}

module _ (L : Layout) (law : Lawful L) (ws : List ℕ) (k v b : ℕ) (fit : L.fits (length ws) k v b ≡ true) (n w : ℕ) (ns : n ≡ L.count b) (wide : w ≡ L.width k v b) where
  -- the words of all blocks
  pub blocks_inside : n * w ≤ length ws
  blocks_inside = let e : n * w ≡ L.count b * L.width k v b = ap₂ (λ (x y : ℕ). x * y) ns wide in omega (arith, e, law.room (length ws) k v b fit)

  -- the words past them
  pub rest_is : take (length ws - n * w) (drop (n * w) ws) ≡ drop (L.count b * L.width k v b) ws
  rest_is = take_rest ws (n * w) ∙ ap₂ (λ (x y : ℕ). drop (x * y) ws) ns wide

  -- the words of one block
  pub block_inside : (g : ℕ) → g < n → g * w + w ≤ length ws
  block_inside g h = omega (arith, inside_groups w n g h, blocks_inside)

  block_at : (g : ℕ) → take ((g * w + w) - g * w) (drop (g * w) ws) ≡ part (L.width k v b) g ws
  block_at g =
      let e : (g * w + w) - g * w ≡ w = omega arith in
      ap (λ t. take t (drop (g * w) ws)) e ∙ ap (λ t. take t (drop (g * t) ws)) wide

  -- one block more is given
  pub given_next : (g : ℕ) → ((i : ℕ) → i < g → Given L k v b (part (L.width k v b) i ws)) → Given L k v b (take ((g * w + w) - g * w) (drop (g * w) ws))
      → (i : ℕ) → i < g + 1 → Given L k v b (part (L.width k v b) i ws)
  given_next g before here i h =
      let le : i ≤ g = omega arith in
      ⊎_elim (λ e. subst (λ j. Given L k v b (part (L.width k v b) j ws)) (sym e) (subst (Given L k v b) (block_at g) here)) (λ less. before i less) (eq-or-lt_of_le le)

  -- the first that is wrong
  pub wrong_first : (g : ℕ) → g < n → ((i : ℕ) → i < g → Given L k v b (part (L.width k v b) i ws)) → (Given L k v b (take ((g * w + w) - g * w) (drop (g * w) ws)) → ⊥)
      → Answer L law ws k v b (Err (WrongBlock g))
  wrong_first g l before not = answered L law ws k v b (Err (WrongBlock g)) (record {
    fit = fit;
    before = before;
    here = inl (omega (arith, ns), λ given. not (subst (Given L k v b) (sym (block_at g)) given));
  })

  -- as the search has them, the blocks before the n-th
  each_given : (m : ℕ) → m ≤ n → AllWithin (λ x. Given L k v b (take ((x * w + w) - x * w) (drop (x * w) ws))) (range_with_len 0 n) 0 m
      → (i : ℕ) → i < m → Given L k v b (part (L.width k v b) i ws)
  each_given m le all i h =
      let at : get_or (range_with_len 0 n) i 0 ≡ i = get_or-range_with_len 0 n i 0 (omega arith) ∙ omega arith in
      subst (Given L k v b) (block_at i) (subst (λ x. Given L k v b (take ((x * w + w) - x * w) (drop (x * w) ws))) at (all i 0 (omega arith) h))

  -- none is wrong
  pub none_wrong : (r : Option ℕ) → ((g : ℕ) → r ≡ Some g → ⊥)
      → MatchOption r (AllWithin (λ x. Given L k v b (take ((x * w + w) - x * w) (drop (x * w) ws))) (range_with_len 0 n) 0 (length (range_with_len 0 n)))
      (λ x. (Given L k v b (take ((x * w + w) - x * w) (drop (x * w) ws)) → ⊥) × (i : ℕ) × (i < length (range_with_len 0 n)) × HoldsAt (λ y. y ≡ x) (range_with_len 0 n) i
      × AllWithin (λ x. Given L k v b (take ((x * w + w) - x * w) (drop (x * w) ws))) (range_with_len 0 n) 0 i)
      → (i : ℕ) → i < n → Given L k v b (part (L.width k v b) i ws)
  none_wrong None e m i h = each_given n (omega arith) (subst (λ t. AllWithin (λ x. Given L k v b (take ((x * w + w) - x * w) (drop (x * w) ws))) (range_with_len 0 n) 0 t) (length-range_with_len 0 n) m) i h
  none_wrong (Some x) e m i h = absurd (e x refl)

  -- one is the first that is wrong
  pub one_wrong : (r : Option ℕ) (g : ℕ) → r ≡ Some g
      → MatchOption r (AllWithin (λ x. Given L k v b (take ((x * w + w) - x * w) (drop (x * w) ws))) (range_with_len 0 n) 0 (length (range_with_len 0 n)))
      (λ x. (Given L k v b (take ((x * w + w) - x * w) (drop (x * w) ws)) → ⊥) × (i : ℕ) × (i < length (range_with_len 0 n)) × HoldsAt (λ y. y ≡ x) (range_with_len 0 n) i
      × AllWithin (λ x. Given L k v b (take ((x * w + w) - x * w) (drop (x * w) ws))) (range_with_len 0 n) 0 i)
      → Answer L law ws k v b (Err (WrongBlock g))
  one_wrong None g e m = let z : ◌≡◌ {A = ℕ} 0 1 = cc (e) in absurd (omega arith)
  one_wrong (Some x) g e m =
      let i = m.1 in
      let l : i < n = omega (arith, length-range_with_len 0 n, m.2) in
      let xi : x ≡ i = sym (m.3 0) ∙ get_or-range_with_len 0 n i 0 l ∙ omega arith in
      let xg : x ≡ g = cc (e) in
      let gi : g ≡ i = sym xg ∙ xi in
      answered L law ws k v b (Err (WrongBlock g)) (record {
        fit = fit;
        before = λ j h. each_given i (omega arith) m.4 j (omega (arith, gi));
        here = inl (omega (arith, gi, ns), λ given. m.0 (subst (λ t. Given L k v b (take ((t * w + w) - t * w) (drop (t * w) ws))) (sym xg) (subst (Given L k v b) (sym (block_at g)) given)));
      })
