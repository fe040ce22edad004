-- A quotient looked for among the words of entries.
use Rattle.std.proofs.Common.{◌≡◌, ℕ, ◌%◌, ◌^◌, ◌<◌, ◌≤◌, List, map, length, get_or, take, drop, Some, None, Option, sym, ap, ◌∙◌, subst, arith}
use Rattle.std.specs.Option.{MatchOption}
use Rattle.std.specs.List.{AllWithin, HoldsAt}
use Rattle.std.proofs.lemmas.List.{length-map, get_or-map}
use Rattle.table.specs.Meaning.{value_in}
use Rattle.table.specs.Places.{First, Placed}
use Rattle.table.proofs.Slots.{none_from}
use Rattle.blocks.specs.PlainLayout.{entries_of, entry_of}

module _ (xs : List ℕ) (q i : ℕ) where
  -- the quotient at a place
  at_is : (j : ℕ) → j < length xs → (get_or (map entry_of xs) j (0, 0)).0 ≡ get_or xs j 0 % 2 ^ 32
  at_is j h = ap (λ t. t.0) (get_or-map entry_of xs j 0 (0, 0) h)

  -- found, and not before
  pub place_here : i < length xs → get_or xs i 0 % 2 ^ 32 ≡ q → ((j : ℕ) → j < i → get_or xs j 0 % 2 ^ 32 ≡ q → ⊥) → First (map entry_of xs) q i
  place_here h e inv = record {
    inside = omega (arith, length-map xs entry_of);
    here = at_is i h ∙ e;
    before = λ j l s. let jl : j < length xs = omega arith in inv j l (sym (at_is j jl) ∙ s);
  }

  -- not found up to the last
  pub place_none : length xs ≤ i → ((j : ℕ) → j < i → get_or xs j 0 % 2 ^ 32 ≡ q → ⊥) → value_in (map entry_of xs) q ≡ None
  place_none h inv = none_from (map entry_of xs) q (λ j l s.
      let jl : j < length xs = omega (arith, length-map xs entry_of) in inv j (omega arith) (sym (at_is j jl) ∙ s))

-- what a search among the words comes to
pub placed : (xs : List ℕ) (q : ℕ) (o : Option ℕ)
    → MatchOption o (AllWithin (λ w. w % 2 ^ 32 ≡ q → ⊥) xs 0 (length xs)) (λ i. (i < length xs) × HoldsAt (λ w. w % 2 ^ 32 ≡ q) xs i × AllWithin (λ w. w % 2 ^ 32 ≡ q → ⊥) xs 0 i)
    → Placed (map entry_of xs) q o
placed xs q None m = place_none xs q (length xs) (omega arith) (λ j l. m j 0 (omega arith) l)
placed xs q (Some i) m = place_here xs q i m.0 (m.1 0) (λ j l. m.2 j 0 (omega arith) l)

-- and among the entries of a block
pub placed_block : (block : List ℕ) (q : ℕ) (xs : List ℕ) → xs ≡ take (get_or block 0 0) (drop 1 block) → (o : Option ℕ) → Placed (map entry_of xs) q o → Placed (entries_of block) q o
unfolding entries_of
placed_block block q xs held o p = subst (λ t. Placed (map entry_of t) q o) held p
