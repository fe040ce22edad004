-- What stands against one more entry of a slot, and what a place of it says.
use Rattle.std.proofs.Common.{◌≡◌, ℕ, ◌<◌, Bool, true, false, eqb, List, length, get_or, Some, None, Err, Option, sym, ap, ◌∙◌, subst, ⊎_elim, arith}
use Rattle.std.specs.Option.{is_some, option_eq, MatchOption}
use Rattle.std.specs.List.{range_with_len, AllWithin, HoldsAt}
use Rattle.std.proofs.lemmas.Bool.{cases_lt, eq-eqb, eqb-true}
use Rattle.std.proofs.lemmas.List.FromFn.{length-range_with_len, get_or-range_with_len}
use Rattle.table.specs.declared.refusal.TableRefusal.TheVariants.{Held}
use Rattle.table.specs.Meaning.{value_in, weigh_held}
use Rattle.table.specs.Places.{First, Placed}
use Rattle.table.proofs.Slots.{first_value, none_apart, none_from}

-- a slot that holds the quotient
pub held_some : (C n : ℕ) (es : List (ℕ × ℕ)) (q : ℕ) (o : Option ℕ) → Placed es q o → is_some o ≡ true → Err Held ≡ weigh_held C n (value_in es q)
held_some C n es q (Some i) p e = ap (weigh_held C n) (sym (first_value es q i p))
held_some C n es q None p e = let z : ◌≡◌ {A = ℕ} 0 1 = cc (e) in absurd (omega arith)

-- a search that comes to place i
pub at_first : (es : List (ℕ × ℕ)) (q i : ℕ) (o : Option ℕ) → Placed es q o → true ≡ option_eq eqb o (Some i) → First es q i
at_first es q i None p e = let z : ◌≡◌ {A = ℕ} 0 1 = cc (e) in absurd (omega arith)
at_first es q i (Some x) p e = subst (First es q) (eqb-true x i (sym e)) p

-- a search that does not: the quotient stands first elsewhere, or nowhere
pub not_first : (es : List (ℕ × ℕ)) (q i : ℕ) (o : Option ℕ) → Placed es q o → false ≡ option_eq eqb o (Some i) → First es q i → ⊥
not_first es q i None p e f = none_apart es q p i f.inside f.here
not_first es q i (Some x) p e f =
    ⊎_elim
    (λ low. f.before x low p.here)
    (λ up. ⊎_elim
    (λ above. p.before i above f.here)
    (λ same. let z : ◌≡◌ {A = Bool} false true = e ∙ eq-eqb x i (omega arith) in let y : ◌≡◌ {A = ℕ} 0 1 = cc (z) in omega arith)
    (cases_lt i x))
    (cases_lt x i)

-- what a search of the places, one after the other, comes to
pub placed_found : (es : List (ℕ × ℕ)) (q n : ℕ) → n ≡ length es → (r : Option ℕ)
    → MatchOption r (AllWithin (λ x. (get_or es x (0, 0)).0 ≡ q → ⊥) (range_with_len 0 n) 0 (length (range_with_len 0 n)))
    (λ x. ((get_or es x (0, 0)).0 ≡ q) × (i : ℕ) × (i < length (range_with_len 0 n)) × HoldsAt (λ y. y ≡ x) (range_with_len 0 n) i × AllWithin (λ x. (get_or es x (0, 0)).0 ≡ q → ⊥) (range_with_len 0 n) 0 i)
    → Placed es q r
placed_found es q n ns None m = none_from es q (λ j h s.
    let l : j < n = omega (arith, ns) in
    let at : get_or (range_with_len 0 n) j 0 ≡ j = get_or-range_with_len 0 n j 0 l ∙ omega arith in
    m j 0 (omega arith) (omega (arith, length-range_with_len 0 n)) (ap (λ t. (get_or es t (0, 0)).0) at ∙ s))
placed_found es q n ns (Some x) m =
    let i = m.1 in
    let l : i < n = omega (arith, length-range_with_len 0 n, m.2) in
    let xi : x ≡ i = sym (m.3 0) ∙ get_or-range_with_len 0 n i 0 l ∙ omega arith in
    record {
      inside = omega (arith, xi, ns);
      here = m.0;
      before = λ j h s.
          let jl : j < n = omega (arith, xi) in
          let at : get_or (range_with_len 0 n) j 0 ≡ j = get_or-range_with_len 0 n j 0 jl ∙ omega arith in
          m.4 j 0 (omega arith) (omega (arith, xi)) (ap (λ t. (get_or es t (0, 0)).0) at ∙ s);
    }
