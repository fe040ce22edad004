-- Digit after digit of a number.
use Rattle.std.proofs.Common.{◌≡◌, ℕ, List, [], ◌∷◌, Some, None, Option, refl, sym, ap, subst, ◌∙◌}
use Rattle.std.specs.List.{FoldsTo}
use Rattle.std.specs.Option.{MatchOption}
use Rattle.std.specs.Iterator.{AlwaysYields, Yields, TryFoldTurn, TryFoldsItems}
use Rattle.std.specs.Fn.{Called}
use Rattle.std.specs.ControlFlow.{continue_value}
use Rattle.std.proofs.lemmas.Iterator.{YieldsList}
use denote.Param.Members.{Mut}
use Rattle.arrivals.specs.Lines.{digit_after, decimal_from}

-- a digit is read, and the rest goes on from there
digit_more : (n m b : ℕ) (bs : List ℕ) → digit_after n b ≡ Some m → decimal_from n (b ∷ bs) ≡ decimal_from m bs
unfolding decimal_from
digit_more n m b bs e = ap (λ (o : Option ℕ). elim o [ None ↦ None | Some k ↦ decimal_from k bs ]) e

-- what is no digit, or one too many, leaves no number
digit_none : (n b : ℕ) (bs : List ℕ) → digit_after n b ≡ None → decimal_from n (b ∷ bs) ≡ None
unfolding decimal_from
digit_none n b bs e = ap (λ (o : Option ℕ). elim o [ None ↦ None | Some k ↦ decimal_from k bs ]) e

-- all digits are read
digit_end : (n : ℕ) → decimal_from n [] ≡ Some n
unfolding decimal_from
digit_end n = refl

-- what `try_fold` gives that reads digit after digit
module _ {S A F : Type 0} (E : Type 0) (steps : S → Option A → S → Type 0) (v : A → ℕ) (g : Mut F (ℕ × (A × Unit {0})) (Option ℕ)) (f : F)
    (reads : (n : ℕ) (x : A) (w : Option ℕ) (q : F) → Called g f (n, (x, tt)) w q → (q ≡ f) × (w ≡ digit_after n (v x))) where
  abbrev Ends : Option A → F → ℕ → Option ℕ → Type 0
  Ends o q a r = MatchOption o (r ≡ Some a) (λ x. (w : Option ℕ) × (h : F) × (e : E) × Called g q (a, (x, tt)) w h × (w ≡ None) × (r ≡ None))

  digits_read : (xs : List A) (o : Option A) (q q' : F) (n a : ℕ) (s t u : S) (all : List ℕ) (r : Option ℕ) → q ≡ f → AlwaysYields steps v s all → Yields steps s xs t → steps t o u
      → FoldsTo {P = F × ℕ} (TryFoldTurn {E = E} g (λ w c. w ≡ continue_value c)) (q, n) xs (q', a) → Ends o q' a r → r ≡ decimal_from n all
  digits_read [] None q q' n a s t u [] r is e y st fo en = en ∙ ap (λ (p : F × ℕ). Some p.1) (sym fo) ∙ sym (digit_end n)
  digits_read [] None q q' n a s t u (b ∷ bs) r is e y st fo en = absurd (e.0 u (subst (λ z. steps z None u) (sym y) st))
  digits_read [] (Some x) q q' n a s t u [] r is e y st fo en = absurd (e x u (subst (λ z. steps z (Some x) u) (sym y) st))
  digits_read [] (Some x) q q' n a s t u (b ∷ bs) r is e y st fo en =
      let h = e.1 x u (subst (λ z. steps z (Some x) u) (sym y) st) in
      let here = subst (λ (p : F × ℕ). Called g p.0 (p.1, (x, tt)) en.0 en.1) (sym fo) en.3 in
      let k = reads n x en.0 en.1 (subst (λ z. Called g z (n, (x, tt)) en.0 en.1) is here) in
      en.5 ∙ sym (digit_none n b bs (ap (digit_after n) (sym h.0) ∙ sym k.1 ∙ en.4))
  digits_read (x ∷ xs) o q q' n a s t u [] r is e y st fo en = absurd (e x y.0 y.1)
  digits_read (x ∷ xs) o q q' n a s t u (b ∷ bs) r is e y st fo en =
      let h = e.1 x y.0 y.1 in
      let k = reads n x fo.1.0 fo.0.0 (subst (λ z. Called g z (n, (x, tt)) fo.1.0 fo.0.0) is fo.1.1) in
      digits_read xs o fo.0.0 q' fo.0.1 a y.0 t u bs r k.0 h.1 y.2 st fo.2 en
      ∙ sym (digit_more n fo.0.1 b bs (ap (digit_after n) (sym h.0) ∙ sym k.1 ∙ fo.1.2))

pub number_read : {S A F E : Type 0} {steps : S → Option A → S → Type 0} {v : A → ℕ} {g : Mut F (ℕ × (A × Unit {0})) (Option ℕ)} {s : S} {all : List ℕ} (u : S) (f : F) (r : Option ℕ)
    → TryFoldsItems steps g (λ w c. w ≡ continue_value {B = E} c) (λ e w. w ≡ None) s f 0 r u → YieldsList steps v s all
    → ((n : ℕ) (x : A) (w : Option ℕ) (q : F) → Called g f (n, (x, tt)) w q → (q ≡ f) × (w ≡ digit_after n (v x))) → r ≡ decimal_from 0 all
number_read {S} {A} {F} {E} {steps} {v} {g} {s} {all} u f r d y reads =
    digits_read E steps v g f reads d.0 d.1 f d.2 0 d.3 s d.4.0 u all r refl y.runs d.4.1 d.4.2 d.5 d.6
