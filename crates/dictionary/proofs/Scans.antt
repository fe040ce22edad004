-- A run is judged place by place: the first place at which something stands against it.
use Rattle.std.proofs.Common.{◌≡◌, ℕ, zero, suc, ◌+◌, ◌<◌, ◌≤◌, [], ◌∷◌, ◌++◌, Some, None, Ok, Err, Option, Result, sym, refl, ap, ◌∙◌, subst, ⊎_elim, arith}
use Rattle.std.proofs.lemmas.List.{append_assoc, append-nil}
use Rattle.std.proofs.lemmas.Bool.{cases_eq}
use Rattle.std.proofs.lemmas.Result.{MatchResult-at_ok}
use Rattle.std.specs.Result.{IsErrAnd, MatchResult}
use Rattle.table.specs.Meaning.{value_in}
use Rattle.model.specs.declared.refusal.Refusal.{Refusal}
use Rattle.model.specs.declared.run_refusal.RunRefusal.{RunRefusal}
use Rattle.model.specs.Entries.{Entries, cancel_one, cancel_refusal, first_of, run_of, take_one, take_refusal}
use Rattle.model.proofs.Runs.{first_none}
use Rattle.dictionary.specs.Results.{reply}

-- what stands against the n places from i on, where `judge` says what stands against each
abbrev pub scan : (judge : ℕ → Option Refusal) → (i n : ℕ) → Option RunRefusal
scan judge i zero = None
scan judge i (suc n) = first_of i (scan judge (suc i) n) (judge i)

-- what a refusal says stands against it
pub reply_err : {E : Type 0} (o : Option E) (e : E) → reply o ≡ Err e → o ≡ Some e
reply_err None e is = let z : ◌≡◌ {A = ℕ} 0 1 = cc in absurd (omega arith)
reply_err (Some x) e is = cc

-- nothing stands against what is done
pub reply_ok : {E : Type 0} (o : Option E) → reply o ≡ Ok tt → o ≡ None
reply_ok None is = refl
reply_ok (Some x) is = let z : ◌≡◌ {A = ℕ} 0 1 = cc in absurd (omega arith)

-- an answer whose error is turned into another
pub turned : {A E D : Type 0} (Q : E → D → Type 0) (r : Result A E) (x : Result A D) (f : D) → x ≡ Err f → MatchResult r (λ u. x ≡ Ok u) (λ e. IsErrAnd x (Q e)) → (e : E) × (r ≡ Err e) × Q e f
turned Q (Ok u) x f is at = let z : ◌≡◌ {A = ℕ} 0 1 = cc in absurd (omega arith)
turned Q (Err e) x f is at = (e, refl, subst (λ y. IsErrAnd y (Q e)) is at)

-- and one whose value is kept
pub kept_ok : {A E D : Type 0} (Q : E → D → Type 0) (r : Result A E) (x : Result A D) (u : A) → x ≡ Ok u → MatchResult r (λ y. x ≡ Ok y) (λ e. IsErrAnd x (Q e)) → r ≡ Ok u
kept_ok {A} {E} {D} Q (Ok v) x u is at = let both : ◌≡◌ {A = Result A D} (Ok u) (Ok v) = sym is ∙ at in let same : u ≡ v = cc in ap Ok (sym same)
kept_ok Q (Err e) x u is at = absurd (subst (λ y. IsErrAnd y (Q e)) is at)

pub turned_ok : {A E D : Type 0} (Q : E → D → Type 0) (r : Result A E) (x : Result A D) (u v : A) → x ≡ Ok u → r ≡ Ok v → MatchResult r (λ y. x ≡ Ok y) (λ e. IsErrAnd x (Q e)) → u ≡ v
turned_ok {A} {E} {D} Q r x u v is ok at = let both : ◌≡◌ {A = Result A D} (Ok u) (Ok v) = sym is ∙ MatchResult-at_ok (λ y. x ≡ Ok y) (λ e. IsErrAnd x (Q e)) v ok at in cc

module _ (judge : ℕ → Option Refusal) where
  -- nothing, where nothing stands against any
  pub scan_none : (i n : ℕ) → ((j : ℕ) → i ≤ j → j < i + n → judge j ≡ None) → scan judge i n ≡ None
  scan_none i zero h = refl
  scan_none i (suc n) h = ap (first_of i (scan judge (suc i) n)) (h i (omega arith) (omega arith)) ∙ scan_none (suc i) n (λ j p q. h j (omega arith) (omega arith))

  -- the first place where something does
  pub scan_first : (i n j : ℕ) (e : Refusal) → i ≤ j → j < i + n → ((h : ℕ) → i ≤ h → h < j → judge h ≡ None) → judge j ≡ Some e → scan judge i n ≡ Some (record { place = j; why = e })
  scan_first i zero j e p q h is = absurd (omega arith)
  scan_first i (suc n) j e p q h is =
      ⊎_elim
      (λ same. ap (λ x. first_of i (scan judge (suc i) n) (judge x)) same ∙ ap (first_of i (scan judge (suc i) n)) is ∙ ap (λ x. Some (record { place = x; why = e })) same)
      (λ off.
      let less : i < j = omega arith in
      ap (first_of i (scan judge (suc i) n)) (h i (omega arith) less) ∙ scan_first (suc i) n j e (omega arith) (omega arith) (λ x r s. h x (omega arith) s) is)
      (cases_eq i j)

  -- nothing stands against any, where nothing does in all
  pub scan_clear : (i n : ℕ) → scan judge i n ≡ None → (j : ℕ) → i ≤ j → j < i + n → judge j ≡ None
  scan_clear i zero h j p q = absurd (omega arith)
  scan_clear i (suc n) h j p q =
      let both = first_none i (scan judge (suc i) n) (judge i) h in
      ⊎_elim
      (λ same. ap judge (sym same) ∙ both.0)
      (λ off. scan_clear (suc i) n both.1 j (omega arith) (omega arith))
      (cases_eq i j)

  -- the same of a run from place 0 on
  pub run_none : (n : ℕ) → ((j : ℕ) → j < n → judge j ≡ None) → scan judge 0 n ≡ None
  run_none n h = scan_none 0 n (λ j p q. h j (omega arith))

  pub run_first : (n j : ℕ) (e : Refusal) → j < n → ((h : ℕ) → h < j → judge h ≡ None) → judge j ≡ Some e → scan judge 0 n ≡ Some (record { place = j; why = e })
  run_first n j e less h is = scan_first 0 n j e (omega arith) (omega arith) (λ x p q. h x q) is

  pub run_clear : (n : ℕ) → scan judge 0 n ≡ None → (j : ℕ) → j < n → judge j ≡ None
  run_clear n h j less = scan_clear 0 n h j (omega arith) (omega arith)

  -- the answer where something stands against a place, and where nothing does
  pub run_stops : (n j : ℕ) (f : RunRefusal) (e : Refusal) → j < n → ((h : ℕ) → h < j → judge h ≡ None) → (r : Result (Unit {0}) Refusal) → r ≡ reply (judge j) → r ≡ Err e → f ≡ record { place = j; why = e }
      → ◌≡◌ {A = Result (Unit {0}) RunRefusal} (Err f) (reply (scan judge 0 n))
  run_stops n j f e less h r told is at = ap Err at ∙ sym (ap reply (run_first n j e less h (reply_err (judge j) e (sym told ∙ is))))

  pub run_goes : (n i : ℕ) → n ≤ i → ((h : ℕ) → h < i → judge h ≡ None) → ◌≡◌ {A = Result (Unit {0}) RunRefusal} (Ok tt) (reply (scan judge 0 n))
  run_goes n i all h = sym (ap reply (run_none n (λ j less. h j (omega arith))))

-- one more key at the end of a run
pub run_snoc : (m w i : ℕ) → run_of m w (suc i) ≡ run_of m w i ++ ((m + i, w) ∷ [])
run_snoc m w zero = let e : m ≡ m + 0 = omega arith in ap (λ x. (x, w) ∷ []) e
run_snoc m w (suc i) = let e : suc m + i ≡ m + suc i = omega arith in ap (λ r. (m, w) ∷ r) (run_snoc (suc m) w i ∙ ap (λ x. run_of (suc m) w i ++ ((x, w) ∷ [])) e)

-- and after a list
pub list_snoc : (l : Entries) (m w i : ℕ) → l ++ run_of m w (suc i) ≡ (l ++ run_of m w i) ++ ((m + i, w) ∷ [])
list_snoc l m w i = ap (λ r. l ++ r) (run_snoc m w i) ∙ sym (append_assoc l (run_of m w i) ((m + i, w) ∷ []))

-- take: what stands against place i, after the keys before it
abbrev pub take_at : (slot : ℕ → ℕ) (S C : ℕ) → Entries → (m w i : ℕ) → Option Refusal
take_at slot S C l m w i = take_one slot S C (l ++ run_of m w i) (m + i) (value_in (l ++ run_of m w i) (m + i))

-- a run to be taken, place by place
pub take_scan : (slot : ℕ → ℕ) (S C : ℕ) (l : Entries) (m w n : ℕ) → take_refusal slot S C l m w 0 n ≡ scan (take_at slot S C l m w) 0 n
take_scan slot S C l m w n =
    let e : m ≡ m + 0 = omega arith in
    ap (λ x. take_refusal slot S C x m w 0 n) (sym (append-nil l)) ∙ ap (λ x. take_refusal slot S C (l ++ []) x w 0 n) e ∙ from 0 n
  where
    from : (i n : ℕ) → take_refusal slot S C (l ++ run_of m w i) (m + i) w i n ≡ scan (take_at slot S C l m w) i n
    from i zero = refl
    from i (suc n) =
        let e : suc (m + i) ≡ m + suc i = omega arith in
        ap (λ r. first_of i r (take_at slot S C l m w i))
        (ap (λ x. take_refusal slot S C x (suc (m + i)) w (suc i) n) (sym (list_snoc l m w i))
        ∙ ap (λ x. take_refusal slot S C (l ++ run_of m w (suc i)) x w (suc i) n) e
        ∙ from (suc i) n)

-- cancel: what stands against place i
abbrev pub cancel_at : Entries → (m w i : ℕ) → Option Refusal
cancel_at l m w i = cancel_one w (value_in l (m + i))

-- a run to be cancelled, place by place
pub cancel_scan : (l : Entries) (m w n : ℕ) → cancel_refusal l m w 0 n ≡ scan (cancel_at l m w) 0 n
cancel_scan l m w n = let e : m ≡ m + 0 = omega arith in ap (λ x. cancel_refusal l x w 0 n) e ∙ from 0 n
  where
    from : (i n : ℕ) → cancel_refusal l (m + i) w i n ≡ scan (cancel_at l m w) i n
    from i zero = refl
    from i (suc n) =
        let e : suc (m + i) ≡ m + suc i = omega arith in
        ap (λ r. first_of i r (cancel_at l m w i)) (ap (λ x. cancel_refusal l x w (suc i) n) e ∙ from (suc i) n)
