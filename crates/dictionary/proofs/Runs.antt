-- A run judged whole: how far it reaches, what is answered, and the list after it.
use Rattle.std.proofs.Common.{◌≡◌, ℕ, zero, suc, ◌+◌, ◌-◌, ◌^◌, ◌<◌, ◌≤◌, min, cond, ltb, Some, None, Ok, Err, Option, Result, sym, refl, ap, ◌∙◌, subst, ⊎_elim, arith}
use Rattle.std.proofs.lemmas.Bool.{cases_lt, le-ltb, lt-ltb}
use Rattle.table.specs.declared.refusal.TableRefusal.TheVariants.{OutOfRange}
use Rattle.model.specs.declared.refusal.Refusal.TheVariants.{Table}
use Rattle.model.specs.declared.run_refusal.RunRefusal.{RunRefusal}
use Rattle.model.specs.Entries.{Entries}
use Rattle.dictionary.proofs.Scans.{reply_err, reply_ok}
use Rattle.dictionary.specs.Results.{InReach, list_after, past, reach, reply, unreached}

-- the value number is none
pub reach_value : (k v m n w : ℕ) → 2 ^ v ≤ w → 0 ≡ reach k v m n w
unfolding reach
reach_value k v m n w h = sym (ap (λ t. cond t (min n (2 ^ k - m)) 0) (le-ltb w (2 ^ v) h))

-- the value number is one
pub reach_keys : (k v m n w : ℕ) → w < 2 ^ v → min n (2 ^ k - m) ≡ reach k v m n w
unfolding reach
reach_keys k v m n w h = sym (ap (λ t. cond t (min n (2 ^ k - m)) 0) (lt-ltb w (2 ^ v) h))

-- what is done is not refused
pub not_both : {A E : Type 0} (r : Result A E) (a : A) (e : E) → r ≡ Ok a → r ≡ Err e → ⊥
not_both r a e p q = let z : ◌≡◌ {A = ℕ} 0 1 = cc in omega arith

-- a run whose first c keys are judged, where it reaches c: r says what stands against those, and s whether it reaches all
module _ (c n : ℕ) (o : Option RunRefusal) (r s : Result (Unit {0}) RunRefusal) (judged : r ≡ reply o) (reached : s ≡ reply (unreached c (ltb c n))) where
  -- it is refused among them
  pub past_refused : (e : RunRefusal) → r ≡ Err e → past c n o ≡ Some e
  past_refused e is = ap (past c n) (reply_err o e (sym judged ∙ is))

  -- or after them
  pub past_short : (e : RunRefusal) → r ≡ Ok tt → s ≡ Err e → past c n o ≡ Some e
  past_short e ok is = ap (past c n) (reply_ok o (sym judged ∙ ok)) ∙ reply_err (unreached c (ltb c n)) e (sym reached ∙ is)

  -- or not at all
  pub past_whole : r ≡ Ok tt → s ≡ Ok tt → past c n o ≡ None
  past_whole ok all = ap (past c n) (reply_ok o (sym judged ∙ ok)) ∙ reply_ok (unreached c (ltb c n)) (sym reached ∙ all)

-- what is done reaches all
pub all_reached : (c n : ℕ) → c ≤ n → ◌≡◌ {A = Result (Unit {0}) RunRefusal} (Ok tt) (reply (unreached c (ltb c n))) → c ≡ n
all_reached c n most is = ⊎_elim
    (λ short. let z : ◌≡◌ {A = Result (Unit {0}) RunRefusal} (Ok tt) (Err (record { place = c; why = Table OutOfRange })) = is ∙ ap (λ t. reply (unreached c t)) (lt-ltb c n short) in absurd (not_both _ tt _ refl z))
    (λ all. omega arith)
    (cases_lt c n)

-- what an operation on a run answers and leaves: whole says what stands against it, of the list that the table holds, and new is the list without anything
pub record Ends {T : Type 0} (Holds : T → Entries → Type 0) (whole : Entries → Option RunRefusal) (new : Entries → Entries) (t u : T) (x : Result (Unit {0}) RunRefusal) : Type 0 where
  pub value : (l : Entries) → Holds t l → x ≡ reply (whole l)
  pub after : (l : Entries) → Holds t l → Holds u (list_after l (new l) (whole l))
  pub kept : (l : Entries) → Holds t l → (e : RunRefusal) → x ≡ Err e → u ≡ t

-- of the n keys of a run c are reached and judged: r says what stands against those, s whether they are all, and x is the answer
module _ {T : Type 0} (Holds : T → Entries → Type 0) (judge : Entries → ℕ → Option RunRefusal) (new : Entries → ℕ → Entries) (c n : ℕ) (most : c ≤ n) (t : T) (r s x : Result (Unit {0}) RunRefusal)
    (judged : (l : Entries) → Holds t l → r ≡ reply (judge l c)) (reached : s ≡ reply (unreached c (ltb c n))) where
  -- one that is refused leaves the table
  refused : (e : RunRefusal) → x ≡ Err e → ((l : Entries) → Holds t l → past c n (judge l c) ≡ Some e) → Ends Holds (λ l. past c n (judge l c)) (λ l. new l n) t t x
  refused e is stands = record {
    value = λ l st. is ∙ sym (ap reply (stands l st));
    after = λ l st. subst (λ o. Holds t (list_after l (new l n) o)) (sym (stands l st)) st;
    kept = λ l st e same. refl;
  }

  pub ends_refused : (e : RunRefusal) → r ≡ Err e → x ≡ Err e → Ends Holds (λ l. past c n (judge l c)) (λ l. new l n) t t x
  ends_refused e at is = refused e is (λ l st. past_refused c n (judge l c) r s (judged l st) reached e at)

  pub ends_short : (e : RunRefusal) → r ≡ Ok tt → s ≡ Err e → x ≡ Err e → Ends Holds (λ l. past c n (judge l c)) (λ l. new l n) t t x
  ends_short e ok at is = refused e is (λ l st. past_short c n (judge l c) r s (judged l st) reached e ok at)

  -- and one that is not is done
  pub ends_done : (u : T) → r ≡ Ok tt → s ≡ Ok tt → ((l : Entries) → Holds t l → judge l c ≡ None → x ≡ Ok tt) → ((l : Entries) → Holds t l → judge l c ≡ None → Holds u (new l c))
      → Ends Holds (λ l. past c n (judge l c)) (λ l. new l n) t u x
  ends_done u ok all says then =
      let none : (l : Entries) → Holds t l → judge l c ≡ None = λ l st. reply_ok (judge l c) (sym (judged l st) ∙ ok) in
      let whole : (l : Entries) → Holds t l → past c n (judge l c) ≡ None = λ l st. past_whole c n (judge l c) r s (judged l st) reached ok all in
      let same : c ≡ n = all_reached c n most (sym all ∙ reached) in
      record {
        value = λ l st. says l st (none l st) ∙ sym (ap reply (whole l st));
        after = λ l st. subst (λ o. Holds u (list_after l (new l n) o)) (sym (whole l st)) (subst (λ y. Holds u (new l y)) same (then l st (none l st)));
        kept = λ l st e is. absurd (not_both x tt e (says l st (none l st)) is);
      }

-- what is true of two things is true of two that are the same
pub of_both : {X Y : Type 0} (F : X → Y → Type 0) {a b : X} {c d : Y} → a ≡ b → c ≡ d → F a c → F b d
of_both F {a} {b} {c} {d} p q h = subst (λ x. F x d) p (subst (λ y. F a y) q h)

-- a run that is wholly in reach
pub reach_whole : (k v m n w : ℕ) → InReach k v m n w → reach k v m n w ≡ n
reach_whole k v m zero w h = ⊎_elim (λ small. sym (reach_keys k v m 0 w small) ∙ omega arith) (λ over. sym (reach_value k v m 0 w over)) (cases_lt w (2 ^ v))
reach_whole k v m (suc n) w h =
    let last = h n (omega arith) in
    let inside : m + n < 2 ^ k = last.0 in
    let all : min (suc n) (2 ^ k - m) ≡ suc n = omega arith in
    sym (reach_keys k v m (suc n) w last.1) ∙ all

-- it is judged by what stands against its keys alone
pub judged_whole : (k v m n w : ℕ) (judge : ℕ → Option RunRefusal) → InReach k v m n w → past (reach k v m n w) n (judge (reach k v m n w)) ≡ judge n
judged_whole k v m n w judge h = ap (λ c. past c n (judge c)) (reach_whole k v m n w h) ∙ end (judge n)
  where
    end : (o : Option RunRefusal) → past n n o ≡ o
    end (Some e) = refl
    end None = ap (unreached n) (le-ltb n n (omega arith))
