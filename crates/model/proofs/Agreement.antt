-- Machines with equal codings reply alike until one of them has no room.
use Rattle.std.proofs.Common.{◌≡◌, ℕ, zero, suc, ◌/◌, Bool, true, false, cond, eqb, [], ◌∷◌, ◌++◌, Some, None, Option, sym, refl, ap, ◌∙◌, subst, arith}
use Rattle.std.proofs.lemmas.Bool.{true≢false}
use Rattle.std.proofs.lemmas.Bool.Decides.{nat_tests}
use Rattle.table.specs.Meaning.{value_in}
use Rattle.table.specs.Slots.{full}
use Rattle.model.specs.declared.call.Call.{Call}
use Rattle.model.specs.declared.call.Call.TheVariants.{At, Cancel, Count, Enlarge, Find, Open, Take}
use Rattle.model.specs.declared.run_refusal.RunRefusal.{RunRefusal}
use Rattle.model.specs.Entries.{Entries, cancel_refusal, first_of, group_load, run_of, take_one, take_refusal, take_room, within_run, without_run}
use Rattle.model.specs.Model.{Fixed, State, declined_at, kind, opened, slot_of}
use Rattle.model.specs.Step.{Asked, answer, asked, find_reply, no_key, numbered, read_find, read_key, read_keys, read_run, run_end, run_length, step, take_judged, to_cancel, to_take}
use Rattle.model.specs.History.{answers_four, from_key}
use Rattle.model.specs.Laws.{Follows, SameCodings}
use Rattle.model.proofs.Reading.{read_cases}
use Rattle.model.proofs.Runs.{run_first, run_later, value_push}

-- a run's refusal that is 4
abbrev pub no_room : Option RunRefusal → Bool
no_room None = false
no_room (Some e) = answers_four (declined_at e)

-- whatever the slots, the groups and the limits are
module _ (slot slot' : ℕ → ℕ) (S S' C C' : ℕ) where
  -- one key that is free, with room or not
  room_same : (i : ℕ) (x y : Option RunRefusal) → (no_room x ≡ false → no_room y ≡ false → x ≡ y) → (t u : Bool)
      → no_room (first_of i x (take_room t)) ≡ false → no_room (first_of i y (take_room u)) ≡ false → first_of i x (take_room t) ≡ first_of i y (take_room u)
  room_same i x y ih false false p q = ih p q
  room_same i x y ih false true p q = absurd (true≢false q)
  room_same i x y ih true u p q = absurd (true≢false p)

  -- one key, held or not
  one_same : (l r : Entries) (m i : ℕ) (x y : Option RunRefusal) (o : Option ℕ) → (o ≡ None → no_room x ≡ false → no_room y ≡ false → x ≡ y)
      → no_room (first_of i x (take_one slot S C l m o)) ≡ false → no_room (first_of i y (take_one slot' S' C' r m o)) ≡ false
      → first_of i x (take_one slot S C l m o) ≡ first_of i y (take_one slot' S' C' r m o)
  one_same l r m i x y (Some u) ih p q = refl
  one_same l r m i x y None ih p q = room_same i x y (ih refl) (full C (group_load slot S l (slot m / S))) (full C' (group_load slot' S' r (slot' m / S'))) p q

  -- but for 4, what stands against a take follows from what is held at its keys
  take_same : (l r : Entries) (m w i n : ℕ) → ((x : ℕ) → within_run m n x ≡ true → value_in l x ≡ value_in r x)
      → no_room (take_refusal slot S C l m w i n) ≡ false → no_room (take_refusal slot' S' C' r m w i n) ≡ false
      → take_refusal slot S C l m w i n ≡ take_refusal slot' S' C' r m w i n
  take_same l r m w i zero agree p q = refl
  take_same l r m w i (suc n) agree p q =
      let l' = l ++ ((m, w) ∷ []) in
      let r' = r ++ ((m, w) ∷ []) in
      let y = take_refusal slot' S' C' r' (suc m) w (suc i) n in
      let same : value_in l m ≡ value_in r m = agree m (run_first m n) in
      one_same l r m i (take_refusal slot S C l' (suc m) w (suc i) n) y (value_in l m)
      (λ none. take_same l' r' (suc m) w (suc i) n (λ x h. value_push l m w x none ∙ ap (cond (eqb m x) (Some w)) (agree x (run_later m n x h)) ∙ sym (value_push r m w x (sym same ∙ none))))
      p (subst (λ o. no_room (first_of i y (take_one slot' S' C' r m o)) ≡ false) (sym same) q)
      ∙ ap (λ o. first_of i y (take_one slot' S' C' r m o)) same

-- what stands against a cancel follows from what is held at its keys
cancel_same : (l r : Entries) (m w i n : ℕ) → ((x : ℕ) → within_run m n x ≡ true → value_in l x ≡ value_in r x) → cancel_refusal l m w i n ≡ cancel_refusal r m w i n
cancel_same l r m w i zero agree = refl
cancel_same l r m w i (suc n) agree =
    let now : value_in l m ≡ value_in r m = agree m (run_first m n) in
    let ih = cancel_same l r (suc m) w (suc i) n (λ x h. agree x (run_later m n x h)) in
    rw (now, ih)

-- the reply to a run, where it is refused or not
end_reply : (t u : State) (n : ℕ) (l r : Entries) (o : Option RunRefusal) → (run_end t n l o).1 ≡ (run_end u n r o).1
end_reply t u n l r (Some e) = refl
end_reply t u n l r None = refl

-- it is 4 exactly where the refusal is
pub end_room : (t : State) (n : ℕ) (l : Entries) (o : Option RunRefusal) → answers_four (run_end t n l o).1 ≡ no_room o
end_room t n l (Some e) = refl
end_room t n l None = refl

-- a number that is read, and the numbers of its run
from_read : (key : Option ℕ) (m n : ℕ) → key ≡ Some m → (P : ℕ → Type 0) → ((x : ℕ) → from_key key n x ≡ true → P x) → (x : ℕ) → within_run m n x ≡ true → P x
from_read key m n km P all x h = all x (ap (λ o. from_key o n x) km ∙ h)

module _ {K V : Type 0} (f g : Fixed K V) (same : SameCodings f g) where
  -- the same number is no key's
  no_key_same : (m i n : ℕ) → no_key f m i n ≡ no_key g m i n
  no_key_same m i zero = refl
  no_key_same m i (suc n) = rw (same.keys.item m, no_key_same (suc m) (suc i) n)

  -- a key that is known or not is read alike
  read_key_same : (make : (m n w : ℕ) → Asked) (n : ℕ) (value o : Option ℕ) → read_key f make n value o ≡ read_key g make n value o
  read_key_same make n value None = refl
  read_key_same make n value (Some m) = ap (read_keys make m n value) (no_key_same m 0 n)

  -- a run is read alike
  read_run_same : (make : (m n w : ℕ) → Asked) (key : K) (n : ℕ) (value : V) (t : Bool)
      → read_run f make (f.keys.number key) n (f.values.number value) t ≡ read_run g make (g.keys.number key) n (g.values.number value) t
  read_run_same make key n value false = refl
  read_run_same make key n value true =
      ap (λ o. read_key f make n o (f.keys.number key)) (same.values.number value)
      ∙ ap (read_key f make n (g.values.number value)) (same.keys.number key)
      ∙ read_key_same make n (g.values.number value) (g.keys.number key)

  -- a call comes to both machines alike
  pub asked_same : (c : Call K V) → asked f (numbered f c) ≡ asked g (numbered g c)
  asked_same (Open b) = refl
  asked_same (Take key n value) = read_run_same to_take key n value (run_length n)
  asked_same (Cancel key n value) = read_run_same to_cancel key n value (run_length n)
  asked_same (Find key) = ap read_find (same.keys.number key)
  asked_same Count = refl
  asked_same (At i) = refl
  asked_same Enlarge = refl

  -- what stands against a take in both machines, where neither has it full
  pub judged_same : (t u : State) (m n w : ℕ) → ((x : ℕ) → within_run m n x ≡ true → value_in t.list x ≡ value_in u.list x)
      → answers_four (answer f (opened t) (to_take m n w)).1 ≡ false → answers_four (answer g (opened u) (to_take m n w)).1 ≡ false
      → take_judged f t m n w ≡ take_judged g u m n w
  judged_same t u m n w agree p q =
      take_same (slot_of f t.b) (slot_of g u.b) (kind f t.side).group (kind g u.side).group (kind f t.side).limit (kind g u.side).limit t.list u.list m w 0 n agree
      (sym (end_room t n (t.list ++ run_of m w n) (take_judged f t m n w)) ∙ p)
      (sym (end_room u n (u.list ++ run_of m w n) (take_judged g u m n w)) ∙ q)

  -- the reply to a take
  take_follows : (t u : State) (m n w : ℕ) → ((x : ℕ) → within_run m n x ≡ true → value_in t.list x ≡ value_in u.list x)
      → answers_four (answer f (opened t) (to_take m n w)).1 ≡ false → answers_four (answer g (opened u) (to_take m n w)).1 ≡ false
      → (answer f (opened t) (to_take m n w)).1 ≡ (answer g (opened u) (to_take m n w)).1
  take_follows t u m n w agree p q =
      end_reply t u n (t.list ++ run_of m w n) (u.list ++ run_of m w n) (take_judged f t m n w)
      ∙ ap (λ o. (run_end u n (u.list ++ run_of m w n) o).1) (judged_same t u m n w agree p q)

  -- the reply to a cancel
  cancel_follows : (t u : State) (m n w : ℕ) → ((x : ℕ) → within_run m n x ≡ true → value_in t.list x ≡ value_in u.list x)
      → (answer f (opened t) (to_cancel m n w)).1 ≡ (answer g (opened u) (to_cancel m n w)).1
  cancel_follows t u m n w agree =
      end_reply t u n (without_run m n t.list) (without_run m n u.list) (cancel_refusal t.list m w 0 n)
      ∙ ap (λ o. (run_end u n (without_run m n u.list) o).1) (cancel_same t.list u.list m w 0 n agree)

  -- the reply to a find
  find_follows : (t u : State) (o : Option ℕ) → ((x : ℕ) → from_key o 1 x ≡ true → value_in t.list x ≡ value_in u.list x)
      → (answer f (opened t) (read_find o)).1 ≡ (answer g (opened u) (read_find o)).1
  find_follows t u None agree = refl
  find_follows t u (Some m) agree = ap find_reply (agree m (itself m))
    where
      itself : (m : ℕ) → within_run m 1 m ≡ true
      itself m = grind (arith, nat_tests)

  -- a reply to take, cancel or find other than 4 follows from the codings and from what is held at the keys that it covers
  pub follows : Follows f g
  follows t u (Open b) agree p q = absurd agree
  follows t u (Take key n value) agree p q =
      let F : Asked → Type 0 = λ a. answers_four (answer f (opened t) a).1 ≡ false → answers_four (answer g (opened u) a).1 ≡ false → (answer f (opened t) a).1 ≡ (answer g (opened u) a).1 in
      let all = read_cases f to_take (f.keys.number key) n (f.values.number value) F (λ e four p q. refl)
      (λ m w km vm keys. take_follows t u m n w (from_read (f.keys.number key) m n km (λ x. value_in t.list x ≡ value_in u.list x) agree)) in
      subst (λ a. answers_four (answer g (opened u) a).1 ≡ false → (step f (opened t) (Take key n value)).1 ≡ (answer g (opened u) a).1) (asked_same (Take key n value)) (all p) q
  follows t u (Cancel key n value) agree p q =
      let F : Asked → Type 0 = λ a. (answer f (opened t) a).1 ≡ (answer g (opened u) a).1 in
      let all = read_cases f to_cancel (f.keys.number key) n (f.values.number value) F (λ e four. refl)
      (λ m w km vm keys. cancel_follows t u m n w (from_read (f.keys.number key) m n km (λ x. value_in t.list x ≡ value_in u.list x) agree)) in
      subst (λ a. (step f (opened t) (Cancel key n value)).1 ≡ (answer g (opened u) a).1) (asked_same (Cancel key n value)) all
  follows t u (Find key) agree p q =
      subst (λ a. (step f (opened t) (Find key)).1 ≡ (answer g (opened u) a).1) (asked_same (Find key)) (find_follows t u (f.keys.number key) agree)
  follows t u Count agree p q = absurd agree
  follows t u (At i) agree p q = absurd agree
  follows t u Enlarge agree p q = absurd agree
