-- A call that goes to the table in use, and what the machine does with it.
use Rattle.std.proofs.Common.{◌≡◌, ℕ, ◌+◌, ◌^◌, ◌<◌, ◌≤◌, Bool, true, false, leb, length, IsErrAnd, Some, None, Ok, Err, Option, Result, sym, refl, ap, ◌∙◌, subst, arith, pow_mono}
use Rattle.std.proofs.lemmas.Result.{err_from_is_err_and}
use Rattle.std.proofs.lemmas.Bool.{and_parts, leb-true, true≢false}
use Rattle.coding.specs.declared.Coding as coding
use Rattle.permutation.specs.declared.Permutation as permutation
use Rattle.table.specs.declared.table.Table as table
use Rattle.model.specs.declared.answer.Answer.{Answer}
use Rattle.model.specs.declared.answer.Answer.TheVariants.{Number, Refused, RefusedAt}
use Rattle.model.specs.declared.call.Call.{Call}
use Rattle.model.specs.declared.call.Call.TheVariants.{Enlarge}
use Rattle.model.specs.declared.refusal.Refusal.{Refusal}
use Rattle.model.specs.declared.refusal.Refusal.TheVariants.{Closed}
use Rattle.model.specs.declared.run_refusal.RunRefusal.{RunRefusal}
use Rattle.model.specs.Entries.{Entries}
use Rattle.model.specs.History.{accepted}
use Rattle.model.specs.Laws.{LawfulCoding}
use Rattle.model.specs.Model.{Fixed, Model, Reply, State, answered, closed, declined, opened, other}
use Rattle.model.specs.Step.{Asked, enlarge_fit, enlarge_room, larger_fits, read_key, read_keys, read_run, read_value, room_judged, run_end, run_length, step}
use Rattle.model.proofs.Reading.{keys_fit}
use Rattle.dictionary.specs.Results.{moved, reply}
use Rattle.register.specs.declared.side.Side as sides
use Rattle.register.specs.declared.side.Side.TheVariants.{First, Second}
use Rattle.register.specs.declared.in_use.InUse.{InUse}
use Rattle.dictionary.specs.declared.run.Run.{Run}
use Rattle.register.specs.declared.state.Register.{Register}
use Rattle.register.specs.Fixed.{fixed}
use Rattle.register.specs.Stands.{Stands, side_of}
use Rattle.register.specs.Numbers.{Chosen, Finds, MoveEnds, Reached, RunEnds, counted, enlarged, other_side, relisted, reopened}
use Rattle.register.specs.Answers.{number_answer, run_answer}
use Rattle.register.specs.Reading.{Good, Reads}
use Rattle.register.specs.Promise.{Steps, reply as said}

-- what stands against a run, from its answer
pub reply_err : (o : Option RunRefusal) (e : RunRefusal) → Err e ≡ reply o → o ≡ Some e
reply_err None e h = let z : ◌≡◌ {A = ℕ} 0 1 = cc in absurd (omega arith)
reply_err (Some d) e h = cc

pub reply_ok : (o : Option RunRefusal) → Ok tt ≡ reply o → o ≡ None
reply_ok None h = refl
reply_ok (Some d) h = let z : ◌≡◌ {A = ℕ} 0 1 = cc in absurd (omega arith)

-- what was done is one thing
same_ok : {X E : Type 0} (r : Result X E) (x y : X) → r ≡ Ok x → r ≡ Ok y → x ≡ y
same_ok r x y p q = cc

same_err : (d x : Refusal) → ◌≡◌ {A = Result (Unit {0}) Refusal} (Err x) (Err d) → d ≡ x
same_err d x p = cc

not_both : {X E : Type 0} (r : Result X E) (x : X) (e : E) → r ≡ Ok x → r ≡ Err e → ⊥
not_both r x e p q = let z : ◌≡◌ {A = ℕ} 0 1 = cc in omega arith

-- the exit of a `?`
pub passed_on : {X E : Type 0} (x : Result X E) (e : E) → IsErrAnd x (λ y. y ≡ e) → x ≡ Err e
passed_on {X} {E} x e h =
    let p = err_from_is_err_and {Q = λ (y : E). y ≡ e} x h in
    let exit : x ≡ Err p.0 = p.1 in
    let kind : p.0 ≡ e = p.2 in
    exit ∙ ap Err kind

-- the length of a run, from its test
pub run_most : (n : ℕ) → true ≡ run_length n → n ≤ 64
run_most n h = leb-true n 64 (and_parts (leb 1 n) (leb n 64) (sym h)).1

-- what follows at one number follows at an equal one
pub carried : (Q R : ℕ → Type 0) {a b : ℕ} → a ≡ b → (Q a → R a) → Q b → R b
carried Q R e h q = subst R e (h (subst Q (sym e) q))

-- what was read of a run that is good
pub read_ok : {K V : Type 0} (f : Fixed K V) (key : K) (n : ℕ) (value : V) (x : Result Run RunRefusal) (run : Run) → Reads f key n value x → x ≡ Ok run → Good f key n value run
read_ok f key n value x run reads is = subst (λ y. Reads f key n value y) is reads

-- a number of at most 32 bits
pub below_word : (m k : ℕ) → m < 2 ^ k → k ≤ 32 → m < 2 ^ 32
below_word m k h narrow = let word : 2 ^ k ≤ 2 ^ 32 = pow_mono narrow in omega arith

module _ {K V : Type 0} (f : Fixed K V) where
  -- a run whose numbers are good comes to the machine
  pub read_good : (make : (m n w : ℕ) → Asked) (key : K) (n : ℕ) (value : V) (run : Run) → Good f key n value run
      → read_run f make (f.keys.number key) n (f.values.number value) (run_length n) ≡ make run.first n run.value
  read_good make key n value run good =
      ap (read_run f make (f.keys.number key) n (f.values.number value)) good.length ∙ ap (read_key f make n (f.values.number value)) good.key_number
      ∙ ap (read_keys make run.first n (f.values.number value)) good.all_keys ∙ ap (read_value (make run.first n)) good.value_number

  -- its keys are below 2^k
  pub keys_end : LawfulCoding f.keys → (key : K) (n : ℕ) (value : V) (run : Run) → Good f key n value run → run.first + n ≤ 2 ^ f.keys.width
  keys_end law key n value run good =
      let lt = law.below key run.first good.key_number in
      let le : run.first ≤ 2 ^ f.keys.width = omega arith in
      keys_fit f law run.first 0 n good.all_keys le

  -- and so it is in reach
  pub reached : LawfulCoding f.keys → LawfulCoding f.values → (key : K) (n : ℕ) (value : V) (run : Run) → Good f key n value run → Reached f run.first n run.value
  reached law values key n value run good =
      let end = keys_end law key n value run good in
      record { keys = λ i less. (omega arith, values.below value run.value good.value_number); value = (value, good.value_number) }

  -- an enlargement that is refused
  pub move_stops : (t : State) (e : Refusal) (a : Bool) → (h : Bool) → room_judged f t ≡ h → Err e ≡ moved a h → ◌≡◌ {A = Model × Reply} (enlarge_fit f t a) (opened t, declined e)
  move_stops t e false h room is = ap (λ x. (opened t, declined x)) (same_err _ e is)
  move_stops t e true false room is = ap (enlarge_room f t) room ∙ ap (λ x. (opened t, declined x)) (same_err _ e is)
  move_stops t e true true room is = let z : ◌≡◌ {A = ℕ} 0 1 = cc in absurd (omega arith)

  -- and one that is done
  pub move_goes : (t : State) (a : Bool) → (h : Bool) → room_judged f t ≡ h → Ok tt ≡ moved a h → ◌≡◌ {A = Model × Reply} (enlarge_fit f t a) (opened (enlarged t), answered (t.b + 1))
  move_goes t false h room is = let z : ◌≡◌ {A = ℕ} 0 1 = cc in absurd (omega arith)
  move_goes t true false room is = let z : ◌≡◌ {A = ℕ} 0 1 = cc in absurd (omega arith)
  move_goes t true true room is = ap (enlarge_room f t) room

-- the other side is the machine's other
pub side_other : (s : sides.Side) → side_of (other_side s) ≡ other (side_of s)
side_other First = refl
side_other Second = refl

module _ {K T V U P A B : Type 0} {kc : coding.Ghosts K T} {vc : coding.Ghosts V U} {pm : permutation.Ghosts P} {ta : table.Ghosts A} {tb : table.Ghosts B}
    (r : Register K V P A B T U) (looked : Result InUse Refusal) (used : InUse) (found : looked ≡ Ok used)
    (finds : (m : Model) → Stands kc vc pm ta tb r m → Finds kc vc pm ta tb r m looked) where
  -- the table in use was found, so the machine is open
  pub never_closed : Stands kc vc pm ta tb r closed → ⊥
  never_closed st = not_both looked used Closed found (finds closed st)

  -- and it is the machine's
  pub chosen : (t : State) → Stands kc vc pm ta tb r (opened t) → Chosen kc vc pm ta tb r t used
  chosen t st = let it = finds (opened t) st in subst (λ u. Chosen kc vc pm ta tb r t u) (same_ok looked it.0 used it.1.0 found) it.1.1

  -- a call is what it is of an open machine
  module _ (s : Register K V P A B T U) (call : Call T U) (answer : Answer U)
      (says : (t : State) → Stands kc vc pm ta tb r (opened t) → said kc vc pm ta tb r answer ≡ (step (fixed kc vc pm ta tb r) (opened t) call).1)
      (then : (t : State) → Stands kc vc pm ta tb r (opened t) → Stands kc vc pm ta tb s (step (fixed kc vc pm ta tb r) (opened t) call).0)
      (kept : (t : State) → Stands kc vc pm ta tb r (opened t) → accepted (said kc vc pm ta tb r answer) ≡ false
      → (ta.words s.first ≡ ta.words r.first) × (tb.words s.second ≡ tb.words r.second)) where
    says_all : (m : Model) → Stands kc vc pm ta tb r m → said kc vc pm ta tb r answer ≡ (step (fixed kc vc pm ta tb r) m call).1
    says_all closed st = absurd (never_closed st)
    says_all (opened t) st = says t st

    then_all : (m : Model) → Stands kc vc pm ta tb r m → Stands kc vc pm ta tb s (step (fixed kc vc pm ta tb r) m call).0
    then_all closed st = absurd (never_closed st)
    then_all (opened t) st = then t st

    kept_all : (m : Model) → Stands kc vc pm ta tb r m → accepted (said kc vc pm ta tb r answer) ≡ false
        → (ta.words s.first ≡ ta.words r.first) × (tb.words s.second ≡ tb.words r.second)
    kept_all closed st no_way = absurd (never_closed st)
    kept_all (opened t) st no_way = kept t st no_way

    pub open_steps : Steps kc vc pm ta tb r s call answer
    open_steps = record { says = says_all; then = then_all; kept = kept_all }

  -- the register as it was
  pub refused_steps : (s : Register K V P A B T U) (call : Call T U) (answer : Answer U) → ((t : State) → Stands kc vc pm ta tb r (opened t) → s ≡ r)
      → ((t : State) → Stands kc vc pm ta tb r (opened t) → ◌≡◌ {A = Model × Reply} (step (fixed kc vc pm ta tb r) (opened t) call) (opened t, said kc vc pm ta tb r answer))
      → Steps kc vc pm ta tb r s call answer
  refused_steps s call answer same goes = open_steps s call answer
      (λ t st. sym (ap (λ p. p.1) (goes t st)))
      (λ t st. subst (λ m. Stands kc vc pm ta tb s m) (sym (ap (λ p. p.0) (goes t st))) (subst (λ q. Stands kc vc pm ta tb q (opened t)) (sym (same t st)) st))
      (λ t st no_way. (ap (λ q. ta.words q.first) (same t st), ap (λ q. tb.words q.second) (same t st)))

  -- the register for another machine
  pub accepted_steps : (s : Register K V P A B T U) (call : Call T U) (n : ℕ) (after : State → State)
      → ((t : State) → Stands kc vc pm ta tb r (opened t) → ◌≡◌ {A = Model × Reply} (step (fixed kc vc pm ta tb r) (opened t) call) (opened (after t), answered n))
      → ((t : State) → Stands kc vc pm ta tb r (opened t) → Stands kc vc pm ta tb s (opened (after t)))
      → Steps kc vc pm ta tb r s call (Number n)
  accepted_steps s call n after goes then = open_steps s call (Number n)
      (λ t st. sym (ap (λ p. p.1) (goes t st)))
      (λ t st. subst (λ m. Stands kc vc pm ta tb s m) (sym (ap (λ p. p.0) (goes t st))) (then t st))
      (λ t st no_way. absurd (true≢false no_way))

  -- a run
  module _ (s : Register K V P A B T U) (call : Call T U) (n : ℕ) (x : Result (Unit {0}) RunRefusal) (new : State → Entries) (judged : State → Option RunRefusal)
      (goes : (t : State) → ◌≡◌ {A = Model × Reply} (step (fixed kc vc pm ta tb r) (opened t) call) (run_end t n (new t) (judged t)))
      (ends : (t : State) → Stands kc vc pm ta tb r (opened t) → Chosen kc vc pm ta tb r t used → RunEnds kc vc pm ta tb r s t (new t) (judged t) x) where
    -- what stands against it
    against : (e : RunRefusal) → x ≡ Err e → (t : State) → Stands kc vc pm ta tb r (opened t) → judged t ≡ Some e
    against e err t st = reply_err (judged t) e (sym err ∙ (ends t st (chosen t st)).says)

    nothing : x ≡ Ok tt → (t : State) → Stands kc vc pm ta tb r (opened t) → judged t ≡ None
    nothing ok t st = reply_ok (judged t) (sym ok ∙ (ends t st (chosen t st)).says)

    -- refused
    pub run_refused : (e : RunRefusal) → x ≡ Err e → (y : Result ℕ RunRefusal) → y ≡ Err e → Steps kc vc pm ta tb r s call (run_answer y)
    run_refused e err y is = subst (λ z. Steps kc vc pm ta tb r s call (run_answer z)) (sym is)
        (refused_steps s call (RefusedAt e)
        (λ t st. (ends t st (chosen t st)).kept e (against e err t st))
        (λ t st. goes t ∙ ap (run_end t n (new t)) (against e err t st)))

    -- done, and counted
    pub run_done : (N : ℕ) → x ≡ Ok tt
        → ((t : State) → Stands kc vc pm ta tb r (opened t) → judged t ≡ None → s.count ≡ r.count → Stands kc vc pm ta tb (counted s (length (new t))) (opened (relisted t (new t))) → N ≡ length (new t))
        → Steps kc vc pm ta tb r (counted s N) call (Number n)
    run_done N ok many = accepted_steps (counted s N) call n (λ t. relisted t (new t))
        (λ t st. goes t ∙ ap (run_end t n (new t)) (nothing ok t st))
        (λ t st.
        let end = ends t st (chosen t st) in
        let none = nothing ok t st in
        let stands = end.then none in
        subst (λ j. Stands kc vc pm ta tb (counted s j) (opened (relisted t (new t)))) (sym (many t st none end.count stands)) stands)

  -- an enlargement
  module _ (s : Register K V P A B T U) (x : Result (Unit {0}) Refusal)
      (ends : (t : State) → Stands kc vc pm ta tb r (opened t) → Chosen kc vc pm ta tb r t used → MoveEnds kc vc pm ta tb r s t x) where
    -- refused
    pub move_refused : (e : Refusal) → x ≡ Err e → (y : Result ℕ Refusal) → y ≡ Err e → Steps kc vc pm ta tb r s Enlarge (number_answer y)
    move_refused e err y is = subst (λ z. Steps kc vc pm ta tb r s Enlarge (number_answer z)) (sym is)
        (refused_steps s Enlarge (Refused e)
        (λ t st. (ends t st (chosen t st)).kept e err)
        (λ t st. move_stops (fixed kc vc pm ta tb r) t e (larger_fits (fixed kc vc pm ta tb r) t) (room_judged (fixed kc vc pm ta tb r) t) refl (sym err ∙ (ends t st (chosen t st)).says)))

    -- done, on the other side
    pub move_done : x ≡ Ok tt → (side : sides.Side) → side ≡ other_side used.side
        → Steps kc vc pm ta tb r (reopened s (record { side = side; b = used.shape.b + 1 })) Enlarge (Number (used.shape.b + 1))
    move_done ok side is = accepted_steps (reopened s (record { side = side; b = used.shape.b + 1 })) Enlarge (used.shape.b + 1) enlarged
        (λ t st. move_goes (fixed kc vc pm ta tb r) t (larger_fits (fixed kc vc pm ta tb r) t) (room_judged (fixed kc vc pm ta tb r) t) refl (sym ok ∙ (ends t st (chosen t st)).says)
        ∙ ap (λ j. (opened (enlarged t), answered (j + 1))) (sym (chosen t st).b))
        (λ t st. (ends t st (chosen t st)).then ok (record { side = side; b = used.shape.b + 1 }) (ap side_of is ∙ side_other used.side ∙ ap other (chosen t st).side) (ap (λ j. j + 1) (chosen t st).b))
