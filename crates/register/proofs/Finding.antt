-- A value is found, and its item.
use Rattle.std.proofs.Common.{◌≡◌, ℕ, ◌^◌, ◌<◌, Bool, true, false, cond, eqb, [], ◌∷◌, Some, None, Ok, Err, Option, Result, sym, refl, ap, ◌∙◌, subst, arith}
use Rattle.std.specs.List.{AllByRecursion as All}
use Rattle.coding.specs.declared.Coding as coding
use Rattle.permutation.specs.declared.Permutation as permutation
use Rattle.table.specs.declared.table.Table as table
use Rattle.table.specs.declared.refusal.TableRefusal.{TableRefusal}
use Rattle.table.specs.declared.refusal.TableRefusal.TheVariants.{Absent}
use Rattle.table.specs.Meaning.{answer_of, value_in}
use Rattle.model.specs.declared.answer.Answer.TheVariants.{Refused, Value}
use Rattle.model.specs.declared.call.Call.TheVariants.{Find}
use Rattle.model.specs.declared.refusal.Refusal.{Refusal}
use Rattle.model.specs.declared.refusal.Refusal.TheVariants.{Table}
use Rattle.model.specs.Entries.{Entries}
use Rattle.model.specs.Model.{Model, Reply, State, declined, opened}
use Rattle.model.specs.Replies.{found_as}
use Rattle.model.specs.Step.{answer, find_reply, read_find, step}
use Rattle.register.specs.declared.in_use.InUse.{InUse}
use Rattle.register.specs.declared.state.Register.{Register}
use Rattle.register.specs.Fixed.{fixed}
use Rattle.register.specs.Stands.{HasItem, Stands}
use Rattle.register.specs.Numbers.{Chosen, Finds}
use Rattle.register.specs.Answers.{value_answer}
use Rattle.register.specs.Promise.{Steps}
use Rattle.register.proofs.Ends.{chosen, open_steps, refused_steps}

-- what holds of the first entry's value and, where another is found, of that one, holds of the one that is found
first_or : (Q : ℕ → Type 0) (u w : ℕ) (later : Option ℕ) → Q u → (later ≡ Some w → Q w) → (t : Bool) → cond t (Some u) later ≡ Some w → Q w
first_or Q u w later here there true h = let e : u ≡ w = cc in subst Q e here
first_or Q u w later here there false h = there h

-- what holds of every value number of a list holds of one that is found
pub value_known : (Q : ℕ → Type 0) (l : Entries) (m w : ℕ) → All (λ e. Q e.1) l → value_in l m ≡ Some w → Q w
value_known Q [] m w all is = let z : ◌≡◌ {A = ℕ} 0 1 = cc in absurd (omega arith)
value_known Q (e ∷ l) m w all is = first_or Q e.1 w (value_in l m) all.0 (value_known Q l m w all.1) (eqb e.0 m) is

-- what was found, and what was not
pub answer_some : (o : Option ℕ) (w : ℕ) → Ok w ≡ answer_of o → o ≡ Some w
answer_some None w h = let z : ◌≡◌ {A = ℕ} 0 1 = cc in absurd (omega arith)
answer_some (Some u) w h = cc

pub answer_none : (o : Option ℕ) (e : TableRefusal) → Err e ≡ answer_of o → (o ≡ None) × (e ≡ Absent)
answer_none None e h = (refl, same e Absent h)
  where
    same : (a b : TableRefusal) → ◌≡◌ {A = Result ℕ TableRefusal} (Err a) (Err b) → a ≡ b
    same a b p = cc
answer_none (Some u) e h = let z : ◌≡◌ {A = ℕ} 0 1 = cc in absurd (omega arith)

module _ {K T V U P A B : Type 0} {kc : coding.Ghosts K T} {vc : coding.Ghosts V U} {pm : permutation.Ghosts P} {ta : table.Ghosts A} {tb : table.Ghosts B}
    (r : Register K V P A B T U) (looked : Result InUse Refusal) (used : InUse) (is-used : looked ≡ Ok used)
    (finds : (m : Model) → Stands kc vc pm ta tb r m → Finds kc vc pm ta tb r m looked)
    (key : T) (m : ℕ) (number : kc.number r.keys key ≡ Some m) (below : m < 2 ^ kc.width r.keys) (x : Result ℕ TableRefusal)
    (value : (t : State) → Stands kc vc pm ta tb r (opened t) → Chosen kc vc pm ta tb r t used → m < 2 ^ kc.width r.keys → x ≡ answer_of (value_in t.list m)) where
  -- what the machine replies, where it is known what the key is held under
  goes : (t : State) (o : Option ℕ) → value_in t.list m ≡ o → ◌≡◌ {A = Model × Reply} (step (fixed kc vc pm ta tb r) (opened t) (Find key)) (opened t, find_reply o)
  goes t o is = ap (λ n. answer (fixed kc vc pm ta tb r) (opened t) (read_find n)) number ∙ ap (λ n. (opened t, find_reply n)) is

  -- what the table found
  says : (t : State) → Stands kc vc pm ta tb r (opened t) → x ≡ answer_of (value_in t.list m)
  says t st = value t st (chosen r looked used is-used finds t st) below

  -- the key is not held
  pub find_absent : (e : TableRefusal) → x ≡ Err e → (y : Result U Refusal) → y ≡ Err (Table e) → Steps kc vc pm ta tb r r (Find key) (value_answer y)
  find_absent e err y is = subst (λ z. Steps kc vc pm ta tb r r (Find key) (value_answer z)) (sym is)
      (refused_steps r looked used is-used finds r (Find key) (Refused (Table e)) (λ t st. refl)
      (λ t st.
      let both = answer_none (value_in t.list m) e (sym err ∙ says t st) in
      goes t None both.0 ∙ ap (λ d. (opened t, declined (Table d))) (sym both.1)))

  module _ (w : ℕ) (ok : x ≡ Ok w) where
    held : (t : State) → Stands kc vc pm ta tb r (opened t) → value_in t.list m ≡ Some w
    held t st = answer_some (value_in t.list m) w (sym ok ∙ says t st)

    -- the value number that was found has an item
    pub find_known : ((item : U) (n : ℕ) → vc.number r.values item ≡ Some n → vc.item r.values n ≡ Some item) → vc.item r.values w ≡ None
        → (e : Refusal) → Steps kc vc pm ta tb r r (Find key) (Refused e)
    find_known back none e = refused_steps r looked used is-used finds r (Find key) (Refused e) (λ t st. refl)
        (λ t st.
        let item = value_known (HasItem (fixed kc vc pm ta tb r)) t.list m w st.listed.known (held t st) in
        let some = back item.0 w item.1 in
        let z : ◌≡◌ {A = ℕ} 0 1 = cc in absurd (omega arith))

    -- and it is the answer
    pub find_found : (item : U) → vc.number r.values item ≡ Some w → Steps kc vc pm ta tb r r (Find key) (Value item)
    find_found item is = open_steps r looked used is-used finds r (Find key) (Value item)
        (λ t st. ap found_as is ∙ sym (ap (λ p. p.1) (goes t (Some w) (held t st))))
        (λ t st. subst (λ n. Stands kc vc pm ta tb r n) (sym (ap (λ p. p.0) (goes t (Some w) (held t st)))) st)
        (λ t st no_way. (refl, refl))
