-- Lists of calls put one after the other: one more turn, the end, and two registers side by side.
use Rattle.std.proofs.Common.{◌≡◌, ℕ, ◌+◌, ◌<◌, ◌≤◌, min, List, [], ◌∷◌, ◌++◌, length, get_or, take, drop, set, sym, refl, ap, ◌∙◌, subst, arith}
use Rattle.std.proofs.lemmas.List.{take_more, take_more_set, take-take, length-take-le, drop-drop, drop-set-lt}
use Rattle.coding.specs.declared.Coding as coding
use Rattle.permutation.specs.declared.Permutation as permutation
use Rattle.table.specs.declared.table.Table as table
use Rattle.model.specs.declared.call.Call.{Call}
use Rattle.model.specs.declared.answer.Answer.{Answer}
use Rattle.model.specs.Model.{Fixed}
use Rattle.model.specs.Laws.{SameCodings}
use Rattle.register.specs.declared.parts.Parts.{Parts}
use Rattle.register.specs.declared.state.Register.{Register}
use Rattle.register.specs.Fixed.{fixed}
use Rattle.register.specs.Stands.{Same, MadeOf}
use Rattle.register.specs.Promise.{Agree, replies, Promise, Continues}

-- lists alike from a place on are alike from the next one on
pub drop_one_more : {X : Type 0} (xs ys : List X) (i : ℕ) → drop i xs ≡ drop i ys → drop (i + 1) xs ≡ drop (i + 1) ys
drop_one_more xs ys i e = sym (drop-drop 1 i xs) ∙ ap (drop 1) e ∙ drop-drop 1 i ys

-- as many calls as there are in the part, which is no longer than the answers
pub part_number : {X : Type 0} (calls : List X) (n a m : ℕ) → n ≤ length calls → n ≤ a → m ≡ min (length (take n calls)) a → m ≡ n
part_number calls n a m h k e = let t = length-take-le n calls h in omega arith

module _ {K T V U P A B : Type 0} (kc : coding.Ghosts K T) (vc : coding.Ghosts V U) (pm : permutation.Ghosts P) (ta : table.Ghosts A) (tb : table.Ghosts B) where
  -- a register is the same as itself
  pub same_self : (r : Register K V P A B T U) → Same kc vc pm ta tb r r
  same_self r = record { parts = refl; first_words = refl; second_words = refl }

  -- a register that is the same as one of five parts is made of them
  pub still_made : (r s : Register K V P A B T U) (p : Parts K V P A B) → MadeOf kc vc pm ta tb r p → Same kc vc pm ta tb r s → MadeOf kc vc pm ta tb s p
  still_made r s p made same = record {
    parts = same.parts ∙ made.parts;
    first_words = same.first_words ∙ made.first_words;
    second_words = same.second_words ∙ made.second_words;
  }

  -- what holds after i calls: the register is the same as at the start, the promise of these calls, and the answers after them as they were
  pub record Put (start r : Register K V P A B T U) (calls : List (Call T U)) (before answers : List (Answer U)) (i : ℕ) : Type 0 where
    pub same : Same kc vc pm ta tb start r
    pub promise : Promise kc vc pm ta tb r (take i calls) (take i answers)
    pub rest : drop i answers ≡ drop i before

  -- one more call
  pub put_more : (start r s : Register K V P A B T U) (calls : List (Call T U)) (before answers : List (Answer U)) (i : ℕ) (call : Call T U) (answer : Answer U)
      → i < length calls → i < length answers → call ≡ get_or calls i call
      → Same kc vc pm ta tb r s → Continues kc vc pm ta tb r s call answer
      → Put start r calls before answers i → Put start s calls before (set answers i answer) (i + 1)
  put_more start r s calls before answers i call answer h k read same next was = record {
    same = record {
      parts = same.parts ∙ was.same.parts;
      first_words = same.first_words ∙ was.same.first_words;
      second_words = same.second_words ∙ was.same.second_words;
    };
    promise =
        let asked : take i calls ++ (call ∷ []) ≡ take (i + 1) calls = sym (take_more calls i call h ∙ ap (λ x. take i calls ++ (x ∷ [])) (sym read)) in
        let told : take i answers ++ (answer ∷ []) ≡ take (i + 1) (set answers i answer) = sym (take_more_set answers i answer k) in
        subst (λ xs. Promise kc vc pm ta tb s (take (i + 1) calls) xs) told
        (subst (λ cs. Promise kc vc pm ta tb s cs (take i answers ++ (answer ∷ []))) asked (next (take i calls) (take i answers) was.promise));
    rest = drop-set-lt (i + 1) answers i answer (omega arith) ∙ drop_one_more answers before i was.rest;
  }

  -- the promise of the calls of a part, as of the calls of the whole
  pub part_promise : (r : Register K V P A B T U) (calls : List (Call T U)) (answers : List (Answer U)) (n m : ℕ) → m ≡ n
      → Promise kc vc pm ta tb r (take m (take n calls)) (take m answers) → Promise kc vc pm ta tb r (take n calls) (take n answers)
  part_promise r calls answers n m e p =
      let whole : take n (take n calls) ≡ take n calls = take-take n n calls (omega arith) in
      subst (λ cs. Promise kc vc pm ta tb r cs (take n answers)) whole (subst (λ j. Promise kc vc pm ta tb r (take j (take n calls)) (take j answers)) e p)

-- two registers with the promise of the same calls agree, if their parts have equal codings
pub both_agree : {K T V U P A B L W Q C D : Type 0}
    (kc : coding.Ghosts K T) (vc : coding.Ghosts V U) (pm : permutation.Ghosts P) (ta : table.Ghosts A) (tb : table.Ghosts B)
    (lc : coding.Ghosts L T) (wc : coding.Ghosts W U) (qm : permutation.Ghosts Q) (tc : table.Ghosts C) (td : table.Ghosts D)
    (r : Register K V P A B T U) (s : Register L W Q C D T U) (f g : Fixed T U) (calls : List (Call T U)) (answers others : List (Answer U))
    → fixed kc vc pm ta tb r ≡ f → fixed lc wc qm tc td s ≡ g
    → Promise kc vc pm ta tb r calls answers → Promise lc wc qm tc td s calls others
    → SameCodings f g → Agree calls (replies kc vc pm ta tb r answers) (replies lc wc qm tc td s others)
both_agree kc vc pm ta tb lc wc qm tc td r s f g calls answers others e d p q same =
    let alike : SameCodings (fixed kc vc pm ta tb r) (fixed lc wc qm tc td s) = subst (λ x. SameCodings x (fixed lc wc qm tc td s)) (sym e) (subst (λ x. SameCodings f x) (sym d) same) in
    subst (λ xs. Agree calls (replies kc vc pm ta tb r answers) xs) (sym q.answers_alike) (p.alike (fixed lc wc qm tc td s) alike)
