-- The promise of a history, from the machine's replies and the tables' meanings, and how one more call continues it.
use Rattle.std.proofs.Common.{◌≡◌, ◌+◌, true, List, [], ◌∷◌, ◌++◌, map, sym, ap, ◌∙◌, subst}
use Rattle.std.proofs.lemmas.List.{map-append}
use Rattle.std.proofs.lemmas.Bool.{false≢true}
use Rattle.coding.specs.declared.Coding as coding
use Rattle.permutation.specs.declared.Permutation as permutation
use Rattle.table.specs.declared.table.Table as table
use Rattle.model.specs.declared.call.Call.{Call}
use Rattle.model.specs.declared.call.Call.TheVariants.{Open, Take, Cancel, Find, Count, At, Enlarge}
use Rattle.model.specs.declared.answer.Answer.{Answer}
use Rattle.model.specs.Model.{Fixed, on_first, closed, Reply, table_of}
use Rattle.model.specs.Step.{run}
use Rattle.model.specs.Replies.{reply_of}
use Rattle.model.specs.History.{History, paired, held_under, taken, cancelled, quiet}
use Rattle.model.specs.Laws.{Lawful, Listing, SameCodings, entries_with}
use Rattle.model.proofs.Cuts.{cut_lists}
use Rattle.model.proofs.Stored.{counts}
use Rattle.model.proofs.Alikeness.{alike}
use Rattle.model.proofs.Appending.{run_model, run_replies}
use Rattle.register.specs.declared.state.Register.{Register}
use Rattle.register.specs.Fixed.{fixed}
use Rattle.register.specs.Stands.{Stands, Same}
use Rattle.register.specs.Promise.{Agree, reply, replies, machine, Steps, Promise, Continues}

module _ {K V : Type 0} (f : Fixed K V) where
  -- a machine agrees with every other that has equal codings
  pub agree : (g : Fixed K V) → SameCodings f g → (calls : List (Call K V)) → Agree calls (run f closed calls).1 (run g closed calls).1
  agree g same [] p q = absurd p
  agree g same (Open b ∷ rest) p q = alike f g same b rest p.1 q.1
  agree g same (Take key n value ∷ rest) p q = absurd (false≢true p.0)
  agree g same (Cancel key n value ∷ rest) p q = absurd (false≢true p.0)
  agree g same (Find key ∷ rest) p q = absurd (false≢true p.0)
  agree g same (Count ∷ rest) p q = absurd (false≢true p.0)
  agree g same (At i ∷ rest) p q = absurd (false≢true p.0)
  agree g same (Enlarge ∷ rest) p q = absurd (false≢true p.0)

module _ {K T V U P A B : Type 0} (kc : coding.Ghosts K T) (vc : coding.Ghosts V U) (pm : permutation.Ghosts P) (ta : table.Ghosts A) (tb : table.Ghosts B) where
  -- the whole promise follows from the replies and from what the tables mean
  pub promised : (r : Register K V P A B T U) (calls : List (Call T U)) (answers : List (Answer U)) → Lawful (fixed kc vc pm ta tb r)
      → replies kc vc pm ta tb r answers ≡ (run (fixed kc vc pm ta tb r) closed calls).1
      → Stands kc vc pm ta tb r (machine kc vc pm ta tb r calls)
      → Promise kc vc pm ta tb r calls answers
  promised r calls answers law e st =
      let f = fixed kc vc pm ta tb r in
      let e' = sym e in
      record {
        answers_alike = e;
        tables = st;
        listing = subst (λ (xs : List Reply). (before middle after : History T U) → paired calls xs ≡ before ++ (middle ++ after) → quiet middle ≡ true → Listing f before middle) e' (cut_lists f law calls);
        counts = λ w. record {
          balance = subst (λ (xs : List Reply). held_under f w (paired calls xs) + cancelled f w (paired calls xs) ≡ taken f w (paired calls xs)) e' (counts f law calls w).balance;
          stored =
              ap (λ m. entries_with w m + entries_with w (tb.means r.second)) st.first.means
              ∙ ap (λ m. entries_with w (table_of f on_first (run f closed calls).0) + entries_with w m) st.second.means
              ∙ (counts f law calls w).stored
              ∙ ap (λ xs. held_under f w (paired calls xs)) e';
        };
        alike = λ g same. subst (λ (xs : List Reply). Agree calls xs (run g closed calls).1) e' (agree f g same calls);
      }

  -- a call that does what the machine does continues every promise
  pub continues : (r s : Register K V P A B T U) (call : Call T U) (answer : Answer U) → Lawful (fixed kc vc pm ta tb s)
      → Same kc vc pm ta tb r s → Steps kc vc pm ta tb r s call answer → Continues kc vc pm ta tb r s call answer
  continues r s call answer law same steps calls answers before =
      let f = fixed kc vc pm ta tb r in
      let back = sym same.parts in
      let m = (run f closed calls).0 in
      let said : replies kc vc pm ta tb r (answers ++ (answer ∷ [])) ≡ (run f closed (calls ++ (call ∷ []))).1 =
      map-append (reply kc vc pm ta tb r) answers (answer ∷ [])
      ∙ ap (λ l. l ++ (reply kc vc pm ta tb r answer ∷ [])) before.answers_alike
      ∙ ap (λ x. (run f closed calls).1 ++ (x ∷ [])) (steps.says m before.tables)
      ∙ sym (run_replies f closed calls call) in
      let stands : Stands kc vc pm ta tb s (run f closed (calls ++ (call ∷ []))).0 =
      subst (λ n. Stands kc vc pm ta tb s n) (sym (run_model f closed calls call)) (steps.then m before.tables) in
      promised s (calls ++ (call ∷ [])) (answers ++ (answer ∷ [])) law
      (subst (λ (h : Fixed T U). map (reply_of h.values.number) (answers ++ (answer ∷ [])) ≡ (run h closed (calls ++ (call ∷ []))).1) back said)
      (subst (λ (h : Fixed T U). Stands kc vc pm ta tb s (run h closed (calls ++ (call ∷ []))).0) back stands)
