-- One more call at the end of a list of calls.
use Rattle.std.proofs.Common.{◌≡◌, List, [], ◌∷◌, ◌++◌, refl, ap}
use Rattle.model.specs.declared.call.Call.{Call}
use Rattle.model.specs.Model.{Fixed, Model}
use Rattle.model.specs.Step.{run, step}
use Rattle.model.specs.History.{paired}

module _ {K V : Type 0} (f : Fixed K V) where
  -- the machine after it
  pub run_model : (s : Model) (cs : List (Call K V)) (c : Call K V) → (run f s (cs ++ c ∷ [])).0 ≡ (step f (run f s cs).0 c).0
  run_model s [] c = refl
  run_model s (d ∷ cs) c = run_model (step f s d).0 cs c

  -- the replies
  pub run_replies : (s : Model) (cs : List (Call K V)) (c : Call K V) → (run f s (cs ++ c ∷ [])).1 ≡ (run f s cs).1 ++ (step f (run f s cs).0 c).1 ∷ []
  run_replies s [] c = refl
  run_replies s (d ∷ cs) c = ap (λ h. (step f s d).1 ∷ h) (run_replies (step f s d).0 cs c)

  -- the history
  pub run_paired : (s : Model) (cs : List (Call K V)) (c : Call K V)
      → paired (cs ++ c ∷ []) (run f s (cs ++ c ∷ [])).1 ≡ paired cs (run f s cs).1 ++ (c, (step f (run f s cs).0 c).1) ∷ []
  run_paired s [] c = refl
  run_paired s (d ∷ cs) c = ap (λ h. (d, (step f s d).1) ∷ h) (run_paired (step f s d).0 cs c)
