-- A register is opened: an empty list in its first table.
use Rattle.std.proofs.Common.{◌≡◌, ℕ, ◌^◌, Bool, true, false, [], replicate, None, Ok, Result, sym, refl, ap, ◌∙◌, subst, arith}
use Rattle.std.proofs.lemmas.Bool.{eq-eqb, true≢false}
use Rattle.coding.specs.declared.Coding as coding
use Rattle.permutation.specs.declared.Permutation as permutation
use Rattle.table.specs.declared.table.Table as table
use Rattle.table.specs.declared.refusal.TableRefusal.{TableRefusal}
use Rattle.table.specs.Meaning.{Meaning, formed, formed_anew, formed_at}
use Rattle.model.specs.declared.answer.Answer.TheVariants.{Number}
use Rattle.model.specs.declared.call.Call.TheVariants.{Open}
use Rattle.model.specs.Model.{Fixed, Model, Reply, State, answered, closed, in_use, on_first, opened, quotient_of, slot_of}
use Rattle.model.specs.Step.{open_fit, open_width, step}
use Rattle.model.proofs.Content.{content_nil}
use Rattle.register.specs.declared.side.Side.TheVariants.{First}
use Rattle.register.specs.declared.state.Register.{Register}
use Rattle.register.specs.Fixed.{fixed}
use Rattle.register.specs.Stands.{Stands, Uses}
use Rattle.register.specs.Numbers.{reopened}
use Rattle.register.specs.Promise.{Steps}
use Rattle.register.proofs.OnSides.{first_stands, with_first}

-- what was formed fits
fit_formed : (m : Meaning) (k v b : ℕ) (t : Bool) → Ok tt ≡ (formed_at m k v b t).1 → t ≡ true
fit_formed m k v b true e = refl
fit_formed m k v b false e = let z : ◌≡◌ {A = ℕ} 0 1 = cc in absurd (omega arith)

-- the machine that was opened
abbrev anew : ℕ → State
anew b = record { side = on_first; b = b; list = [] }

-- the machine opens where the widths are equal and b fits
opens_anew : {K V : Type 0} (f : Fixed K V) (b : ℕ) → f.mix.width ≡ f.keys.width → f.first.fits f.keys.width f.values.width b ≡ true
    → ◌≡◌ {A = Model × Reply} (step f closed (Open b)) (opened (anew b), answered b)
opens_anew f b widths fit = ap (open_width f b) (eq-eqb f.mix.width f.keys.width widths) ∙ ap (open_fit f b) fit

module _ {K T V U P A B : Type 0} {kc : coding.Ghosts K T} {vc : coding.Ghosts V U} {pm : permutation.Ghosts P} {ta : table.Ghosts A} {tb : table.Ghosts B}
    (r : Register K V P A B T U) (a : A) (k v b : ℕ) (x : Result (Unit {0}) TableRefusal) (shut : r.opened ≡ None)
    (k_is : k ≡ kc.width r.keys) (v-is : v ≡ vc.width r.values) (widths : pm.width r.permutation ≡ kc.width r.keys)
    (sound : ta.sound r.first → ta.sound a)
    (after : ta.sound r.first → ta.means a ≡ (formed_anew (ta.fits r.first) (ta.means r.first) k v b).0)
    (value : ta.sound r.first → x ≡ (formed_anew (ta.fits r.first) (ta.means r.first) k v b).1)
    (done : x ≡ Ok tt) where
  -- a register that says that it is closed stands for no open machine
  not_open : (t : State) → Stands kc vc pm ta tb r (opened t) → ⊥
  not_open t st = subst (λ o. Uses o (opened t)) shut st.uses

  module _ (st : Stands kc vc pm ta tb r closed) where
    fit : ta.fits r.first k v b ≡ true
    fit = fit_formed (ta.means r.first) k v b (ta.fits r.first k v b) (sym done ∙ value st.first.sound)

    goes : ◌≡◌ {A = Model × Reply} (step (fixed kc vc pm ta tb r) closed (Open b)) (opened (anew b), answered b)
    goes = opens_anew (fixed kc vc pm ta tb r) b widths (subst (λ j. ta.fits r.first (kc.width r.keys) j b ≡ true) v-is (subst (λ j. ta.fits r.first j v b ≡ true) k_is fit))

    -- an empty table
    empty : ta.means a ≡ in_use (fixed kc vc pm ta tb r) (anew b)
    empty = after st.first.sound ∙ ap (λ t. (formed_at (ta.means r.first) k v b t).0) fit ∙ ap (λ j. formed j v b (replicate (2 ^ b) [])) k_is ∙ ap (λ j. formed (kc.width r.keys) j b (replicate (2 ^ b) [])) v-is
        ∙ ap (formed (kc.width r.keys) (vc.width r.values) b) (sym (content_nil (slot_of (fixed kc vc pm ta tb r) b) (quotient_of (fixed kc vc pm ta tb r) b) (2 ^ b)))

    stands : Stands kc vc pm ta tb (reopened (with_first r a) (record { side = First; b = b })) (opened (anew b))
    stands = first_stands (reopened (with_first r a) (record { side = First; b = b })) (anew b) refl (refl, refl) st.count (record { sound = sound st.first.sound; means = empty })
        st.second (record { widths = widths; below = tt; apart = tt; known = tt })

  says : (m : Model) → Stands kc vc pm ta tb r m → answered b ≡ (step (fixed kc vc pm ta tb r) m (Open b)).1
  says closed st = sym (ap (λ p. p.1) (goes st))
  says (opened t) st = absurd (not_open t st)

  then : (m : Model) → Stands kc vc pm ta tb r m → Stands kc vc pm ta tb (reopened (with_first r a) (record { side = First; b = b })) (step (fixed kc vc pm ta tb r) m (Open b)).0
  then closed st = subst (λ m. Stands kc vc pm ta tb (reopened (with_first r a) (record { side = First; b = b })) m) (sym (ap (λ p. p.0) (goes st))) (stands st)
  then (opened t) st = absurd (not_open t st)

  -- the register on its first side
  pub opens : Steps kc vc pm ta tb r (reopened (with_first r a) (record { side = First; b = b })) (Open b) (Number b)
  opens = record { says = says; then = then; kept = λ m st no_way. absurd (true≢false no_way) }
