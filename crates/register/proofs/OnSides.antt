-- A register on one side, from the table in use and to it.
use Rattle.std.proofs.Common.{◌≡◌, ℕ, length, Some, None, Option, sym, ap, ◌∙◌, subst}
use Rattle.coding.specs.declared.Coding as coding
use Rattle.permutation.specs.declared.Permutation as permutation
use Rattle.table.specs.declared.table.Table as table
use Rattle.table.specs.Meaning.{unformed}
use Rattle.model.specs.Entries.{Entries}
use Rattle.model.specs.Model.{Mixing, State, in_use, on_first, on_second, on_side, opened}
use Rattle.dictionary.specs.Stored.{Stores, mixing}
use Rattle.register.specs.declared.side.Side.TheVariants.{First, Second}
use Rattle.register.specs.declared.in_use.InUse.{InUse}
use Rattle.register.specs.declared.state.Opened.{Opened}
use Rattle.register.specs.declared.state.Register.{Register}
use Rattle.register.specs.Fixed.{fixed}
use Rattle.register.specs.Stands.{Entered, Means, Same, Stands, Uses, side_of}
use Rattle.register.specs.Numbers.{Chosen, relisted}

-- a register with another first table
abbrev pub with_first : {K V P A B T U : Type 0} → Register K V P A B T U → A → Register K V P A B T U
with_first r a = record { keys = r.keys; values = r.values; permutation = r.permutation; first = a; second = r.second; opened = r.opened; count = r.count }

-- with another second table
abbrev pub with_second : {K V P A B T U : Type 0} → Register K V P A B T U → B → Register K V P A B T U
with_second r b = record { keys = r.keys; values = r.values; permutation = r.permutation; first = r.first; second = b; opened = r.opened; count = r.count }

-- with two other tables
abbrev pub with_both : {K V P A B T U : Type 0} → Register K V P A B T U → A → B → Register K V P A B T U
with_both r a b = record { keys = r.keys; values = r.values; permutation = r.permutation; first = a; second = b; opened = r.opened; count = r.count }

-- what is stored at some widths is at equal ones
pub stores_at : {X : Type 0} {tx : table.Ghosts X} {mix : Mixing} {x : X} {k v b : ℕ} {l : Entries} (k' v' b' : ℕ)
    → k' ≡ k → v' ≡ v → b' ≡ b → Stores tx mix x k v b l → Stores tx mix x k' v' b' l
stores_at {X} {tx} {mix} {x} {k} {v} {b} {l} k' v' b' p q s st =
    subst (λ j. Stores tx mix x j v' b' l) (sym p) (subst (λ j. Stores tx mix x k j b' l) (sym q) (subst (λ j. Stores tx mix x k v j l) (sym s) st))

-- the same side and b, whatever the list
pub uses_relisted : (o : Option Opened) (t : State) (l : Entries) → Uses o (opened t) → Uses o (opened (relisted t l))
uses_relisted None t l u = u
uses_relisted (Some o) t l u = u

module _ {K T V U P A B : Type 0} {kc : coding.Ghosts K T} {vc : coding.Ghosts V U} {pm : permutation.Ghosts P} {ta : table.Ghosts A} {tb : table.Ghosts B} where
  -- the side that was chosen is the machine's
  pub chose_first : {r : Register K V P A B T U} {t : State} {u : InUse} → Chosen kc vc pm ta tb r t u → u.side ≡ First → on_first ≡ t.side
  chose_first {r} {t} {u} c is = ap side_of (sym is) ∙ c.side

  pub chose_second : {r : Register K V P A B T U} {t : State} {u : InUse} → Chosen kc vc pm ta tb r t u → u.side ≡ Second → on_second ≡ t.side
  chose_second {r} {t} {u} c is = ap side_of (sym is) ∙ c.side

  -- on its first side, the first table holds the list, and the second is unformed
  module _ {r : Register K V P A B T U} {t : State} (st : Stands kc vc pm ta tb r (opened t)) (e : on_first ≡ t.side) where
    first_means : Means ta r.first (in_use (fixed kc vc pm ta tb r) t)
    first_means = subst (λ s. Means ta r.first (on_side (fixed kc vc pm ta tb r) on_first s t)) (sym e) st.first

    pub first_stored : Stores ta (mixing pm r.permutation) r.first (kc.width r.keys) (vc.width r.values) t.b t.list
    first_stored = record { sound = first_means.sound; means = first_means.means; below = st.listed.below; apart = st.listed.apart; widths = st.listed.widths }

    pub second_idle : Means tb r.second unformed
    second_idle = subst (λ s. Means tb r.second (on_side (fixed kc vc pm ta tb r) on_second s t)) (sym e) st.second

  -- on its second side, the other way round
  module _ {r : Register K V P A B T U} {t : State} (st : Stands kc vc pm ta tb r (opened t)) (e : on_second ≡ t.side) where
    second_means : Means tb r.second (in_use (fixed kc vc pm ta tb r) t)
    second_means = subst (λ s. Means tb r.second (on_side (fixed kc vc pm ta tb r) on_second s t)) (sym e) st.second

    pub second_stored : Stores tb (mixing pm r.permutation) r.second (kc.width r.keys) (vc.width r.values) t.b t.list
    second_stored = record { sound = second_means.sound; means = second_means.means; below = st.listed.below; apart = st.listed.apart; widths = st.listed.widths }

    pub first_idle : Means ta r.first unformed
    first_idle = subst (λ s. Means ta r.first (on_side (fixed kc vc pm ta tb r) on_first s t)) (sym e) st.first

  -- and back: a register that uses its first table
  pub first_stands : (r : Register K V P A B T U) (t : State) → on_first ≡ t.side → Uses r.opened (opened t) → r.count ≡ length t.list
      → Means ta r.first (in_use (fixed kc vc pm ta tb r) t) → Means tb r.second unformed → Entered (fixed kc vc pm ta tb r) t → Stands kc vc pm ta tb r (opened t)
  first_stands r t e uses count first second entered = record {
    uses = uses;
    count = count;
    first = subst (λ s. Means ta r.first (on_side (fixed kc vc pm ta tb r) on_first s t)) e first;
    second = subst (λ s. Means tb r.second (on_side (fixed kc vc pm ta tb r) on_second s t)) e second;
    listed = entered;
  }

  -- and one that uses its second
  pub second_stands : (r : Register K V P A B T U) (t : State) → on_second ≡ t.side → Uses r.opened (opened t) → r.count ≡ length t.list
      → Means tb r.second (in_use (fixed kc vc pm ta tb r) t) → Means ta r.first unformed → Entered (fixed kc vc pm ta tb r) t → Stands kc vc pm ta tb r (opened t)
  second_stands r t e uses count second first entered = record {
    uses = uses;
    count = count;
    first = subst (λ s. Means ta r.first (on_side (fixed kc vc pm ta tb r) on_first s t)) e first;
    second = subst (λ s. Means tb r.second (on_side (fixed kc vc pm ta tb r) on_second s t)) e second;
    listed = entered;
  }

  -- tables of the same fit and length
  pub same_both : (r : Register K V P A B T U) (a : A) (b : B) → ta.fits a ≡ ta.fits r.first → length (ta.words a) ≡ length (ta.words r.first)
      → tb.fits b ≡ tb.fits r.second → length (tb.words b) ≡ length (tb.words r.second) → Same kc vc pm ta tb r (with_both r a b)
  same_both r a b p q s u = record { parts = simp (p, s); first_words = q; second_words = u }

  -- whatever it says that it uses, and counts
  pub same_but : {r s : Register K V P A B T U} → Same kc vc pm ta tb r s → (o : Option Opened) (n : ℕ)
      → Same kc vc pm ta tb r (record { keys = s.keys; values = s.values; permutation = s.permutation; first = s.first; second = s.second; opened = o; count = n })
  same_but h o n = record { parts = h.parts; first_words = h.first_words; second_words = h.second_words }
