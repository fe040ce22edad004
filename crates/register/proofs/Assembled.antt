-- What assembling gives: a closed register of two cleared tables, with the promise of no calls.
use Rattle.std.proofs.Common.{◌≡◌, ℕ, Bool, [], None, refl, ap, ◌∙◌}
use Rattle.coding.specs.declared.Coding as coding
use Rattle.permutation.specs.declared.Permutation as permutation
use Rattle.table.specs.declared.table.Table as table
use Rattle.table.specs.Meaning.{unformed}
use Rattle.model.specs.Model.{Fixed, closed}
use Rattle.model.specs.Laws.{Lawful}
use Rattle.dictionary.specs.Stored.{mixing}
use Rattle.register.specs.declared.parts.Parts.{Parts}
use Rattle.register.specs.declared.state.Register.{Register}
use Rattle.register.specs.Fixed.{coding_of, fixed_of}
use Rattle.register.specs.Stands.{Stands}
use Rattle.register.specs.Promise.{Promise}
use Rattle.register.proofs.Promised.{promised}

-- five parts with other tables
abbrev pub with_tables : {K V P A B : Type 0} → Parts K V P A B → A → B → Parts K V P A B
with_tables p first second = record { keys = p.keys; values = p.values; permutation = p.permutation; first = first; second = second }

module _ {K T V U P A B : Type 0} (kc : coding.Ghosts K T) (vc : coding.Ghosts V U) (pm : permutation.Ghosts P) (ta : table.Ghosts A) (tb : table.Ghosts B) where
  -- of the tables, only which widths fit is among what is fixed
  pub same_parts : (p : Parts K V P A B) (first : A) (second : B) → ta.fits first ≡ ta.fits p.first → tb.fits second ≡ tb.fits p.second → fixed_of kc vc pm ta tb (with_tables p first second) ≡ fixed_of kc vc pm ta tb p
  same_parts p first second e d =
      let parts : (ℕ → ℕ → ℕ → Bool) → (ℕ → ℕ → ℕ → Bool) → Fixed T U = λ x y. record {
        keys = coding_of kc p.keys;
        values = coding_of vc p.values;
        mix = mixing pm p.permutation;
        first = record { group = ta.group; limit = ta.limit; fits = x };
        second = record { group = tb.group; limit = tb.limit; fits = y };
      } in
      ap (λ x. parts x (tb.fits second)) e ∙ ap (λ y. parts (ta.fits p.first) y) d

  -- a closed register of five parts
  abbrev pub anew : Parts K V P A B → Register K V P A B T U
  anew p = record { keys = p.keys; values = p.values; permutation = p.permutation; first = p.first; second = p.second; opened = None; count = 0 }

  -- a closed register of two unformed tables stands for the closed machine
  pub stands_anew : (p : Parts K V P A B) → ta.sound p.first → ta.means p.first ≡ unformed → tb.sound p.second → tb.means p.second ≡ unformed → Stands kc vc pm ta tb (anew p) closed
  stands_anew p s m t n = record {
    uses = tt;
    count = refl;
    first = record { sound = s; means = m };
    second = record { sound = t; means = n };
    listed = tt;
  }

  -- and keeps the promise of no calls
  pub promised_anew : (p : Parts K V P A B) → Lawful (fixed_of kc vc pm ta tb p) → Stands kc vc pm ta tb (anew p) closed → Promise kc vc pm ta tb (anew p) [] []
  promised_anew p law st = promised kc vc pm ta tb (anew p) [] [] law refl st
