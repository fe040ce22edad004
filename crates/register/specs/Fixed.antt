-- The parts of a register as the plain machine knows them: what never changes.
--   coding_of, kind_of   a coding; a table's S, C and fit
--   parts_of             the five parts of a register
--   fixed_of             what is fixed of five parts
--   fixed                what is fixed of a register
use Rattle.coding.specs.declared.Coding as coding
use Rattle.permutation.specs.declared.Permutation as permutation
use Rattle.table.specs.declared.table.Table as table
use Rattle.model.specs.Model.{Coding, Kind, Fixed}
use Rattle.dictionary.specs.Stored.{mixing}
use Rattle.register.specs.declared.parts.Parts.{Parts}
use Rattle.register.specs.declared.state.Register.{Register}

-- a coding
abbrev pub coding_of : {K T : Type 0} → coding.Ghosts K T → K → Coding T
coding_of kc x = record { width = kc.width x; number = kc.number x; item = kc.item x }

-- a table: S, C and which widths fit
abbrev pub kind_of : {A : Type 0} → table.Ghosts A → A → Kind
kind_of ta t = record { group = ta.group; limit = ta.limit; fits = ta.fits t }

-- the parts of a register
abbrev pub parts_of : {K V P A B T U : Type 0} → Register K V P A B T U → Parts K V P A B
parts_of r = record { keys = r.keys; values = r.values; permutation = r.permutation; first = r.first; second = r.second }

module _ {K T V U P A B : Type 0} (kc : coding.Ghosts K T) (vc : coding.Ghosts V U) (pm : permutation.Ghosts P) (ta : table.Ghosts A) (tb : table.Ghosts B) where
  -- five parts
  abbrev pub fixed_of : Parts K V P A B → Fixed T U
  fixed_of p = record {
    keys = coding_of kc p.keys;
    values = coding_of vc p.values;
    mix = mixing pm p.permutation;
    first = kind_of ta p.first;
    second = kind_of tb p.second;
  }

  -- a register
  abbrev pub fixed : Register K V P A B T U → Fixed T U
  fixed r = fixed_of (parts_of r)
