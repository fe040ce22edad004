-- The arguments among the words of a command line.
--
-- Behind      what the words behind `--layout` make of it, and the words that they leave
-- Takes       the next argument, and the words that it leaves
use Rattle.std.specs.Prelude.{◌≡◌, List, [], ◌∷◌, codes, Result, Option, Some, None, MatchOption, IsErr, Ok, String, string_bytes}
use Rattle.std.specs.Bool.{MatchBool}
use Rattle.std.specs.Str.{bytes_eq}
use Rattle.std.specs.declared.alloc.Global.{Global}
use Rattle.arrivals.specs.Layouts.{layout_named}
use Rattle.intake.specs.declared.arguments.Argument.{Argument}
use Rattle.intake.specs.declared.arguments.Argument.TheVariants as argument

module _ {E : Type 0} where
  -- a word that names a layout; with another word, or with none, there is an error
  abbrev pub Behind : List (String Global) → Result Argument E → List (String Global) → Type 0
  Behind [] r rest = IsErr r × (rest ≡ [])
  Behind (w ∷ ws) r rest = MatchOption (layout_named (string_bytes w)) (IsErr r) (λ l. r ≡ Ok (argument.Layout l)) × (rest ≡ ws)

  -- nothing where no word is left; `--layout` and the word behind it are one argument, and any other word is one by itself
  abbrev pub Takes : List (String Global) → Option (Result Argument E) → List (String Global) → Type 0
  Takes [] r rest = (r ≡ None) × (rest ≡ [])
  Takes (w ∷ ws) r rest = MatchBool (bytes_eq (string_bytes w) (codes "--layout"))
      ((x : Result Argument E) × (r ≡ Some x) × Behind ws x rest)
      ((r ≡ Some (Ok (argument.Other w))) × (rest ≡ ws))
