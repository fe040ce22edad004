-- The counts of a run.
--
-- more      a count that went up by one, and stays at 2^64 - 1 once it is there
-- counted   the counts after one case more
use Rattle.std.specs.Prelude.{ℕ, ◌+◌, ◌-◌, ◌^◌, min, Bool, true, false, cond, Some, ◌==◌}
use Rattle.tally.specs.declared.tally.Tally.{Tally}

abbrev pub more : ℕ → ℕ
more n = min (n + 1) (2 ^ 64 - 1)

-- a case that came out right counts as a case; a wrong one is wrong too, and the first of these is remembered
abbrev pub counted : Tally → (right : Bool) → Tally
counted t true = record { cases = more t.cases; wrong = t.wrong; first = t.first }
counted t false = record {
  cases = more t.cases;
  wrong = more t.wrong;
  first = cond (t.wrong == 0) (Some (more t.cases)) t.first;
}
