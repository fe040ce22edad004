use Rattle.std.proofs.Common.{◌≡◌, ◌-◌}
use Rattle.arrivals.specs.Lines.{nth_word}
use Rattle.arrivals.proofs.lines.word_at.Given as goal

-- the words so far are left behind
abbrev pub invariant-loop-i : goal.invariant-loop-i
invariant-loop-i l = nth_word l.line l.place ≡ nth_word l.rest (l.place - l.i)
