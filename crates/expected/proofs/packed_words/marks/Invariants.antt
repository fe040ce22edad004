use Rattle.std.proofs.Common.{◌≡◌, take}
use Rattle.expected.specs.Blocks.{is_mark, number}
use Rattle.expected.proofs.packed_words.marks.Given as goal

-- the ones so far are the marks of the entries so far
abbrev pub invariant-loop-t : goal.invariant-loop-t
invariant-loop-t l = l.word ≡ number (λ i. is_mark (take l.t l.group) i) 64
