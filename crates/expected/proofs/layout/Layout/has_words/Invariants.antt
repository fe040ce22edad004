use Rattle.std.proofs.Common.{◌≡◌, ℕ, ◌*◌, ◌≤◌, ◌==◌}
use Rattle.std.specs.List.{list_all, enumerate_from}
use Rattle.std.specs.Iterator.Adapters.{enumerate_source, enumerate_count}
use Rattle.std.specs.Slice.Iter.{chunks_rest, chunks_size}
use Rattle.expected.specs.Kinds.{group, block, word}
use Rattle.expected.specs.Words.{part, word_at}
use Rattle.expected.proofs.layout.Layout.has_words.Given as goal

-- the entries that are left have the parts of the groups that are left, and the words that are left decide
abbrev pub invariant-loop-g : goal.invariant-loop-g
invariant-loop-g l = record {
  can : (goal.iterator-loop-g).can_next l.g-iterator;
  finite : (goal.iterator-loop-g).is_finite l.g-iterator;
  size : chunks_size (enumerate_source l.g-iterator) ≡ block l.self.kind l.self.quotient l.self.value;
  parts : (h : ℕ) → enumerate_count l.g-iterator ≤ h → part l.others (group l.self.kind) h ≡ part l.entries (group l.self.kind) h;
  rest : list_all (λ p. word_at (word l.self.kind l.self.quotient l.self.value) (group l.self.kind) (block l.self.kind l.self.quotient l.self.value) l.entries p.0 == p.1)
      (enumerate_from (enumerate_count l.g-iterator * block l.self.kind l.self.quotient l.self.value) (chunks_rest (enumerate_source l.g-iterator)))
      ≡ list_all (λ p. word_at (word l.self.kind l.self.quotient l.self.value) (group l.self.kind) (block l.self.kind l.self.quotient l.self.value) l.entries p.0 == p.1) (enumerate_from 0 l.words);
}
