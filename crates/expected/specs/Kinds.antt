-- The kinds of table.
--
-- group   how many slots make a group
-- limit   how many entries a group may hold
-- block   how many words a group's block has, with quotients and values of so many bits
-- word    the word at a place of a group's block, of the group's entries, slots upwards
use Rattle.std.specs.Prelude.{ℕ, List}
use Rattle.expected.specs.Blocks.{plain_word, packed_block, packed_word}
use Rattle.expected.specs.declared.kind.Kind.{Kind}
use Rattle.expected.specs.declared.kind.Kind.TheVariants.{Plain, Packed}
use Rattle.expected.specs.declared.layout.Entry.{Entry}

abbrev pub group : Kind → ℕ
group Plain = 1
group Packed = 16

abbrev pub limit : Kind → ℕ
limit Plain = 15
limit Packed = 48

abbrev pub block : Kind → (q v : ℕ) → ℕ
block Plain q v = 16
block Packed q v = packed_block q v

abbrev pub word : Kind → (q v : ℕ) → List Entry → ℕ → ℕ
word Plain q v entries place = plain_word entries place
word Packed q v entries place = packed_word q v entries place
