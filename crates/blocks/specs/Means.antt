-- What a table over blocks means, and how many words it has.
--   means   what it means
--   items   its words
--   size    how many they are
use Rattle.std.specs.Prelude.{ℕ, List, length, vec_items}
use Rattle.table.specs.Meaning.{Meaning}
use Rattle.table.specs.Layout.{meaning}
use Rattle.blocks.specs.declared.kind.Blocks as kind
use Rattle.blocks.specs.declared.state.BlockTable.{BlockTable}

-- its words, read under its shape
abbrev pub means : {K : Type 0} {bl : kind.Ghosts K} → BlockTable K bl → Meaning
means {K} {bl} t = meaning bl.layout (vec_items t.words) t.shape

-- its words
abbrev pub items : {K : Type 0} {bl : kind.Ghosts K} → BlockTable K bl → List ℕ
items t = vec_items t.words

-- how many words it has
abbrev pub size : {K : Type 0} {bl : kind.Ghosts K} → BlockTable K bl → ℕ
size t = length (vec_items t.words)
