-- A table's words and its meaning, in any kind: each is told by the other.
use Rattle.std.specs.Prelude.{◌≡◌, ℕ, List}
use Rattle.std.proofs.Math.Path.{sym}
use Rattle.std.proofs.Common.{ap₂, subst, ◌∙◌}
use Rattle.table.specs.Meaning.{formed, WellFormed}
use Rattle.table.specs.Layout.{words_of, Well}
use Rattle.table.proofs.Standing.{bare}
use Rattle.blocks.specs.declared.kind.Blocks as kind
use Rattle.blocks.specs.declared.state.BlockTable.{BlockTable}
use Rattle.blocks.specs.Means.{means, items, size}

-- two tables of one size and meaning have the same words
pub same_words : {K : Type 0} {bl : kind.Ghosts K} (t u : BlockTable K bl) → size u ≡ size t → means u ≡ means t → items u ≡ items t
same_words {K} {bl} t u n m = u.exact ∙ ap₂ (words_of bl.layout) n m ∙ sym t.exact

-- a formed table's meaning is well formed
pub well_formed : {K : Type 0} {bl : kind.Ghosts K} (t : BlockTable K bl) (k v b : ℕ) (slots : List (List (ℕ × ℕ)))
    → means t ≡ formed k v b slots → WellFormed bl.layout.S bl.layout.C (bl.layout.fits (size t)) k v b slots
well_formed {K} {bl} t k v b slots e = subst (Well bl.layout (size t)) e (bare bl.layout (size t) (means t) t.well)
