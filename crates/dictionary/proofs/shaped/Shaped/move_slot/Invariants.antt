use Rattle.std.proofs.Common.{◌≡◌, ◌+◌, ◌^◌, ◌<◌, true, length, take}
use Rattle.model.specs.Entries.{Entries, groups_hold, walk}
use Rattle.model.specs.Model.{Mixing}
use Rattle.model.specs.Laws.{LawfulMixing}
use Rattle.dictionary.specs.Stored.{Stores, slot_of}
use Rattle.dictionary.proofs.shaped.Shaped.move_slot.Given as goal

abbrev pub invariant-loop-i : goal.invariant-loop-i
invariant-loop-i g l =
    (length (g.B.Table.words l.second) ≡ length (g.B.Table.words l.initial.second))
    × (g.B.Table.fits l.second ≡ g.B.Table.fits l.initial.second)
    × ((mix : Mixing) (es : Entries) → LawfulMixing mix → Stores g.A.Table mix l.self.table.now l.self.shape.k l.self.shape.v l.self.shape.b es → l.slot < 2 ^ l.self.shape.b
    → groups_hold (slot_of mix.forth l.self.shape.k (l.self.shape.b + 1)) g.B.Table.group g.B.Table.limit es ≡ true
    → Stores g.B.Table mix l.initial.second l.self.shape.k l.self.shape.v (l.self.shape.b + 1)
    (take (length (walk (slot_of mix.forth l.self.shape.k l.self.shape.b) l.slot es)) (walk (slot_of mix.forth l.self.shape.k l.self.shape.b) (2 ^ l.self.shape.b) es))
    → Stores g.B.Table mix l.second l.self.shape.k l.self.shape.v (l.self.shape.b + 1)
    (take (length (walk (slot_of mix.forth l.self.shape.k l.self.shape.b) l.slot es) + l.i) (walk (slot_of mix.forth l.self.shape.k l.self.shape.b) (2 ^ l.self.shape.b) es)))
