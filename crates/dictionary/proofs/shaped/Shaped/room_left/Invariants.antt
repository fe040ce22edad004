use Rattle.std.proofs.Common.{◌≡◌, ◌+◌, ◌^◌, ◌≤◌}
use Rattle.model.specs.Entries.{Entries}
use Rattle.model.specs.Model.{Mixing}
use Rattle.dictionary.specs.Stored.{Stores, range_load, slot_of}
use Rattle.dictionary.proofs.shaped.Shaped.room_left.Given as goal

abbrev pub invariant-loop-i : goal.invariant-loop-i
invariant-loop-i g l = (mix : Mixing) (es : Entries) → Stores g.A.Table mix l.self.table.now l.self.shape.k l.self.shape.v l.self.shape.b es → l.start + l.size ≤ 2 ^ (l.self.shape.b + 1)
    → l.room + range_load (slot_of mix.forth l.self.shape.k (l.self.shape.b + 1)) l.start l.i es ≡ l.limit
