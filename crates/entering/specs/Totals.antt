-- What is counted of an arrival list.
--
-- nothing       nothing counted yet
-- with_stay     the totals with one stay more
-- with_unread   the totals with one line more that cannot be read
use Rattle.std.specs.Prelude.{ℕ, ◌+◌, ◌-◌, ◌^◌, min, Ok, Err, Result}
use Rattle.model.specs.declared.run_refusal.RunRefusal.{RunRefusal}
use Rattle.entering.specs.declared.totals.Totals as totals

-- a count stays at 2^64 - 1 once it is there
abbrev pub one_more : ℕ → ℕ
one_more n = min (n + 1) (2 ^ 64 - 1)

abbrev pub nothing : totals.Totals
nothing = record { stays = 0; taken = 0; refused = 0; unread = 0 }

-- every stay is either taken or refused
abbrev pub with_stay : totals.Totals → Result ℕ RunRefusal → totals.Totals
with_stay t (Ok n) = record { stays = one_more t.stays; taken = one_more t.taken; refused = t.refused; unread = t.unread }
with_stay t (Err e) = record { stays = one_more t.stays; taken = t.taken; refused = one_more t.refused; unread = t.unread }

abbrev pub with_unread : totals.Totals → totals.Totals
with_unread t = record { stays = t.stays; taken = t.taken; refused = t.refused; unread = one_more t.unread }
