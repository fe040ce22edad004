-- What is held, as a list in order of arrival.
--
-- entry_of   where a key stands, with so many quotients to a slot
-- value_of   the value number of a key number
-- load_of    how many keys stand in the group of a permuted number, of so many permuted numbers each
use Rattle.std.specs.Prelude.{ℕ, ◌/◌, ◌%◌, ◌==◌, List, Option, find, count_by}
use Rattle.std.specs.Option.{option_map}
use Rattle.expected.specs.declared.held.Held.{Held}
use Rattle.expected.specs.declared.layout.Entry.{Entry}

abbrev pub entry_of : Held → ℕ → Entry
entry_of e quotients = record { slot = e.mixed / quotients; quotient = e.mixed % quotients; value = e.value }

abbrev pub value_of : List Held → ℕ → Option ℕ
value_of list key = option_map (λ e. e.value) (find (λ e. e.key == key) list)

abbrev pub load_of : List Held → (size mixed : ℕ) → ℕ
load_of list size mixed = count_by (λ e. e.mixed / size == mixed / size) list
