use Rattle.std.proofs.Common.{◌≡◌, ◌+◌, ◌/◌, ◌%◌, slice_get}
use Rattle.std.specs.Option.{option_map}
use Rattle.expected.specs.Blocks.{field_bit, number}
use Rattle.expected.specs.Fields.{field_of}
use Rattle.expected.proofs.packed_words.field_bits.Given as goal

-- the field and the bit that come next, and the ones so far
abbrev pub invariant-loop-i : goal.invariant-loop-i
invariant-loop-i l = record {
  field : l.place ≡ (l.first + l.i) / l.width;
  within : l.bit ≡ (l.first + l.i) % l.width;
  there : l.number ≡ option_map (λ e. field_of l.field e) (slice_get l.group l.place);
  ones : l.word ≡ number (λ i. field_bit (λ e. field_of l.field e) (slice_get l.group ((l.first + i) / l.width)) ((l.first + i) % l.width)) l.i;
}
