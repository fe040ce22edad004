use Rattle.std.proofs.Common.{refl}
use Rattle.bits.specs.Area.{words_of, splice, fields, packed}
use Rattle.bits.specs.Marks.{marks}
use Rattle.permutation.specs.Formulas.{last_such, inverse_of}
use Rattle.blocks.specs.PackedLayout.{room, fits, areas, block_of}
use Rattle.blocks.specs.PlainLayout as plain
use Rattle.examples.proofs.worked.worked.Goals as goal

pub returns : goal.returns
unfolding last_such inverse_of marks words_of splice fields packed room fits areas block_of plain.fits
returns c =
    record {
      night = refl;
      affine_100 = refl;
      affine_255 = refl;
      inverse_5 = refl;
      xor_shift_200 = refl;
      chain_100 = refl;
      marks_of_three = refl;
      marks_of_none = refl;
      marks_of_last = refl;
      marks_in_a_word = refl;
      field_across = refl;
      field_back = refl;
      slot_ten = refl;
      quotient_ten = refl;
      slot_four = refl;
      quotient_four = refl;
      packed_words_4 = refl;
      packed_words_5 = refl;
      packed_fits_4 = refl;
      packed_few_4 = refl;
      packed_fits_5 = refl;
      packed_few_5 = refl;
      packed_low = refl;
      packed_block = refl;
      enlarged_up = refl;
      enlarged_down = refl;
      enlarged_high = refl;
      enlarged_low = refl;
      last_nights = refl;
    }
