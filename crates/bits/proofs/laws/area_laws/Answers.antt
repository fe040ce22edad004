use Rattle.bits.proofs.Numbers.{number_lt, words_number, number_words, length_words, words_fit}
use Rattle.bits.proofs.Gets.{bit_word}
use Rattle.bits.proofs.laws.area_laws.Goals as goal

pub returns : goal.returns
returns c = record { bit = bit_word; bound = number_lt; area_back = words_number; number_back = number_words; len = length_words; words = words_fit }
