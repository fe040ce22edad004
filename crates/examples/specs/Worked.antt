-- The worked examples, as one list of equations over the definitions that the contracts cite.
--
-- Worked   every example holds
use Rattle.std.specs.Prelude.{◌≡◌, ℕ, ◌+◌, ◌-◌, ◌*◌, ◌^◌, true, false, [], ◌∷◌, ◌++◌, replicate, Some, None, Option}
use Rattle.bits.specs.Area.{number, words_of, fields, field_written}
use Rattle.bits.specs.Marks.{marks, mark_words}
use Rattle.coding.specs.Nights.{night_number}
use Rattle.examples.specs.NightRegister.{night_register}
use Rattle.model.specs.Laws.{half_list}
use Rattle.model.specs.Model.{closed, answered, refused_at}
use Rattle.model.specs.Step.{run}
use Rattle.model.specs.declared.call.Call.TheVariants.{Open, Take}
use Rattle.blocks.specs.PackedLayout.{fits, block_of, packed_table}
use Rattle.permutation.specs.Formulas.{affine_forth, inverse_of, xor_shift_forth, chained}
use Rattle.table.specs.Slots.{slot, quotient}

pub record Worked : Type 0 where
  -- pitch 3, night 5 has number 3,077
  pub night : ◌≡◌ {A = Option ℕ} (night_number (record { pitch = 3; night = 5 })) (Some 3077)
  -- in 8 bits, times 5 plus 3: 100 goes to 247, 255 to 254
  pub affine_100 : affine_forth 8 5 3 100 ≡ 247
  pub affine_255 : affine_forth 8 5 3 255 ≡ 254
  -- what undoes times 5 in 8 bits
  pub inverse_5 : inverse_of 8 5 ≡ 205
  -- in 8 bits, shifted by 3
  pub xor_shift_200 : xor_shift_forth 8 3 200 ≡ 209
  -- that affine, then that xor-shift
  pub chain_100 : chained (affine_forth 8 5 3) (xor_shift_forth 8 3) 100 ≡ 233
  -- sizes 2, 0, 1 and then zeros give marks 19
  pub marks_of_three : marks (2 ∷ 0 ∷ 1 ∷ replicate 13 0) ≡ 19
  -- an empty group gives 0
  pub marks_of_none : marks (replicate 16 0) ≡ 0
  -- 48 entries in slot 15 fill the word up to the last slot's zero, which is bit 63
  pub marks_of_last : marks (replicate 15 0 ++ 48 ∷ []) ≡ 2 ^ 63 - 2 ^ 15
  pub marks_in_a_word : mark_words 1 (replicate 15 0 ++ 48 ∷ []) ≡ (2 ^ 63 - 2 ^ 15) ∷ []
  -- width 15, only field 4 set, to 32,767: it lies across two words
  pub field_across : words_of 2 (field_written 15 0 4 32767) ≡ (2 ^ 64 - 2 ^ 60) ∷ 2047 ∷ []
  pub field_back : fields 6 15 (number ((2 ^ 64 - 2 ^ 60) ∷ 2047 ∷ [])) ≡ 0 ∷ 0 ∷ 0 ∷ 0 ∷ 32767 ∷ 0 ∷ []
  -- pitch 3, night 5 under the identity, with 2^10 slots: slot 3, quotient 5
  pub slot_ten : slot 20 10 3077 ≡ 3
  pub quotient_ten : quotient 20 10 3077 ≡ 5
  -- with 2^4 slots: slot 0, quotient 3,077
  pub slot_four : slot 20 4 3077 ≡ 0
  pub quotient_four : quotient 20 4 3077 ≡ 3077
  -- with k = 20, v = 24 a packed table needs 31 words for b = 4 and 62 for b = 5
  pub packed_words_4 : packed_table.count 4 * packed_table.width 20 24 4 ≡ 31
  pub packed_words_5 : packed_table.count 5 * packed_table.width 20 24 5 ≡ 62
  pub packed_fits_4 : fits 31 20 24 4 ≡ true
  pub packed_few_4 : fits 30 20 24 4 ≡ false
  pub packed_fits_5 : fits 62 20 24 5 ≡ true
  -- 61 words do not fit, and b = 3 does not
  pub packed_few_5 : fits 61 20 24 5 ≡ false
  pub packed_low : fits 1000 20 24 3 ≡ false
  -- a block with k = 8, v = 4, b = 4: slot 0 has (5, 9) and (3, 1), slot 2 has (15, 6); marks 1, 1, 0, 0, 1, 0, ..; quotients 5, 3, 15; values 9, 1, 6
  pub packed_block : block_of 1 8 4 4 (((5, 9) ∷ (3, 1) ∷ []) ∷ [] ∷ ((15, 6) ∷ []) ∷ replicate 13 []) ≡ 19 ∷ 3893 ∷ 0 ∷ 0 ∷ 1561 ∷ 0 ∷ 0 ∷ []
  -- enlarging with k = 20, b = 4: what stands in slot 3 with quotient 40,000 goes to slot 7 with quotient 7,232
  pub enlarged_up : slot 20 4 236608 ∷ quotient 20 4 236608 ∷ slot 20 5 236608 ∷ quotient 20 5 236608 ∷ [] ≡ 3 ∷ 40000 ∷ 7 ∷ 7232 ∷ []
  -- with quotient 32,767 it goes to slot 6
  pub enlarged_down : slot 20 4 229375 ∷ quotient 20 4 229375 ∷ slot 20 5 229375 ∷ quotient 20 5 229375 ∷ [] ≡ 3 ∷ 32767 ∷ 6 ∷ 32767 ∷ []
  -- the same of the entries of slot 3, by the quotients' top bit: those that go to slot 2 × 3 + 1, and to slot 2 × 3
  pub enlarged_high : half_list (2 ^ (20 - (4 + 1))) 1 ((40000, 5) ∷ (32767, 6) ∷ []) ≡ (7232, 5) ∷ []
  pub enlarged_low : half_list (2 ^ (20 - (4 + 1))) 0 ((40000, 5) ∷ (32767, 6) ∷ []) ≡ (32767, 6) ∷ []
  -- nights from 730: three are refused with 11 at place 2, two are taken
  pub last_nights : (run night_register closed (Open 4 ∷ Take (record { pitch = 3; night = 730 }) 3 (record { number = 4711 }) ∷ Take (record { pitch = 3; night = 730 }) 2 (record { number = 4711 }) ∷ [])).1
      ≡ answered 4 ∷ refused_at 2 11 None ∷ answered 2 ∷ []
