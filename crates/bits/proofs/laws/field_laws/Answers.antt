use Rattle.std.proofs.Common.{◌%◌, ◌^◌, mod-lt, pow_pos}
use Rattle.bits.proofs.Packs.{length_fields, getD_fields, fields_packed, packed_fields, packed_lt}
use Rattle.bits.proofs.Lists as lists
use Rattle.bits.proofs.laws.field_laws.Goals as goal

pub returns : goal.returns
returns c =
    record {
      width = lists.wide_is;
      len = length_fields;
      place = getD_fields;
      list_back = fields_packed;
      bits_back = packed_fields;
      bound = packed_lt;
      determined = lists.determined;
      written = λ n w a t v h. lists.fields_splice n w a t (v % 2 ^ w) h (mod-lt v (pow_pos w));
      written_past = lists.written_past;
      inserts = lists.fields_inserted;
      inserts_past = lists.inserted_past;
      removes = lists.fields_removed;
      removes_past = lists.removed_past;
      read_packed = λ w xs t f. lists.read_packed w xs f t;
      insert_packed = λ w xs t v f. lists.insert_packed w xs f t v;
      remove_packed = λ w xs t f. lists.remove_packed w xs f t;
    }
