use Rattle.std.proofs.Common.{sum, ap}
use Rattle.bits.proofs.Unary as unary
use Rattle.bits.proofs.Scans.{ones_before}
use Rattle.bits.proofs.laws.mark_laws.Goals as goal

pub returns : goal.returns
returns c =
    record {
      load = unary.ones_marks;
      bound = unary.marks_lt;
      words = unary.marks_words;
      sizes_back = unary.sizes_marks;
      one_list = unary.one_list;
      marks_back = unary.marks_back;
      nothing_above = unary.nothing_above;
      slot_ones = unary.slot_ones;
      slot_zero = unary.slot_zero;
      ones_below = ones_before;
      before = λ ss j h. ap sum (unary.sizes_front ss j h);
      size = unary.size_marks;
      end = unary.ends_marks;
      more = unary.more_marks;
      less = unary.less_marks;
    }
