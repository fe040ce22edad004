use Rattle.std.proofs.Common.{arith}
use Rattle.blocks.specs.Views.{place_few, value_read}
use Rattle.blocks.proofs.Readable.{bare_marked}
use Rattle.blocks.proofs.packed.slot.Slot+Packed.value.Goals as goal

pub overflow_add-before : goal.overflow_add-before
overflow_add-before c =
    let t = c.args.self.now in let s = t.shape in
    omega (arith, c.before-2.ensures.value, place_few s.k s.v s.b t.block.now (bare_marked s.k s.v s.b t.block.now t.readable) t.slot t.inside c.args.i c.requires)

pub returns : goal.returns
returns c =
    let t = c.args.self.now in let s = t.shape in
    record {
      value = value_read s.k s.v s.b t.block.now (bare_marked s.k s.v s.b t.block.now t.readable) t.slot t.inside c.args.i c.requires
          c.values.result.now c.values.ensures.value (omega arith) c.before-2.result c.before-2.ensures.value c.read.result c.read.ensures.value;
    }
