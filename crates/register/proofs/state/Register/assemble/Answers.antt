use Rattle.register.proofs.Lawful.{lawful_coding, lawful_mixing, lawful_kind, lawful}
use Rattle.register.proofs.Assembled.{promised_anew, same_parts, stands_anew, with_tables}
use Rattle.register.proofs.state.Register.assemble.Goals as goal

pub returns : goal.returns
returns g c =
    let p = with_tables c.args.parts c.clear.new.self c.clear-2.new.self in
    let law = lawful g.K.Coding g.V.Coding g.P.Permutation g.A.Table g.B.Table
    (lawful_coding g.K.Coding g.met.K.Coding.below g.met.K.Coding.back g.met.K.Coding.forth)
    (lawful_coding g.V.Coding g.met.V.Coding.below g.met.V.Coding.back g.met.V.Coding.forth)
    (lawful_mixing g.P.Permutation g.met.P.Permutation.within g.met.P.Permutation.returns)
    (lawful_kind g.A.Table g.met.A.Table.grouped g.met.A.Table.limited g.met.A.Table.fitting)
    (lawful_kind g.B.Table g.met.B.Table.grouped g.met.B.Table.limited g.met.B.Table.fitting)
    p in
    let st = stands_anew g.K.Coding g.V.Coding g.P.Permutation g.A.Table g.B.Table p c.clear.ensures.sound c.clear.ensures.after c.clear-2.ensures.sound c.clear-2.ensures.after in
    record {
      parts = record {
        parts = same_parts g.K.Coding g.V.Coding g.P.Permutation g.A.Table g.B.Table c.args.parts c.clear.new.self c.clear-2.new.self c.clear.ensures.fits c.clear-2.ensures.fits;
        first_words = c.clear.ensures.len;
        second_words = c.clear-2.ensures.len;
      };
      stands = st;
      promise = promised_anew g.K.Coding g.V.Coding g.P.Permutation g.A.Table g.B.Table p law st;
    }
