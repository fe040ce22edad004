use Rattle.std.proofs.Common.{sym, ◌∙◌}
use Rattle.register.proofs.Ends.{below_word, run_most}
use Rattle.register.proofs.state.Register.read_run.Goals as goal

pub no_key-requires : goal.no_key-requires
no_key-requires g c =
    let keys = c.args.self.now.keys in
    (below_word c.in-Some.m (g.K.Coding.width keys) (g.met.K.Coding.below keys c.args.key c.in-Some.m (sym c.number.ensures.value ∙ c.in-Some.is)) (g.met.K.Coding.narrow keys), run_most c.args.n c.if-not-is_run_length.ensures)
