use Rattle.std.proofs.Common.{Some, rules, tests}
use Rattle.std.proofs.lemmas.Iterator.{items_from_collect, YieldsList-from_map, YieldsList-from_slice}
use Rattle.std.proofs.lemmas.Iterator.Adapters.{YieldsList-from_once}
use Rattle.std.proofs.lemmas.Iterator.Consumers.{YieldsList-at, YieldsList-from_chain}
use Rattle.model.specs.declared.call.Call.TheVariants.{Open}
use Rattle.entering.specs.Calls.{take_of}
use Rattle.entering.proofs.calls.calls_of.Goals as goal

pub returns : goal.returns
returns c = record {
  value = items_from_collect _ c.collect.ensures.ran
      (YieldsList-from_chain
      (YieldsList-at c.chain.ensures.first (YieldsList-from_once (Some (Open c.args.b)) c.once.ensures.item))
      (YieldsList-at c.chain.ensures.second (YieldsList-from_map _ take_of (YieldsList-at c.map.ensures.source (YieldsList-from_slice c.args.stays.now c.iter.ensures.rest)) c.map.ensures.closure (λ x r q k. search (rules, tests))))
      c.chain.ensures.first_done c.chain.ensures.second_done);
}
