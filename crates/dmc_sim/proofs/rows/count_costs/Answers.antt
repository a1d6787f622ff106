use Rattle.std.proofs.Common.{◌<◌, ◌≢◌, length, sym, ◌∙◌, arith}
use Rattle.std.proofs.lemmas.List.{get_or-set_other, length-set}
use Rattle.dmc_sim.proofs.RowLemmas.{one_more_cost}
use Rattle.dmc_sim.proofs.rows.count_costs.Goals as goal

pub loop-client-preserved : goal.loop-client-preserved
loop-client-preserved g c =
    let h = c.loop-client.invariant in
    let cs = c.loop-client.clients in
    let i = c.loop-client.client-index in
    let within : i < length cs = omega arith in
    record {
      long = length-set cs i c.count_cost.new.client ∙ h.long;
      done = λ k d w. one_more_cost c.args.core.now.clients c.args.clients.now cs i c.client-item.result c.count_cost.new.client within c.count_cost.ensures h.done h.rest k d w (omega arith);
      rest = λ k d w. get_or-set_other cs i k c.count_cost.new.client d (λ e. omega arith) ∙ h.rest k d (omega arith);
    }
