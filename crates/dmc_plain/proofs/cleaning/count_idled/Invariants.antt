use Rattle.std.proofs.Common.{◌≡◌, ◌≤◌, not, ◌&&◌, length, take}
use Rattle.std.specs.Prelude.{filter}
use Rattle.dmc_tag.specs.Rules.{is_stale}
use Rattle.dmc_plain.proofs.cleaning.count_idled.Given as goal

abbrev pub invariant-loop-client : goal.invariant-loop-client
invariant-loop-client g l =
    (l.count ≡ length (filter (λ client. not (is_stale l.at l.erase_age client) && is_stale l.at l.idle_age client && not client.idle) (take l.client-index l.clients))) × (l.count ≤ l.client-index)
