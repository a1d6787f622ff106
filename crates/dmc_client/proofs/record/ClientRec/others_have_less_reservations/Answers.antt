use Rattle.std.proofs.Common.{◌≡◌, true, ◌&&◌, drop, rules, sym, ap, ◌∙◌}
use Rattle.std.specs.List.{list_all}
use Rattle.std.specs.Prelude.{is_some}
use Rattle.std.proofs.Math.Bool.{and-true}
use Rattle.dmc_tag.specs.Rules.{has_less}
use Rattle.dmc_tag.proofs.ForCallers.{between_has_less}
use Rattle.dmc_client.specs.internal.Deferred.{reservation_has_less}
use Rattle.dmc_client.specs.Record.{has_less_reservations}
use Rattle.dmc_client.proofs.Whole.{second_says}
use Rattle.dmc_client.proofs.record.ClientRec.others_have_less_reservations.Goals as goal

pub returns-then-is_whole : goal.returns-then-is_whole
returns-then-is_whole g c =
    let ops = g.T.Tag.ops in
    let amount = c.args.amount in
    let queue = c.self.inside.queue in
    let last = c.self.inside.previous.r in
    let has : has_less ops amount last ≡ true = search rules in
    let whole = g.met.T.Tag.interval (sym c.is_whole.ensures ∙ c.if-is_whole.true) in
    let between = between_has_less ops g.T.Tag.fraction g.T.Tag.is_value g.met.T.Tag.exact whole in
    c.second_has_less.ensures
    ∙ second_says ops between amount queue (is_some c.self.inside.info.reservation) last c.self.invariant.reserved c.self.invariant.reservations has
    ∙ sym (ap (λ b. list_all (reservation_has_less ops amount) (drop 1 queue) && b) has ∙ and-true _)
    ∙ ap (λ rec. has_less_reservations ops amount (record rec { requests = drop 1 rec.requests })) c.self.view_is
