use Rattle.std.proofs.Common.{rules, ◌≡◌, true, Some, map, sym, subst, ap, ◌∙◌}
use Rattle.std.specs.Prelude.{if◌then◌else◌}
use Rattle.std.specs.List.{list_all}
use Rattle.dmc_tag.specs.Rules.{has_less, less_share}
use Rattle.dmc_tag.proofs.ForCallers.{minus_keeps_order}
use Rattle.dmc_client.specs.Record.{IsRecord}
use Rattle.dmc_client.proofs.Records.{with_requests, same_record, previous_lacks, queued_lack, all_have, less_shares_view, record_with_shares}
use Rattle.dmc_client.proofs.record.ClientRec.subtract_from_shares.Goals as goal

pub returns-in_default-clause-value : goal.returns-in_default-clause-value
returns-in_default-clause-value g c = previous_lacks g.T.Tag.ops c.args.amount _ _ c.self.view_is c.in_default.ensures

pub returns-in_default-clause-kept : goal.returns-in_default-clause-kept
returns-in_default-clause-kept g c = subst (IsRecord g.T.Tag.ops) c.self.view_is c.self.invariant

pub invariant_of-self : goal.invariant_of-self
invariant_of-self g c = same_record g.T.Tag.ops _ _ c.self.invariant c.if-not-subtract_shares.ensures.new

pub returns-then-not-subtract_shares-clause-value : goal.returns-then-not-subtract_shares-clause-value
returns-then-not-subtract_shares-clause-value g c = queued_lack g.T.Tag.ops c.args.amount _ _ c.self.view_is c.if-not-subtract_shares.ensures.value

pub returns-then-not-subtract_shares-clause-new : goal.returns-then-not-subtract_shares-clause-new
returns-then-not-subtract_shares-clause-new g c = with_requests _ _ _ _ c.self.view_is (c.if-not-subtract_shares.ensures.new ∙ ap (λ rec. rec.requests) c.self.view_is)

pub returns-then-not-subtract_shares-clause-kept : goal.returns-then-not-subtract_shares-clause-kept
returns-then-not-subtract_shares-clause-kept g c = invariant_of-self g c

pub invariant_of-self-2 : goal.invariant_of-self-2
invariant_of-self-2 g c =
    let ops = g.T.Tag.ops in
    let amount = c.args.amount in
    let queue = c.self.inside.queue in
    let passes : c.subtract_shares.result ≡ true = search rules in
    let all : list_all (λ r. has_less ops amount r.tags.p) queue ≡ true = sym c.subtract_shares.ensures.value ∙ passes in
    let taken : c.subtract_shares.new.self ≡ map (less_share ops amount) queue = c.subtract_shares.ensures.new ∙ ap (λ b. if b then map (less_share ops amount) queue else queue) passes in
    let previous : ops.minus c.self.inside.previous.p amount ≡ Some c.in-Some.previous = sym c.minus.ensures ∙ c.in-Some.is in
    rw taken (record_with_shares ops amount (minus_keeps_order ops g.T.Tag.fraction g.T.Tag.is_value g.met.T.Tag.exact) _ c.in-Some.previous c.self.invariant all previous)

pub returns-clause-kept : goal.returns-clause-kept
returns-clause-kept g c = invariant_of-self-2 g c

pub returns-clause-value : goal.returns-clause-value
returns-clause-value g c = all_have g.T.Tag.ops c.args.amount _ _ c.in-Some.previous c.self.view_is c.in-Some.ensures c.if-not-subtract_shares.ensures.value

pub returns-clause-new : goal.returns-clause-new
returns-clause-new g c = less_shares_view g.T.Tag.ops c.args.amount _ _ c.in-Some.previous _ c.self.view_is c.in-Some.ensures c.if-not-subtract_shares.ensures.new
