use Rattle.std.proofs.Common.{◌<◌, ◌≤◌, length, sym, ap, arith, ◌∙◌, subst}
use Rattle.dmc_tracker.specs.declared.server.ServerCounts.{ServerCounts}
use Rattle.dmc_tracker.specs.Parts.{IsPart, minus}
use Rattle.dmc_tracker.proofs.Steps.{refused, refused_otherwise, no_server_is_not_full, not_past, past_all, within_all, own_part, mark_part, params_fit}
use Rattle.dmc_tracker.proofs.tracker.ServiceTracker.can_stamp.Goals as goal

pub returns-then-index-len-clause-no_server : goal.returns-then-index-len-clause-no_server
returns-then-index-len-clause-no_server c =
    let past : length c.args.self.now.servers ≤ c.args.server.0 = past_all c.self.invariant c.self.view_is (c.len.ensures ∙ c.self.inside.servers.ok.0) c.if-index-len.true in
    refused past

pub returns-then-index-len-clause-full : goal.returns-then-index-len-clause-full
returns-then-index-len-clause-full c =
    let past : length c.args.self.now.servers ≤ c.args.server.0 = past_all c.self.invariant c.self.view_is (c.len.ensures ∙ c.self.inside.servers.ok.0) c.if-index-len.true in
    refused_otherwise no_server_is_not_full (λ h. not_past h.within past)

pub returns-then-index-len-clause-full_by_list : goal.returns-then-index-len-clause-full_by_list
returns-then-index-len-clause-full_by_list c =
    let past : length c.args.self.now.servers ≤ c.args.server.0 = past_all c.self.invariant c.self.view_is (c.len.ensures ∙ c.self.inside.servers.ok.0) c.if-index-len.true in
    λ events represents. refused_otherwise no_server_is_not_full (λ h. not_past h.0 past)

pub index-requires : goal.index-requires
index-requires c =
    subst (λ n. c.args.server.0 < n) c.len.ensures c.if-index-len.false

pub counted-counted-requires : goal.counted-counted-requires
counted-counted-requires c =
    own_part c.self.invariant c.self.view_is (within_all c.self.invariant c.self.view_is (c.len.ensures ∙ c.self.inside.servers.ok.0) c.if-index-len.false) c.index.ensures

pub minus-requires-clause-delta : goal.minus-requires-clause-delta
minus-requires-clause-delta c =
    (subst (λ (x : ServerCounts). IsPart x.mark c.counted-counted.result) (sym c.counts.view_is) (mark_part c.self.invariant c.self.view_is (within_all c.self.invariant c.self.view_is (c.len.ensures ∙ c.self.inside.servers.ok.0) c.if-index-len.false) c.index.ensures c.counted-counted.ensures)).delta

pub minus-requires-clause-rho : goal.minus-requires-clause-rho
minus-requires-clause-rho c =
    (subst (λ (x : ServerCounts). IsPart x.mark c.counted-counted.result) (sym c.counts.view_is) (mark_part c.self.invariant c.self.view_is (within_all c.self.invariant c.self.view_is (c.len.ensures ∙ c.self.inside.servers.ok.0) c.if-index-len.false) c.index.ensures c.counted-counted.ensures)).rho

pub plus-next-requires-clause-delta : goal.plus-next-requires-clause-delta
plus-next-requires-clause-delta c =
    (params_fit c.self.invariant c.self.view_is (within_all c.self.invariant c.self.view_is (c.len.ensures ∙ c.self.inside.servers.ok.0) c.if-index-len.false) c.index.ensures c.counted-counted.ensures (c.minus.ensures ∙ ap (λ (x : ServerCounts). minus c.counted-counted.result x.mark) c.counts.view_is) c.own_share.ensures (omega arith)).0

pub plus-next-requires-clause-rho : goal.plus-next-requires-clause-rho
plus-next-requires-clause-rho c =
    (params_fit c.self.invariant c.self.view_is (within_all c.self.invariant c.self.view_is (c.len.ensures ∙ c.self.inside.servers.ok.0) c.if-index-len.false) c.index.ensures c.counted-counted.ensures (c.minus.ensures ∙ ap (λ (x : ServerCounts). minus c.counted-counted.result x.mark) c.counts.view_is) c.own_share.ensures (omega arith)).1
