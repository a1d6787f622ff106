use Rattle.std.proofs.Common.{◌≡◌, ◌<◌, ◌≤◌, ◌+◌, length, ◌∙◌, subst}
use Rattle.std.specs.Vec.{vec_len}
use Rattle.dmc_tracker.specs.declared.tracker.ServiceTracker.TheInside.{Inside}
use Rattle.dmc_tracker.proofs.Steps.{refused, refused_otherwise, not_refused, past_all, within_all, past_most, past_most_by_list, more_to_count, not_past_most, not_past_most_by_list, no_server_is_not_full, full_is_not_no_server, not_past}
use Rattle.dmc_tracker.proofs.tracker.ServiceTracker.can_respond.Goals as goal

pub returns-then-server-len-clause-no_server : goal.returns-then-server-len-clause-no_server
returns-then-server-len-clause-no_server c =
    let past : length c.args.self.now.servers ≤ c.args.server.0 = past_all c.self.invariant c.self.view_is (subst (λ (i : Inside). c.len.result ≡ vec_len i.servers) c.self-inside.view_is c.len.ensures ∙ c.self.inside.servers.ok.0) c.if-server-len.true in
    refused past

pub returns-then-server-len-clause-full : goal.returns-then-server-len-clause-full
returns-then-server-len-clause-full c =
    let past : length c.args.self.now.servers ≤ c.args.server.0 = past_all c.self.invariant c.self.view_is (subst (λ (i : Inside). c.len.result ≡ vec_len i.servers) c.self-inside.view_is c.len.ensures ∙ c.self.inside.servers.ok.0) c.if-server-len.true in
    refused_otherwise no_server_is_not_full (λ h. not_past h.within past)

pub returns-then-server-len-clause-full_by_list : goal.returns-then-server-len-clause-full_by_list
returns-then-server-len-clause-full_by_list c =
    let past : length c.args.self.now.servers ≤ c.args.server.0 = past_all c.self.invariant c.self.view_is (subst (λ (i : Inside). c.len.result ≡ vec_len i.servers) c.self-inside.view_is c.len.ensures ∙ c.self.inside.servers.ok.0) c.if-server-len.true in
    λ events represents. refused_otherwise no_server_is_not_full (λ h. not_past h.0 past)

pub returns-then-self-from-clause-no_server : goal.returns-then-self-from-clause-no_server
returns-then-self-from-clause-no_server c =
    let within : c.args.server.0 < length c.args.self.now.servers = within_all c.self.invariant c.self.view_is (subst (λ (i : Inside). c.len.result ≡ vec_len i.servers) c.self-inside.view_is c.len.ensures ∙ c.self.inside.servers.ok.0) c.if-server-len.false in
    refused_otherwise full_is_not_no_server (not_past within)

pub returns-then-self-from-clause-full : goal.returns-then-self-from-clause-full
returns-then-self-from-clause-full c =
    let within : c.args.server.0 < length c.args.self.now.servers = within_all c.self.invariant c.self.view_is (subst (λ (i : Inside). c.len.result ≡ vec_len i.servers) c.self-inside.view_is c.len.ensures ∙ c.self.inside.servers.ok.0) c.if-server-len.false in
    let past : c.self.inside.most < c.self.inside.completions.delta + c.args.cost = subst (λ n. c.self.inside.most < c.self.inside.completions.delta + n) (c.from.ensures ∙ c.units.ensures.value) (subst (λ (i : Inside). i.most < i.completions.delta + c.from.result) c.self-inside.view_is c.if-self-from.true) in
    refused (record { within = within; past = past_most c.self.invariant c.self.view_is c.args.cost past })

pub returns-then-self-from-clause-full_by_list : goal.returns-then-self-from-clause-full_by_list
returns-then-self-from-clause-full_by_list c =
    let within : c.args.server.0 < length c.args.self.now.servers = within_all c.self.invariant c.self.view_is (subst (λ (i : Inside). c.len.result ≡ vec_len i.servers) c.self-inside.view_is c.len.ensures ∙ c.self.inside.servers.ok.0) c.if-server-len.false in
    let past : c.self.inside.most < c.self.inside.completions.delta + c.args.cost = subst (λ n. c.self.inside.most < c.self.inside.completions.delta + n) (c.from.ensures ∙ c.units.ensures.value) (subst (λ (i : Inside). i.most < i.completions.delta + c.from.result) c.self-inside.view_is c.if-self-from.true) in
    λ events represents. refused (within, past_most_by_list c.self.invariant c.self.view_is c.args.cost past represents)

pub returns-clause-fewer : goal.returns-clause-fewer
returns-clause-fewer c =
    let fits : c.self.inside.completions.delta + c.args.cost ≤ c.self.inside.most = subst (λ n. c.self.inside.completions.delta + n ≤ c.self.inside.most) (c.from.ensures ∙ c.units.ensures.value) (subst (λ (i : Inside). i.completions.delta + c.from.result ≤ i.most) c.self-inside.view_is c.if-self-from.false) in
    more_to_count c.self.invariant c.self.view_is c.args.cost fits

pub returns-clause-no_server : goal.returns-clause-no_server
returns-clause-no_server c =
    let within : c.args.server.0 < length c.args.self.now.servers = within_all c.self.invariant c.self.view_is (subst (λ (i : Inside). c.len.result ≡ vec_len i.servers) c.self-inside.view_is c.len.ensures ∙ c.self.inside.servers.ok.0) c.if-server-len.false in
    not_refused (not_past within)

pub returns-clause-full : goal.returns-clause-full
returns-clause-full c =
    let fits : c.self.inside.completions.delta + c.args.cost ≤ c.self.inside.most = subst (λ n. c.self.inside.completions.delta + n ≤ c.self.inside.most) (c.from.ensures ∙ c.units.ensures.value) (subst (λ (i : Inside). i.completions.delta + c.from.result ≤ i.most) c.self-inside.view_is c.if-self-from.false) in
    not_refused (not_past_most c.self.invariant c.self.view_is c.args.cost fits)

pub returns-clause-full_by_list : goal.returns-clause-full_by_list
returns-clause-full_by_list c =
    let fits : c.self.inside.completions.delta + c.args.cost ≤ c.self.inside.most = subst (λ n. c.self.inside.completions.delta + n ≤ c.self.inside.most) (c.from.ensures ∙ c.units.ensures.value) (subst (λ (i : Inside). i.completions.delta + c.from.result ≤ i.most) c.self-inside.view_is c.if-self-from.false) in
    λ events represents. not_refused (λ h. not_past_most_by_list c.self.invariant c.self.view_is c.args.cost fits represents h.1)
