use Rattle.std.proofs.Common.{◌≡◌, ℕ, ◌+◌, ◌||◌, Some, false, length, filter, refl, sym, ap, ◌∙◌, subst, arith}
use Rattle.std.specs.Prelude.{is_some}
use Rattle.std.specs.Option.{option_map_or}
use Rattle.dmc_lemmas.proofs.Lists.{all_as, all_both}
use Rattle.dmc_tag.specs.Cancel.{has_token, charges_of, no_befores, befores_after, fallen_previous, last_has_token}
use Rattle.dmc_tag.specs.Order.{NotBelow}
use Rattle.dmc_tag.proofs.Cancels.{charges_not_below}
use Rattle.dmc_client.specs.internal.Passed.{IsOfRecord}
use Rattle.dmc_client.proofs.Order.{tag_order}
use Rattle.dmc_client.proofs.TakenBack.{both_counted, last_cancelled}
use Rattle.dmc_client.proofs.TakenOrder.{record_without_token, taken_back_view}
use Rattle.dmc_client.proofs.record.ClientRec.cancel.Goals as goal
use Rattle.dmc_client.proofs.record.ClientRec.cancel.Goals.{After-behind-self-inside}

pub cancel-befores-requires : goal.cancel-befores-requires
cancel-befores-requires g c =
    let ops = g.T.Tag.ops in
    let requests = c.self.inside.queue in
    all_as (λ r. NotBelow ops r.slack × (is_some r.tags.r ≡ is_some c.self.inside.info.reservation)) (IsOfRecord ops (is_some c.self.inside.spacings.r))
    (λ r is. record { slack = is.0; has_r = is.1 ∙ sym c.self.invariant.spacings.reserved }) requests (all_both _ _ requests c.self.invariant.slacks c.self.invariant.reserved)

-- the previous tags fall behind all requests
previous_is : (g : _) (c : After-behind-self-inside g) → c.behind-self-inside.result ≡ fallen_previous g.T.Tag.ops
    (befores_after g.T.Tag.ops c.args.token (charges_of g.T.Tag.ops c.args.counting (Some c.self.inside.spacings)) no_befores c.self.inside.queue)
    (c.self.inside.previous.cancelled || last_has_token c.args.token c.self.inside.queue) c.self.inside.previous
previous_is g c =
    let ops = g.T.Tag.ops in
    let charged = charges_of ops c.args.counting (Some c.self.inside.spacings) in
    let previous = c.self.inside.previous in
    c.behind-self-inside.ensures
    ∙ ap (λ b. fallen_previous ops b (previous.cancelled || option_map_or (λ before. before.cancelled) b.l false) previous) c.cancel-befores.ensures.last
    ∙ ap (λ x. fallen_previous ops (befores_after ops c.args.token charged no_befores c.self.inside.queue) (previous.cancelled || x) previous) (last_cancelled ops c.args.token charged no_befores c.self.inside.queue refl)

pub overflow_sub-result : goal.overflow_sub-result
overflow_sub-result g c =
    let both = both_counted g.T.Tag.ops c.args.token (charges_of g.T.Tag.ops c.args.counting (Some c.self.inside.spacings)) no_befores c.self.inside.queue in
    let rest = ap length c.cancel-befores.ensures.rest in
    omega (arith, c.len.ensures, c.len-count.ensures, both, rest)

pub invariant_of-self : goal.invariant_of-self
invariant_of-self g c =
    let ops = g.T.Tag.ops in
    let order = tag_order g.T.Ord.cmp ops.compare g.met.T.Ord.total g.met.T.Tag.compares in
    let fraction = g.T.Tag.fraction in
    let value = g.T.Tag.is_value in
    let some : (cost : ℕ) → NotBelow ops (charges_of ops c.args.counting (Some c.self.inside.spacings) cost) =
    λ cost. charges_not_below ops fraction value g.met.T.Tag.exact order c.self.inside.info c.self.inside.spacings c.args.counting cost c.self.invariant.spacings in
    rw (previous_is g (goal.at.invariant_of-self g c).After-behind-self-inside, c.cancel-befores.ensures.rest)
    (record_without_token ops c.args.token (charges_of ops c.args.counting (Some c.self.inside.spacings)) some fraction value g.met.T.Tag.exact order _ c.self.invariant)

pub returns-clause-count : goal.returns-clause-count
returns-clause-count g c =
    let both = both_counted g.T.Tag.ops c.args.token (charges_of g.T.Tag.ops c.args.counting (Some c.self.inside.spacings)) no_befores c.self.inside.queue in
    let rest = ap length c.cancel-befores.ensures.rest in
    let view = ap (λ rec. length (filter (has_token c.args.token) rec.requests)) c.self.view_is in
    omega (arith, c.len.ensures, c.len-count.ensures, both, rest, view)

pub returns-clause-rest : goal.returns-clause-rest
returns-clause-rest g c =
    let ops = g.T.Tag.ops in
    taken_back_view ops c.args.token (λ rec. charges_of ops c.args.counting (Some rec.spacings)) _ c.args.self.now c.behind-self-inside.result c.cancel-befores.new.self
    c.self.view_is (previous_is g (goal.at.returns-clause-rest g c).After-behind-self-inside) c.cancel-befores.ensures.rest

pub returns-clause-kept : goal.returns-clause-kept
returns-clause-kept g c = invariant_of-self g c
