-- That each has so much to lose if none has not is searched for, so that a wrong body fails here.
use Rattle.std.proofs.Common.{true, false, refl, sym, ◌∙◌}
use Rattle.dmc_tag.specs.Rules.{has_less, less_share}
use Rattle.dmc_client.proofs.Behind.{some_first, none_changed, each_changed, none_tested, both_tested, all_pass}
use Rattle.dmc_client.proofs.stored.StoredRequests.subtract_shares.Goals as goal

pub returns-in_default-clause-value : goal.returns-in_default-clause-value
returns-in_default-clause-value g c =
    none_tested (λ r. has_less g.T.Tag.ops c.args.amount r.tags.p) c.self.inside.first c.self.inside.later.items _ c.self.invariant c.self.view_is c.in_default.is

pub returns-in_default-clause-new : goal.returns-in_default-clause-new
returns-in_default-clause-new g c =
    none_changed (less_share g.T.Tag.ops c.args.amount) c.self.inside.first c.self.inside.later.items _ c.self.invariant c.self.view_is c.in_default.is

pub returns-in_default-checked_less_share-clause-value : goal.returns-in_default-checked_less_share-clause-value
returns-in_default-checked_less_share-clause-value g c =
    both_tested (λ r. has_less g.T.Tag.ops c.args.amount r.tags.p) c.self.inside.first c.in-Some.first c.self.inside.later.items _ false _ c.self.view_is c.in-Some.is
    c.in_default-checked_less_share.ensures.test refl

pub returns-then-not-shares_have_less-clause-value : goal.returns-then-not-shares_have_less-clause-value
returns-then-not-shares_have_less-clause-value g c =
    both_tested (λ r. has_less g.T.Tag.ops c.args.amount r.tags.p) c.self.inside.first c.in-Some.first c.self.inside.later.items _ true false c.self.view_is c.in-Some.is
    c.in-Some-checked_less_share.ensures.test (sym c.if-not-shares_have_less.true ∙ c.shares_have_less.ensures)

pub invariant_of-self : goal.invariant_of-self
invariant_of-self g c = some_first _ _

pub returns-clause-value : goal.returns-clause-value
returns-clause-value g c = search all_pass

pub returns-clause-new : goal.returns-clause-new
returns-clause-new g c =
    each_changed (less_share g.T.Tag.ops c.args.amount) c.self.inside.first c.in-Some.first _ c.self.inside.later.items _ _ c.self.view_is c.in-Some.is
    c.in-Some-checked_less_share.ensures.value c.subtract_shares.ensures
