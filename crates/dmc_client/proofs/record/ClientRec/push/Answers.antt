use Rattle.std.proofs.Common.{◌≡◌, rules, ◌++◌, ◌∷◌, [], sym, subst}
use Rattle.dmc_tag.specs.Order.{AreNext}
use Rattle.dmc_client.proofs.Order.{tag_order}
use Rattle.dmc_client.proofs.Records.{pushed_record, refused_record, refused_view, pushed_view}
use Rattle.dmc_client.proofs.record.ClientRec.push.Goals as goal

pub invariant_of-self : goal.invariant_of-self
invariant_of-self g c = refused_record g.T.Tag.ops c.push.result _ _ c.self.invariant c.push.ensures.err c.if-is_err.ensures.value

pub returns-then-is_err-clause-err : goal.returns-then-is_err-clause-err
returns-then-is_err-clause-err g c = refused_view c.push.result _ _ _ c.self.view_is c.push.ensures.err c.if-is_err.ensures.value

pub returns-then-is_err-clause-kept : goal.returns-then-is_err-clause-kept
returns-then-is_err-clause-kept g c = invariant_of-self g c

pub invariant_of-self-2 : goal.invariant_of-self-2
invariant_of-self-2 g c =
    let ops = g.T.Tag.ops in
    let order = tag_order g.T.Ord.cmp ops.compare g.met.T.Ord.total g.met.T.Tag.compares in
    let items : c.push.new.self ≡ c.self.inside.queue ++ c.args.request ∷ [] = search rules in
    let next : AreNext ops c.self.inside.info c.self.inside.previous c.args.request.tags = subst (λ rec. AreNext ops rec.info rec.previous c.args.request.tags) (sym c.self.view_is) c.requires.next in
    rw (items, c.previous_after-self-inside.ensures) (pushed_record ops order _ c.args.request c.args.at c.self.invariant next c.requires.slack)

pub returns-clause-kept : goal.returns-clause-kept
returns-clause-kept g c = invariant_of-self-2 g c

pub returns-clause-ok : goal.returns-clause-ok
returns-clause-ok g c = pushed_view c.push.result _ _ c.args.request c.args.at _ _ c.self.view_is c.push.ensures.ok c.if-is_err.ensures.value assumption
