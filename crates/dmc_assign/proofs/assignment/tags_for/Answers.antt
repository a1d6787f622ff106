use Rattle.std.proofs.Common.{rules, ◌≡◌, Option, Some, None, sym, subst}
use Rattle.std.specs.Prelude.{Result, Ok, IfSome}
use Rattle.dmc_types.specs.declared.refusal.Refusal.{Refusal}
use Rattle.dmc_tag.specs.Order.{AreNext}
use Rattle.dmc_tag.specs.Outcome.{in_range}
use Rattle.dmc_tag.specs.declared.reply.Tags.{Tags}
use Rattle.dmc_tag.proofs.ForCallers.{tag_order, next_tags_follow}
use Rattle.dmc_assign.proofs.assignment.tags_for.Goals as goal

-- what holds of the tags that a rule gives holds of the ones that were found
found : {T : Type 0} (P : Tags T → Type 0) (tags : Option (Tags T)) (given : Result (Tags T) Refusal) → in_range tags ≡ given → ((some : Tags T) → given ≡ Ok some → P some) → IfSome tags P
found P None given e holds = tt
found P (Some tags) given e holds = holds tags (sym e)

pub returns-clause-follows : goal.returns-clause-follows
returns-clause-follows g c =
    let ops = g.T.Tag.ops in
    let order = tag_order g.T.Ord.cmp ops.compare g.met.T.Ord.total g.met.T.Tag.compares in
    let follow = next_tags_follow ops g.T.Tag.fraction g.T.Tag.is_value g.met.T.Tag.exact order in
    let rec = c.args.rec.now in
    found (AreNext ops rec.info rec.previous) c.next_tags.result _ (rw (sym c.spacings.ensures.value, sym c.previous.ensures.value) c.next_tags.ensures) (λ tags e. follow rec.info rec.spacings rec.previous c.args.params c.args.t c.args.floor tags c.spacings.ensures.kept.spacings e)

pub returns-clause-value : goal.returns-clause-value
returns-clause-value g c = search rules

pub returns-clause-assigned : goal.returns-clause-assigned
returns-clause-assigned g c = search rules
