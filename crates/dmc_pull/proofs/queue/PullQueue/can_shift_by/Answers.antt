use Rattle.std.proofs.Common.{◌≡◌, sym, ◌∙◌, subst}
use Rattle.std.specs.List.{list_all}
use Rattle.dmc_adjust.specs.Changes.{is_shiftable}
use Rattle.dmc_roster.specs.Entries.{Entry}
use Rattle.dmc_tag.specs.Rules.{can_shift_by}
use Rattle.dmc_pull.specs.Represented.{clients_in}
use Rattle.dmc_pull.proofs.Add.InRange.{all_can_shift}
use Rattle.dmc_pull.proofs.Add.Shifted.{shiftable}
use Rattle.dmc_pull.proofs.queue.PullQueue.can_shift_by.Goals as goal

pub returns-then-all_have_less : goal.returns-then-all_have_less
returns-then-all_have_less g c =
    let ops = g.T.Tag.ops in
    let amount = c.in-Some.amount in
    let es = c.self.inside.roster.entries in
    let follows = sym c.all_have_less.ensures ∙ c.if-all_have_less.true in
    let all = all_can_shift ops g.T.Tag.fraction g.T.Tag.is_value g.met.T.Tag.exact g.T.Tag.whole g.met.T.Tag.interval amount c.self.inside.range follows es c.self.invariant.1 in
    subst (λ q. c.all_have_less.result ≡ can_shift_by ops c.args.shift (clients_in q.roster.entries)) c.self.view_is
    (rw c.in-Some.is (c.if-all_have_less.true ∙ sym (shiftable ops amount es ∙ all)))

pub returns-else-all_have_less : goal.returns-else-all_have_less
returns-else-all_have_less g c =
    let ops = g.T.Tag.ops in
    let amount = c.in-Some.amount in
    let es = c.self.inside.roster.entries in
    let each = subst (λ q. c.each_has_less.result ≡ list_all (λ (e : Entry _). is_shiftable ops amount e.rec) q.roster.entries) (sym c.self.view_is) c.each_has_less.ensures in
    subst (λ q. c.each_has_less.result ≡ can_shift_by ops c.args.shift (clients_in q.roster.entries)) c.self.view_is
    (rw c.in-Some.is (each ∙ sym (shiftable ops amount es)))
