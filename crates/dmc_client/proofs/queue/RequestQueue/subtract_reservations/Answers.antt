use Rattle.std.proofs.Common.{◌≡◌, true, ap, length, map, sym, subst, ◌∙◌, arith, tests}
use Rattle.std.specs.List.{list_all}
use Rattle.dmc_tag.specs.Rules.{less_reservation}
use Rattle.dmc_client.specs.internal.Deferred.{reservation_has_less}
use Rattle.dmc_client.proofs.Deferred.{more_deferred, none_deferred, none_is_deferred}
use Rattle.dmc_client.proofs.queue.RequestQueue.subtract_reservations.Goals as goal

pub invariant_of-self : goal.invariant_of-self
invariant_of-self g c =
    let ops = g.T.Tag.ops in
    let values = subst (λ xs. list_all (reservation_has_less ops c.args.amount) xs ≡ true) (sym c.self.view_is) c.requires in
    record {
      values = (more_deferred ops g.T.Tag.fraction g.T.Tag.is_value g.met.T.Tag.exact c.self.inside.deferred c.args.amount c.in-Some.deferred c.self.inside.stored (sym c.deferred_with.ensures ∙ c.in-Some.is) c.self.invariant.values values).0;
      empty = λ e. let none = ap length e in absurd (grind (arith, tests));
    }

pub returns-in-Some : goal.returns-in-Some
returns-in-Some g c =
    let ops = g.T.Tag.ops in
    let values = subst (λ xs. list_all (reservation_has_less ops c.args.amount) xs ≡ true) (sym c.self.view_is) c.requires in
    (more_deferred ops g.T.Tag.fraction g.T.Tag.is_value g.met.T.Tag.exact c.self.inside.deferred c.args.amount c.in-Some.deferred c.self.inside.stored (sym c.deferred_with.ensures ∙ c.in-Some.is) c.self.invariant.values values).1
    ∙ ap (map (less_reservation ops c.args.amount)) c.self.view_is

pub invariant_of-self-2 : goal.invariant_of-self-2
invariant_of-self-2 g c = none_is_deferred g.T.Tag.ops _

pub returns : goal.returns
returns g c =
    let ops = g.T.Tag.ops in
    none_deferred ops c.subtract_reservations.new.self ∙ c.subtract_reservations.ensures ∙ ap (map (less_reservation ops c.args.amount)) (c.settle.ensures ∙ c.self.view_is)
