use Rattle.std.proofs.Common.{◌≡◌, Some, sym, ap, ◌∙◌, subst, map}
use Rattle.std.specs.Option.{option_map}
use Rattle.std.specs.declared.cmp.Ordering.TheVariants.{Less}
use Rattle.dmc_tag.specs.Rules.{less}
use Rattle.dmc_tag.specs.Rank.{ready_rank_cmp}
use Rattle.dmc_head_index.specs.Heads.{heads_from, CanShift, shifted}
use Rattle.dmc_head_index.specs.internal.Heads.{less_rank}
use Rattle.dmc_tag.proofs.ForCallers.{minus_keeps_order}
use Rattle.dmc_head_index.proofs.Clients.{same_compare}
use Rattle.dmc_head_index.proofs.Shift.{keeps_order, mapped_slots, heads_shifted, shifted_sound}
use Rattle.dmc_head_index.proofs.heads.Heads.shift.Goals as goal
use Rattle.dmc_head_index.proofs.heads.Heads.shift.Goals.{in-None, in-Some}

pub map_ranks-requires-clause-ordered : goal.map_ranks-requires-clause-ordered
map_ranks-requires-clause-ordered g c = λ a b r s x y p q l e f.
    let inside = c.self.inside in
    let reservation = g.I.ReservationIndex.OrderIndex.slots inside.reservation in
    let limits = g.I.LimitIndex.OrderIndex.slots inside.limit in
    let ready = g.I.WeightIndex.OrderIndex.slots inside.weight in
    let heads = heads_from reservation limits ready in
    let ops = g.T.Tag.ops in
    let same = same_compare g.T.Ord.cmp ops.compare g.met.T.Tag.compares in
    let can = subst (CanShift ops c.args.amount) (sym c.self.view_is) c.requires in
    rw (e, f) (subst (λ compare. ready_rank_cmp compare (less_rank ops c.args.amount r) (less_rank ops c.args.amount s) ≡ Less) (sym same) (keeps_order ops (minus_keeps_order g.T.Tag.ops g.T.Tag.fraction g.T.Tag.is_value g.met.T.Tag.exact) c.args.amount heads can ready c.self.invariant.weight_is a b r s p q (subst (λ compare. ready_rank_cmp compare r s ≡ Less) same l)))

pub invariant_of-self : goal.invariant_of-self
invariant_of-self g c =
    let x = c.self.inside in
    let reservation = g.I.ReservationIndex.OrderIndex.slots x.reservation in
    let limits = g.I.LimitIndex.OrderIndex.slots x.limit in
    let ready = g.I.WeightIndex.OrderIndex.slots x.weight in
    let ops = g.T.Tag.ops in
    let can = subst (CanShift ops c.args.amount) (sym c.self.view_is) c.requires in
    let slots = mapped_slots ops (minus_keeps_order g.T.Tag.ops g.T.Tag.fraction g.T.Tag.is_value g.met.T.Tag.exact) c.args.amount _ (λ r y e. e) ready (g.I.WeightIndex.OrderIndex.slots c.map_ranks.new.self) c.map_ranks.ensures in
    let sound = shifted_sound ops (minus_keeps_order g.T.Tag.ops g.T.Tag.fraction g.T.Tag.is_value g.met.T.Tag.exact) c.args.amount reservation limits ready x.least x.room c.self.invariant can in
    let least : c.match-self.self ≡ option_map (less ops c.args.amount) x.least = elim c.match-self.branch [
      | in-None w ↦ w.self-is ∙ sym (ap (option_map (less ops c.args.amount)) w.in-None.is)
      | in-Some w ↦ w.self-is ∙ ap Some w.less.ensures ∙ sym (ap (option_map (less ops c.args.amount)) w.in-Some.is)
    ] in
    rw (slots, least) sound

pub returns : goal.returns
returns g c =
    let x = c.self.inside in
    let reservation = g.I.ReservationIndex.OrderIndex.slots x.reservation in
    let limits = g.I.LimitIndex.OrderIndex.slots x.limit in
    let ready = g.I.WeightIndex.OrderIndex.slots x.weight in
    let ops = g.T.Tag.ops in
    let slots = mapped_slots ops (minus_keeps_order g.T.Tag.ops g.T.Tag.fraction g.T.Tag.is_value g.met.T.Tag.exact) c.args.amount _ (λ r y e. e) ready (g.I.WeightIndex.OrderIndex.slots c.map_ranks.new.self) c.map_ranks.ensures in
    rw slots (heads_shifted ops (minus_keeps_order g.T.Tag.ops g.T.Tag.fraction g.T.Tag.is_value g.met.T.Tag.exact) c.args.amount reservation limits ready) ∙ ap (map (option_map (shifted ops c.args.amount))) c.self.view_is
