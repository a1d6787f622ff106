use Rattle.std.proofs.Common.{List, Option, not, ap, ◌∙◌, subst}
use Rattle.std.specs.Option.{MatchOption}
use Rattle.dmc_index.specs.Index.{IsEmpty}
use Rattle.dmc_head_index.specs.declared.head.Head.{Head}
use Rattle.dmc_head_index.specs.Heads.{heads_from, IsLeastShare}
use Rattle.dmc_head_index.specs.internal.Least.{FindsLeast}
use Rattle.dmc_head_index.proofs.Clients.{tag_order}
use Rattle.dmc_head_index.proofs.Least.{found_is, if_found, if_known}
use Rattle.dmc_head_index.proofs.heads.Heads.least_share.Given.{Over}
use Rattle.dmc_head_index.proofs.heads.Heads.least_share.Goals as goal
use Rattle.dmc_head_index.proofs.heads.Heads.least_share.Goals.{Joined-is_none, then-is_none, else-is_none}

-- ---- what the paths share

abbrev heads_of : (g : Over) → Joined-is_none g → List (Option (Head g.row.T.Denot))
heads_of g c =
    let x = c.self.inside in
    heads_from (g.I.ReservationIndex.OrderIndex.slots x.reservation) (g.I.LimitIndex.OrderIndex.slots x.limit) (g.I.WeightIndex.OrderIndex.slots x.weight)

found : (g : Over) (c : Joined-is_none g) (least : Option g.row.T.Denot) → FindsLeast g.T.Tag.ops (g.I.WeightIndex.OrderIndex.slots c.self.inside.weight) c.self.inside.room least
    → MatchOption least (IsEmpty (heads_of g c)) (IsLeastShare g.T.Tag.ops (heads_of g c))
found g c =
    let order = tag_order g.T.Ord.cmp g.T.Tag.ops.compare g.met.T.Ord.total g.met.T.Tag.compares in
    let ready = g.I.WeightIndex.OrderIndex.slots c.self.inside.weight in
    found_is g.T.Tag.ops order (heads_of g c) ready c.self.invariant.weight_is c.self.inside.room c.self.invariant.room_is

-- ---- the goals

pub invariant_of-self : goal.invariant_of-self
invariant_of-self g c =
    let p = (goal.at.invariant_of-self g c).Joined-is_none in
    elim c.if-is_none.branch [
      | then-is_none w ↦
          let now = found g p w.find_least-self-inside.result w.find_least-self-inside.ensures in
          rw w.self-inside-is (record { reservation_is = c.self.invariant.reservation_is; limit_is = c.self.invariant.limit_is; weight_is = c.self.invariant.weight_is; apart = c.self.invariant.apart; room_is = c.self.invariant.room_is; least_is = if_found g.T.Tag.ops (heads_of g p) w.find_least-self-inside.result now })
      | else-is_none w ↦ rw w.self-inside-is c.self.invariant
    ]

pub returns-clause-value : goal.returns-clause-value
returns-clause-value g c =
    let p = (goal.at.returns-clause-value g c).Joined-is_none in
    elim c.if-is_none.branch [
      | then-is_none w ↦
          let now = found g p w.find_least-self-inside.result w.find_least-self-inside.ensures in
          rw w.self-inside-is (subst (λ hs. MatchOption w.find_least-self-inside.result (IsEmpty hs) (IsLeastShare g.T.Tag.ops hs)) c.self.view_is now)
      | else-is_none w ↦
          let known = if_known g.T.Tag.ops (heads_of g p) c.self.inside.least (c.is_none.ensures ∙ ap not w.if-is_none.false) c.self.invariant.least_is in
          rw w.self-inside-is (subst (λ hs. MatchOption c.self.inside.least (IsEmpty hs) (IsLeastShare g.T.Tag.ops hs)) c.self.view_is known)
    ]
