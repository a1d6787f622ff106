use Rattle.std.proofs.Common.{is_some, ap, ◌∙◌}
use Rattle.dmc_head_index.proofs.Clients.{tag_order}
use Rattle.dmc_head_index.proofs.Writes.{reservation_held, limit_held, weight_held, reservation_apart, limit_apart, weight_apart, is_there, still_others, heads_written, changed_sound}
use Rattle.dmc_head_index.proofs.heads.Heads.change.Goals as goal

pub unwrap-old-requires : goal.unwrap-old-requires
unwrap-old-requires g c =
    ap is_some c.get.ensures ∙ weight_held c.self.invariant c.self.view_is c.args.key (is_there c.self.invariant c.self.view_is c.args.key c.args.head c.requires.here)

pub change-requires-clause-here : goal.change-requires-clause-here
change-requires-clause-here g c =
    reservation_held c.self.invariant c.self.view_is c.args.key (is_there c.self.invariant c.self.view_is c.args.key c.args.head c.requires.here)

pub change-requires-2-clause-here : goal.change-requires-2-clause-here
change-requires-2-clause-here g c =
    limit_held c.self.invariant c.self.view_is c.args.key (is_there c.self.invariant c.self.view_is c.args.key c.args.head c.requires.here)

pub change-requires-3-clause-here : goal.change-requires-3-clause-here
change-requires-3-clause-here g c =
    weight_held c.self.invariant c.self.view_is c.args.key (is_there c.self.invariant c.self.view_is c.args.key c.args.head c.requires.here)

pub change-requires-clause-apart : goal.change-requires-clause-apart
change-requires-clause-apart g c =
    reservation_apart c.self.invariant c.self.view_is g.T.Ord.cmp c.args.key c.args.head (still_others c.self.invariant c.self.view_is c.args.key c.args.head c.requires.here) c.tag_rank.ensures

pub change-requires-2-clause-apart : goal.change-requires-2-clause-apart
change-requires-2-clause-apart g c =
    limit_apart c.self.invariant c.self.view_is g.T.Ord.cmp c.args.key c.args.head (still_others c.self.invariant c.self.view_is c.args.key c.args.head c.requires.here) c.limit_rank.ensures

pub change-requires-3-clause-apart : goal.change-requires-3-clause-apart
change-requires-3-clause-apart g c =
    weight_apart c.self.invariant c.self.view_is g.T.Ord.cmp c.args.key c.args.head (still_others c.self.invariant c.self.view_is c.args.key c.args.head c.requires.here) c.ready_rank.ensures

pub invariant_of-self : goal.invariant_of-self
invariant_of-self g c =
    changed_sound c.self.invariant c.self.view_is c.args.key c.args.head
    c.tag_rank.ensures c.limit_rank.ensures c.ready_rank.ensures c.change.ensures c.change-2.ensures c.change-3.ensures
    (tag_order g.T.Ord.cmp g.T.Tag.ops.compare g.met.T.Ord.total g.met.T.Tag.compares)
    c.requires.here c.get.ensures c.unwrap-old.ensures c.least_after-self-inside.ensures

pub returns : goal.returns
returns g c =
    heads_written c.self.invariant c.self.view_is c.args.key c.args.head
    c.tag_rank.ensures c.limit_rank.ensures c.ready_rank.ensures c.change.ensures c.change-2.ensures c.change-3.ensures
