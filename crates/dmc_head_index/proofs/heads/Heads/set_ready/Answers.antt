use Rattle.std.proofs.Common.{is_some, ap, ◌∙◌}
use Rattle.dmc_head_index.proofs.Clients.{tag_order}
use Rattle.dmc_head_index.proofs.Writes.{limit_held, weight_held, marked_limit_apart, marked_share_apart, heads_marked, marked_stays_sound}
use Rattle.dmc_head_index.proofs.heads.Heads.set_ready.Goals as goal

pub unwrap-limit-requires : goal.unwrap-limit-requires
unwrap-limit-requires g c =
    ap is_some c.get.ensures ∙ limit_held c.self.invariant c.self.view_is c.args.key c.requires

pub unwrap-share-requires : goal.unwrap-share-requires
unwrap-share-requires g c =
    ap is_some c.get-2.ensures ∙ weight_held c.self.invariant c.self.view_is c.args.key c.requires

pub change-requires-clause-here : goal.change-requires-clause-here
change-requires-clause-here g c =
    limit_held c.self.invariant c.self.view_is c.args.key c.requires

pub change-requires-clause-apart : goal.change-requires-clause-apart
change-requires-clause-apart g c =
    marked_limit_apart c.self.invariant c.self.view_is c.args.key c.requires c.args.ready c.get.ensures c.unwrap-limit.ensures g.T.Ord.cmp

pub change-requires-2-clause-here : goal.change-requires-2-clause-here
change-requires-2-clause-here g c =
    weight_held c.self.invariant c.self.view_is c.args.key c.requires

pub change-requires-2-clause-apart : goal.change-requires-2-clause-apart
change-requires-2-clause-apart g c =
    marked_share_apart c.self.invariant c.self.view_is c.args.key c.requires c.args.ready c.get.ensures c.unwrap-limit.ensures c.get-2.ensures c.unwrap-share.ensures g.T.Ord.cmp

pub invariant_of-self : goal.invariant_of-self
invariant_of-self g c =
    marked_stays_sound c.self.invariant c.self.view_is c.args.key c.requires c.args.ready c.get.ensures c.unwrap-limit.ensures c.get-2.ensures c.unwrap-share.ensures
    (tag_order g.T.Ord.cmp g.T.Tag.ops.compare g.met.T.Ord.total g.met.T.Tag.compares) c.change.ensures c.change-2.ensures

pub returns : goal.returns
returns g c =
    heads_marked c.self.invariant c.self.view_is c.args.key c.requires c.args.ready c.get.ensures c.unwrap-limit.ensures c.get-2.ensures c.unwrap-share.ensures
    (tag_order g.T.Ord.cmp g.T.Tag.ops.compare g.met.T.Ord.total g.met.T.Tag.compares) c.change.ensures c.change-2.ensures
