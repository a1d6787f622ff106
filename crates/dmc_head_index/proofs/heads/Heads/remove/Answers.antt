use Rattle.dmc_head_index.proofs.Clients.{tag_order}
use Rattle.dmc_head_index.proofs.Writes.{reservation_held, limit_held, weight_held, heads_removed, removed_sound}
use Rattle.dmc_head_index.proofs.heads.Heads.remove.Goals as goal

pub remove-requires : goal.remove-requires
remove-requires g c =
    reservation_held c.self.invariant c.self.view_is c.args.key c.requires

pub remove-requires-2 : goal.remove-requires-2
remove-requires-2 g c =
    limit_held c.self.invariant c.self.view_is c.args.key c.requires

pub remove-rank-requires : goal.remove-rank-requires
remove-rank-requires g c =
    weight_held c.self.invariant c.self.view_is c.args.key c.requires

pub invariant_of-self : goal.invariant_of-self
invariant_of-self g c =
    removed_sound c.self.invariant c.self.view_is c.args.key c.remove.ensures.rest c.remove-2.ensures.rest c.remove-rank.ensures.rest
    (tag_order g.T.Ord.cmp g.T.Tag.ops.compare g.met.T.Ord.total g.met.T.Tag.compares)
    c.requires c.remove-rank.ensures.value c.least_without-self-inside.ensures

pub returns : goal.returns
returns g c =
    heads_removed c.self.invariant c.self.view_is c.args.key c.remove.ensures.rest c.remove-2.ensures.rest c.remove-rank.ensures.rest
