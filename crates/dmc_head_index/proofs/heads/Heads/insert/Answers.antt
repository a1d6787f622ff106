use Rattle.dmc_head_index.proofs.Clients.{tag_order}
use Rattle.dmc_head_index.proofs.Writes.{reservation_room, limit_room, weight_room, reservation_vacant, limit_vacant, weight_vacant, reservation_new, limit_new, weight_new, heads_written, inserted_sound}
use Rattle.dmc_head_index.proofs.heads.Heads.insert.Goals as goal

pub insert-requires-clause-in_room : goal.insert-requires-clause-in_room
insert-requires-clause-in_room g c =
    reservation_room c.self.invariant c.self.view_is c.args.key c.requires.in_room

pub insert-requires-clause-vacant : goal.insert-requires-clause-vacant
insert-requires-clause-vacant g c =
    reservation_vacant c.self.invariant c.self.view_is c.args.key c.requires.vacant

pub insert-requires-clause-apart : goal.insert-requires-clause-apart
insert-requires-clause-apart g c =
    reservation_new c.self.invariant c.self.view_is g.T.Ord.cmp c.args.key c.args.head c.requires.apart c.requires.vacant c.tag_rank.ensures

pub insert-requires-2-clause-in_room : goal.insert-requires-2-clause-in_room
insert-requires-2-clause-in_room g c =
    limit_room c.self.invariant c.self.view_is c.args.key c.requires.in_room

pub insert-requires-2-clause-vacant : goal.insert-requires-2-clause-vacant
insert-requires-2-clause-vacant g c =
    limit_vacant c.self.invariant c.self.view_is c.args.key c.requires.vacant

pub insert-requires-2-clause-apart : goal.insert-requires-2-clause-apart
insert-requires-2-clause-apart g c =
    limit_new c.self.invariant c.self.view_is g.T.Ord.cmp c.args.key c.args.head c.requires.apart c.requires.vacant c.limit_rank.ensures

pub insert-requires-3-clause-in_room : goal.insert-requires-3-clause-in_room
insert-requires-3-clause-in_room g c =
    weight_room c.self.invariant c.self.view_is c.args.key c.requires.in_room

pub insert-requires-3-clause-vacant : goal.insert-requires-3-clause-vacant
insert-requires-3-clause-vacant g c =
    weight_vacant c.self.invariant c.self.view_is c.args.key c.requires.vacant

pub insert-requires-3-clause-apart : goal.insert-requires-3-clause-apart
insert-requires-3-clause-apart g c =
    weight_new c.self.invariant c.self.view_is g.T.Ord.cmp c.args.key c.args.head c.requires.apart c.requires.vacant c.ready_rank.ensures

pub invariant_of-self : goal.invariant_of-self
invariant_of-self g c =
    inserted_sound c.self.invariant c.self.view_is c.args.key c.args.head
    c.tag_rank.ensures c.limit_rank.ensures c.ready_rank.ensures c.insert.ensures c.insert-2.ensures c.insert-3.ensures
    (tag_order g.T.Ord.cmp g.T.Tag.ops.compare g.met.T.Ord.total g.met.T.Tag.compares)
    c.requires.in_room c.requires.vacant c.requires.apart c.is_empty-is_first.ensures c.least_with-self-inside.ensures

pub returns : goal.returns
returns g c =
    heads_written c.self.invariant c.self.view_is c.args.key c.args.head
    c.tag_rank.ensures c.limit_rank.ensures c.ready_rank.ensures c.insert.ensures c.insert-2.ensures c.insert-3.ensures
