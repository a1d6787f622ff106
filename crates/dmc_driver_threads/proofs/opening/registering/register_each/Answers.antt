use Rattle.std.proofs.Common.{◌≡◌, length, ◌∙◌, arith}
use Rattle.dmc_driver_threads.proofs.Registering.{events_of, has_desk}
use Rattle.dmc_driver_threads.proofs.opening.registering.register_each.Goals as goal

pub register-requires-clause-desk : goal.register-requires-clause-desk
register-requires-clause-desk g c =
    let i = c.loop-client.client-index in
    has_desk c.loop-client.book.desks c.args.clients.now i _ (c.loop-client.invariant.kept.desks ∙ c.requires.desks) (omega arith) c.client-item.is

pub register-requires-clause-place : goal.register-requires-clause-place
register-requires-clause-place g c =
    let i = c.loop-client.client-index in
    let recorded : length c.loop-client.book.history ≡ i = events_of c.loop-client.book.history c.args.clients.now i c.loop-client.invariant.registered (omega arith) in
    omega (arith, recorded, c.loop-client.invariant.kept.most, c.requires.room)
