use Rattle.std.proofs.Common.{sym}
use Rattle.std.proofs.Math.Seq.{map-set_same}
use Rattle.dmc_sim.proofs.Clients.{completes_none, completes_one}
use Rattle.dmc_sim.proofs.round.count_completion.Goals as goal

pub returns-in-Some-clause-scenes : goal.returns-in-Some-clause-scenes
returns-in-Some-clause-scenes c =
    map-set_same _ c.args.clients.now c.in-Some.place c.count_completed.new.self c.index-clients-place.result c.count_completed.ensures.scene

pub returns-in-Some-clause-counted : goal.returns-in-Some-clause-counted
returns-in-Some-clause-counted c =
    let counted = c.count_completed.ensures in
    completes_one c.args.clients.now c.args.client c.args.phase c.in-Some.place c.index-clients-place.result c.count_completed.new.self c.requires.apart (sym (rw c.requires.ids at c.in-Some.ensures.index)) (record {
      scene = counted.scene;
      plan = counted.plan;
      sent = counted.sent;
      completed = counted.completed;
      reservation = counted.reservation;
    })

pub returns-in_default-clause-counted : goal.returns-in_default-clause-counted
returns-in_default-clause-counted c = completes_none c.args.clients.now c.args.client c.args.phase (sym (rw c.requires.ids at c.in_default.ensures.index))
