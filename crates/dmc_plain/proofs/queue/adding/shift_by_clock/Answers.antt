use Rattle.std.proofs.Common.{refl, arith}
use Rattle.dmc_plain.proofs.Places.{request_within, found_read}
use Rattle.dmc_plain.proofs.queue.adding.shift_by_clock.Goals as goal

pub bounds-requests-least : goal.bounds-requests-least
bounds-requests-least g c =
    request_within c.args.clients.now c.in-Some.least c.in-Some.ensures.bound c.index-clients-least.result c.index-clients-least.is c.requests.result.now c.requests.ensures

pub offset_bounds-requests-least : goal.offset_bounds-requests-least
offset_bounds-requests-least g c =
    omega (arith, request_within c.args.clients.now c.in-Some.least c.in-Some.ensures.bound c.index-clients-least.result c.index-clients-least.is c.requests.result.now c.requests.ensures)

pub returns-in-None-minus : goal.returns-in-None-minus
returns-in-None-minus g c =
    let found = found_read c.args.clients.now c.in-Some.least c.in-Some.ensures.bound c.index-clients-least.result c.index-clients-least.is c.requests.result.now c.requests.ensures
    c.index-requests-least.result c.index-requests-least.is in
    rw (← c.is_idle.ensures, c.if-not-is_idle.false, ← c.in-Some.ensures.found, found, ← c.minus.ensures, c.in-None-minus.is) refl

pub returns-in-Some-minus : goal.returns-in-Some-minus
returns-in-Some-minus g c =
    let found = found_read c.args.clients.now c.in-Some.least c.in-Some.ensures.bound c.index-clients-least.result c.index-clients-least.is c.requests.result.now c.requests.ensures
    c.index-requests-least.result c.index-requests-least.is in
    rw (← c.is_idle.ensures, c.if-not-is_idle.false, ← c.in-Some.ensures.found, found, ← c.minus.ensures, c.in-Some-minus.is) refl
