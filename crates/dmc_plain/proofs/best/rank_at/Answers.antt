use Rattle.std.proofs.Common.{arith}
use Rattle.dmc_plain.proofs.Places.{request_within, found_read}
use Rattle.dmc_plain.proofs.best.rank_at.Goals as goal

pub bounds-requests-place : goal.bounds-requests-place
bounds-requests-place g c =
    request_within c.args.clients.now c.args.place c.requires c.index-clients-place.result c.index-clients-place.is c.requests.result.now c.requests.ensures

pub offset_bounds-requests-place : goal.offset_bounds-requests-place
offset_bounds-requests-place g c =
    omega (arith, request_within c.args.clients.now c.args.place c.requires c.index-clients-place.result c.index-clients-place.is c.requests.result.now c.requests.ensures)

pub returns : goal.returns
returns g c =
    let found = found_read c.args.clients.now c.args.place c.requires c.index-clients-place.result c.index-clients-place.is c.requests.result.now c.requests.ensures
    c.index-requests-place.result c.index-requests-place.is in
    rw (found, c.tag.ensures, c.id.ensures)
