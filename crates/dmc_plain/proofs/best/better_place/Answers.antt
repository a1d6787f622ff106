use Rattle.std.proofs.Common.{◌≡◌, ◌∙◌, ap, sym}
use Rattle.std.specs.Option.{option_and_then}
use Rattle.std.specs.Prelude.{slice_get}
use Rattle.dmc_tag.specs.Best.{best_of_one, better_found}
use Rattle.dmc_plain.specs.internal.Places.{found_at, place_found}
use Rattle.dmc_plain.specs.internal.Sets.{members, tag_of}
use Rattle.dmc_plain.proofs.Places.{better_none, best_there, is_place}
use Rattle.dmc_plain.proofs.best.better_place.Given.{Over}
use Rattle.dmc_plain.proofs.best.better_place.Goals.{In-Some}
use Rattle.dmc_plain.proofs.best.better_place.Goals as goal

-- what is found of the client at i
own : (g : Over) (c : In-Some g) → found_at c.args.clients.now (record { client = c.args.i; request = c.in-Some.request })
    ≡ option_and_then (best_of_one g.T.Tag.ops (tag_of c.args.set.now) (members g.T.Tag.ops c.args.set.now)) (slice_get c.args.clients.now c.args.i)
own g c =
    best_there g.T.Tag.ops c.args.set.now c.args.clients.now c.args.i c.in-Some.request c.index-clients-i.result c.requires.client c.index-clients-i.is
    c.requests.result.now c.requests.ensures c.in-Some.ensures.found

pub earlier_place-requires-clause-a : goal.earlier_place-requires-clause-a
earlier_place-requires-clause-a g c =
    is_place g.T.Tag.ops c.args.set.now c.args.clients.now c.args.i c.in-Some.request c.index-clients-i.result c.requires.client c.index-clients-i.is
    c.requests.result.now c.requests.ensures c.in-Some.ensures.bound

pub returns-in-None-clause-found : goal.returns-in-None-clause-found
returns-in-None-clause-found g c =
    let here = option_and_then (best_of_one g.T.Tag.ops (tag_of c.args.set.now) (members g.T.Tag.ops c.args.set.now)) (slice_get c.args.clients.now c.args.i) in
    own g (goal.at.returns-in-None-clause-found g c).In-Some
    ∙ sym (ap (λ found. better_found g.T.Tag.ops (tag_of c.args.set.now) here (place_found c.args.clients.now found)) c.in-None.is ∙ better_none g.T.Tag.ops c.args.set.now c.args.clients.now here)

pub returns-in-None-clause-bound : goal.returns-in-None-clause-bound
returns-in-None-clause-bound g c =
    is_place g.T.Tag.ops c.args.set.now c.args.clients.now c.args.i c.in-Some.request c.index-clients-i.result c.requires.client c.index-clients-i.is
    c.requests.result.now c.requests.ensures c.in-Some.ensures.bound

pub returns-in-Some-found-clause-found : goal.returns-in-Some-found-clause-found
returns-in-Some-found-clause-found g c =
    c.earlier_place.ensures.found
    ∙ ap (λ x. better_found g.T.Tag.ops (tag_of c.args.set.now) x (found_at c.args.clients.now c.in-Some-found.other)) (own g (goal.at.returns-in-Some-found-clause-found g c).In-Some)
    ∙ ap (λ found. better_found g.T.Tag.ops (tag_of c.args.set.now) (option_and_then (best_of_one g.T.Tag.ops (tag_of c.args.set.now) (members g.T.Tag.ops c.args.set.now)) (slice_get c.args.clients.now c.args.i)) (place_found c.args.clients.now found)) (sym c.in-Some-found.is)
