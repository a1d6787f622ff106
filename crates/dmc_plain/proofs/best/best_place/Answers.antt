use Rattle.std.proofs.Common.{◌≡◌, ◌<◌, ◌-◌, suc, length, drop, subst, arith}
use Rattle.dmc_tag.specs.Best.{best_of_all}
use Rattle.dmc_plain.specs.internal.Places.{place_found}
use Rattle.dmc_plain.specs.internal.Sets.{members, tag_of}
use Rattle.dmc_plain.proofs.Places.{places_more}
use Rattle.dmc_plain.proofs.best.best_place.Goals as goal

pub loop-i-preserved : goal.loop-i-preserved
loop-i-preserved g c =
    let clients = c.args.clients.now in
    let all = best_of_all g.T.Tag.ops (tag_of c.args.set.now) (members g.T.Tag.ops c.args.set.now) in
    let next : c.loop-i.i ≡ suc (c.loop-i.i - 1) = omega arith in
    let within : c.loop-i.i - 1 < length clients = omega arith in
    let so_far = subst (λ n. place_found clients c.loop-i.found ≡ all (drop n clients)) next c.loop-i.invariant.0 in
    (places_more g.T.Tag.ops c.args.set.now clients (c.loop-i.i - 1) c.loop-i.found c.better_place-found.result within so_far c.better_place-found.ensures.found, c.better_place-found.ensures.bound)
