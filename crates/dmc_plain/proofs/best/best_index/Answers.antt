use Rattle.std.proofs.Common.{◌≡◌, ◌<◌, ◌-◌, suc, length, drop, ap, subst, arith}
use Rattle.std.proofs.Math.Seq.{drop-length}
use Rattle.dmc_tag.specs.Best.{best, is_below}
use Rattle.dmc_plain.specs.internal.Sets.{members, tag_of}
use Rattle.dmc_plain.proofs.Found.{Found, found_more, found_all, found_bound}
use Rattle.dmc_plain.proofs.best.best_index.Goals as goal

pub loop-i-preserved : goal.loop-i-preserved
loop-i-preserved g c =
    let before = is_below g.T.Tag.ops (tag_of c.args.set.now) in
    let member = members g.T.Tag.ops c.args.set.now in
    let next : c.loop-i.i ≡ suc (c.loop-i.i - 1) = omega arith in
    let within : c.loop-i.i - 1 < length c.args.requests.now = omega arith in
    let behind = subst (λ n. Found before member (drop n c.args.requests.now) n c.loop-i.found) next c.loop-i.invariant in
    rw c.better_index-found.ensures (found_more before member c.args.requests.now c.index-requests-i.result (c.loop-i.i - 1) c.loop-i.found within c.index-requests-i.is behind)

pub returns-clause-found : goal.returns-clause-found
returns-clause-found g c =
    let before = is_below g.T.Tag.ops (tag_of c.args.set.now) in
    let member = members g.T.Tag.ops c.args.set.now in
    let first : c.loop-i.i ≡ 0 = omega arith in
    let all = subst (λ n. Found before member (drop n c.args.requests.now) n c.loop-i.found) first c.loop-i.invariant in
    found_all before member c.args.requests.now c.loop-i.found all

pub better_index-found-requires : goal.better_index-found-requires
better_index-found-requires g c =
    let before = is_below g.T.Tag.ops (tag_of c.args.set.now) in
    let member = members g.T.Tag.ops c.args.set.now in
    found_bound before member c.args.requests.now c.loop-i.i c.loop-i.found c.loop-i.invariant

pub returns-clause-bound : goal.returns-clause-bound
returns-clause-bound g c =
    let before = is_below g.T.Tag.ops (tag_of c.args.set.now) in
    let member = members g.T.Tag.ops c.args.set.now in
    found_bound before member c.args.requests.now c.loop-i.i c.loop-i.found c.loop-i.invariant

pub loop-i-init : goal.loop-i-init
loop-i-init g c = ap (best (is_below g.T.Tag.ops (tag_of c.args.set.now)) (members g.T.Tag.ops c.args.set.now)) (drop-length c.args.requests.now)

pub offset_bounds-requests-i : goal.offset_bounds-requests-i
offset_bounds-requests-i g c = omega arith

pub bounds-requests-i : goal.bounds-requests-i
bounds-requests-i g c = omega arith
