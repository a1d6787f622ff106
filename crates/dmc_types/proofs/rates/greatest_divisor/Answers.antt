use Rattle.std.proofs.Common.{◌≡◌, ◌<◌, ◌/◌, arith}
use Rattle.dmc_types.proofs.RateLemmas.{found_counterpart, found_best}
use Rattle.dmc_types.proofs.rates.greatest_divisor.Goals as goal

pub returns-then-counterpart-most : goal.returns-then-counterpart-most
returns-then-counterpart-most c =
    let so_far = c.loop-divisor.invariant in
    found_counterpart c.args.hz c.requires.hz c.args.most c.loop-divisor.divisor c.loop-divisor.best (omega arith) so_far.0 so_far.1 so_far.2 so_far.3 (record { some = omega arith; exact = omega arith }) (omega arith)

pub returns-after-loop-divisor : goal.returns-after-loop-divisor
returns-after-loop-divisor c =
    let so_far = c.loop-divisor.invariant in
    let at_end : c.loop-divisor.divisor ≡ 65537 = omega arith in
    let past_root : c.args.hz / c.loop-divisor.divisor < c.loop-divisor.divisor = rw at_end (omega arith) in
    found_best c.args.hz c.requires.hz c.args.most c.loop-divisor.divisor c.loop-divisor.best (omega arith) so_far.0 so_far.1 so_far.2 so_far.3 past_root

pub returns-then-counterpart-divisor : goal.returns-then-counterpart-divisor
returns-then-counterpart-divisor c =
    let so_far = c.loop-divisor.invariant in
    found_best c.args.hz c.requires.hz c.args.most c.loop-divisor.divisor c.loop-divisor.best (omega arith) so_far.0 so_far.1 so_far.2 so_far.3 (omega arith)
