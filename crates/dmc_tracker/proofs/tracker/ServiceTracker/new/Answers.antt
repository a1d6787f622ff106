use Rattle.std.proofs.Common.{◌≡◌, replicate, rules, refl, arith}
use Rattle.dmc_types.specs.Values.{no_counts}
use Rattle.dmc_types.specs.declared.config.Counting.{Counting}
use Rattle.dmc_types.specs.declared.config.Counting.TheVariants.{All, Others}
use Rattle.dmc_tracker.specs.Numbers.{no_numbers}
use Rattle.dmc_tracker.specs.Server.{numbers_now}
use Rattle.dmc_tracker.proofs.ServerLemmas.{view-new, AreKept-new}
use Rattle.dmc_tracker.proofs.RepresentsLemmas.{RepresentsEvents-new}
use Rattle.dmc_tracker.proofs.tracker.ServiceTracker.new.Goals as goal

none_now : (counting : Counting) → numbers_now counting no_counts (record { sent = no_counts; skipped = no_counts; own = no_counts; mark = no_counts }) ≡ no_numbers
none_now All = refl
none_now Others = refl

pub returns-clause-ok : goal.returns-clause-ok
returns-clause-ok c =
    let items : c.in_ok-servers.servers.items ≡ replicate c.args.servers c.none.result = search rules in
    rw (c.none-2.ensures, items, c.none.ensures) (view-new c.args.counting c.args.most c.args.servers _ (none_now c.args.counting))

pub returns-clause-represents : goal.returns-clause-represents
returns-clause-represents c = rw (returns-clause-ok c) (RepresentsEvents-new c.args.counting c.args.most c.args.servers)

pub returns-in_err-servers-clause-limit : goal.returns-in_err-servers-clause-limit
returns-in_err-servers-clause-limit c over = absurd (over (record { some_servers = c.if-servers-lt1.false; servers_limit = omega arith; some_most = c.if-most-lt1.false; max_limit = omega arith }))

pub returns-clause-limit : goal.returns-clause-limit
returns-clause-limit c over = absurd (over (record { some_servers = c.if-servers-lt1.false; servers_limit = omega arith; some_most = c.if-most-lt1.false; max_limit = omega arith }))

pub invariant_of-result : goal.invariant_of-result
invariant_of-result c =
    let items : c.in_ok-servers.servers.items ≡ replicate c.args.servers c.none.result = search rules in
    rw (c.none-2.ensures, items, c.none.ensures) (AreKept-new c.args.counting c.args.most c.args.servers (record { some_servers = c.if-servers-lt1.false; servers_limit = omega arith; some_most = c.if-most-lt1.false; max_limit = omega arith }))
