use Rattle.std.proofs.Common.{◌≡◌, None, rules, sym}
use Rattle.dmc_client.proofs.Deferred.{none_deferred}
use Rattle.dmc_client.proofs.queue.settle.Goals as goal

pub returns-in_default : goal.returns-in_default
returns-in_default g c =
    let none : c.args.deferred ≡ None = search rules in
    rw none (sym (none_deferred g.T.Tag.ops c.args.stored.now))
