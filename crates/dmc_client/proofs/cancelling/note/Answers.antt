use Rattle.std.proofs.Common.{take, ap, sym, ◌∙◌, arith}
use Rattle.dmc_client.specs.internal.Passed.{noted}
use Rattle.dmc_client.proofs.Unchanged.{last_read}
use Rattle.dmc_client.proofs.cancelling.note.Goals as goal

pub returns-then-index-gt0 : goal.returns-then-index-gt0
returns-then-index-gt0 g c =
    let items = c.args.queue.now.items in
    c.unchanged.ensures
    ∙ last_read c.args.befores.now items c.args.index c.index.result.now (omega arith) (omega arith) c.index.ensures
    ∙ sym (ap (λ leaves. noted leaves c.args.befores.now (take c.args.index items)) c.if-leaves.true)
