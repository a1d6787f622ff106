use Rattle.std.proofs.Common.{◌∙◌, ap}
use Rattle.dmc_types.specs.Limits.{max_clients, max_requests}
use Rattle.dmc_tag.specs.Rules.{reduced_by}
use Rattle.dmc_plain.proofs.Changed.{taken_as, taken_kept}
use Rattle.dmc_plain.proofs.queue.PlainQueue.take_out.Goals as goal

pub invariant_of-self : goal.invariant_of-self
invariant_of-self g c =
    taken_kept g.T.Tag.ops max_clients max_requests _ c.args.self.now c.self.view_is c.self.invariant c.args.place c.requires c.index_mut-client.result.now c.index_mut-client.ensures.value
    c.args.amount c.reduce.new.self (c.reduce.ensures ∙ ap (reduced_by g.T.Tag.ops c.args.amount) c.take_out.ensures)

pub returns : goal.returns
returns g c =
    taken_as g.T.Tag.ops max_clients max_requests _ c.args.self.now c.self.view_is c.self.invariant c.args.place c.requires c.index_mut-client.result.now c.index_mut-client.ensures.value
    c.args.at c.args.amount c.reduce.new.self (c.reduce.ensures ∙ ap (reduced_by g.T.Tag.ops c.args.amount) c.take_out.ensures)
