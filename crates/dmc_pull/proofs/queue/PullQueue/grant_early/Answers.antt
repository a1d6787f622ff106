use Rattle.dmc_pull.proofs.Pull.Grants.{early_settles, counts_nothing, reduces_nothing}
use Rattle.dmc_pull.proofs.Common.Replaced.{waits}
use Rattle.dmc_pull.proofs.queue.PullQueue.grant_early.Goals as goal

pub take_out-request-requires-clause-reducible : goal.take_out-request-requires-clause-reducible
take_out-request-requires-clause-reducible g c = reduces_nothing g.T.Tag.ops (waits c.args.self.now.roster.entries c.args.key c.args.client c.requires.first)

pub returns : goal.returns
returns g c =
    let old = c.args.self.now in
    early_settles g.T.Tag.ops old c.take_out-request.new.self c.args.key c.args.client c.args.at c.take_out-request.ensures.distinct (waits old.roster.entries c.args.key c.args.client c.requires.first) c.take_out-request.result
    (record { roster = c.take_out-request.ensures.roster; config = c.take_out-request.ensures.config; moment = c.take_out-request.ensures.moment; progress = counts_nothing g.T.Tag.ops old c.take_out-request.new.self c.args.key c.take_out-request.ensures.progress }) c.take_out-request.ensures.request
