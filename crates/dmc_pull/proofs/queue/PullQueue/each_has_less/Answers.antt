-- All pass if as many pass as there are.
use Rattle.std.proofs.Common.{ap}
use Rattle.dmc_adjust.specs.Changes.{is_shiftable}
use Rattle.dmc_roster.specs.Entries.{Entry}
use Rattle.dmc_pull.proofs.Common.Parts.{all_counted}
use Rattle.dmc_pull.proofs.queue.PullQueue.each_has_less.Goals as goal

pub returns : goal.returns
returns g c =
    all_counted (λ (e : Entry _). is_shiftable g.T.Tag.ops c.args.amount e.rec) c.self.inside.roster.entries c.args.self.now.roster.entries c.count.result c.len.result
    (ap (λ q. q.roster.entries) c.self.view_is) c.count.ensures.value c.len.ensures.value
