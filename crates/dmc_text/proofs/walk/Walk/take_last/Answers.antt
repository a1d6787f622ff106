-- The last line is taken as any other.
use Rattle.dmc_text.proofs.WalkLemmas.{last_taken}
use Rattle.dmc_text.proofs.walk.Walk.take_last.Goals as goal

pub returns : goal.returns
returns g c =
    let l = g.L.TakesLines in
    let found = c.if-not-find_last.ensures in
    last_taken l.takes l.refuses c.args.taker.now c.take.new.taker c.args.self.now c.take.new.self c.find_last.new.self c.take.result c.requires.none found.1 found.0 c.take.ensures
