use Rattle.dmc_book.specs.BookState.{pass_state}
use Rattle.dmc_book.proofs.RunLemmas as lemma
use Rattle.dmc_book.proofs.book.QueueBook.pull.Goals as goal

pub returns-clause-pulled : goal.returns-clause-pulled
returns-clause-pulled g c = lemma.was_pulled g.T.Tag.ops c.args.self.now c.pull_next.new.self (pass_state c.args.pass.now) (pass_state c.pull_next.new.pass) c.args.at c.pull_next.result c.pull_next.ensures

pub returns-clause-stranger : goal.returns-clause-stranger
returns-clause-stranger g c = lemma.pull_told_stranger g.T.Tag.ops c.args.self.now c.pull_next.new.self (pass_state c.args.pass.now) (pass_state c.pull_next.new.pass) c.args.at c.pull_next.result c.pull_next.ensures

pub returns-clause-strays : goal.returns-clause-strays
returns-clause-strays g c = lemma.pull_strays g.T.Tag.ops c.args.self.now c.pull_next.new.self (pass_state c.args.pass.now) (pass_state c.pull_next.new.pass) c.args.at c.pull_next.result c.pull_next.ensures

pub returns-clause-granted : goal.returns-clause-granted
returns-clause-granted g c = lemma.pull_allowed g.T.Tag.ops c.args.self.now c.pull_next.new.self (pass_state c.args.pass.now) (pass_state c.pull_next.new.pass) c.args.at c.pull_next.result c.pull_next.ensures

pub returns-clause-history_full : goal.returns-clause-history_full
returns-clause-history_full g c = lemma.pull_told_full g.T.Tag.ops c.args.self.now c.pull_next.new.self (pass_state c.args.pass.now) (pass_state c.pull_next.new.pass) c.args.at c.pull_next.result c.pull_next.ensures

pub returns-clause-behind : goal.returns-clause-behind
returns-clause-behind g c = lemma.pull_behind g.T.Tag.ops c.args.self.now c.pull_next.new.self (pass_state c.args.pass.now) (pass_state c.pull_next.new.pass) c.args.at c.pull_next.result c.pull_next.ensures

pub returns-clause-not_behind : goal.returns-clause-not_behind
returns-clause-not_behind g c = lemma.pull_not_behind g.T.Tag.ops c.args.self.now c.pull_next.new.self (pass_state c.args.pass.now) (pass_state c.pull_next.new.pass) c.args.at c.pull_next.result c.pull_next.ensures

pub returns-clause-memory : goal.returns-clause-memory
returns-clause-memory g c = lemma.pull_memory g.T.Tag.ops c.args.self.now c.pull_next.new.self (pass_state c.args.pass.now) (pass_state c.pull_next.new.pass) c.args.at c.pull_next.result c.pull_next.ensures
