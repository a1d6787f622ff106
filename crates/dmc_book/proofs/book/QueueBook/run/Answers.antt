use Rattle.dmc_book.specs.BookState.{pass_state}
use Rattle.dmc_book.proofs.RunLemmas as lemma
use Rattle.dmc_book.proofs.book.QueueBook.run.Goals as goal

pub returns-clause-ran : goal.returns-clause-ran
returns-clause-ran g c = lemma.ran_if_ok g.T.Tag.ops c.args.self.now c.hand_on.new.self (pass_state c.args.pass.now) (pass_state c.hand_on.new.pass) c.args.command c.hand_on.result c.hand_on.ensures

pub returns-clause-kept : goal.returns-clause-kept
returns-clause-kept g c = lemma.book_kept g.T.Tag.ops c.args.self.now c.hand_on.new.self (pass_state c.args.pass.now) (pass_state c.hand_on.new.pass) c.args.command c.hand_on.result c.hand_on.ensures

pub returns-clause-pass_kept : goal.returns-clause-pass_kept
returns-clause-pass_kept g c = lemma.pass_kept g.T.Tag.ops c.args.self.now c.hand_on.new.self (pass_state c.args.pass.now) (pass_state c.hand_on.new.pass) c.args.command c.hand_on.result c.hand_on.ensures

pub returns-clause-stranger : goal.returns-clause-stranger
returns-clause-stranger g c = lemma.refused_stranger g.T.Tag.ops c.args.self.now c.hand_on.new.self (pass_state c.args.pass.now) (pass_state c.hand_on.new.pass) c.args.command c.hand_on.result c.hand_on.ensures

pub returns-clause-strays : goal.returns-clause-strays
returns-clause-strays g c = lemma.strays_if_told g.T.Tag.ops c.args.self.now c.hand_on.new.self (pass_state c.args.pass.now) (pass_state c.hand_on.new.pass) c.args.command c.hand_on.result c.hand_on.ensures

pub returns-clause-granted : goal.returns-clause-granted
returns-clause-granted g c = lemma.stays_if_ok g.T.Tag.ops c.args.self.now c.hand_on.new.self (pass_state c.args.pass.now) (pass_state c.hand_on.new.pass) c.args.command c.hand_on.result c.hand_on.ensures

pub returns-clause-no_desk : goal.returns-clause-no_desk
returns-clause-no_desk g c = lemma.refused_no_desk g.T.Tag.ops c.args.self.now c.hand_on.new.self (pass_state c.args.pass.now) (pass_state c.hand_on.new.pass) c.args.command c.hand_on.result c.hand_on.ensures

pub returns-clause-history_full : goal.returns-clause-history_full
returns-clause-history_full g c = lemma.refused_full g.T.Tag.ops c.args.self.now c.hand_on.new.self (pass_state c.args.pass.now) (pass_state c.hand_on.new.pass) c.args.command c.hand_on.result c.hand_on.ensures

pub returns-clause-behind : goal.returns-clause-behind
returns-clause-behind g c = lemma.behind_if_told g.T.Tag.ops c.args.self.now c.hand_on.new.self (pass_state c.args.pass.now) (pass_state c.hand_on.new.pass) c.args.command c.hand_on.result c.hand_on.ensures

pub returns-clause-not_behind : goal.returns-clause-not_behind
returns-clause-not_behind g c = lemma.not_behind g.T.Tag.ops c.args.self.now c.hand_on.new.self (pass_state c.args.pass.now) (pass_state c.hand_on.new.pass) c.args.command c.hand_on.result c.hand_on.ensures

pub returns-clause-memory : goal.returns-clause-memory
returns-clause-memory g c = lemma.memory_if_told g.T.Tag.ops c.args.self.now c.hand_on.new.self (pass_state c.args.pass.now) (pass_state c.hand_on.new.pass) c.args.command c.hand_on.result c.hand_on.ensures
