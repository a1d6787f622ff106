-- Each command is read again from its words, and from its line.
use Rattle.dmc_types.specs.declared.command.Command.TheVariants.{Register, Update, Add, Pull, Remove, Cancel, Clean}
use Rattle.dmc_text.proofs.WrittenLemmas.{asked_register, asked_update, line_again}
use Rattle.dmc_text.proofs.write_line.write_command.Goals as goal

pub returns-in-Register-clause-again : goal.returns-in-Register-clause-again
returns-in-Register-clause-again g c = let x = c.in-Register in rw x.is (asked_register x.client x.info x.at c.write_info.ensures.again)

pub returns-in-Update-clause-again : goal.returns-in-Update-clause-again
returns-in-Update-clause-again g c = let x = c.in-Update in rw x.is (asked_update x.client x.info x.at c.write_info-in-Update.ensures.again)

pub returns-in-Register-clause-line : goal.returns-in-Register-clause-line
returns-in-Register-clause-line g c =
    let x = c.in-Register in
    rw x.is (line_again (Register x.client x.info x.at) (asked_register x.client x.info x.at c.write_info.ensures.again))

pub returns-in-Update-clause-line : goal.returns-in-Update-clause-line
returns-in-Update-clause-line g c =
    let x = c.in-Update in
    rw x.is (line_again (Update x.client x.info x.at) (asked_update x.client x.info x.at c.write_info-in-Update.ensures.again))

pub returns-in-Add-clause-line : goal.returns-in-Add-clause-line
returns-in-Add-clause-line g c = let x = c.in-Add in rw x.is (line_again (Add x.client x.token x.params x.at) c.write_add.ensures.again)

pub returns-in-Pull-clause-line : goal.returns-in-Pull-clause-line
returns-in-Pull-clause-line g c = rw c.in-Pull.is (line_again (Pull c.in-Pull.at) c.write_pull.ensures.again)

pub returns-in-Remove-clause-line : goal.returns-in-Remove-clause-line
returns-in-Remove-clause-line g c = rw c.in-Remove.is (line_again (Remove c.in-Remove.client) c.write_drop.ensures.again)

pub returns-in-Cancel-clause-line : goal.returns-in-Cancel-clause-line
returns-in-Cancel-clause-line g c = let x = c.in-Cancel in rw x.is (line_again (Cancel x.client x.token x.counting) c.write_cancel.ensures.again)

pub returns-in-Clean-clause-line : goal.returns-in-Clean-clause-line
returns-in-Clean-clause-line g c = rw c.in-Clean.is (line_again (Clean c.in-Clean.at) c.write_clean.ensures.again)
