use Rattle.std.proofs.Common.{◌∙◌, sym}
use Rattle.dmc_plain.proofs.Cancelled.{last_read}
use Rattle.dmc_plain.proofs.cancelling.is_last.Goals as goal

pub returns-then-not-is_empty : goal.returns-then-not-is_empty
returns-then-not-is_empty g c =
    c.has_token.ensures ∙ sym (last_read c.args.token c.args.requests.now c.index-requests-requests.result (sym c.is_empty.ensures ∙ c.if-not-is_empty.true) c.index-requests-requests.is)
