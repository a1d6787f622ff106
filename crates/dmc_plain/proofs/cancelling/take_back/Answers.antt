use Rattle.std.proofs.Common.{◌∙◌, ap, not}
use Rattle.std.specs.Prelude.{filter}
use Rattle.dmc_tag.specs.Cancel.{charges_of, has_token, no_befores}
use Rattle.dmc_plain.proofs.Cancelled.{stay}
use Rattle.dmc_plain.proofs.cancelling.take_back.Goals as goal

pub returns-clause-requests : goal.returns-clause-requests
returns-clause-requests g c =
    c.remove.ensures
    ∙ ap (filter (λ r. not (has_token c.args.token r))) c.pass_all-befores.ensures.requests
    ∙ stay g.T.Tag.ops c.args.token (charges_of g.T.Tag.ops c.args.counting c.args.spacings) no_befores c.args.requests.now.items
