use Rattle.std.proofs.Common.{◌∙◌, ap}
use Rattle.std.specs.Result.{result_ok}
use Rattle.dmc_plain.proofs.Cancelled.{without_parts}
use Rattle.dmc_plain.proofs.client.Client.cancel.Goals as goal

pub returns : goal.returns
returns g c =
    without_parts g.T.Tag.ops c.args.token c.args.hz c.args.counting _ c.args.self.now c.self.view_is c.is_last_cancelled-cancelled.result c.is_last_cancelled-cancelled.ensures
    c.ok-spacings.result (c.ok-spacings.ensures.value ∙ ap result_ok c.spacings_for.ensures.value)
    c.take_back-befores.result c.take_back-befores.new.requests.items c.take_back-befores.ensures.last c.take_back-befores.ensures.requests c.last-self-inside.result c.last-self-inside.ensures
