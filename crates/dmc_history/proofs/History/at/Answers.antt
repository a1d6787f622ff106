use Rattle.std.proofs.Common.{◌≡◌, ◌/◌, ◌%◌, Some, None, refl, rules}
use Rattle.std.specs.Prelude.{option_copied, slice_get}
use Rattle.std.proofs.lemmas.Option.{gets}
use Rattle.dmc_history.proofs.BlockLemmas.{slice_get-events_of}
use Rattle.dmc_history.proofs.History.at.Goals as goal

pub returns-in_err-get : goal.returns-in_err-get
returns-in_err-get g c =
    let past : slice_get c.self.inside.blocks.items (c.args.index / 1024) ≡ None = search (rules, gets) in
    rw (← c.self.view_is, slice_get-events_of _ _ c.args.index c.self.invariant.0, past) (search rules)

pub returns : goal.returns
returns g c =
    let block : slice_get c.self.inside.blocks.items (c.args.index / 1024) ≡ Some c.in_ok-get.field-0.now = search (rules, gets) in
    let event : option_copied c.get-2.result ≡ slice_get c.in_ok-get.field-0.now.items (c.args.index % 1024) = search (rules, gets) in
    rw (event, ← c.self.view_is, slice_get-events_of _ _ c.args.index c.self.invariant.0, block) refl
