use Rattle.std.proofs.Common.{sym}
use Rattle.dmc_tag.proofs.Ids.{position_at}
use Rattle.dmc_book.proofs.names.place_with_hint.Goals as goal

pub returns-then-is_at : goal.returns-then-is_at
returns-then-is_at c =
    sym (position_at c.args.client c.args.names.now.keys c.args.hint c.as_slice.ensures.unique (rw c.as_slice.ensures.keys at c.is_at.ensures.0 c.if-is_at.true))
