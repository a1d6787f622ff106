-- Whether a pull waits.
use Rattle.std.specs.Prelude.{◌==◌, ◌&&◌, Bool, not, length}
use Rattle.dmc_tag.specs.Tag.{Tagging}
use Rattle.dmc_tag.specs.State.{queued_requests}
use Rattle.dmc_tag.specs.Replay.{after}
use Rattle.dmc_book.specs.BookState.{BookState}

-- nothing is queued, and the book is open
abbrev pub must_wait : {T : Type 0} → Tagging T → BookState T → Bool
must_wait ops b = (length (queued_requests (after ops b.config b.history).clients) == 0) && not b.closed
