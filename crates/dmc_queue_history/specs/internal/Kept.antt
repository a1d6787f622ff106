-- If a list stores an event.
use Rattle.std.specs.Prelude.{ℕ, ◌+◌, ◌*◌}
use Rattle.dmc_queue_history.specs.Kept.{list_count}

abbrev pub place_in : ℕ → ℕ → ℕ
place_in list index = list_count * index + list
