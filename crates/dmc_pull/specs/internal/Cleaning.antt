-- A clean, record by record.
use Rattle.std.specs.Prelude.{ℕ, ◌-◌, ◌==◌, Bool, not, ◌&&◌, ◌||◌, nat_le, length}
use Rattle.dmc_client.specs.Record.{Rec}

-- nothing is queued, and the last arrival is at least this old
abbrev pub is_stale : {T : Type 0} → ℕ → ℕ → Rec T → Bool
is_stale t age rec = (length rec.requests == 0) && nat_le age (t - rec.last_arrival)

-- it was not idle, and is not erased
abbrev pub is_idled : {T : Type 0} → ℕ → ℕ → ℕ → Rec T → Bool
is_idled t idle_age erase_age rec = not (is_stale t erase_age rec) && is_stale t idle_age rec && not rec.idle

-- idle where its last arrival is that old, or where it was idle before
abbrev pub with_idle_mark : {T : Type 0} → ℕ → ℕ → Rec T → Rec T
with_idle_mark t idle_age rec = record rec { idle = rec.idle || is_stale t idle_age rec }
