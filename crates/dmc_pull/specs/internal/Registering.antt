-- The results of the tests of a registration and of an update.
use Rattle.std.specs.Prelude.{◌≡◌, ℕ, ◌<◌, true, [], None, Ok, length, is_some, IfSome}
use Rattle.dmc_types.specs.Limits.{max_clients}
use Rattle.dmc_types.specs.Values.{Rates}
use Rattle.dmc_types.specs.declared.ids.ClientId.{ClientId}
use Rattle.dmc_tag.specs.Order.{AreSpacings}
use Rattle.dmc_tag.specs.Rules.{changes_reservation}
use Rattle.dmc_tag.specs.Spacing.{spacings_of}
use Rattle.dmc_tag.specs.Tag.{Tagging}
use Rattle.dmc_tag.specs.declared.spacing.Spacings.{Spacings}
use Rattle.dmc_roster.specs.Entries.{entry_named, entry_keyed, record_at, AreDistinct}
use Rattle.dmc_pull.specs.Queue.{Queue}

-- a client that may be registered, with the spacings of its rates
pub record IsRegistration {T : Type 0} (ops : Tagging T) (q : Queue T) (client : ClientId) (info : Rates) (spacings : Spacings T) : Type 0 where
  pub exact : spacings_of ops q.config.hz info ≡ Ok spacings
  pub are : AreSpacings ops info spacings
  -- no client has the id, and one more client may be registered
  pub new : entry_named client q.roster.entries ≡ None
  pub room : length q.roster.entries < max_clients

-- a client, by its key, that may get new rates, with their spacings
pub record IsUpdate {T : Type 0} (ops : Tagging T) (q : Queue T) (client : ClientId) (info : Rates) (found : ℕ) (spacings : Spacings T) : Type 0 where
  pub exact : spacings_of ops q.config.hz info ≡ Ok spacings
  pub are : AreSpacings ops info spacings
  -- the key is that of the client, which is registered
  pub key : entry_keyed found q.roster.entries ≡ entry_named client q.roster.entries
  pub held : is_some (entry_keyed found q.roster.entries) ≡ true
  pub distinct : AreDistinct q.roster.entries
  -- a reservation is given or taken only with nothing queued
  pub not_busy : IfSome (record_at found q.roster.entries) (λ rec. changes_reservation rec.info info ≡ true → rec.requests ≡ [])
