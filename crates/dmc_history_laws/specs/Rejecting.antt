-- What refusing adds at the limit means for whole histories: nobody waits for a limit longer than the threshold.
use Rattle.std.specs.Prelude.{◌≡◌, ℕ, ◌+◌, ◌≤◌, true, List, Some, slice_get}
use Rattle.std.specs.List.{AllByRecursion}
use Rattle.dmc_types.specs.Values.{Params, Setting}
use Rattle.dmc_types.specs.declared.ids.ClientId.{ClientId}
use Rattle.dmc_types.specs.declared.ids.Token.{Token}
use Rattle.dmc_types.specs.declared.command.Command.TheVariants.{Add}
use Rattle.dmc_tag.specs.Tag.{Tagging}
use Rattle.dmc_tag.specs.Rules.{moment_of}
use Rattle.dmc_tag.specs.State.{PlainClient, effective, is_busy}
use Rattle.dmc_tag.specs.Replay.{after, replays}
use Rattle.dmc_tag.specs.declared.event.Event.{Event}
use Rattle.dmc_tag.specs.declared.reply.Reply.TheVariants.{Tagged, Later}
use Rattle.dmc_tag.specs.declared.reply.Tags.{Tags}
use Rattle.dmc_history_laws.specs.Shares.{before}

-- The L of a request that is added is at most `threshold` ticks past the moment of the add.
abbrev pub AreAddedInTime : {T : Type 0} → Tagging T → Setting → ℕ → Type 0
AreAddedInTime {T} ops config threshold =
    (history : List (Event T)) → replays ops config history
    → (number : ℕ) (event : Event T) (client : ClientId) (token : Token) (params : Params) (at : ℕ) (tags : Tags T)
    → slice_get history number ≡ Some event → event.command ≡ Add client token params at → event.reply ≡ Tagged tags
    → moment_of (ops.ceil tags.l) ≤ effective (before ops config history number) at + threshold

-- The L of each queued request is at most `threshold` ticks past its client's last arrival.
abbrev pub AreQueuedInTime : {T : Type 0} → Tagging T → Setting → ℕ → Type 0
AreQueuedInTime {T} ops config threshold =
    (history : List (Event T)) → replays ops config history
    → AllByRecursion (λ c. AllByRecursion (λ r. moment_of (ops.ceil r.tags.l) ≤ c.last_arrival + threshold) c.requests) (after ops config history).clients

-- A Future is at most `threshold` ticks past the last arrival of each client with a queued request.
abbrev pub IsFutureInTime : {T : Type 0} → Tagging T → Setting → ℕ → Type 0
IsFutureInTime {T} ops config threshold =
    (history : List (Event T)) → replays ops config history
    → (number : ℕ) (event : Event T) (m : ℕ) → slice_get history number ≡ Some event → event.reply ≡ Later m
    → AllByRecursion (λ (c : PlainClient T). is_busy c ≡ true → m ≤ c.last_arrival + threshold) (before ops config history number).clients
