-- What each server and each client's tracker of a run is opened with, and keeps.
use Rattle.std.specs.Prelude.{◌≡◌, ℕ, ◌+◌, ◌*◌, List, ◌++◌, length, map}
use Rattle.std.proofs.Common.{ap, ◌∙◌}
use Rattle.std.proofs.lemmas.List.{append_assoc, map-append}
use Rattle.dmc_types.specs.declared.command.Command.{Command}
use Rattle.dmc_types.specs.declared.command.Command.TheVariants.{Register}
use Rattle.dmc_tag.specs.declared.event.Event.{Event}
use Rattle.dmc_ledger.specs.Bundles.{books_per_pair}
use Rattle.dmc_tlock.specs.BookState as tracker_book
use Rattle.dmc_tlock.specs.Later as tracker_later
use Rattle.dmc_book.specs.BookState.{BookState}
use Rattle.dmc_book.specs.Later.{IsLater}
use Rattle.dmc_book.specs.PerCount.{books_per_worker}
use Rattle.dmc_scene.specs.SceneValue.{ClientValue, SceneValue}
use Rattle.dmc_driver_threads.specs.LimitsValue.{LimitsValue}

-- how many books a run opens: those of each client at each server, those of each worker that a server enrols, which are the
-- clients' and its own, and one of each server's history
abbrev pub books_of : SceneValue → ℕ
books_of scene = scene.servers * (books_per_pair * length scene.clients + books_per_worker * (length scene.clients + scene.workers) + 1)

-- the command that registers a client of a scene: with its rates, at moment 0
abbrev pub registration : ClientValue → Command
registration client = Register client.id client.info 0

-- what a queue was asked, oldest first
abbrev pub commands_of : {T : Type 0} → List (Event T) → List Command
commands_of {T} events = map (λ (e : Event T). e.command) events

-- the first commands of a history register each of the clients, in their order
pub record IsRegistered {T : Type 0} (clients : List ClientValue) (history : List (Event T)) : Type 0 where
  pub rest : List Command
  pub commands : commands_of history ≡ map registration clients ++ rest

-- a server's book: its configuration and how long its history may become, that no event was released, and that the clients were
-- registered before anything else
pub record IsOpenedBook {T : Type 0} (scene : SceneValue) (limits : LimitsValue) (book : BookState T) : Type 0 where
  pub config : book.config ≡ scene.config
  pub first : book.first ≡ 0
  pub most : book.most ≡ limits.events
  pub registered : IsRegistered scene.clients book.history

-- a client's tracker: which completions it counts, up to which cost of all of them, and how long its list may become; and that no
-- entry was released
pub record IsOpenedTracker (scene : SceneValue) (limits : LimitsValue) (book : tracker_book.BookState) : Type 0 where
  pub counting : book.tracker.counting ≡ scene.counting
  pub most : book.tracker.most ≡ limits.completions
  pub first : book.first ≡ 0
  pub max_events : book.max_events ≡ limits.events

-- what a lock's calls keep: a history that grows begins as before
pub opened_stays : {T : Type 0} (scene : SceneValue) (limits : LimitsValue) (old new : BookState T)
    → IsLater old new → IsOpenedBook scene limits old → IsOpenedBook scene limits new
opened_stays {T} scene limits old new later h =
    let f : Event T → Command = (λ e. e.command) in
    record {
      config = later.config ∙ h.config;
      first = later.first ∙ h.first;
      most = later.most ∙ h.most;
      registered = record {
        rest = h.registered.rest ++ map f later.rest;
        commands = ap (map f) later.grown ∙ map-append f old.history later.rest
            ∙ ap (λ xs. xs ++ map f later.rest) h.registered.commands
            ∙ append_assoc (map registration scene.clients) h.registered.rest (map f later.rest);
      };
    }

pub tracker_stays : (scene : SceneValue) (limits : LimitsValue) (old new : tracker_book.BookState)
    → tracker_later.IsLater old new → IsOpenedTracker scene limits old → IsOpenedTracker scene limits new
tracker_stays scene limits old new later h = record {
  counting = later.counting ∙ h.counting;
  most = later.most ∙ h.most;
  first = later.first ∙ h.first;
  max_events = later.max_events ∙ h.max_events;
}

-- some witness says this of the book
abbrev pub IsWitnessed : {W B : Type 0} → (W → B → Type 0) → B → Type 0
IsWitnessed {W} holds book = (w : W) × holds w book
