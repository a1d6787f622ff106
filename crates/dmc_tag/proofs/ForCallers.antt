-- What a caller's proof may cite: the laws over plain variables.
use Rattle.std.proofs.Common.{◌≡◌, ℕ, Bool, List, [], ◌∷◌, ◌++◌, Option, Some}
use Rattle.std.specs.Prelude.{nat_le}
use Rattle.std.specs.Cmp.{IsTotalOrder}
use Rattle.dmc_types.specs.Values.{Setting}
use Rattle.dmc_types.specs.declared.command.Command.TheVariants.{Pull}
use Rattle.dmc_tag.specs.Tag.{Tagging, Fraction, IsExact}
use Rattle.dmc_tag.specs.State.{State, PlainClient, opening, effective, queued_requests}
use Rattle.dmc_tag.specs.Step.{step}
use Rattle.dmc_tag.specs.Replay.{after, replays}
use Rattle.dmc_tag.specs.Laws.{Pulls, IsNextDue}
use Rattle.dmc_tag.specs.Best.{Found, best_of_all, is_due, IsBestOfAll}
use Rattle.dmc_tag.specs.Rules.{moment_of}
use Rattle.dmc_tag.specs.declared.plain.QueuedRequest.{QueuedRequest}
use Rattle.dmc_tag.specs.declared.event.Event.{Event}
use Rattle.dmc_tag.specs.declared.reply.Reply.TheVariants.{Later}
use Rattle.dmc_tag.proofs.BestOfAll as best_of_all_scan
use Rattle.dmc_tag.proofs.FutureLaw as futures
use Rattle.dmc_tag.proofs.PullLaw as pulls
use Rattle.dmc_tag.proofs.Running as running
-- a client that has the id of another is that one
pub use Rattle.dmc_tag.proofs.Active.{same_client}
-- the last test of an add, that of its client's limit
pub use Rattle.dmc_tag.proofs.Limited.{tags_refused, over_limit, within_limit, was_tagged}
-- one command more is one step more
pub use Rattle.dmc_tag.proofs.Running.{state_after-more}
-- an order that is the same as a total one is total: so the order of a tag type is
pub use Rattle.dmc_lemmas.proofs.Orderings.{tag_order}
-- the scan for the best of all finds it, and nothing if no request is a member; what it finds has what each member has
pub use Rattle.dmc_tag.proofs.Scans.{best_of_all_is_found, none_of_all, not_found_has_none, all_found_has}
-- sums, and differences, of two tags and an amount are ordered as the tags are; an assignment gives no tag below the previous
-- one, and an R exactly if there is a reservation
pub use Rattle.dmc_tag.proofs.TagOrder.{plus_keeps_order, minus_keeps_order, next_tags_follow}
-- a sum may be turned round; a value less nothing is itself; the tags of moments, those that an assignment gives for P, and
-- differences are values
pub use Rattle.dmc_tag.proofs.TagValues.{plus_commutes, minus_nothing, moments_are_values, weights_are_values, differences_are_values}
-- what two amounts leave, their sum leaves; a value and an amount, less the amount, is the value; of whole numbers, what lies
-- between two that have so much to lose has it too
pub use Rattle.dmc_tag.proofs.TakenOff.{minus_twice, plus_then_minus, between_has_less}
-- only a client's Add queues its first request; who is granted had a queued request; a step keeps it that queued clients are
-- active, and so after each history they are
pub use Rattle.dmc_tag.proofs.Queued.{only_an_add_queues, grants_what_is_queued, step_keeps_active, queued_clients_are_active}

module _ {T : Type 0} (ops : Tagging T) where
  -- one event more is one step more
  pub after_one_more : (config : Setting) (events : List (Event T)) (e : Event T) → after ops config (events ++ e ∷ []) ≡ (step ops (after ops config events) e.command).0
  after_one_more config = running.past_more ops (opening ops config)

  pub replays_one_more : (config : Setting) (events : List (Event T)) (e : Event T) → replays ops config events → e.reply ≡ (step ops (after ops config events) e.command).1 → replays ops config (events ++ e ∷ [])
  replays_one_more config = running.replays_more ops (opening ops config)

  pub replayed_one_more : (config : Setting) (events : List (Event T)) (e : Event T) → replays ops config (events ++ e ∷ []) → replays ops config events × (e.reply ≡ (step ops (after ops config events) e.command).1)
  replayed_one_more config = running.replays_parted ops (opening ops config)

-- what the scan for the best of all clients' requests finds is the best
pub found_is_best_of_all : {T : Type 0} (ops : Tagging T) → IsTotalOrder ops.compare → (tag : QueuedRequest T → Option T) (member : QueuedRequest T → Bool) (clients : List (PlainClient T)) (found : Found T) → best_of_all ops tag member clients ≡ Some found → IsBestOfAll ops tag member clients found
found_is_best_of_all ops order tag member = best_of_all_scan.found_is ops order tag member

module _ {T : Type 0} (ops : Tagging T) (fraction : T → Fraction) (is_value : Fraction → Type 0) (exact : IsExact ops fraction is_value) where
  -- a tag is due from the least whole number on that is not below it
  pub due_from_ceil : (tag : T) (n : ℕ) → is_due ops n (Some tag) ≡ nat_le (moment_of (ops.ceil tag)) n
  due_from_ceil = futures.due_is ops fraction is_value exact

  module _ (order : IsTotalOrder ops.compare) where
    -- before the moment that a pull names no request is early or free, and at it one is
    pub future_is_exact : (s : State T) (at m : ℕ) → (step ops s (Pull at)).1 ≡ Later m → IsNextDue ops m (queued_requests s.clients)
    future_is_exact s at m = pulls.future_says ops fraction is_value exact order (effective s at) m s

    -- what a pull grants, and the state after it
    pub pull_grants : (s : State T) (at : ℕ) → Pulls ops (effective s at) s ((step ops s (Pull at)).0) ((step ops s (Pull at)).1)
    pull_grants s at = pulls.pull_says ops fraction is_value exact order (effective s at) s
