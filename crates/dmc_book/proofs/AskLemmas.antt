-- What a command that is handed to the queue gives.
use Rattle.std.proofs.Common.{◌≡◌, ℕ, Bool, true, true≢false, List, ap, ◌∙◌, refl, sym, subst, Some, Result, Ok, Err}
use Rattle.std.specs.Prelude.{⊤, Option, None, is_some, option_map}
use Rattle.std.specs.Cmp.{IsTotalOrder}
use Rattle.dmc_types.specs.declared.ids.ClientId.{ClientId}
use Rattle.dmc_types.specs.declared.config.PhaseType.{PhaseType}
use Rattle.dmc_types.specs.declared.refusal.Refusal.{Refusal}
use Rattle.dmc_types.specs.declared.command.Command.{Command}
use Rattle.dmc_types.specs.declared.command.Command.TheVariants.{Register, Update, Add, Pull, Remove, Cancel, Clean}
use Rattle.dmc_tag.specs.Tag.{Tagging, Fraction, IsExact}
use Rattle.dmc_tag.specs.State.{State, effective}
use Rattle.dmc_tag.specs.Laws.{Pulls}
use Rattle.dmc_types.specs.declared.refusal.Refusal.TheVariants.{Range}
use Rattle.dmc_tag.specs.Outcome.{◌>>=◌}
use Rattle.dmc_tag.specs.Rules.{Outcome, can_register, can_update, can_add, can_remove}
use Rattle.dmc_tag.specs.Step.{step, answer_of}
use Rattle.dmc_tag.specs.Steps.{Steps}
use Rattle.dmc_tag.specs.Answers.{pull_reply}
use Rattle.dmc_tag.specs.declared.reply.Pulled.{Pulled}
use Rattle.dmc_tag.specs.declared.reply.Reply.{Reply}
use Rattle.dmc_tag.specs.declared.reply.Reply.TheVariants.{Registered, Updated, Tagged, Granted, Later, Nothing, Removed, Cleaned, Refused}
use Rattle.dmc_tag.proofs.ForCallers.{pull_grants}
use Rattle.dmc_ledger.specs.Bundles.{ClientSide, GrantHoldings}
use Rattle.dmc_pull.specs.Allowed.{is_allowed, PullsIf}
use Rattle.dmc_pull.specs.declared.granting.PullFault.TheVariants as pull
use Rattle.dmc_book.specs.declared.fault.RunFault.{RunFault}
use Rattle.dmc_book.specs.declared.fault.RunFault.TheVariants as run
use Rattle.dmc_book.specs.Calls.{Asks, Strays}
use Rattle.dmc_book.specs.internal.Calls.{IsOfDeclined}
use Rattle.dmc_types.specs.Values.{Setting}
use Rattle.dmc_tag.specs.declared.event.Event.{Event}
use Rattle.dmc_book.specs.Consistent.{HasDesk, IsReplayed}
use Rattle.dmc_book.specs.Counts.{grant_in}
use Rattle.dmc_tag.specs.Replay.{after}
use Rattle.dmc_book.proofs.Counting.{replayed_memory, reply_after}
use Rattle.dmc_book.specs.Moves.{desk_place, takes, takes_at, place_of, same_place}

-- ---- a pull

module _ {T : Type 0} (ops : Tagging T) (behind : Type 0) (allows : ClientId → PhaseType → Bool) (old new : State T) (at : ℕ) where
  pub pull_answers : (pulled : Pulled) → PullsIf allows ops old new at (Ok pulled) → Asks ops behind allows old new (Pull at) (Ok (pull_reply pulled))
  pull_answers pulled h = (h.0, h.1, λ s. true≢false (sym h.1 ∙ s))

  pull_refused : (refusal : Refusal) → PullsIf allows ops old new at (Err (pull.Refused refusal)) → Asks ops behind allows old new (Pull at) (Ok (Refused refusal))
  pull_refused refusal h = (h, refl, λ s. true≢false s)

-- a pull that the units can't take
pub pull_declined : {T : Type 0} (ops : Tagging T) (behind : Type 0) (allows : ClientId → PhaseType → Bool) (old new : State T) (at : ℕ) (fault : RunFault)
    → PullsIf allows ops old new at (Err pull.Declined) → IsOfDeclined behind fault → Asks ops behind allows old new (Pull at) (Err fault)
pull_declined ops behind allows old new at run.Stranger h why = (h.0, h.1, why)
pull_declined ops behind allows old new at run.Behind h why = (h.0, h.1, why)
pull_declined ops behind allows old new at run.NoDesk h why = absurd why
pull_declined ops behind allows old new at run.HistoryFull h why = absurd why
pull_declined ops behind allows old new at run.Memory h why = absurd why

-- a pull is refused for Range alone

is_range : {T : Type 0} (ops : Tagging T) (t : ℕ) (old new : State T) (reply : Reply T) → Pulls ops t old new reply → (refusal : Refusal) → reply ≡ Refused refusal → refusal ≡ Range
is_range ops t old new Registered h refusal e = absurd h
is_range ops t old new Updated h refusal e = absurd h
is_range ops t old new (Tagged tags) h refusal e = absurd h
is_range ops t old new (Granted client token phase beyond cost) h refusal e = absurd cc
is_range ops t old new (Later m) h refusal e = absurd cc
is_range ops t old new Nothing h refusal e = absurd cc
is_range ops t old new (Removed count) h refusal e = absurd h
is_range ops t old new (Cleaned idled erased) h refusal e = absurd h
is_range ops t old new (Refused other) h refusal e = let same : other ≡ refusal = cc in sym same ∙ h.0

module _ {T : Type 0} (ops : Tagging T) (fraction : T → Fraction) (is_value : Fraction → Type 0) (exact : IsExact ops fraction is_value) (order : IsTotalOrder ops.compare) (behind : Type 0) (allows : ClientId → PhaseType → Bool) (old new : State T) (at : ℕ) where
  pub pull_out_of_range : (refusal : Refusal) → PullsIf allows ops old new at (Err (pull.Refused refusal)) → Asks ops behind allows old new (Pull at) (Ok (Refused Range))
  pull_out_of_range refusal h =
      let reply : (step ops old (Pull at)).1 ≡ Refused refusal = ap (λ p. p.1) (sym h) in
      subst (λ r. Asks ops behind allows old new (Pull at) (Ok (Refused r))) (is_range ops (effective old at) old _ _ (pull_grants ops fraction is_value exact order old at) refusal reply)
      (pull_refused ops behind allows old new at refusal h)

-- ---- a command that is no pull grants nothing

module _ {T : Type 0} (ops : Tagging T) (behind : Type 0) (allows : ClientId → PhaseType → Bool) (s : State T) where
  abbrev Passes : Outcome T → Type 0
  Passes o = is_allowed allows ((answer_of s o).1) ≡ true

  after_test : {X : Type 0} (r : Result X Refusal) (f : X → Outcome T) → ((x : X) → Passes (f x)) → Passes (r >>= f)
  after_test (Ok x) f h = h x
  after_test (Err e) f h = refl

  abbrev IsNoPull : Command → Type 0
  IsNoPull (Register client info at) = ⊤
  IsNoPull (Update client info at) = ⊤
  IsNoPull (Add client token params at) = ⊤
  IsNoPull (Pull at) = ⊥
  IsNoPull (Remove client) = ⊤
  IsNoPull (Cancel client token counting) = ⊤
  IsNoPull (Clean at) = ⊤

  passes : (command : Command) → IsNoPull command → is_allowed allows ((step ops s command).1) ≡ true
  passes (Register client info at) other = after_test (can_register ops s client info) _ (λ x. refl)
  passes (Update client info at) other = after_test (can_update ops s client info) _ (λ x. refl)
  passes (Add client token params at) other = after_test (can_add ops s client params _) _ (λ x. refl)
  passes (Pull at) other = absurd other
  passes (Remove client) other = after_test (can_remove s client) _ (λ x. refl)
  passes (Cancel client token counting) other = after_test (can_remove s client) _ (λ x. refl)
  passes (Clean at) other = refl

  pub no_pull : (new : State T) (command : Command) (reply : Reply T) → ((at : ℕ) → command ≡ Pull at → ⊥) → Steps ops s new command (Some reply) → Asks ops behind allows s new command (Ok reply)
  no_pull new (Register client info at) reply other steps = (steps, ap (λ p. is_allowed allows p.1) steps ∙ passes (Register client info at) tt, λ x. x)
  no_pull new (Update client info at) reply other steps = (steps, ap (λ p. is_allowed allows p.1) steps ∙ passes (Update client info at) tt, λ x. x)
  no_pull new (Add client token params at) reply other steps = (steps, ap (λ p. is_allowed allows p.1) steps ∙ passes (Add client token params at) tt, λ x. x)
  no_pull new (Pull at) reply other steps = absurd (other at refl)
  no_pull new (Remove client) reply other steps = (steps, ap (λ p. is_allowed allows p.1) steps ∙ passes (Remove client) tt, λ x. x)
  no_pull new (Cancel client token counting) reply other steps = (steps, ap (λ p. is_allowed allows p.1) steps ∙ passes (Cancel client token counting) tt, λ x. x)
  no_pull new (Clean at) reply other steps = (steps, ap (λ p. is_allowed allows p.1) steps ∙ passes (Clean at) tt, λ x. x)

-- ---- what a book keeps if nothing is answered

module _ {T : Type 0} (ops : Tagging T) (behind : Type 0) (allows : ClientId → PhaseType → Bool) (q p : State T) (config : Setting) (history : List (Event T)) (command : Command) (h : IsReplayed ops q config history) where
  pub replayed_unasked : (fault : RunFault) → Asks ops behind allows q p command (Err fault) → IsReplayed ops p config history
  replayed_unasked run.Stranger a = subst (λ s. IsReplayed ops s config history) (sym a.0) h
  replayed_unasked run.Behind a = subst (λ s. IsReplayed ops s config history) (sym a.0) h
  replayed_unasked run.NoDesk a = absurd a
  replayed_unasked run.HistoryFull a = absurd a
  replayed_unasked run.Memory a = replayed_memory ops q p config history h command a

  abbrev reply : Reply T
  reply = (step ops (after ops config history) command).1

  pub strays_by_history : Strays allows command ((step ops q command).1) → Strays allows command reply
  strays_by_history strays = subst (Strays allows command) (ap (λ s. (step ops s command).1) h.state) strays

  pub granted_by_history : (answer : Reply T) → Asks ops behind allows q p command (Ok answer) → Strays allows command reply → ⊥
  granted_by_history answer a s = a.2 (subst (Strays allows command) (sym (reply_after ops q p config history h command answer a.0)) s)

-- ---- who is granted has a desk

has_place : (phase : PhaseType) (desks : List ClientSide) (units : List GrantHoldings) (here there : Option ℕ) → takes_at phase desks units (same_place here there) ≡ true → is_some here ≡ true
has_place phase desks units None there h = absurd (true≢false (sym h))
has_place phase desks units (Some i) there h = refl

pub taken_has_desk : {T : Type 0} (desks : List ClientSide) (names : List ClientId) (units : List GrantHoldings) (reply : Reply T) → is_allowed (takes desks names units) reply ≡ true → HasDesk desks (option_map (λ g. g.client) (grant_in reply))
taken_has_desk desks names units Registered h = tt
taken_has_desk desks names units Updated h = tt
taken_has_desk desks names units (Tagged tags) h = tt
taken_has_desk desks names units (Granted client token phase beyond cost) h = has_place phase desks units (desk_place client.0 desks) (place_of client.0 names) h
taken_has_desk desks names units (Later m) h = tt
taken_has_desk desks names units Nothing h = tt
taken_has_desk desks names units (Removed count) h = tt
taken_has_desk desks names units (Cleaned idled erased) h = tt
taken_has_desk desks names units (Refused refusal) h = tt
