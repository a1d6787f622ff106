-- An add: the shift of all records but one, and the results of its tests.
use Rattle.std.specs.Prelude.{◌≡◌, ℕ, ◌<◌, ◌==◌, ◌&&◌, true, false, not, if◌then◌else◌, List, length, map, Option, Some, None, is_some, IfSome, IsSome, Result, Ok, Err}
use Rattle.std.specs.Option.{option_map}
use Rattle.std.specs.Ordering.{is_eq}
use Rattle.dmc_types.specs.Limits.{max_requests}
use Rattle.dmc_types.specs.Values.{Params}
use Rattle.dmc_types.specs.declared.config.Shares.{Shares}
use Rattle.dmc_types.specs.declared.ids.ClientId.{ClientId}
use Rattle.dmc_types.specs.declared.ids.Token.{Token}
use Rattle.dmc_types.specs.declared.refusal.Refusal.{Refusal}
use Rattle.dmc_tag.specs.State.{State, PlainClient, queued_requests}
use Rattle.dmc_tag.specs.Outcome.{◌>>=◌}
use Rattle.dmc_tag.specs.Rules.{add_tags, can_add, is_over_limit, can_shift_by, shift_of, added, queued}
use Rattle.dmc_tag.specs.Order.{AreNext, NotBelow}
use Rattle.dmc_tag.specs.declared.reply.Reply.TheVariants.{Tagged}
use Rattle.dmc_pull.specs.declared.adding.Addition.{Addition}
use Rattle.dmc_pull.specs.Queue.{Queue, state_of}
use Rattle.dmc_tag.specs.Tag.{Fraction, Tagging}
use Rattle.dmc_client.specs.Record.{Rec}
use Rattle.dmc_adjust.specs.Changes.{shifted, is_shiftable}
use Rattle.dmc_roster.specs.Entries.{Entry, entry_keyed, entry_named, record_at, with_rec}
use Rattle.dmc_head_index.specs.declared.head.Head.{Head}
use Rattle.dmc_head_index.specs.Heads as heads_of

-- each record but the newcomer's is shifted, if its shifted tags are values
abbrev pub shifted_but : {T : Type 0} → Tagging T → T → ℕ → ℕ → Rec T → Rec T
shifted_but ops amount newcomer key rec = if not (key == newcomer) && is_shiftable ops amount rec then shifted ops amount rec else rec

-- the entries and the heads after it, if there is a shift
abbrev pub others_shifted : {T : Type 0} → Tagging T → Option T → ℕ → List (Entry T) → List (Entry T)
others_shifted ops None newcomer entries = entries
others_shifted ops (Some amount) newcomer entries = map (λ e. with_rec (shifted_but ops amount newcomer e.key) e) entries

abbrev pub heads_shifted : {T : Type 0} → Tagging T → Option T → List (Option (Head T)) → List (Option (Head T))
heads_shifted ops None heads = heads
heads_shifted ops (Some amount) heads = map (option_map (heads_of.shifted ops amount)) heads

-- no shift, if the amount is 0
abbrev pub unless_nothing : {T : Type 0} → Tagging T → Option T → Option T
unless_nothing ops None = None
unless_nothing ops (Some amount) = if is_eq (ops.compare amount (ops.of_moment 0)) then None else Some amount

-- the amount by which all others are shifted for a client that arrives at t; under Shares::Virtual there is none
abbrev pub needed_shift : {T : Type 0} → Tagging T → Shares → List (PlainClient T) → PlainClient T → T → Result (Option T) Refusal
needed_shift ops shares clients arriving t = shift_of ops shares clients arriving t >>= λ full. Ok (unless_nothing ops full)

-- the tags of an add and their slack are these, and so is the shift, which is left out if it is 0
pub record Brings {T : Type 0} (ops : Tagging T) (s : State T) (id : ClientId) (params : Params) (t : ℕ) (addition : Addition T) : Type 0 where
  pub full : Option T
  pub test : add_tags ops s id params (ops.of_moment t) ≡ Ok (record { shift = full; tags = addition.tags; slack = addition.slack })
  pub shift : addition.shift ≡ unless_nothing ops full

-- what an add changes, so that its request can be queued
pub record IsAddition {T : Type 0} (ops : Tagging T) (fraction : T → Fraction) (is_value : Fraction → Type 0) (q : Queue T) (client : ClientId) (addition : Addition T) : Type 0 where
  -- the key is that of the client, which is registered
  pub key : entry_keyed addition.key q.roster.entries ≡ entry_named client q.roster.entries
  pub held : is_some (entry_keyed addition.key q.roster.entries) ≡ true
  -- its tags follow the client's last ones
  pub next : IfSome (record_at addition.key q.roster.entries) (λ rec. AreNext ops rec.info rec.previous addition.tags)
  pub slack : NotBelow ops addition.slack
  -- others are shifted for an idle client alone
  pub idle : IsSome addition.shift → IfSome (record_at addition.key q.roster.entries) (λ rec. rec.idle ≡ true)
  -- each tag that the shift changes stays a value
  pub shiftable : can_shift_by ops addition.shift (state_of q).clients ≡ true
  -- the new P is a value
  pub value : is_value (fraction addition.tags.p)
  -- one more request may be queued
  pub room : length (queued_requests (state_of q).clients) < max_requests

-- the tests of an add passed but for the last one, that of the limit
pub record IsTagged {T : Type 0} (ops : Tagging T) (fraction : T → Fraction) (is_value : Fraction → Type 0) (q : Queue T) (client : ClientId) (params : Params) (t : ℕ) (addition : Addition T) : Type 0 where
  pub tests : Brings ops (state_of q) client params t addition
  -- within the limit, the plain state afterwards and the reply, for each token
  pub added : is_over_limit ops q.config.at_limit t addition.tags.l ≡ false → (token : Token) → added ops (state_of q) client token params t ≡
      Ok (queued ops (state_of q) addition.shift client (record { token = token; cost = params.cost; tags = addition.tags; slack = addition.slack }) t, Tagged addition.tags)
  pub fits : IsAddition ops fraction is_value q client addition

abbrev pub AddTags : {T : Type 0} → Tagging T → (T → Fraction) → (Fraction → Type 0) → Queue T → ClientId → Params → ℕ → Result (Addition T) Refusal → Type 0
AddTags ops fraction is_value q client params t (Ok addition) = IsTagged ops fraction is_value q client params t addition
AddTags ops fraction is_value q client params t (Err refusal) = add_tags ops (state_of q) client params (ops.of_moment t) ≡ Err refusal

-- all tests of an add passed, and its effect
pub record IsAllowed {T : Type 0} (ops : Tagging T) (fraction : T → Fraction) (is_value : Fraction → Type 0) (q : Queue T) (client : ClientId) (params : Params) (t : ℕ) (addition : Addition T) : Type 0 where
  -- the plain state afterwards and the reply, for each token
  pub added : (token : Token) → added ops (state_of q) client token params t ≡
      Ok (queued ops (state_of q) addition.shift client (record { token = token; cost = params.cost; tags = addition.tags; slack = addition.slack }) t, Tagged addition.tags)
  pub fits : IsAddition ops fraction is_value q client addition

abbrev pub CanAdd : {T : Type 0} → Tagging T → (T → Fraction) → (Fraction → Type 0) → Queue T → ClientId → Params → ℕ → Result (Addition T) Refusal → Type 0
CanAdd ops fraction is_value q client params t (Ok addition) = IsAllowed ops fraction is_value q client params t addition
CanAdd ops fraction is_value q client params t (Err refusal) = can_add ops (state_of q) client params t ≡ Err refusal
