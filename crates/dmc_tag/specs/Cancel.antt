-- Cancel: requests that are taken back give back what they were charged, if their stamps counted it.
use Rattle.std.specs.Prelude.{ℕ, Bool, true, false, not, ◌||◌, ◌&&◌, ◌==◌, List, [], ◌∷◌, length, filter, Option, Some, None, Ok, if◌then◌else◌}
use Rattle.std.specs.Option.{unwrap_or, option_map, option_map_or, option_and_then}
use Rattle.std.specs.Result.{result_ok}
use Rattle.std.specs.Ordering.{ord_min}
use Rattle.dmc_types.specs.declared.ids.ClientId.{ClientId}
use Rattle.dmc_types.specs.declared.ids.Token.{Token}
use Rattle.dmc_types.specs.declared.config.Counting.{Counting}
use Rattle.dmc_types.specs.declared.config.Counting.TheVariants.{All, Others}
use Rattle.dmc_tag.specs.Tag.{Tagging}
use Rattle.dmc_tag.specs.Outcome.{◌>>=◌}
use Rattle.dmc_tag.specs.Rules.{Outcome, above, slack_behind, less, has_less, change_client, can_remove}
use Rattle.dmc_tag.specs.Spacing.{spacings_of}
use Rattle.dmc_tag.specs.State.{State, PlainClient}
use Rattle.dmc_tag.specs.declared.cancel.Level.{Level}
use Rattle.dmc_tag.specs.declared.cancel.Before.{Before}
use Rattle.dmc_tag.specs.declared.cancel.Befores.{Befores}
use Rattle.dmc_tag.specs.declared.plain.Previous.{Previous}
use Rattle.dmc_tag.specs.declared.plain.QueuedRequest.{QueuedRequest}
use Rattle.dmc_tag.specs.declared.plain.Slack.{Slack}
use Rattle.dmc_tag.specs.declared.reply.Reply.{Reply}
use Rattle.dmc_tag.specs.declared.reply.Reply.TheVariants.{Removed}
use Rattle.dmc_tag.specs.declared.spacing.Spacings.{Spacings}

abbrev pub has_token : {T : Type 0} → Token → QueuedRequest T → Bool
has_token token r = r.token.0 == token.0

-- ---- what a request was charged by its own share: its cost times the spacing, if its stamp counted it

-- a sum that is no value gives back nothing
abbrev pub charge : {T : Type 0} → Tagging T → Option T → ℕ → T
charge ops spacing cost = unwrap_or (option_and_then (λ s. ops.steps s cost) spacing) (ops.of_moment 0)

abbrev pub charges : {T : Type 0} → Tagging T → Spacings T → ℕ → Slack T
charges ops spacings cost = record { r = charge ops spacings.r cost; l = charge ops (Some spacings.l) cost; p = charge ops (Some spacings.p) cost }

abbrev pub no_charges : {T : Type 0} → Tagging T → Slack T
no_charges ops = record { r = ops.of_moment 0; l = ops.of_moment 0; p = ops.of_moment 0 }

-- In the form All a request is charged when it completes, which a cancelled one never does.
abbrev pub charges_of : {T : Type 0} → Tagging T → Counting → Option (Spacings T) → ℕ → Slack T
charges_of ops All spacings cost = no_charges ops
charges_of ops Others spacings cost = option_map_or (λ s. charges ops s cost) spacings (no_charges ops)

-- ---- one tag of a request, and its slack

-- the level less an amount, if tag and slack stay values
abbrev pub lower : {T : Type 0} → Tagging T → T → Level T → Level T
lower ops amount level =
    if has_less ops amount level.tag && has_less ops amount level.slack
    then record { tag = less ops amount level.tag; slack = less ops amount level.slack }
    else level

-- how far the tag of the request before fell
abbrev pub fall_of : {T : Type 0} → Tagging T → Option (Before T) → T
fall_of ops None = ops.of_moment 0
fall_of ops (Some before) = above ops before.was before.level.tag

-- behind a cancelled request the slack is at most what that had left
abbrev pub behind : {T : Type 0} → Tagging T → Option (Before T) → Level T → Level T
behind ops None level = level
behind ops (Some before) level = record level { slack = slack_behind ops before.cancelled before.level.slack level.slack }

-- a tag falls as far as that of the request before it, but at most by its slack
abbrev pub fallen : {T : Type 0} → Tagging T → Option (Before T) → Level T → Level T
fallen ops before level = behind ops before (lower ops (ord_min ops.compare (fall_of ops before) level.slack) level)

-- at most the slack, and at most how far the tag is past that of the request before
abbrev pub most_given : {T : Type 0} → Tagging T → Option (Before T) → Level T → T
most_given ops None level = level.slack
most_given ops (Some before) level = ord_min ops.compare (above ops level.tag before.level.tag) level.slack

-- a cancelled request's place falls by what it was charged besides
abbrev pub without_charge : {T : Type 0} → Tagging T → T → Option (Before T) → Level T → Level T
without_charge ops charged before level = lower ops (ord_min ops.compare charged (most_given ops before level)) level

-- what becomes of a request's tag
abbrev pub level_after : {T : Type 0} → Tagging T → Bool → T → Option (Before T) → Level T → Level T
level_after ops cancelled charged before level =
    let now_at = fallen ops before level in
    if cancelled then without_charge ops charged before now_at else now_at

-- what became of it, for the request behind
abbrev pub before_next : {T : Type 0} → Tagging T → Bool → T → Option (Before T) → Level T → Before T
before_next ops cancelled charged before level = record { was = level.tag; level = level_after ops cancelled charged before level; cancelled = cancelled }

-- ---- all tags of a request

abbrev pub no_befores : {T : Type 0} → Befores T
no_befores = record { r = None; l = None; p = None }

abbrev pub level : {T : Type 0} → T → T → Level T
level tag slack = record { tag = tag; slack = slack }

-- what became of a request's tags; without an R, what became of the R before
abbrev pub befores_next : {T : Type 0} → Tagging T → Bool → Slack T → Befores T → QueuedRequest T → Befores T
befores_next ops cancelled charged befores r = record {
  r = option_map_or (λ tag. Some (before_next ops cancelled charged.r befores.r (level tag r.slack.r))) r.tags.r befores.r;
  l = Some (before_next ops cancelled charged.l befores.l (level r.tags.l r.slack.l));
  p = Some (before_next ops cancelled charged.p befores.p (level r.tags.p r.slack.p));
}

-- a request that stays
abbrev pub fallen_request : {T : Type 0} → Tagging T → Befores T → QueuedRequest T → QueuedRequest T
fallen_request ops befores r =
    let l = fallen ops befores.l (level r.tags.l r.slack.l) in
    let p = fallen ops befores.p (level r.tags.p r.slack.p) in
    record r {
      tags = record { r = option_map (λ tag. (fallen ops befores.r (level tag r.slack.r)).tag) r.tags.r; l = l.tag; p = p.tag };
      slack = record { r = option_map_or (λ tag. (fallen ops befores.r (level tag r.slack.r)).slack) r.tags.r r.slack.r; l = l.slack; p = p.slack };
    }

-- the requests that stay, from front to back
abbrev pub staying : {T : Type 0} → Tagging T → Token → (ℕ → Slack T) → Befores T → List (QueuedRequest T) → List (QueuedRequest T)
staying ops token charged befores [] = []
staying ops token charged befores (r ∷ rs) =
    let others = staying ops token charged (befores_next ops (has_token token r) (charged r.cost) befores r) rs in
    if has_token token r then others else fallen_request ops befores r ∷ others

-- what became of the last request's tags
abbrev pub befores_after : {T : Type 0} → Tagging T → Token → (ℕ → Slack T) → Befores T → List (QueuedRequest T) → Befores T
befores_after ops token charged befores [] = befores
befores_after ops token charged befores (r ∷ rs) = befores_after ops token charged (befores_next ops (has_token token r) (charged r.cost) befores r) rs

-- whether the last request has the token
abbrev pub last_has_token : {T : Type 0} → Token → List (QueuedRequest T) → Bool
last_has_token token [] = false
last_has_token token (r ∷ []) = has_token token r
last_has_token token (r ∷ s ∷ rs) = last_has_token token (s ∷ rs)

-- the previous tags fall as those of a request behind all
abbrev pub fallen_previous : {T : Type 0} → Tagging T → Befores T → Bool → Previous T → Previous T
fallen_previous ops befores cancelled previous =
    let r = fallen ops befores.r (level previous.r previous.slack.r) in
    let l = fallen ops befores.l (level previous.l previous.slack.l) in
    let p = fallen ops befores.p (level previous.p previous.slack.p) in
    record { r = r.tag; l = l.tag; p = p.tag; slack = record { r = r.slack; l = l.slack; p = p.slack }; cancelled = cancelled }

-- ---- a client without its requests with a token

abbrev pub without_token : {T : Type 0} → Tagging T → Token → (ℕ → Slack T) → PlainClient T → PlainClient T
without_token ops token charged c = record c {
  previous = fallen_previous ops (befores_after ops token charged no_befores c.requests) (c.previous.cancelled || last_has_token token c.requests) c.previous;
  requests = staying ops token charged no_befores c.requests;
}

abbrev pub charged_to : {T : Type 0} → Tagging T → ℕ → Counting → PlainClient T → ℕ → Slack T
charged_to ops hz counting c cost = charges_of ops counting (result_ok (spacings_of ops hz c.info)) cost

abbrev pub cancelled : {T : Type 0} → Tagging T → State T → ClientId → Token → Counting → Outcome T
cancelled ops s id token counting =
    can_remove s id
    >>= λ client. Ok (
      record s { clients = change_client id (λ c. without_token ops token (charged_to ops s.config.hz counting c) c) s.clients },
      Removed (length (filter (has_token token) client.requests)),
    )
