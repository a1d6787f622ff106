-- The queue after a client's requests with a token were taken back.
use Rattle.std.proofs.Common.{◌≡◌, ℕ, ◌+◌, ◌-◌, ◌<◌, true, List, [], ◌∷◌, length, Option, Some, None, refl, sym, ap, ◌∙◌, subst, arith}
use Rattle.std.specs.Prelude.{◌==◌, slice_get, slice_set, filter, if◌then◌else◌, Ok}
use Rattle.std.proofs.lemmas.Bool.{eqb-true, ne_eqb}
use Rattle.std.specs.Cmp.{IsTotalOrder}
use Rattle.std.specs.Option.{option_map, option_and_then}
use Rattle.std.specs.Result.{result_ok}
use Rattle.std.specs.List.{AllByRecursion}
use Rattle.dmc_types.specs.declared.config.Counting.{Counting}
use Rattle.dmc_types.specs.declared.ids.ClientId.{ClientId}
use Rattle.dmc_types.specs.declared.ids.Token.{Token}
use Rattle.dmc_types.specs.declared.refusal.Refusal.TheVariants.{Unknown}
use Rattle.dmc_types.specs.declared.command.Command.TheVariants.{Cancel}
use Rattle.dmc_tag.specs.Cancel.{has_token, charges_of, charged_to, no_befores, staying}
use Rattle.dmc_tag.specs.Cancel as rules_of
use Rattle.dmc_tag.specs.Rules.{change_client}
use Rattle.dmc_tag.specs.Spacing.{spacings_of}
use Rattle.dmc_tag.specs.State.{State, PlainClient, client_named, queued_requests}
use Rattle.dmc_tag.specs.Step.{step}
use Rattle.dmc_tag.specs.Tag.{Fraction, Tagging, IsExact}
use Rattle.dmc_tag.specs.declared.plain.QueuedRequest.{QueuedRequest}
use Rattle.dmc_tag.specs.declared.plain.Slack.{Slack}
use Rattle.dmc_tag.specs.declared.reply.Reply.TheVariants.{Removed, Refused}
use Rattle.dmc_tag.specs.declared.reply.Tags.{Tags}
use Rattle.dmc_client.specs.Record.{Rec, IsRecord, client_of, share_tags, without_token}
use Rattle.dmc_client.proofs.TakenBack.{both_counted}
use Rattle.dmc_client.proofs.TakenOrder.{shares_are_values}
use Rattle.dmc_roster.specs.Entries.{Entry, with_record, with_record_at}
use Rattle.dmc_index.specs.Index.{slot_of_key}
use Rattle.dmc_head_index.specs.declared.head.Head.{Head}
use Rattle.dmc_pull.specs.Represented.{clients_in}
use Rattle.dmc_pull.specs.Queue.{Queue, state_of, IsQueue, IsKept, head_of, unready, unready_head}
use Rattle.dmc_pull.specs.internal.Queue.{head_at}
use Rattle.dmc_pull.proofs.Common.Parts.{found_holds}
use Rattle.dmc_pull.proofs.Common.Entries.{key_is, all_changed, changed_client, count_changed}
use Rattle.dmc_pull.proofs.Common.Keyed.{distinct_changed}
use Rattle.dmc_pull.proofs.Common.Replaced.{replaced, set_length, head_renewed, head_due}
use Rattle.dmc_pull.proofs.Clients.Updating.{HasClient}

module _ {T : Type 0} (ops : Tagging T) where
  -- the client of a head is that of the key, if a request is queued
  head_client : (id : ClientId) (h : Option (Head T)) (rs : List (QueuedRequest T)) → option_map unready h ≡ option_map (λ r. unready_head id r.tags) (slice_get rs 0) → option_map (λ h. h.client) h ≡ (if length rs == 0 then None else Some id)
  head_client id None [] e = refl
  head_client id (Some h) [] e = cc
  head_client id None (r ∷ rs) e = cc
  head_client id (Some h) (r ∷ rs) e =
      let same : unready h ≡ unready_head id r.tags = cc (e) in
      ap (λ x. Some x.client) same ∙ sym (ap (λ b. if b then None else Some id) (ne_eqb (length (r ∷ rs)) 0 (λ z. omega arith)))

module _ {T : Type 0} (ops : Tagging T) (fraction : T → Fraction) (is_value : Fraction → Type 0) (exact : IsExact ops fraction is_value) (order : IsTotalOrder ops.compare)
    {q : Queue T} {queued : ℕ} (is : IsQueue ops fraction is_value q queued) {id : ClientId} {key : ℕ} (h : HasClient id key q.roster.entries) (token : Token) (counting : Counting) where
  abbrev es : List (Entry T)
  es = q.roster.entries

  abbrev pub charges_by : Rec T → ℕ → Slack T
  charges_by rec = charges_of ops counting (Some rec.spacings)

  abbrev pub left : Rec T
  left = without_token ops token (charges_by h.entry.rec) h.entry.rec

  own : IsKept ops fraction is_value q.config.hz h.entry.rec
  own = found_holds (λ f. IsKept ops fraction is_value q.config.hz f.rec) (λ f. f.key == key) es h.entry is.kept h.keyed

  room : key < length q.heads
  room = subst (λ n. n < length q.heads) (key_is h.at) (found_holds (λ f. f.key < length q.heads) (λ f. f.key == key) es h.entry is.in_room h.keyed)

  -- how many requests are queued, of which so many are taken back
  pub fewer : (count : ℕ) → count ≡ length (filter (has_token token) h.entry.rec.requests) → queued ≡ length (queued_requests (clients_in (with_record key left es))) + count
  fewer count e = omega (arith, is.counted, count_changed h.at left, both_counted ops token (charges_by h.entry.rec) no_befores h.entry.rec.requests, e)

  -- the head that is there
  pub head_is : option_map (λ h. h.client) (slot_of_key q.heads key) ≡ (if length h.entry.rec.requests == 0 then None else Some id)
  head_is =
      head_client ops h.entry.id (slot_of_key q.heads key) h.entry.rec.requests (is.heads.here key ∙ ap (option_and_then head_of) h.keyed)
      ∙ ap (λ i. if length h.entry.rec.requests == 0 then None else Some i) h.is

  nothing_stays : (rs : List (QueuedRequest T)) → (length rs == 0) ≡ true → option_map (λ r. r.tags) (slice_get (staying ops token (charges_by h.entry.rec) no_befores rs) 0) ≡ None
  nothing_stays [] e = refl
  nothing_stays (r ∷ rs) e = let none : length (r ∷ rs) ≡ 0 = eqb-true (length (r ∷ rs)) 0 e in absurd (omega arith)

  -- if nothing was queued, there is no first request
  pub none_queued : (rec : Rec T) → rec ≡ left → (tags : Option (Tags T)) → tags ≡ option_map (λ r. r.tags) (slice_get rec.requests 0) → (length h.entry.rec.requests == 0) ≡ true → tags ≡ None
  none_queued rec same tags first none = first ∙ ap (λ r. option_map (λ r. r.tags) (slice_get r.requests 0)) same ∙ nothing_stays h.entry.rec.requests none

  pub queue_is : (rec : Rec T) → rec ≡ left → IsRecord ops rec → (tags : Option (Tags T)) → tags ≡ option_map (λ r. r.tags) (slice_get rec.requests 0) → (heads : List (Option (Head T))) → heads ≡ slice_set q.heads key (option_map (head_at ops q.last_moment id) tags) →
      (count : ℕ) → count ≡ length (filter (has_token token) h.entry.rec.requests) →
      IsQueue ops fraction is_value (record { config = q.config; roster = with_record_at q.roster key rec; heads = heads; last_moment = q.last_moment; progress = q.progress }) (queued - count)
  queue_is rec same holds tags first heads renewed count counted =
      let size = set_length q.heads key (option_map (head_at ops q.last_moment id) tags) in
      let rest = fewer count counted in
      let values = subst (λ r. AllByRecursion (λ tag. is_value (fraction tag)) (share_tags r)) (sym same) (shares_are_values ops fraction is_value exact order token (charges_by h.entry.rec) h.entry.rec own.values) in
      let keeps : IsKept ops fraction is_value q.config.hz rec = record { is_record = holds; spacings = ap (λ r. spacings_of ops q.config.hz r.info) same ∙ own.spacings ∙ ap (λ r. Ok r.spacings) (sym same); values = values } in
      subst (λ hs. IsQueue ops fraction is_value (record { config = q.config; roster = with_record_at q.roster key rec; heads = hs; last_moment = q.last_moment; progress = q.progress }) (queued - count)) (sym renewed) (record {
        kept = all_changed h.at (λ f. IsKept ops fraction is_value q.config.hz f.rec) rec is.kept keeps;
        distinct = distinct_changed key rec es is.distinct;
        heads = replaced ops q.last_moment h.at q.heads is.heads room rec _
            (ap (λ o. option_map unready (option_map (head_at ops q.last_moment id) o)) first ∙ head_renewed ops fraction is_value q.last_moment h.entry.id id (sym h.is) (slice_get rec.requests 0))
            (λ x f r. head_due ops fraction is_value q.last_moment id tags x f r);
        in_room = subst (λ n. AllByRecursion (λ f. f.key < n) (with_record key rec es)) (sym size) (all_changed h.at (λ f. f.key < length q.heads) rec is.in_room (subst (λ n. n < length q.heads) (sym (key_is h.at)) room));
        counted = let here = ap (λ r. length (queued_requests (clients_in (with_record key r es)))) same in omega (arith, rest, here);
        bound = omega (arith, is.bound);
        progress = is.progress;
      })

  -- the plain client is without its requests with the token
  client_is : client_of h.entry.id left ≡ rules_of.without_token ops token (charged_to ops q.config.hz counting (client_of h.entry.id h.entry.rec)) (client_of h.entry.id h.entry.rec)
  client_is = ap (λ o. rules_of.without_token ops token (charges_of ops counting o) (client_of h.entry.id h.entry.rec)) (sym (ap result_ok own.spacings))

  pub step_is : (rec : Rec T) → rec ≡ left → (heads : List (Option (Head T))) (count : ℕ) → count ≡ length (filter (has_token token) h.entry.rec.requests) →
      (state_of (record { config = q.config; roster = with_record_at q.roster key rec; heads = heads; last_moment = q.last_moment; progress = q.progress }), Removed count) ≡ step ops (state_of q) (Cancel id token counting)
  step_is rec same heads count counted =
      let f : PlainClient T → PlainClient T = λ c. rules_of.without_token ops token (charged_to ops q.config.hz counting c) c in
      let clients : clients_in (with_record key rec es) ≡ change_client id f (clients_in es) =
      ap (λ r. clients_in (with_record key r es)) same ∙ changed_client h.at f left client_is ∙ ap (λ i. change_client i f (clients_in es)) h.is in
      rw (clients, h.named, counted) refl

pub refused_cancel : {T : Type 0} (ops : Tagging T) (s : State T) (id : ClientId) (token : Token) (counting : Counting) → client_named id s.clients ≡ None → (s, Refused Unknown) ≡ step ops s (Cancel id token counting)
refused_cancel ops s id token counting none = rw none refl
