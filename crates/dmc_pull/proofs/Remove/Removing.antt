-- The removal of a client's requests.
use Rattle.std.proofs.Common.{◌≡◌, ℕ, suc, ◌+◌, ◌-◌, ◌<◌, Bool, true, false, not, List, [], ◌∷◌, map, length, set, Option, Some, None, refl, sym, ap, ◌∙◌, subst, arith}
use Rattle.std.specs.Prelude.{◌==◌, slice_get}
use Rattle.std.specs.Option.{option_map, option_and_then, is_some}
use Rattle.std.specs.List.{AllByRecursion}
use Rattle.std.proofs.lemmas.Bool.{eqb-true, eqb-false}
use Rattle.std.proofs.lemmas.List.{length-set}
use Rattle.dmc_types.specs.declared.ids.ClientId.{ClientId}
use Rattle.dmc_types.specs.declared.refusal.Refusal.TheVariants.{Unknown}
use Rattle.dmc_tag.specs.Tag.{Fraction, Tagging}
use Rattle.dmc_tag.specs.Best.{is_due}
use Rattle.dmc_tag.specs.State.{State, client_named, queued_requests}
use Rattle.dmc_tag.specs.Rules.{change_client, with_requests}
use Rattle.dmc_tag.specs.Step.{step}
use Rattle.dmc_tag.specs.declared.reply.Reply.TheVariants.{Removed, Refused}
use Rattle.dmc_types.specs.declared.command.Command.TheVariants.{Remove}
use Rattle.dmc_client.specs.Record.{Rec, IsRecord}
use Rattle.dmc_tag.specs.declared.plain.QueuedRequest.{QueuedRequest}
use Rattle.dmc_roster.specs.Entries.{Entry, Listing, entry_keyed, with_record, with_record_at}
use Rattle.dmc_index.specs.Index.{slot_of_key}
use Rattle.dmc_head_index.specs.declared.head.Head.{Head}
use Rattle.dmc_pull.specs.Represented.{clients_in}
use Rattle.dmc_pull.specs.Queue.{Queue, state_of, IsQueue, IsKept, AreHeads, head_of, unready, unready_head}
use Rattle.dmc_pull.proofs.Common.Parts.{all_back, found_holds}
use Rattle.dmc_pull.proofs.Common.Entries.{all_changed, changed_client, count_changed}
use Rattle.dmc_pull.proofs.Common.Keyed.{distinct_changed, read_changed, read_other}
use Rattle.dmc_pull.proofs.Clean.Aging.{held_emptied, slot_of_key-set_other}
use Rattle.dmc_pull.proofs.Clients.Updating.{HasClient}
use Rattle.dmc_lemmas.proofs.Options.{is_some_mapped}

-- nothing is queued any more
abbrev pub emptied : {T : Type 0} → Rec T → Rec T
emptied rec = record rec { requests = [] }

some_more : (n : ℕ) (b : Bool) → (suc n == 0) ≡ b → true ≡ not b
some_more n true e = let none : suc n ≡ 0 = eqb-true (suc n) 0 e in absurd (omega arith)
some_more n false e = refl

module _ {T : Type 0} (ops : Tagging T) where
  -- a client has a head exactly if it has a request
  pub has_head : {t : ℕ} {es : List (Entry T)} {heads : List (Option (Head T))} → AreHeads ops t es heads → {id : ClientId} {key : ℕ} → (h : HasClient id key es) (count : ℕ) → count ≡ length h.entry.rec.requests → is_some (slot_of_key heads key) ≡ not (count == 0)
  has_head {t} {es} {heads} are {id} {key} h count e =
      sym (is_some_mapped unready (slot_of_key heads key))
      ∙ ap is_some (are.here key)
      ∙ ap (λ o. is_some (option_and_then head_of o)) h.keyed
      ∙ of_first h.entry.rec.requests
      ∙ ap (λ n. not (n == 0)) (sym e) where
        of_first : (rs : List (QueuedRequest T)) → is_some (option_map (λ (r : QueuedRequest T). unready_head h.entry.id r.tags) (slice_get rs 0)) ≡ not (length rs == 0)
        of_first [] = refl
        of_first (r ∷ rs) = some_more (length rs) (suc (length rs) == 0) refl

  -- without its requests a client has no head
  pub heads_cleared : {t : ℕ} {es : List (Entry T)} {heads : List (Option (Head T))} → AreHeads ops t es heads → {id : ClientId} {key : ℕ} → (h : HasClient id key es) → AreHeads ops t (with_record key (emptied h.entry.rec) es) (set heads key None)
  heads_cleared {t} {es} {heads} are {id} {key} h = record { here = λ k. here k (k == key) refl; marks = λ k head holds ready. marks k head holds ready (k == key) refl } where
    rec : Rec T
    rec = emptied h.entry.rec

    here : (k : ℕ) (b : Bool) → (k == key) ≡ b → option_map unready (slot_of_key (set heads key None) k) ≡ option_and_then head_of (entry_keyed k (with_record key (emptied h.entry.rec) es))
    here k true e =
        let one : k ≡ key = eqb-true k key e in
        subst (λ n. option_map unready (slot_of_key (set heads key None) n) ≡ option_and_then head_of (entry_keyed n (with_record key (emptied h.entry.rec) es))) (sym one)
        (ap (option_map unready) (held_emptied heads key) ∙ sym (read_changed head_of h.at (emptied h.entry.rec)))
    here k false e =
        ap (option_map unready) (slot_of_key-set_other heads key k None (eqb-false k key e)) ∙ are.here k ∙ sym (read_other head_of key (emptied h.entry.rec) k es e)

    marks : (k : ℕ) (head : Head T) → slot_of_key (set heads key None) k ≡ Some head → head.ready ≡ true → (b : Bool) → (k == key) ≡ b → is_due ops t (Some head.tags.l) ≡ true
    marks k head holds ready true e =
        let one : k ≡ key = eqb-true k key e in
        let none : slot_of_key (set heads key None) k ≡ None = ap (slot_of_key (set heads key None)) one ∙ held_emptied heads key in
        cc
    marks k head holds ready false e = are.marks k head (sym (slot_of_key-set_other heads key k None (eqb-false k key e)) ∙ holds) ready

-- as many requests fewer
pub fewer : {T : Type 0} {id : ClientId} {key : ℕ} {es : List (Entry T)} → (h : HasClient id key es) (queued count : ℕ) → queued ≡ length (queued_requests (clients_in es)) → count ≡ length h.entry.rec.requests → queued ≡ length (queued_requests (clients_in (with_record key (emptied h.entry.rec) es))) + count
fewer h queued count all some = omega (arith, count_changed h.at (emptied h.entry.rec))

module _ {T : Type 0} (ops : Tagging T) (fraction : T → Fraction) (is_value : Fraction → Type 0) where
  pub removed_is : {q : Queue T} {queued : ℕ} → IsQueue ops fraction is_value q queued → {id : ClientId} {key : ℕ} → (h : HasClient id key q.roster.entries) → IsRecord ops (emptied h.entry.rec) → (roster : Listing T) → roster ≡ with_record_at q.roster key (emptied h.entry.rec) → (heads : List (Option (Head T))) → heads ≡ set q.heads key None → (count : ℕ) → count ≡ length h.entry.rec.requests → IsQueue ops fraction is_value (record { config = q.config; roster = roster; heads = heads; last_moment = q.last_moment; progress = q.progress }) (queued - count)
  removed_is {q} {queued} is {id} {key} h holds roster e heads cleared count all =
      let rec = emptied h.entry.rec in
      let es = q.roster.entries in
      let old = found_holds (λ f. IsKept ops fraction is_value q.config.hz f.rec) (λ f. f.key == key) es h.entry is.kept h.keyed in
      let value = all_back (λ tag. is_value (fraction tag)) (map (λ r. r.tags.p) h.entry.rec.requests) (h.entry.rec.previous.p ∷ []) old.values in
      let keeps : IsKept ops fraction is_value q.config.hz rec = record { is_record = holds; spacings = old.spacings; values = value } in
      let within = found_holds (λ f. f.key < length q.heads) (λ f. f.key == key) es h.entry is.in_room h.keyed in
      let size = length-set q.heads key None in
      let rest = fewer h queued count is.counted all in
      subst (λ (r : Listing T). IsQueue ops fraction is_value (record { config = q.config; roster = r; heads = heads; last_moment = q.last_moment; progress = q.progress }) (queued - count)) (sym e)
      (subst (λ hs. IsQueue ops fraction is_value (record { config = q.config; roster = with_record_at q.roster key rec; heads = hs; last_moment = q.last_moment; progress = q.progress }) (queued - count)) (sym cleared) (record {
        kept = all_changed h.at (λ f. IsKept ops fraction is_value q.config.hz f.rec) rec is.kept keeps;
        distinct = distinct_changed key rec es is.distinct;
        heads = heads_cleared ops is.heads h;
        in_room = subst (λ n. AllByRecursion (λ f. f.key < n) (with_record key rec es)) (sym size) (all_changed h.at (λ f. f.key < length q.heads) rec is.in_room within);
        counted = omega (arith, rest);
        bound = omega (arith, is.bound);
        progress = is.progress;
      }))

  pub refused_remove : (s : State T) (id : ClientId) → client_named id s.clients ≡ None → (s, Refused Unknown) ≡ step ops s (Remove id)
  refused_remove s id none = rw none refl

  pub removed_step : (q : Queue T) {id : ClientId} {key : ℕ} → (h : HasClient id key q.roster.entries) (roster : Listing T) → roster ≡ with_record_at q.roster key (emptied h.entry.rec) → (heads : List (Option (Head T))) (count : ℕ) → count ≡ length h.entry.rec.requests → (state_of (record { config = q.config; roster = roster; heads = heads; last_moment = q.last_moment; progress = q.progress }), Removed count) ≡ step ops (state_of q) (Remove id)
  removed_step q {id} {key} h roster e heads count all =
      let rec = emptied h.entry.rec in
      let es = q.roster.entries in
      let clients : clients_in (with_record key rec es) ≡ change_client id (with_requests []) (clients_in es) = changed_client h.at (with_requests []) rec refl ∙ ap (λ i. change_client i (with_requests []) (clients_in es)) h.is in
      rw (e, clients, h.named, all) refl
