-- An update.
use Rattle.std.proofs.Common.{◌≡◌, ℕ, ◌<◌, ◌≤◌, Bool, true, false, not, ◌&&◌, List, [], length, Option, Some, None, refl, sym, ap, ◌∙◌, subst, arith}
use Rattle.std.specs.Prelude.{Ok, Err, IfSome, ◌==◌}
use Rattle.std.specs.Option.{option_map, is_some}
use Rattle.std.proofs.lemmas.Bool.{eqb-true}
use Rattle.std.proofs.lemmas.List.{nil_from_length}
use Rattle.dmc_types.specs.Values.{Rates}
use Rattle.dmc_types.specs.declared.ids.ClientId.{ClientId}
use Rattle.dmc_types.specs.declared.refusal.Refusal.TheVariants.{Busy}
use Rattle.dmc_tag.specs.Tag.{Fraction, Tagging}
use Rattle.dmc_tag.specs.State.{PlainClient, State, client_named, is_busy, effective}
use Rattle.dmc_tag.specs.Spacing.{spacings_of}
use Rattle.dmc_tag.specs.Rules.{can_update, changes_reservation, change_client, with_info, updated}
use Rattle.dmc_tag.specs.Step.{answer_of, step}
use Rattle.dmc_types.specs.declared.command.Command.TheVariants.{Update}
use Rattle.dmc_tag.specs.declared.spacing.Spacings.{Spacings}
use Rattle.dmc_tag.specs.declared.reply.Reply.TheVariants.{Updated}
use Rattle.dmc_client.specs.Record.{Rec, IsRecord, client_of}
use Rattle.dmc_roster.specs.Entries.{Entry, Listing, entry_named, entry_keyed, record_at, with_record, with_record_at, AreDistinct}
use Rattle.dmc_pull.specs.Represented.{clients_in}
use Rattle.dmc_pull.specs.Queue.{Queue, state_of, IsQueue, IsKept, head_of}
use Rattle.dmc_pull.proofs.Common.Parts.{found_holds}
use Rattle.dmc_pull.proofs.Common.Entries.{Split, split, named, name_is, all_changed, changed_client, count_changed}
use Rattle.dmc_pull.proofs.Common.Keyed.{record_is, same_client, distinct_changed, read_kept}
use Rattle.dmc_pull.proofs.Clean.Aging.{DueFromCeil, heads_later}

-- ---- the client of an id

module _ {T : Type 0} where
  -- the entry of a client, and where it is
  pub record HasClient (id : ClientId) (key : ℕ) (es : List (Entry T)) : Type 0 where
    pub entry : Entry T
    pub keyed : entry_keyed key es ≡ Some entry
    pub at : Split key entry es
    pub is : entry.id ≡ id
    pub named : client_named id (clients_in es) ≡ Some (client_of id entry.rec)

  pub client_at : (id : ClientId) (key : ℕ) (es : List (Entry T)) → entry_keyed key es ≡ entry_named id es → is_some (entry_keyed key es) ≡ true → AreDistinct es → HasClient id key es
  client_at id key es same some distinct = by (entry_keyed key es) refl some where
    by : (o : Option (Entry T)) → entry_keyed key es ≡ o → is_some o ≡ true → HasClient id key es
    by None e some = cc
    by (Some x) e some =
        let called : entry_named id es ≡ Some x = sym same ∙ e in
        let is = same_client id x.id (name_is id es x called) in
        record { entry = x; keyed = e; at = split key es x e distinct; is = is; named = named id es ∙ ap (option_map (λ f. client_of f.id f.rec)) called ∙ ap (λ i. Some (client_of i x.rec)) is }

  -- what is said of the record that is found
  pub of_record : (P : Rec T → Type 0) (key : ℕ) (es : List (Entry T)) (e : Entry T) → entry_keyed key es ≡ Some e → IfSome (record_at key es) P → P e.rec
  of_record P key es e keyed h = subst (λ o. IfSome (option_map (λ x. x.rec) o) P) keyed h

  -- what is said of the record that is lent
  pub of_lent : (P : Rec T → Type 0) (key : ℕ) (es : List (Entry T)) (e : Entry T) → entry_keyed key es ≡ Some e → (rec : Rec T) → record_at key es ≡ Some rec → P rec → P e.rec
  of_lent P key es e keyed rec found h = of_record P key es e keyed (subst (λ o. IfSome o P) (sym found) h)

  pub said_of : (P : Rec T → Type 0) (key : ℕ) (es : List (Entry T)) (rec : Rec T) → record_at key es ≡ Some rec → P rec → IfSome (record_at key es) P
  said_of P key es rec found h = subst (λ o. IfSome o P) (sym found) h

  pub unnamed : (id : ClientId) (es : List (Entry T)) (found : Option ℕ) → found ≡ option_map (λ e. e.key) (entry_named id es) → found ≡ None → client_named id (clients_in es) ≡ None
  unnamed id es found e none = named id es ∙ at (entry_named id es) (sym e ∙ none) where
    at : (o : Option (Entry T)) → option_map (λ e. e.key) o ≡ None → option_map (λ e. client_of e.id e.rec) o ≡ None
    at None h = refl
    at (Some x) h = cc

-- ---- the tests

module _ {T : Type 0} (ops : Tagging T) (s : State T) (id : ClientId) (info : Rates) where
  module _ (client : PlainClient T) (known : client_named id s.clients ≡ Some client) where
    pub refused_busy : (spacings : Spacings T) → spacings_of ops s.config.hz info ≡ Ok spacings → (changes_reservation client.info info && is_busy client) ≡ true → Err Busy ≡ can_update ops s id info
    refused_busy spacings exact busy = rw (known, exact, busy) refl

    pub may_update : (spacings : Spacings T) → spacings_of ops s.config.hz info ≡ Ok spacings → (changes_reservation client.info info && is_busy client) ≡ false → Ok tt ≡ can_update ops s id info
    may_update spacings exact free = rw (known, exact, free) refl

-- the rates and requests of the record say whether a client is busy
pub busy_as : {T : Type 0} {id : ClientId} {key : ℕ} {es : List (Entry T)} → (h : HasClient id key es) (info : Rates) (rec : Rec T) → record_at key es ≡ Some rec → (answer : Bool) → answer ≡ (changes_reservation rec.info info && not (length rec.requests == 0)) → (busy : Bool) → answer ≡ busy → (changes_reservation h.entry.rec.info info && is_busy (client_of id h.entry.rec)) ≡ busy
busy_as {key} {es} h info rec found answer given busy is =
    ap (λ r. changes_reservation r.info info && not (length r.requests == 0)) (record_is key es h.entry rec h.keyed found) ∙ sym given ∙ is

pub not_busy : {T : Type 0} → (rec : Rec T) (info : Rates) (answer : Bool) → answer ≡ (changes_reservation rec.info info && not (length rec.requests == 0)) → answer ≡ false → changes_reservation rec.info info ≡ true → rec.requests ≡ []
not_busy rec info answer given free changes = at (length rec.requests == 0) refl where
  at : (b : Bool) → (length rec.requests == 0) ≡ b → rec.requests ≡ []
  at true e = nil_from_length rec.requests (eqb-true (length rec.requests) 0 e)
  at false e = let no : (true && not false) ≡ false = sym (ap (λ b. b && not false) changes) ∙ sym (ap (λ b. changes_reservation rec.info info && not b) e) ∙ sym given ∙ free in cc

-- ---- the queue after it

abbrev pub with_rates : {T : Type 0} → Rates → Spacings T → Rec T → Rec T
with_rates info spacings rec = record rec { info = info; spacings = spacings }

module _ {T : Type 0} (ops : Tagging T) (fraction : T → Fraction) (is_value : Fraction → Type 0) where
  pub updated_is : DueFromCeil ops → {q : Queue T} {queued : ℕ} → IsQueue ops fraction is_value q queued → {id : ClientId} {key : ℕ} → (h : HasClient id key q.roster.entries) (info : Rates) (spacings : Spacings T) → spacings_of ops q.config.hz info ≡ Ok spacings → IsRecord ops (with_rates info spacings h.entry.rec) → (roster : Listing T) → roster ≡ with_record_at q.roster key (with_rates info spacings h.entry.rec) → (at : ℕ) → q.last_moment ≤ at → IsQueue ops fraction is_value (record { config = q.config; roster = roster; heads = q.heads; last_moment = at; progress = q.progress }) queued
  updated_is due_from {q} {queued} is {id} {key} h info spacings exact holds roster e at later =
      let rec = with_rates info spacings h.entry.rec in
      let es = q.roster.entries in
      let old = found_holds (λ f. IsKept ops fraction is_value q.config.hz f.rec) (λ f. f.key == key) es h.entry is.kept h.keyed in
      let keeps : IsKept ops fraction is_value q.config.hz rec = record { is_record = holds; spacings = exact; values = old.values } in
      let within = found_holds (λ f. f.key < length q.heads) (λ f. f.key == key) es h.entry is.in_room h.keyed in
      subst (λ (r : Listing T). IsQueue ops fraction is_value (record { config = q.config; roster = r; heads = q.heads; last_moment = at; progress = q.progress }) queued) (sym e) (record {
        kept = all_changed h.at (λ f. IsKept ops fraction is_value q.config.hz f.rec) rec is.kept keeps;
        distinct = distinct_changed key rec es is.distinct;
        heads = heads_later ops due_from q.last_moment at later es (with_record key rec es) (read_kept head_of h.at rec refl) q.heads q.heads (λ k. refl) is.heads;
        in_room = all_changed h.at (λ f. f.key < length q.heads) rec is.in_room within;
        counted = omega (arith, is.counted, count_changed h.at rec);
        bound = is.bound;
        progress = is.progress;
      })

  pub updated_step : (q : Queue T) {id : ClientId} {key : ℕ} (h : HasClient id key q.roster.entries) (info : Rates) (spacings : Spacings T) (roster : Listing T) → roster ≡ with_record_at q.roster key (with_rates info spacings h.entry.rec) → Ok tt ≡ can_update ops (state_of q) id info → (at t : ℕ) → t ≡ effective (state_of q) at → (state_of (record { config = q.config; roster = roster; heads = q.heads; last_moment = t; progress = q.progress }), Updated) ≡ step ops (state_of q) (Update id info at)
  updated_step q {id} {key} h info spacings roster e may at t moment =
      let rec = with_rates info spacings h.entry.rec in
      let es = q.roster.entries in
      let clients : clients_in (with_record key rec es) ≡ change_client id (with_info info) (clients_in es) = changed_client h.at (with_info info) rec refl ∙ ap (λ i. change_client i (with_info info) (clients_in es)) h.is in
      let here : (state_of (record { config = q.config; roster = roster; heads = q.heads; last_moment = t; progress = q.progress }), Updated) ≡ answer_of (state_of q) (updated ops (state_of q) id info t) = rw (← may, e, clients) refl in
      here ∙ ap (λ n. answer_of (state_of q) (updated ops (state_of q) id info n)) moment
