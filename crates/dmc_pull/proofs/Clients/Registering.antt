-- A registration.
use Rattle.std.proofs.Common.{◌≡◌, ℕ, suc, ◌+◌, ◌-◌, ◌<◌, ◌≤◌, false, List, [], ◌∷◌, ◌++◌, Option, Some, None, length, replicate, refl, sym, ap, ◌∙◌, subst, arith}
use Rattle.std.specs.Prelude.{Result, Ok, Err}
use Rattle.std.specs.Option.{option_map, is_some}
use Rattle.std.specs.List.{AllByRecursion}
use Rattle.std.proofs.lemmas.Bool.{le-leb, lt-leb}
use Rattle.std.proofs.lemmas.List.{length-append, length-replicate}
use Rattle.dmc_types.specs.Limits.{max_clients}
use Rattle.dmc_types.specs.Values.{Rates}
use Rattle.dmc_types.specs.declared.ids.ClientId.{ClientId}
use Rattle.dmc_types.specs.declared.refusal.Field.{Field}
use Rattle.dmc_types.specs.declared.refusal.Refusal.TheVariants.{Clients}
use Rattle.dmc_tag.specs.Tag.{Fraction, Tagging}
use Rattle.dmc_tag.specs.State.{State, client_named, queued_requests}
use Rattle.dmc_tag.specs.Spacing.{spacings_of}
use Rattle.dmc_tag.specs.Rules.{can_register}
use Rattle.dmc_tag.specs.declared.spacing.Spacings.{Spacings}
use Rattle.dmc_client.specs.Record.{Rec, client_of}
use Rattle.dmc_roster.specs.Entries.{Entry, Listing, entry_named, Adds, AreDistinct}
use Rattle.dmc_index.specs.Index.{slot_of_key}
use Rattle.dmc_head_index.specs.declared.head.Head.{Head}
use Rattle.dmc_pull.specs.Represented.{clients_in}
use Rattle.dmc_pull.specs.Queue.{Queue, state_of, IsQueue, IsKept, AreHeads, head_of}
use Rattle.dmc_pull.proofs.Common.Parts.{all_as, all_next}
use Rattle.dmc_pull.proofs.Common.Entries.{named, registered_clients, registered_count}
use Rattle.dmc_pull.proofs.Common.Keyed.{read_last}
use Rattle.dmc_pull.proofs.Clean.Aging.{DueFromCeil, heads_later}

-- ---- the tests

module _ {T : Type 0} where
  -- a key is found exactly if a client has the id
  pub is_known : (id : ClientId) (es : List (Entry T)) (found : Option ℕ) → found ≡ option_map (λ e. e.key) (entry_named id es) → is_some (client_named id (clients_in es)) ≡ is_some found
  is_known id es found e = ap is_some (named id es) ∙ at (entry_named id es) ∙ ap is_some (sym e) where
    at : (o : Option (Entry T)) → is_some (option_map (λ e. client_of e.id e.rec) o) ≡ is_some (option_map (λ e. e.key) o)
    at None = refl
    at (Some x) = refl

module _ {T : Type 0} (ops : Tagging T) (s : State T) (id : ClientId) (info : Rates) where
  pub refused_clients : (spacings : Spacings T) → is_some (client_named id s.clients) ≡ false → spacings_of ops s.config.hz info ≡ Ok spacings → max_clients ≤ length s.clients → Err Clients ≡ can_register ops s id info
  refused_clients spacings known exact full = rw (known, exact, le-leb max_clients (length s.clients) full) refl

  pub may_register : (spacings : Spacings T) → is_some (client_named id s.clients) ≡ false → spacings_of ops s.config.hz info ≡ Ok spacings → length s.clients < max_clients → Ok tt ≡ can_register ops s id info
  may_register spacings known exact room = rw (known, exact, lt-leb max_clients (length s.clients) room) refl

-- the result on the spacings, at the rate of the clock that was read no client has the id, if no key was found
pub not_named : {T : Type 0} (id : ClientId) (es : List (Entry T)) (found : Option ℕ) → found ≡ option_map (λ e. e.key) (entry_named id es) → is_some found ≡ false → entry_named id es ≡ None
not_named id es found e none = at (entry_named id es) (ap is_some (sym e) ∙ none) where
  at : {T : Type 0} (o : Option (Entry T)) → is_some (option_map (λ e. e.key) o) ≡ false → o ≡ None
  at None h = refl
  at (Some x) h = cc

pub spacings_at : {T : Type 0} → (ops : Tagging T) (info : Rates) (answer : Result (Spacings T) Field) (read hz : ℕ) → read ≡ hz → answer ≡ spacings_of ops read info → (found : Result (Spacings T) Field) → answer ≡ found → spacings_of ops hz info ≡ found
spacings_at ops info answer read hz same given found is = ap (λ n. spacings_of ops n info) (sym same) ∙ sym given ∙ is

-- ---- the queue after it

module _ {T : Type 0} (ops : Tagging T) (fraction : T → Fraction) (is_value : Fraction → Type 0) where
  abbrev Is : Queue T → ℕ → Type 0
  Is q queued = IsQueue ops fraction is_value q queued

  -- more capacity in the indexes
  pub roomier_is : DueFromCeil ops → {q : Queue T} {queued : ℕ} → Is q queued → (heads : List (Option (Head T))) → ((key : ℕ) → slot_of_key heads key ≡ slot_of_key q.heads key) → length q.heads ≤ length heads → Is (record q { heads = heads }) queued
  roomier_is due_from {q} is heads holds more = record {
    kept = is.kept;
    distinct = is.distinct;
    heads = heads_later ops due_from q.last_moment q.last_moment (omega arith) q.roster.entries q.roster.entries (λ key. refl) q.heads heads holds is.heads;
    in_room = all_as (λ e. e.key < length q.heads) (λ e. e.key < length heads) (λ e within. omega arith) q.roster.entries is.in_room;
    counted = is.counted;
    bound = is.bound;
    progress = is.progress;
  }

  -- a client is added last, under a key below the capacity
  pub registered_is : DueFromCeil ops → {q : Queue T} {queued : ℕ} → Is q queued → (roster : Listing T) (e : Entry T) → roster.entries ≡ q.roster.entries ++ e ∷ [] → AreDistinct roster.entries → e.key < length q.heads → IsKept ops fraction is_value q.config.hz e.rec → e.rec.requests ≡ [] → (at : ℕ) → q.last_moment ≤ at → Is (record q { roster = roster; last_moment = at }) queued
  registered_is due_from {q} {queued} is roster e last distinct within keeps none at later =
      let es = q.roster.entries in
      let no_head : head_of e ≡ None = rw none refl in
      let heads = heads_later ops due_from q.last_moment at later es (es ++ e ∷ []) (read_last head_of es e no_head) q.heads q.heads (λ key. refl) is.heads in
      let keepers = all_next (λ f. IsKept ops fraction is_value q.config.hz f.rec) es e is.kept keeps in
      let inside = all_next (λ f. f.key < length q.heads) es e is.in_room within in
      record {
        kept = subst (AllByRecursion (λ f. IsKept ops fraction is_value q.config.hz f.rec)) (sym last) keepers;
        distinct = distinct;
        heads = subst (λ fs. AreHeads ops at fs q.heads) (sym last) heads;
        in_room = subst (AllByRecursion (λ f. f.key < length q.heads)) (sym last) inside;
        counted = is.counted ∙ sym (registered_count es e none) ∙ ap (λ fs. length (queued_requests (clients_in fs))) (sym last);
        bound = is.bound;
        progress = is.progress;
      }

-- the state after it
pub registered_state : {T : Type 0} → (q : Queue T) (roster : Listing T) (heads : List (Option (Head T))) (e : Entry T) (at : ℕ) → roster.entries ≡ q.roster.entries ++ e ∷ [] → state_of (record { config = q.config; roster = roster; heads = heads; last_moment = at; progress = q.progress }) ≡ record (state_of q) { clients = clients_in q.roster.entries ++ client_of e.id e.rec ∷ []; last_moment = at }
registered_state q roster heads e at last = rw (last, registered_clients q.roster.entries e) refl

-- the indexes have capacity for a key
pub has_room : {X : Type 0} → (slots more : List (Option X)) (key room : ℕ) → room ≡ suc key → more ≡ slots ++ replicate (room - length slots) None → key < length more
has_room {X} slots more key room e h =
    let none : List (Option X) = replicate (room - length slots) None in
    let rest : length none ≡ room - length slots = length-replicate (room - length slots) None in
    let size : length more ≡ length slots + length none = ap length h ∙ length-append slots none in
    omega arith

-- ---- what an add to the roster answers

module _ {T : Type 0} (old new : Listing T) (id : ClientId) (rec : Rec T) where
  pub was_added : (key : ℕ) → Adds old new id rec (Ok key) → new.entries ≡ old.entries ++ record { id = id; key = old.next_key; rec = rec } ∷ []
  was_added key adds = adds.1 ∙ ap (λ k. old.entries ++ record { id = id; key = k; rec = rec } ∷ []) adds.0
