-- What a clean makes of the clients, and how many it marks and erases.
use Rattle.std.proofs.Common.{◌≡◌, ℕ, suc, ◌-◌, Bool, true, false, not, ◌&&◌, ◌||◌, cond, List, [], ◌∷◌, ◌++◌, map, length, refl, sym, ap, ◌∙◌}
use Rattle.std.specs.Prelude.{filter, ◌==◌, nat_le}
use Rattle.std.proofs.lemmas.Bool.{eqb-true, and_parts}
use Rattle.std.proofs.lemmas.List.{nil_from_length}
use Rattle.dmc_tag.specs.State.{State, queued_requests}
use Rattle.dmc_tag.specs.Rules as rules_of
use Rattle.dmc_tag.specs.Rules.{is_erased}
use Rattle.dmc_client.specs.Record.{Rec, client_of}
use Rattle.dmc_roster.specs.Entries.{Entry, with_rec}
use Rattle.dmc_pull.specs.Represented.{clients_in}
use Rattle.dmc_pull.specs.internal.Cleaning.{is_stale, is_idled, with_idle_mark}

not_not : (b : Bool) → not (not b) ≡ b
not_not true = refl
not_not false = refl

-- a filter of a mapped list keeps as many
count_agree : {X Y : Type 0} (f : X → Y) (p : Y → Bool) (q : X → Bool) → ((x : X) → p (f x) ≡ q x) → (xs : List X) → length (filter p (map f xs)) ≡ length (filter q xs)
count_agree f p q same [] = refl
count_agree f p q same (x ∷ xs) = ap (λ b. length (cond b (f x ∷ filter p (map f xs)) (filter p (map f xs)))) (same x) ∙ at (count_agree f p q same xs) (q x) where
  at : length (filter p (map f xs)) ≡ length (filter q xs) → (b : Bool) → length (cond b (f x ∷ filter p (map f xs)) (filter p (map f xs))) ≡ length (cond b (x ∷ filter q xs) (filter q xs))
  at more true = ap suc more
  at more false = more

-- the entries that stay, marked
abbrev pub kept_entries : {T : Type 0} → ℕ → ℕ → ℕ → List (Entry T) → List (Entry T)
kept_entries t idle_age erase_age es = map (λ e. with_rec (with_idle_mark t idle_age) e) (filter (λ e. not (is_stale t erase_age e.rec)) es)

module _ {T : Type 0} where
  -- the test of an age is that of the record
  stale_as : (t age : ℕ) (e : Entry T) → rules_of.is_stale t age (client_of e.id e.rec) ≡ is_stale t age e.rec
  stale_as t age e = ap (λ b. b && nat_le age (t - e.rec.last_arrival)) (not_not (length e.rec.requests == 0))

  pub stale_empty : (t age : ℕ) (rec : Rec T) → is_stale t age rec ≡ true → rec.requests ≡ []
  stale_empty t age rec h = nil_from_length rec.requests (eqb-true (length rec.requests) 0 (and_parts (length rec.requests == 0) (nat_le age (t - rec.last_arrival)) h).0)

  -- no request goes
  pub kept_requests : (t idle_age erase_age : ℕ) (es : List (Entry T)) → queued_requests (clients_in (kept_entries t idle_age erase_age es)) ≡ queued_requests (clients_in es)
  kept_requests t idle_age erase_age [] = refl
  kept_requests t idle_age erase_age (e ∷ es) = at (kept_requests t idle_age erase_age es) (is_stale t erase_age e.rec) refl where
    at : queued_requests (clients_in (kept_entries t idle_age erase_age es)) ≡ queued_requests (clients_in es) → (b : Bool) → is_stale t erase_age e.rec ≡ b
        → queued_requests (clients_in (map (λ e. with_rec (with_idle_mark t idle_age) e) (cond (not b) (e ∷ filter (λ e. not (is_stale t erase_age e.rec)) es) (filter (λ e. not (is_stale t erase_age e.rec)) es)))) ≡ e.rec.requests ++ queued_requests (clients_in es)
    at more true k = more ∙ ap (λ qs. qs ++ queued_requests (clients_in es)) (sym (stale_empty t erase_age e.rec k))
    at more false k = ap (λ rs. e.rec.requests ++ rs) more

  module _ (s : State T) (t : ℕ) where
    abbrev kept_of : List (Entry T) → List (Entry T)
    kept_of es = kept_entries t s.config.idle_age s.config.erase_age es

    pub cleaned_clients : (es : List (Entry T)) → clients_in (kept_of es) ≡ map (rules_of.with_idle_mark s t) (filter (λ c. not (is_erased s t c)) (clients_in es))
    cleaned_clients [] = refl
    cleaned_clients (e ∷ es) =
        at (cleaned_clients es) (is_stale t s.config.erase_age e.rec)
        ∙ ap (λ b. map (rules_of.with_idle_mark s t) (cond (not b) (client_of e.id e.rec ∷ filter (λ c. not (is_erased s t c)) (clients_in es)) (filter (λ c. not (is_erased s t c)) (clients_in es)))) (sym (stale_as t s.config.erase_age e)) where
          here : client_of e.id (with_idle_mark t s.config.idle_age e.rec) ≡ rules_of.with_idle_mark s t (client_of e.id e.rec)
          here = ap (λ b. client_of e.id (record (e.rec) { idle = e.rec.idle || b })) (sym (stale_as t s.config.idle_age e))

          at : clients_in (kept_of es) ≡ map (rules_of.with_idle_mark s t) (filter (λ c. not (is_erased s t c)) (clients_in es)) → (b : Bool)
              → clients_in (map (λ e. with_rec (with_idle_mark t s.config.idle_age) e) (cond (not b) (e ∷ filter (λ e. not (is_stale t s.config.erase_age e.rec)) es) (filter (λ e. not (is_stale t s.config.erase_age e.rec)) es)))
              ≡ map (rules_of.with_idle_mark s t) (cond (not b) (client_of e.id e.rec ∷ filter (λ c. not (is_erased s t c)) (clients_in es)) (filter (λ c. not (is_erased s t c)) (clients_in es)))
          at more true = more
          at more false = ap (λ c. c ∷ clients_in (kept_of es)) here ∙ ap (λ cs. rules_of.with_idle_mark s t (client_of e.id e.rec) ∷ cs) more

    pub count_erased : (es : List (Entry T)) → length (filter (is_erased s t) (clients_in es)) ≡ length (filter (λ e. is_stale t s.config.erase_age e.rec) es)
    count_erased es = count_agree (λ e. client_of e.id e.rec) (is_erased s t) (λ e. is_stale t s.config.erase_age e.rec) (stale_as t s.config.erase_age) es

    idled_as : (e : Entry T) → rules_of.is_idled s t (client_of e.id e.rec) ≡ is_idled t s.config.idle_age s.config.erase_age e.rec
    idled_as e =
        ap (λ b. not b && rules_of.is_stale t s.config.idle_age (client_of e.id e.rec) && not e.rec.idle) (stale_as t s.config.erase_age e)
        ∙ ap (λ b. not (is_stale t s.config.erase_age e.rec) && b && not e.rec.idle) (stale_as t s.config.idle_age e)

    pub count_idled : (es : List (Entry T)) → length (filter (rules_of.is_idled s t) (clients_in es)) ≡ length (filter (λ e. is_idled t s.config.idle_age s.config.erase_age e.rec) es)
    count_idled es = count_agree (λ e. client_of e.id e.rec) (rules_of.is_idled s t) (λ e. is_idled t s.config.idle_age s.config.erase_age e.rec) idled_as es
