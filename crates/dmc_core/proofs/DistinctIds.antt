-- No two records of a server have one id, whatever commands it carried out.
use Rattle.std.proofs.Common.{◌≡◌, ℕ, Bool, true, false, cond, List, [], ◌∷◌, ◌++◌, map, replicate, zero, suc, set, slice_get, Option, Some, None, Ok, Err, refl, sym, ap, ◌∙◌}
use Rattle.std.specs.Prelude.{Result, filter, not, is_some, if◌then◌else◌, ⊤}
use Rattle.std.specs.List.{AllByRecursion, IsDistinct}
use Rattle.std.proofs.lemmas.Map.Keys.{IsDistinct-head, IsDistinct-tail, IsDistinct-cons}
use Rattle.std.proofs.lemmas.Option.{none-some}
use Rattle.dmc_types.specs.Values.{Rates, Setting}
use Rattle.dmc_types.specs.declared.ids.ClientId.{ClientId}
use Rattle.dmc_types.specs.declared.config.AtLimit.{AtLimit}
use Rattle.dmc_types.specs.declared.config.AtLimit.TheVariants.{Wait, Allow, Reject}
use Rattle.dmc_types.specs.declared.config.PhaseType.{PhaseType}
use Rattle.dmc_types.specs.declared.config.PhaseType.TheVariants as phases
use Rattle.dmc_types.specs.declared.refusal.Refusal.{Refusal}
use Rattle.dmc_types.specs.declared.refusal.Refusal.TheVariants.{Known}
use Rattle.dmc_types.specs.declared.command.Command.{Command}
use Rattle.dmc_types.specs.declared.command.Command.TheVariants.{Register, Update, Add, Pull, Remove, Cancel, Clean}
use Rattle.dmc_tag.specs.Tag.{Tagging}
use Rattle.dmc_tag.specs.State.{State, PlainClient, opening, is_client, client_named, effective, queued_requests}
use Rattle.dmc_tag.specs.Best.{Found, best_of_all, by_weight, by_reservation, is_early, is_free, is_any}
use Rattle.dmc_tag.specs.Outcome.{◌>>=◌, refuse_if}
use Rattle.dmc_tag.specs.Rules as rules
use Rattle.dmc_tag.specs.Rules.{Outcome}
use Rattle.dmc_tag.specs.Cancel.{without_token, charged_to}
use Rattle.dmc_tag.specs.Step.{step, answer_of}
use Rattle.dmc_tag.specs.Replay.{state_after}
use Rattle.dmc_tag.specs.declared.plain.QueuedRequest.{QueuedRequest}
use Rattle.dmc_tag.proofs.Active.{either, same_client, granted_id}
use Rattle.dmc_tag.proofs.Ids.{client_turned, all_there}
use Rattle.dmc_lemmas.proofs.Lists.{all_filtered, all_mapped, all_next}
use Rattle.dmc_core.specs.Core.{HasDistinctIds}
use Rattle.dmc_core.specs.Events.{registration}
use Rattle.dmc_core.proofs.Lists.{all_set}

-- ---- lists of records

none_later : {X : Type 0} (x : X) (rest : Option X) (b : Bool) → cond b (Some x) rest ≡ None → (b ≡ false) × (rest ≡ None)
none_later x rest true e = absurd (none-some x (sym e))
none_later x rest false e = (refl, e)

none_distinct : {X : Type 0} (same : X → X → Bool) → IsDistinct same []
unfolding IsDistinct
none_distinct same = tt

module _ {T : Type 0} where
  abbrev same_id : PlainClient T → PlainClient T → Bool
  same_id c d = is_client c.id d.id

  abbrev AreDistinct : List (PlainClient T) → Type 0
  AreDistinct cs = IsDistinct same_id cs

  mapped : (f : PlainClient T → PlainClient T) → ((c : PlainClient T) → (f c).id ≡ c.id) → (cs : List (PlainClient T)) → AreDistinct cs → AreDistinct (map f cs)
  mapped f same [] h = h
  mapped f same (c ∷ cs) h =
      let others = all_mapped (λ (d : PlainClient T). same_id c d ≡ false) (λ (d : PlainClient T). same_id (f c) d ≡ false) f
      (λ d e. ap (λ id. is_client id (f d).id) (same c) ∙ ap (is_client c.id) (same d) ∙ e) cs (IsDistinct-head same_id c cs h) in
      IsDistinct-cons same_id (f c) (map f cs) others (mapped f same cs (IsDistinct-tail same_id c cs h))

  filtered : (test : PlainClient T → Bool) (cs : List (PlainClient T)) → AreDistinct cs → AreDistinct (filter test cs)
  filtered test [] h = h
  filtered test (c ∷ cs) h = by (test c) (filtered test cs (IsDistinct-tail same_id c cs h)) where
    by : (b : Bool) → AreDistinct (filter test cs) → AreDistinct (cond b (c ∷ filter test cs) (filter test cs))
    by true rest = IsDistinct-cons same_id c (filter test cs) (all_filtered (λ d. same_id c d ≡ false) test cs (IsDistinct-head same_id c cs h)) rest
    by false rest = rest

  pushed : (cs : List (PlainClient T)) (new : PlainClient T) → AreDistinct cs → client_named new.id cs ≡ None → AreDistinct (cs ++ new ∷ [])
  pushed [] new h none = IsDistinct-cons same_id new [] tt h
  pushed (c ∷ cs) new h none =
      let parts = none_later c (client_named new.id cs) (is_client new.id c.id) none in
      IsDistinct-cons same_id c (cs ++ new ∷ []) (all_next (λ d. same_id c d ≡ false) cs new (IsDistinct-head same_id c cs h) (client_turned c.id new.id false parts.0))
      (pushed cs new (IsDistinct-tail same_id c cs h) parts.1)

-- ---- each command

module _ {T : Type 0} (ops : Tagging T) (u : State T) (distinct : HasDistinctIds u) where
  abbrev Stays : Outcome T → Type 0
  Stays o = HasDistinctIds ((answer_of u o).0)

  chained : {X : Type 0} (r : Result X Refusal) (f : X → Outcome T) → ((x : X) → r ≡ Ok x → Stays (f x)) → Stays (r >>= f)
  chained (Ok x) f h = h x refl
  chained (Err refusal) f h = distinct

  -- one client is changed
  changed : (id : ClientId) (f : PlainClient T → PlainClient T) → ((c : PlainClient T) → is_client id c.id ≡ true → (f c).id ≡ c.id) → (cs : List (PlainClient T)) → AreDistinct cs → AreDistinct (rules.change_client id f cs)
  changed id f same = mapped (λ c. if is_client id c.id then f c else c) (λ c. by c (is_client id c.id) refl) where
    by : (c : PlainClient T) (b : Bool) → is_client id c.id ≡ b → (if b then f c else c).id ≡ c.id
    by c true e = same c e
    by c false e = refl

  -- ---- a pull

  taken : (t : ℕ) (found : Found T) (phase : PhaseType) (amount : Option T) → HasDistinctIds (rules.taken_out ops u t found phase amount)
  taken t found phase amount = changed found.client.id (λ c. rules.after_grant ops found amount) (λ c e. granted_id ops found amount ∙ sym (same_client found.client.id c.id e)) u.clients distinct

  by_priority : (t : ℕ) (found : Found T) (beyond : Bool) → Stays (rules.grant_priority ops u t found beyond)
  by_priority t found beyond = chained (rules.can_grant ops u.config.hz found) _ (λ amount e. taken t found phases.Priority amount)

  of_found : (t : ℕ) (beyond : Bool) (o : Option (Found T)) → Stays (rules.grant_found ops u t beyond o)
  of_found t beyond None = distinct
  of_found t beyond (Some found) = by_priority t found beyond

  at_limit : (t : ℕ) (at : AtLimit) (x : QueuedRequest T) (xs : List (QueuedRequest T)) → Stays (rules.at_limit ops u t at x xs)
  at_limit t Wait x xs = distinct
  at_limit t (Reject threshold) x xs = distinct
  at_limit t Allow x xs = of_found t true (best_of_all ops by_weight is_any u.clients)

  nothing_due : (t : ℕ) (xs : List (QueuedRequest T)) → Stays (rules.nothing_due ops u t xs)
  nothing_due t [] = distinct
  nothing_due t (x ∷ xs) = at_limit t u.config.at_limit x xs

  free : (t : ℕ) (o : Option (Found T)) → Stays (rules.pulled_free ops u t o)
  free t (Some found) = by_priority t found false
  free t None = nothing_due t (queued_requests u.clients)

  early : (t : ℕ) (o : Option (Found T)) → Stays (rules.pulled_early ops u t o)
  early t (Some found) = taken t found phases.Reservation None
  early t None = free t (best_of_all ops by_weight (is_free ops t) u.clients)

  -- ---- an add, and a registration

  shifted : (shift : Option T) → AreDistinct (rules.shifted_by ops shift u.clients)
  shifted None = distinct
  shifted (Some amount) = mapped (rules.shifted_client ops amount) (λ c. either (λ (d : PlainClient T). d.id ≡ c.id) c.idle c (rules.less_shares ops amount c) refl refl) u.clients distinct

  not_known : (o : Option (PlainClient T)) (rest : Result ⊤ Refusal) (x : ⊤) → (refuse_if (is_some o) Known >>= λ _. rest) ≡ Ok x → o ≡ None
  not_known None rest x e = refl
  not_known (Some c) rest x e = cc

  -- ---- each

  pub step_keeps_ids : (command : Command) → HasDistinctIds ((step ops u command).0)
  step_keeps_ids (Register id info at) = chained (rules.can_register ops u id info) _ (λ x e. pushed u.clients (rules.newcomer ops id info (effective u at)) distinct (not_known (client_named id u.clients) _ x e))
  step_keeps_ids (Update id info at) = chained (rules.can_update ops u id info) _ (λ x e. changed id (rules.with_info info) (λ c f. refl) u.clients distinct)
  step_keeps_ids (Add id token params at) = chained (rules.can_add ops u id params (effective u at)) _ (λ addition e.
      changed id (rules.after_arrival (rules.request_of token params.cost addition) (effective u at)) (λ c f. refl) (rules.shifted_by ops addition.shift u.clients) (shifted addition.shift))
  step_keeps_ids (Pull at) = early (effective u at) (best_of_all ops by_reservation (is_early ops (effective u at)) u.clients)
  step_keeps_ids (Remove id) = chained (rules.can_remove u id) _ (λ x e. changed id (rules.with_requests []) (λ c f. refl) u.clients distinct)
  step_keeps_ids (Cancel id token counting) = chained (rules.can_remove u id) _ (λ x e.
      changed id (λ c. without_token ops token (charged_to ops u.config.hz counting c) c) (λ c f. refl) u.clients distinct)
  step_keeps_ids (Clean at) = mapped (rules.with_idle_mark u (effective u at)) (λ c. refl) _ (filtered (λ c. not (rules.is_erased u (effective u at) c)) u.clients distinct)

-- ---- the servers of a run

module _ {T : Type 0} (ops : Tagging T) where
  abbrev pub AllDistinct : List (State T) → Type 0
  AllDistinct us = AllByRecursion (λ u. HasDistinctIds u) us

  -- one of them carried out a command
  pub distinct_after : (us : List (State T)) (i : ℕ) (u : State T) (command : Command) → slice_get us i ≡ Some u → AllDistinct us → AllDistinct (set us i ((step ops u command).0))
  distinct_after us i u command at all = all_set (λ (v : State T). HasDistinctIds v) us i _ all (step_keeps_ids ops u (all_there (λ (v : State T). HasDistinctIds v) us i u all at) command)

  registered : (u : State T) (cs : List (ClientId × Rates)) → HasDistinctIds u → HasDistinctIds (state_after ops u (map registration cs))
  registered u [] h = h
  registered u (c ∷ cs) h = registered ((step ops u (registration c)).0) cs (step_keeps_ids ops u h (registration c))

  each_same : (n : ℕ) (u : State T) → HasDistinctIds u → AllDistinct (replicate n u)
  each_same zero u h = tt
  each_same (suc n) u h = (h, each_same n u h)

  -- the clients of a scene registered at each
  pub opened_distinct : (config : Setting) (n : ℕ) (cs : List (ClientId × Rates)) → AllDistinct (replicate n (state_after ops (opening ops config) (map registration cs)))
  opened_distinct config n cs = each_same n _ (registered (opening ops config) cs (none_distinct same_id))
