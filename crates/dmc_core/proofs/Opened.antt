-- What a cluster opens with.
use Rattle.std.proofs.Common.{◌≡◌, ◌≢◌, ℕ, zero, suc, ◌+◌, ◌<◌, ◌≤◌, eqb, false, true≢false, nat_le, List, [], ◌∷◌, ◌++◌, length, map, take, replicate, get_or, Some, None, refl, sym, ap, ◌∙◌, subst, arith, Ok, Err}
use Rattle.std.specs.Prelude.{AllPairs, IsOk, Result, ⊤}
use Rattle.std.specs.List.{AllByRecursion, AllZip, list_any}
use Rattle.std.proofs.lemmas.Bool.{eqb-true, leb-true, false_from_ne_true}
use Rattle.std.proofs.lemmas.List.Sums.{sum_by-cons}
use Rattle.std.proofs.lemmas.List.{length-map, length-replicate, length-take, map-append, take_more, get_or-map}
use Rattle.indexmap.specs.IndexSet.{insert_key}
use Rattle.dmc_types.specs.Limits.{max_scene_clients}
use Rattle.dmc_types.specs.Values.{Rates, Setting}
use Rattle.dmc_types.specs.declared.ids.ClientId.{ClientId}
use Rattle.dmc_types.specs.declared.ids.ServerId.{ServerId}
use Rattle.dmc_types.specs.declared.config.Counting.{Counting}
use Rattle.dmc_types.specs.declared.config.PhaseType.{PhaseType}
use Rattle.dmc_types.specs.declared.config.PhaseType.TheVariants.{Reservation, Priority}
use Rattle.dmc_types.specs.declared.command.Command.TheVariants.{Register}
use Rattle.dmc_types.specs.declared.refusal.Refusal.{Refusal}
use Rattle.dmc_tag.specs.Tag.{Tagging}
use Rattle.dmc_tag.specs.State.{State, PlainClient, opening, client_named, effective}
use Rattle.dmc_tag.specs.Spacing.{spacings_of}
use Rattle.dmc_tag.specs.Step.{step}
use Rattle.dmc_tag.specs.Steps.{Steps}
use Rattle.dmc_tag.specs.Replay.{state_after}
use Rattle.dmc_tag.specs.Rules.{newcomer, can_register}
use Rattle.dmc_tag.specs.declared.reply.Reply.{Reply}
use Rattle.dmc_tag.specs.declared.reply.Reply.TheVariants.{Registered, Refused}
use Rattle.dmc_tag.proofs.ForCallers.{state_after-more}
use Rattle.dmc_tag.proofs.Ids.{all_there}
use Rattle.dmc_lemmas.proofs.Lists.{all_next, all_mapped}
use Rattle.dmc_tracker.specs.Numbers.{no_numbers}
use Rattle.dmc_tracker.proofs.ForCallers.{RepresentsEvents-new}
use Rattle.dmc_scene.specs.SceneValue.{SceneValue, ClientValue, AreApart}
use Rattle.dmc_core.specs.declared.server.CoreServer.{CoreServer}
use Rattle.dmc_core.specs.Run.{Pair, no_pair, pair_at, grants, max_completions}
use Rattle.dmc_core.specs.Events.{registration}
use Rattle.dmc_core.specs.Core.{Held, Matches, HasRoom, AreWaiting, no_room, room_at, room_for}
use Rattle.dmc_core.specs.internal.Parts.{IsKept, HasFewGrants, full_counts, full_counts_of}
use Rattle.dmc_core.specs.Opening.{HaveSpacings, named_rates}
use Rattle.dmc_core.specs.internal.Opening.{opening_client}
use Rattle.dmc_core.proofs.Rooms.{HaveRoom}

-- ---- ids that are apart

-- the id of a client differs from those before it
pub fresh : (cs : List ClientValue) (i : ℕ) (x : ClientValue) → AllPairs AreApart cs → i < length cs → x ≡ get_or cs i x → AllByRecursion (λ k. k ≢ x.id) (map (λ c. c.id) (take i cs))
fresh [] i x apart w is = absurd (omega (arith, w))
fresh (c ∷ cs) zero x apart w is = tt
fresh (c ∷ cs) (suc i) x apart w is = (
  λ e. apart 0 (suc i) x (omega arith) w (e ∙ ap (λ (y : ClientValue). y.id) is),
  fresh cs i x (λ a b d l m. apart (suc a) (suc b) d (omega (arith, l)) (omega (arith, m))) (omega (arith, w)) is,
)

is_other : (a b : ClientId) → a ≢ b → eqb b.0 a.0 ≡ false
is_other a b ne = false_from_ne_true (eqb b.0 a.0) (λ e. ne (ap (λ (n : ℕ). let k : ClientId = record { 0 = n } in k) (sym (eqb-true _ _ e))))

pub none_is : (ids : List ClientId) (id : ClientId) → AllByRecursion (λ k. k ≢ id) ids → list_any (λ k. eqb id.0 k.0) ids ≡ false
none_is [] id h = refl
none_is (k ∷ ids) id h = rw (is_other k id h.0) (none_is ids id h.1)

none_named : {T : Type 0} (clients : List (PlainClient T)) (id : ClientId) → AllByRecursion (λ k. k ≢ id) (map (λ c. c.id) clients) → client_named id clients ≡ None
none_named [] id h = refl
none_named (c ∷ clients) id h = rw (is_other id c.id (λ e. h.0 (sym e))) (none_named clients id h.1)

-- one key more
pub key_more : (ids keys : List ClientId) (id : ClientId) → AllByRecursion (λ k. k ≢ id) ids → keys ≡ ids → insert_key (λ (a b : ClientId). eqb a.0 b.0) keys id ≡ ids ++ id ∷ []
key_more ids keys id h e = rw (e, none_is ids id h) refl

pub take_one_more : {X Y : Type 0} (f : X → Y) (xs : List X) (i : ℕ) (x : X) → i < length xs → x ≡ get_or xs i x → map f (take (i + 1) xs) ≡ map f (take i xs) ++ f x ∷ []
take_one_more f xs i x w is = ap (map f) (take_more xs i x w) ∙ map-append f (take i xs) _ ∙ ap (λ y. map f (take i xs) ++ f y ∷ []) (sym is)

-- ---- registrations

module _ {T : Type 0} (ops : Tagging T) where
  ok_value : {X E : Type 0} (r : Result X E) → IsOk r → (x : X) × (r ≡ Ok x)
  ok_value (Ok x) h = (x, refl)
  ok_value (Err e) h = absurd (true≢false (sym h))

  -- a newcomer whose rates have spacings is registered
  pub newcomer_registers : (u : State T) (id : ClientId) (info : Rates) → AllByRecursion (λ k. k ≢ id) (map (λ c. c.id) u.clients) → IsOk (spacings_of ops u.config.hz info) → length u.clients < 65536
      → step ops u (Register id info 0) ≡ (record u { clients = u.clients ++ newcomer ops id info (effective u 0) ∷ []; last_moment = effective u 0 }, Registered)
  newcomer_registers u id info others spaced room =
      let none = none_named u.clients id others in
      let spacings = ok_value (spacings_of ops u.config.hz info) spaced in
      let few : nat_le 65536 (length u.clients) ≡ false = false_from_ne_true _ (λ e. absurd (omega (arith, leb-true _ _ e, room))) in
      rw (none, spacings.1, few) refl

-- the state that the first clients of a scene register to
abbrev pub after_first : {T : Type 0} → Tagging T → SceneValue → ℕ → State T
after_first ops scene i = state_after ops (opening ops scene.config) (map registration (map named_rates (take i scene.clients)))

pub record HaveRegistered {T : Type 0} (ops : Tagging T) (scene : SceneValue) (i : ℕ) : Type 0 where
  pub config : (after_first ops scene i).config ≡ scene.config
  pub ids : map (λ c. c.id) (after_first ops scene i).clients ≡ map (λ c. c.id) (take i scene.clients)

-- the next one registers
pub next_registers : {T : Type 0} (ops : Tagging T) (scene : SceneValue) (i : ℕ) (x : ClientValue) → AllPairs AreApart scene.clients → HaveSpacings ops scene → length scene.clients ≤ max_scene_clients
    → i < length scene.clients → x ≡ get_or scene.clients i x → HaveRegistered ops scene i
    → (step ops (after_first ops scene i) (Register x.id x.info 0) ≡ (after_first ops scene (i + 1), Registered)) × HaveRegistered ops scene (i + 1)
next_registers {T} ops scene i x apart spaced limit within is h =
    let cs = scene.clients in
    let u = after_first ops scene i in
    let others : AllByRecursion (λ k. k ≢ x.id) (map (λ (p : PlainClient T). p.id) u.clients) = subst (AllByRecursion (λ k. k ≢ x.id)) (sym h.ids) (fresh cs i x apart within is) in
    let has_spacings : IsOk (spacings_of ops u.config.hz x.info) =
    subst (λ (info : Rates). IsOk (spacings_of ops u.config.hz info)) (ap (λ (c : ClientValue). c.info) (sym is))
    (subst (λ (config : Setting). IsOk (spacings_of ops config.hz (get_or cs i x).info)) (sym h.config) (spaced i x within)) in
    let few : length u.clients ≡ length (take i cs) = sym (length-map u.clients (λ (p : PlainClient T). p.id)) ∙ ap length h.ids ∙ length-map (take i cs) (λ (k : ClientValue). k.id) in
    let room : length u.clients < 65536 = omega (arith, length-take i cs) in
    let ruled = newcomer_registers ops u x.id x.info others has_spacings room in
    let before = map registration (map named_rates (take i cs)) in
    let more : map registration (map named_rates (take (i + 1) cs)) ≡ before ++ registration (named_rates x) ∷ [] =
    ap (map registration) (take_one_more named_rates cs i x within is) ∙ map-append registration (map named_rates (take i cs)) (named_rates x ∷ []) in
    let stepped : after_first ops scene (i + 1) ≡ (step ops u (Register x.id x.info 0)).0 = ap (state_after ops (opening ops scene.config)) more ∙ state_after-more ops (opening ops scene.config) before (registration (named_rates x)) in
    let next : after_first ops scene (i + 1) ≡ _ = stepped ∙ ap (λ (p : State T × Reply T). p.0) ruled in (
      ruled ∙ ap (λ (v : State T). (v, Registered)) (sym next),
      record {
        config = ap (λ (v : State T). v.config) next ∙ h.config;
        ids = ap (λ (v : State T). map (λ (p : PlainClient T). p.id) v.clients) next ∙ map-append (λ (p : PlainClient T). p.id) u.clients _
            ∙ ap (λ (ks : List ClientId). ks ++ x.id ∷ []) h.ids ∙ sym (take_one_more (λ (k : ClientValue). k.id) cs i x within is);
      },
    )

-- a queue that holds the state before the next client's registration
module _ {T : Type 0} (ops : Tagging T) (scene : SceneValue) (cs : List ClientValue) (cs_are : cs ≡ scene.clients) (apart : AllPairs AreApart cs) (spaced : HaveSpacings ops scene) (limit : length cs ≤ max_scene_clients)
    (i : ℕ) (x : ClientValue) (within : i < length cs) (is : x ≡ get_or cs i x) (h : HaveRegistered ops scene i) (old new : State T) (holds : old ≡ after_first ops scene i)
    (id : ClientId) (info : Rates) (at : ℕ) (id_is : id ≡ x.id) (info_is : info ≡ x.info) (at_is : at ≡ 0) where
  named : Register id info at ≡ Register x.id x.info 0
  named = rw (id_is, info_is, at_is) refl

  next : (step ops (after_first ops scene i) (Register x.id x.info 0) ≡ (after_first ops scene (i + 1), Registered)) × HaveRegistered ops scene (i + 1)
  next = next_registers ops scene i x (subst (AllPairs AreApart) cs_are apart) spaced (rw (← cs_are) limit) (rw (← cs_are) within) (rw (← cs_are) is) h

  ruled : step ops (after_first ops scene i) (Register id info at) ≡ (after_first ops scene (i + 1), Registered)
  ruled = ap (step ops (after_first ops scene i)) named ∙ next.0

  -- a step from it is the one from that state
  stepped : (reply : Reply T) → Steps ops old new (Register id info at) (Some reply) → ◌≡◌ {A = State T × Reply T} (new, reply) (after_first ops scene (i + 1), Registered)
  stepped reply steps = steps ∙ ap (λ (u : State T). step ops u (Register id info at)) holds ∙ ruled

  -- holds the state after it
  pub next_holds : Steps ops old new (Register id info at) (Some Registered) → (new ≡ after_first ops scene (i + 1)) × HaveRegistered ops scene (i + 1)
  next_holds steps = (ap (λ (p : State T × Reply T). p.0) (stepped Registered steps), next.1)

  -- and does not refuse it
  pub next_not_refused : (refusal : Refusal) → Steps ops old new (Register id info at) (Some (Refused refusal)) → ⊥
  next_not_refused refusal steps =
      let same : Refused refusal ≡ Registered = ap (λ (p : State T × Reply T). p.1) (stepped (Refused refusal) steps) in
      cc

-- ---- the run

none_at : {X : Type 0} (x : X) (n i : ℕ) → get_or (replicate n x) i x ≡ x
none_at x zero i = refl
none_at x (suc n) zero = refl
none_at x (suc n) (suc i) = none_at x n i

no_grants : (phase : PhaseType) → length (grants phase no_pair) ≡ 0
no_grants Reservation = refl
no_grants Priority = refl

no_room_for : (phase : PhaseType) → room_for phase no_room ≡ 0
no_room_for Reservation = refl
no_room_for Priority = refl

-- the ids of clients that are apart are
apart_ids : (cs : List ClientValue) → AllPairs AreApart cs → AllPairs (λ a b. a ≢ b) (map (λ c. c.id) cs)
apart_ids [] apart = λ i j d before within same. absurd (omega (arith, within))
apart_ids (c ∷ cs) apart = λ i j d before within same.
    let there : j < length (c ∷ cs) = rw (length-map (c ∷ cs) (λ (k : ClientValue). k.id)) at within in
    apart i j c before there (sym (get_or-map (λ (k : ClientValue). k.id) (c ∷ cs) i c d (omega (arith, before, there))) ∙ same ∙ get_or-map (λ (k : ClientValue). k.id) (c ∷ cs) j c d there)

-- ---- no client has a request

module _ {T : Type 0} (ops : Tagging T) where
  register_queues_none : (u : State T) (c : ClientId × Rates) → AllByRecursion (λ c. c.requests ≡ []) u.clients → AllByRecursion (λ c. c.requests ≡ []) ((step ops u (registration c)).0).clients
  register_queues_none u c z = by (can_register ops u c.0 c.1) refl
    where
      by : (r : Result ⊤ Refusal) → can_register ops u c.0 c.1 ≡ r → AllByRecursion (λ c. c.requests ≡ []) ((step ops u (registration c)).0).clients
      by (Err refusal) e = rw e z
      by (Ok tested) e = rw e (all_next (λ (p : PlainClient T). p.requests ≡ []) u.clients _ z refl)

  -- after registrations
  pub registrations_queue_none : (u : State T) (cs : List (ClientId × Rates)) → AllByRecursion (λ c. c.requests ≡ []) u.clients → AllByRecursion (λ c. c.requests ≡ []) (state_after ops u (map registration cs)).clients
  registrations_queue_none u [] z = z
  registrations_queue_none u (c ∷ cs) z = registrations_queue_none ((step ops u (registration c)).0) cs (register_queues_none u c z)

nothing_waits : {T : Type 0} (id : ClientId) (cs : List (PlainClient T)) → AllByRecursion (λ c. c.requests ≡ []) cs → AllByRecursion (AreWaiting id 0 0) cs
nothing_waits id [] z = tt
nothing_waits id (c ∷ cs) z = (λ e. let l = ap length z.0 in omega (arith, l), nothing_waits id cs z.1)

module _ {T : Type 0} (u : State T) (none : AllByRecursion (λ c. c.requests ≡ []) u.clients) (counting : Counting) (n : ℕ) (s : ServerId) where
  opened_room : (c : ClientValue) → HasRoom s (opening_client counting n c) u
  opened_room c =
      let p : pair_at s (replicate n no_pair) ≡ no_pair = none_at no_pair n s.0 in
      let r : room_at s (replicate n no_room) ≡ no_room = none_at no_room n s.0 in
      record {
        flight = rw (p, r) (omega arith);
        queued = rw (p, r) (nothing_waits c.id u.clients none);
        room = λ phase. rw (p, r, no_grants phase, no_room_for phase) (omega arith);
      }

  opened_all : (cs : List ClientValue) → AllByRecursion (λ h. HasRoom s h u) (map (opening_client counting n) cs)
  opened_all [] = tt
  opened_all (c ∷ cs) = (opened_room c, opened_all cs)

pub opened_rooms : {T Q : Type 0} (state : Q → State T) (u : State T) (servers : List (CoreServer Q)) → AllByRecursion (λ x. (state x.queue ≡ u) × (x.full ≡ 0)) servers → AllByRecursion (λ c. c.requests ≡ []) u.clients
    → (counting : Counting) (n : ℕ) (cs : List ClientValue) → HaveRoom state (map (λ x. x.queue) servers) (map (opening_client counting n) cs)
opened_rooms {T} {Q} state u servers each none counting n cs = λ s q at.
    let queues = all_mapped (λ (x : CoreServer Q). (state x.queue ≡ u) × (x.full ≡ 0)) (λ (q : Q). state q ≡ u) (λ (x : CoreServer Q). x.queue) (λ x h. h.0) servers each in
    let is : state q ≡ u = all_there (λ (q : Q). state q ≡ u) (map (λ (x : CoreServer Q). x.queue) servers) s.0 q queues at in
    rw is (opened_all u none counting n s cs)

module _ {T Q : Type 0} (state : Q → State T) (u : State T) (servers : List (CoreServer Q)) where
  pub opened_servers : (n : ℕ) → length servers ≡ n → AllByRecursion (λ x. (state x.queue ≡ u) × (x.full ≡ 0)) servers → replicate n u ≡ map state (map (λ x. x.queue) servers)
  opened_servers n e h = subst (λ (m : ℕ). replicate m u ≡ map state (map (λ x. x.queue) servers)) e (go servers h)
    where
      go : (xs : List (CoreServer Q)) → AllByRecursion (λ x. (state x.queue ≡ u) × (x.full ≡ 0)) xs → replicate (length xs) u ≡ map state (map (λ x. x.queue) xs)
      go [] h = refl
      go (x ∷ xs) h = ap (λ us. u ∷ us) (go xs h.1) ∙ ap (λ v. v ∷ map state (map (λ x. x.queue) xs)) (sym h.0.0)

module _ (counting : Counting) (n : ℕ) where
  pub opened_clients : (cs : List ClientValue) → AllZip (Matches counting) (map (opening_client counting n) cs) (map (λ c. record { id = c.0; list = []; pairs = replicate n no_pair }) (map named_rates cs))
  opened_clients [] = tt
  opened_clients (c ∷ cs) = (
    record {
      id = refl;
      pairs = refl;
      tracker = RepresentsEvents-new counting max_completions n;
      form = refl;
      most = refl;
      servers = length-replicate n no_numbers ∙ sym (length-replicate n no_pair);
    },
    opened_clients cs,
  )

  opened_ids : (cs : List ClientValue) → map (λ c. c.id) cs ≡ map (λ h. h.id) (map (opening_client counting n) cs)
  opened_ids [] = refl
  opened_ids (c ∷ cs) = ap (λ ids. c.id ∷ ids) (opened_ids cs)

  opened_pairs : (m : ℕ) → m ≡ n → (cs : List ClientValue) → AllByRecursion (λ h. length h.pairs ≡ m) (map (opening_client counting n) cs)
  opened_pairs m e [] = tt
  opened_pairs m e (c ∷ cs) = (length-replicate n no_pair ∙ sym e, opened_pairs m e cs)

  opened_few : (cs : List ClientValue) → AllByRecursion HasFewGrants (map (opening_client counting n) cs)
  opened_few [] = tt
  opened_few (c ∷ cs) = (λ s phase. let l : length (grants phase (pair_at s (replicate n no_pair))) ≡ 0 = ap (λ (p : Pair). length (grants phase p)) (none_at no_pair n s.0) ∙ no_grants phase in omega (arith, l), opened_few cs)

  opened_counts : (s : ServerId) (cs : List ClientValue) → full_counts s (map (opening_client counting n) cs) ≡ 0
  opened_counts s [] = refl
  opened_counts s (c ∷ cs) =
      let here : full_counts_of (pair_at s (replicate n no_pair)) ≡ 0 = ap full_counts_of (none_at no_pair n s.0) in
      let rest = opened_counts s cs in
      let whole = sum_by-cons (λ (h : Held). full_counts_of (pair_at s h.pairs)) (opening_client counting n c) (map (opening_client counting n) cs) in
      omega arith

module _ {Q : Type 0} (P : CoreServer Q → Type 0) where
  none_full : (servers : List (CoreServer Q)) (i : ℕ) → AllByRecursion (λ x. P x × (x.full ≡ 0)) servers → get_or (map (λ x. x.full) servers) i 0 ≡ 0
  none_full [] i h = refl
  none_full (x ∷ xs) zero h = h.0.1
  none_full (x ∷ xs) (suc i) h = none_full xs i h.1

  pub opened_kept : (counting : Counting) (n : ℕ) (cs : List ClientValue) (ids : List ClientId) (servers : List (CoreServer Q)) → ids ≡ map (λ c. c.id) cs → AllPairs AreApart cs → length servers ≡ n
      → AllByRecursion (λ x. P x × (x.full ≡ 0)) servers → IsKept ids (map (opening_client counting n) cs) servers
  opened_kept counting n cs ids servers ids_are apart as_many h = record {
    named = ids_are ∙ opened_ids counting n cs;
    apart = rw ids_are (apart_ids cs apart);
    paired = opened_pairs counting n (length servers) as_many cs;
    full = λ s within. none_full servers s.0 h ∙ sym (opened_counts counting n s cs);
    few = opened_few counting n cs;
  }
