-- Each request that may still be granted has room as a grant, after each event.
use Rattle.std.proofs.Common.{◌≡◌, ℕ, eqb, ◌+◌, ◌-◌, ◌<◌, ◌≤◌, Bool, true, false, true≢false, List, [], ◌∷◌, length, map, set, slice_get, Some, refl, sym, ap, ◌∙◌, inl, inr, ◌⊎◌, Ok, Err, arith}
use Rattle.std.specs.Prelude.{Result, ⊤, filter, if◌then◌else◌}
use Rattle.std.specs.List.{AllByRecursion}
use Rattle.dmc_types.specs.declared.ids.ClientId.{ClientId}
use Rattle.dmc_types.specs.declared.ids.ServerId.{ServerId}
use Rattle.dmc_types.specs.Values.{Rates}
use Rattle.dmc_types.specs.declared.command.Command.{Command}
use Rattle.dmc_types.specs.declared.command.Command.TheVariants as commands
use Rattle.dmc_types.specs.declared.refusal.Refusal.{Refusal}
use Rattle.dmc_tag.specs.Tag.{Tagging}
use Rattle.dmc_tag.specs.Rules as rules
use Rattle.dmc_tag.specs.Step.{step}
use Rattle.dmc_tag.specs.State.{State, PlainClient, is_client, effective}
use Rattle.dmc_core.specs.declared.event.CoreEvent.{CoreEvent}
use Rattle.dmc_core.specs.internal.Serving.{IsServed}
use Rattle.std.proofs.lemmas.Bool.{eq-eqb, eqb-true}
use Rattle.std.proofs.lemmas.Option.{same_Some}
use Rattle.dmc_lemmas.proofs.Lists.{slice_get-set_same, slice_get-set_other}
use Rattle.dmc_tag.proofs.Ids.{all_there}
use Rattle.dmc_core.specs.Run.{pair_at}
use Rattle.dmc_core.specs.Core.{Held, HasRoom, AreWaiting, room_at}
use Rattle.dmc_core.specs.internal.Parts.{KeepsRooms}
use Rattle.dmc_core.proofs.Lists.{all_set, set_seen}

-- ---- a change of a client alone

still_waiting : {T : Type 0} (old new : ClientId) (flight waiting flight' waiting' : ℕ) → new ≡ old → flight ≤ waiting → flight' + waiting ≤ flight + waiting'
    → (cs : List (PlainClient T)) → AllByRecursion (AreWaiting old flight waiting) cs → AllByRecursion (AreWaiting new flight' waiting') cs
still_waiting old new f w f' w' id low more [] z = z
still_waiting old new f w f' w' id low more (c ∷ cs) z = (
  λ e. let a = z.0 (rw id at e) in omega arith,
  still_waiting old new f w f' w' id low more cs z.1,
)

pub has_room_kept : {T : Type 0} (s : ServerId) (h h' : Held) (state : State T) → HasRoom s h state → h'.id ≡ h.id → KeepsRooms h h' → HasRoom s h' state
has_room_kept s h h' state has id kept =
    let k = kept s in
    let low = has.flight in
    let more = k.waiting in
    record {
      flight = omega arith;
      queued = still_waiting h.id h'.id _ _ _ _ id low more state.clients has.queued;
      room = k.room has.room;
    }

pub rooms_after_client : {T Q : Type 0} (state : Q → State T) (servers : List Q) (hs : List Held) (i : ℕ) (h h' : Held) → slice_get hs i ≡ Some h → h'.id ≡ h.id → KeepsRooms h h'
    → ((s : ServerId) (q : Q) → slice_get servers s.0 ≡ Some q → AllByRecursion (λ h. HasRoom s h (state q)) hs)
    → (s : ServerId) (q : Q) → slice_get servers s.0 ≡ Some q → AllByRecursion (λ h. HasRoom s h (state q)) (set hs i h')
rooms_after_client state servers hs i h h' at id kept rooms s q there =
    let all = rooms s q there in
    all_set (λ (x : Held). HasRoom s x (state q)) hs i h' all (has_room_kept s h h' (state q) (all_there (λ (x : Held). HasRoom s x (state q)) hs i h all at) id kept)

-- ---- another queue at a server

pub rooms_after_server : {T Q : Type 0} (state : Q → State T) (servers : List Q) (hs : List Held) (s : ServerId) (q' : Q)
    → AllByRecursion (λ h. HasRoom s h (state q')) hs
    → ((s : ServerId) (q : Q) → slice_get servers s.0 ≡ Some q → AllByRecursion (λ h. HasRoom s h (state q)) hs)
    → (other : ServerId) (q : Q) → slice_get (set servers s.0 q') other.0 ≡ Some q → AllByRecursion (λ h. HasRoom other h (state q)) hs
rooms_after_server {T} {Q} state servers hs s q' here rooms other q at = by (set_seen servers s.0 other.0 q q' at)
  where
    by : ((other.0 ≡ s.0) × (q ≡ q')) ⊎ (slice_get servers other.0 ≡ Some q) → AllByRecursion (λ h. HasRoom other h (state q)) hs
    by (inl (same, is)) =
        let this : other ≡ s = ap (λ (m : ℕ). let x : ServerId = record { 0 = m } in x) same in
        rw (this, is) here
    by (inr before) = rooms other q before

-- there is room for each client's requests at each server
abbrev pub HaveRoom : {T Q : Type 0} → (Q → State T) → List Q → List Held → Type 0
HaveRoom {T} {Q} state servers hs = (s : ServerId) (q : Q) → slice_get servers s.0 ≡ Some q → AllByRecursion (λ h. HasRoom s h (state q)) hs

-- a client that has at a server what it had
has_room_same : {T : Type 0} (s : ServerId) (h h' : Held) (state : State T) → h'.id ≡ h.id → pair_at s h'.pairs ≡ pair_at s h.pairs → room_at s h'.rooms ≡ room_at s h.rooms → HasRoom s h state → HasRoom s h' state
has_room_same s h h' state id pair room has = record {
  flight = rw (pair, room) has.flight;
  queued = rw (id, pair, room) has.queued;
  room = λ phase. rw (pair, room) (has.room phase);
}

-- another queue at a server, and another client, which has at each other server what it had
pub rooms_after_both : {T Q : Type 0} (state : Q → State T) (servers : List Q) (hs : List Held) (s : ServerId) (q' : Q) (i : ℕ) (h h' : Held) → slice_get hs i ≡ Some h → s.0 < length servers → h'.id ≡ h.id
    → ((other : ServerId) → (other.0 ≡ s.0 → ⊥) → (pair_at other h'.pairs ≡ pair_at other h.pairs) × (room_at other h'.rooms ≡ room_at other h.rooms))
    → AllByRecursion (λ x. HasRoom s x (state q')) (set hs i h') → HaveRoom state servers hs → HaveRoom state (set servers s.0 q') (set hs i h')
rooms_after_both state servers hs s q' i h h' at within id same here rooms other q found = by (eqb other.0 s.0) refl
  where
    by : (b : Bool) → eqb other.0 s.0 ≡ b → AllByRecursion (λ x. HasRoom other x (state q)) (set hs i h')
    by true e =
        let this : other ≡ s = ap (λ (m : ℕ). let x : ServerId = record { 0 = m } in x) (eqb-true _ _ e) in
        let there : slice_get (set servers s.0 q') s.0 ≡ Some q = rw (eqb-true other.0 s.0 e) at found in
        let is : q' ≡ q = same_Some q' q (sym (slice_get-set_same servers s.0 q' within) ∙ there) in
        rw (this, ← is) here
    by false e =
        let apart : other.0 ≡ s.0 → ⊥ = λ is. let t = eq-eqb _ _ is in true≢false (sym t ∙ e) in
        let all = rooms other q (sym (slice_get-set_other servers s.0 other.0 q' apart) ∙ found) in
        let kept = same other apart in
        all_set (λ (x : Held). HasRoom other x (state q)) hs i h' all (has_room_same other h h' (state q) id kept.0 kept.1 (all_there (λ (x : Held). HasRoom other x (state q)) hs i h all at))

-- ---- what an update and a clean leave of the records

pick_id : {T : Type 0} (b : Bool) (c d : PlainClient T) → d.id ≡ c.id → (if b then d else c).id ≡ c.id
pick_id true c d e = e
pick_id false c d e = refl

pick_length : {T : Type 0} (b : Bool) (c d : PlainClient T) → length d.requests ≡ length c.requests → length (if b then d else c).requests ≡ length c.requests
pick_length true c d e = e
pick_length false c d e = refl

module _ {T : Type 0} (id : ClientId) (flight waiting : ℕ) where
  pub waiting_mapped : (g : PlainClient T → PlainClient T) → ((c : PlainClient T) → (g c).id ≡ c.id) → ((c : PlainClient T) → length (g c).requests ≡ length c.requests)
      → (cs : List (PlainClient T)) → AllByRecursion (AreWaiting id flight waiting) cs → AllByRecursion (AreWaiting id flight waiting) (map g cs)
  waiting_mapped g same_id as_many [] z = z
  waiting_mapped g same_id as_many (c ∷ cs) z = (
    λ e. let a = z.0 (rw (same_id c) at e) in let l = as_many c in omega arith,
    waiting_mapped g same_id as_many cs z.1,
  )

  pub waiting_filtered : (p : PlainClient T → Bool) (cs : List (PlainClient T)) → AllByRecursion (AreWaiting id flight waiting) cs → AllByRecursion (AreWaiting id flight waiting) (filter p cs)
  waiting_filtered p [] z = z
  waiting_filtered p (c ∷ cs) z = by (waiting_filtered p cs z.1) (p c) refl
    where
      by : AllByRecursion (AreWaiting id flight waiting) (filter p cs) → (b : Bool) → p c ≡ b → AllByRecursion (AreWaiting id flight waiting) (filter p (c ∷ cs))
      by rest true e = rw e (z.0, rest)
      by rest false e = rw e rest

  pub waiting_updated : (ops : Tagging T) (u : State T) (client : ClientId) (info : Rates) (at : ℕ)
      → AllByRecursion (AreWaiting id flight waiting) u.clients → AllByRecursion (AreWaiting id flight waiting) ((step ops u (commands.Update client info at)).0).clients
  waiting_updated ops u client info at z = by (rules.can_update ops u client info) refl
    where
      by : (r : Result ⊤ Refusal) → rules.can_update ops u client info ≡ r → AllByRecursion (AreWaiting id flight waiting) ((step ops u (commands.Update client info at)).0).clients
      by (Err refusal) e = rw e z
      by (Ok tested) e = rw e (waiting_mapped (λ c. if is_client client c.id then rules.with_info info c else c)
          (λ c. pick_id (is_client client c.id) c (rules.with_info info c) refl) (λ c. pick_length (is_client client c.id) c (rules.with_info info c) refl) u.clients z)

  pub waiting_cleaned : (ops : Tagging T) (u : State T) (at : ℕ)
      → AllByRecursion (AreWaiting id flight waiting) u.clients → AllByRecursion (AreWaiting id flight waiting) ((step ops u (commands.Clean at)).0).clients
  waiting_cleaned ops u at z = waiting_mapped (rules.with_idle_mark u (effective u at)) (λ c. refl) (λ c. refl) _ (waiting_filtered _ u.clients z)

-- another state, of which as much may be granted
pub has_room_state : {T : Type 0} (s : ServerId) (u v : State T) → ((id : ClientId) (flight waiting : ℕ) → AllByRecursion (AreWaiting id flight waiting) u.clients → AllByRecursion (AreWaiting id flight waiting) v.clients)
    → (hs : List Held) → AllByRecursion (λ h. HasRoom s h u) hs → AllByRecursion (λ h. HasRoom s h v) hs
has_room_state s u v fewer [] z = z
has_room_state s u v fewer (h ∷ hs) z = (
  record { flight = z.0.flight; queued = fewer h.id _ _ z.0.queued; room = z.0.room },
  has_room_state s u v fewer hs z.1,
)

pub served_rooms : {T : Type 0} (ops : Tagging T) (s : ServerId) (command : Command) (event : CoreEvent) → IsServed s command event → (u : State T)
    → (id : ClientId) (flight waiting : ℕ) → AllByRecursion (AreWaiting id flight waiting) u.clients → AllByRecursion (AreWaiting id flight waiting) ((step ops u command).0).clients
served_rooms ops s (commands.Register client info at) event h u id f w z = absurd h
served_rooms ops s (commands.Update client info at) event h u id f w z = waiting_updated id f w ops u client info at z
served_rooms ops s (commands.Add client token params at) event h u id f w z = absurd h
served_rooms ops s (commands.Pull at) event h u id f w z = absurd h
served_rooms ops s (commands.Remove client) event h u id f w z = absurd h
served_rooms ops s (commands.Cancel client token counting) event h u id f w z = absurd h
served_rooms ops s (commands.Clean at) event h u id f w z = waiting_cleaned id f w ops u at z

-- ---- what a grant and a removal take from the records

-- of no client may more be granted than before, and of this one this number fewer
pub record Takes {T : Type 0} (client : ClientId) (count : ℕ) (old new : List (PlainClient T)) : Type 0 where
  pub none_more : (id : ClientId) (flight waiting : ℕ) → AllByRecursion (AreWaiting id flight waiting) old → AllByRecursion (AreWaiting id flight waiting) new
  pub fewer : (id : ClientId) → is_client client id ≡ true → (flight waiting : ℕ) → AllByRecursion (AreWaiting id flight waiting) old
      → (flight + count ≤ waiting) × AllByRecursion (AreWaiting id flight (waiting - count)) new

-- another record takes the place of a client's
pub waiting_replaced : {T : Type 0} (id : ClientId) (flight was is : ℕ) (of : ClientId) (after : PlainClient T) → (is_client id after.id ≡ true → flight + length after.requests ≤ is)
    → ((c : PlainClient T) → is_client of c.id ≡ false → AreWaiting id flight was c → AreWaiting id flight is c)
    → (cs : List (PlainClient T)) → AllByRecursion (AreWaiting id flight was) cs → AllByRecursion (AreWaiting id flight is) (map (λ c. if is_client of c.id then after else c) cs)
waiting_replaced id flight was is of after here others [] z = tt
waiting_replaced id flight was is of after here others (c ∷ cs) z = (by (is_client of c.id) refl, waiting_replaced id flight was is of after here others cs z.1)
  where
    by : (b : Bool) → is_client of c.id ≡ b → AreWaiting id flight is (if is_client of c.id then after else c)
    by true e = rw e here
    by false e = rw e (others c e z.0)

-- each record has at most the requests that it had
pub waiting_fewer : {T : Type 0} (id : ClientId) (flight waiting : ℕ) (g : PlainClient T → PlainClient T) → ((c : PlainClient T) → (g c).id ≡ c.id) → ((c : PlainClient T) → length (g c).requests ≤ length c.requests)
    → (cs : List (PlainClient T)) → AllByRecursion (AreWaiting id flight waiting) cs → AllByRecursion (AreWaiting id flight waiting) (map g cs)
waiting_fewer id flight waiting g same_id fewer [] z = z
waiting_fewer id flight waiting g same_id fewer (c ∷ cs) z = (
  λ e. let a = z.0 (rw (same_id c) at e) in let l = fewer c in omega arith,
  waiting_fewer id flight waiting g same_id fewer cs z.1,
)

-- ---- what an arrival adds to a record

-- one message is no longer in flight, and each record has at most one request more
pub waiting_grown : {T : Type 0} (id : ClientId) (flight flight' waiting : ℕ) → flight' + 1 ≤ flight
    → (g : PlainClient T → PlainClient T) → ((c : PlainClient T) → (g c).id ≡ c.id) → ((c : PlainClient T) → length (g c).requests ≤ length c.requests + 1)
    → (cs : List (PlainClient T)) → AllByRecursion (AreWaiting id flight waiting) cs → AllByRecursion (AreWaiting id flight' waiting) (map g cs)
waiting_grown id flight flight' waiting less g same_id one_more [] z = z
waiting_grown id flight flight' waiting less g same_id one_more (c ∷ cs) z = (
  λ e. let a = z.0 (rw (same_id c) at e) in let l = one_more c in omega arith,
  waiting_grown id flight flight' waiting less g same_id one_more cs z.1,
)

-- a message of another client arrives
pub waiting_apart : {T : Type 0} (id : ClientId) (flight waiting : ℕ) (client : ClientId) → (is_client client id ≡ true → ⊥)
    → (g : PlainClient T → PlainClient T) → ((c : PlainClient T) → (g c).id ≡ c.id)
    → (cs : List (PlainClient T)) → AllByRecursion (AreWaiting id flight waiting) cs → AllByRecursion (AreWaiting id flight waiting) (map (λ c. if is_client client c.id then g c else c) cs)
waiting_apart id flight waiting client apart g same_id [] z = z
waiting_apart id flight waiting client apart g same_id (c ∷ cs) z = (
  by (is_client client c.id) refl,
  waiting_apart id flight waiting client apart g same_id cs z.1,
)
  where
    by : (b : Bool) → is_client client c.id ≡ b → is_client id (if is_client client c.id then g c else c).id ≡ true → flight + length (if is_client client c.id then g c else c).requests ≤ waiting
    by true e f =
        let named : is_client id c.id ≡ true = rw (← same_id c) (rw e at f) in
        let a : c.id.0 ≡ id.0 = eqb-true _ _ named in
        let b : c.id.0 ≡ client.0 = eqb-true _ _ e in
        absurd (apart (eq-eqb _ _ (sym a ∙ b)))
    by false e f = rw e (z.0 (rw e at f))
