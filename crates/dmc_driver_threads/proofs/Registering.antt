-- What a server's new book is, and what registering a client there keeps.
use Rattle.std.proofs.Common.{◌≡◌, ℕ, zero, suc, ◌+◌, ◌<◌, ◌≤◌, Bool, true, false, cond, eqb, eq-eqb, List, [], ◌∷◌, length, map, take, get_or, Option, Some, Ok, Err, refl, sym, ap, ◌∙◌, subst, arith}
use Rattle.std.specs.Prelude.{OnOk, Result, is_some, slice_get, position}
use Rattle.std.specs.List.{position_from}
use Rattle.std.proofs.lemmas.Iterator.Adapters.{position_from-zero}
use Rattle.std.proofs.lemmas.List.{get_or-map, length-map, length-take-le}
use Rattle.std.proofs.lemmas.Option.{none-some, same_Some}
use Rattle.dmc_types.specs.Values.{Setting}
use Rattle.dmc_types.specs.declared.ids.ClientId.{ClientId}
use Rattle.dmc_types.specs.declared.ids.WorkerId.{WorkerId}
use Rattle.dmc_types.specs.declared.command.Command.{Command}
use Rattle.dmc_tag.specs.Tag.{Tagging}
use Rattle.dmc_tag.specs.declared.event.Event.{Event}
use Rattle.dmc_tag.specs.declared.reply.Reply.{Reply}
use Rattle.dmc_lemmas.proofs.Lists.{position_map}
use Rattle.dmc_ledger.specs.Bundles.{ClientSide}
use Rattle.dmc_book.specs.BookState.{BookState, PassState, WorkerSide, no_worker, pass_state}
use Rattle.dmc_book.specs.Calls.{Ran, event_of}
use Rattle.dmc_book.specs.Counts.{numbers_of}
use Rattle.dmc_book.specs.Moves.{AreOf, IsEnrolled, IsOpen, desk_after, desk_place, pass_after, tills_after, worker_after}
use Rattle.dmc_book.specs.PerCount.{books_per_worker}
use Rattle.dmc_book.specs.Opening.{desk_with_tills, new_pass, new_passes, new_state, new_workers}
use Rattle.dmc_book.specs.declared.pass.WorkerPass.{WorkerPass}
use Rattle.dmc_scene.specs.SceneValue.{ClientValue, SceneValue}
use Rattle.dmc_driver_threads.specs.LimitsValue.{LimitsValue}
use Rattle.dmc_driver_threads.specs.Opened.{commands_of, registration}
use Rattle.dmc_driver_threads.specs.internal.Books.{IsFirstEnrolled, IsNewBook, IsSetAsBefore}
use Rattle.dmc_driver_threads.specs.internal.Desks.{ids_of}

abbrev client_of : ClientSide → ℕ
client_of d = d.client

-- ---- a new book

tilled : (k : ℕ) (ds : List ClientSide) → map client_of (map (desk_with_tills k) ds) ≡ map client_of ds
tilled k [] = refl
tilled k (d ∷ ds) = ap (λ ns. d.client ∷ ns) (tilled k ds)

pub new_book_is : {T : Type 0} (scene : SceneValue) (limits : LimitsValue) (book : BookState T) (config : Setting) (server most n : ℕ) (ws : List WorkerId)
    (ds : List ClientSide) → book ≡ new_state config server most n ws ds → config ≡ scene.config → most ≡ limits.events
    → map client_of ds ≡ ids_of scene.clients → length scene.clients ≤ most → IsNewBook scene limits book
new_book_is {T} scene limits book config server most n ws ds is configured limited named room =
    let most_is : book.most ≡ most = ap (λ (b : BookState T). b.most) is in
    record {
      config = ap (λ (b : BookState T). b.config) is ∙ configured;
      first = ap (λ (b : BookState T). b.first) is;
      most = most_is ∙ limited;
      history = ap (λ (b : BookState T). b.history) is;
      desks = ap (λ (b : BookState T). map client_of b.desks) is ∙ tilled (length ws) ds ∙ named;
      room = omega (arith, most_is, room);
    }

as_many : (place n : ℕ) (names : List ClientId) (ds : List ClientSide) (ws : List WorkerId) → length (new_passes place n names ds ws) ≡ length ws
as_many place n names ds [] = refl
as_many place n names ds (w ∷ ws) = ap suc (as_many (place + 1) (n + books_per_worker) names ds ws)

first_new : (reach n : ℕ) (names : List ClientId) (ds : List ClientSide) (ws : List WorkerId) (p : PassState) → slice_get (new_passes 0 n names ds ws) 0 ≡ Some p
    → IsEnrolled (new_workers reach n ws) p
first_new reach n names ds [] p at = absurd (none-some p at)
first_new reach n names ds (w ∷ ws) p at = subst (IsEnrolled (new_workers reach n (w ∷ ws))) (same_Some (new_pass 0 n names ds w) p at) (record {
  within = omega arith;
  its_worker = refl;
  its_tills = (refl, refl, refl, refl, refl, refl);
  still = omega arith;
})

module _ {T S : Type 0} (book : BookState T) (passes : List (WorkerPass S)) (config : Setting) (server most n : ℕ) (names : List ClientId) (ws : List WorkerId)
    (ds : List ClientSide) (is : book ≡ new_state config server most n ws ds) (made : map (pass_state {S = S}) passes ≡ new_passes 0 n names ds ws) where
  pub a_pass_each : length passes ≡ length ws
  a_pass_each = sym (length-map passes (pass_state {S = S})) ∙ ap length made ∙ as_many 0 n names ds ws

  pub first_enrolled : IsFirstEnrolled book.workers passes
  first_enrolled p at =
      subst (λ (seats : List WorkerSide). IsEnrolled seats p) (sym (ap (λ (b : BookState T). b.workers) is))
      (first_new (length ds) n names ds ws p (sym (ap (λ (ps : List PassState). slice_get ps 0) made) ∙ at))

pub enrolled_at_first : {S : Type 0} (workers : List WorkerSide) (passes : List (WorkerPass S)) (d : WorkerPass S) → IsFirstEnrolled workers passes
    → 0 < length passes → IsEnrolled workers (pass_state (get_or passes 0 d))
enrolled_at_first workers [] d first some = absurd (omega (arith, some))
enrolled_at_first workers (p ∷ ps) d first some = first (pass_state p) refl

-- ---- a client has a desk

found_or : (b : Bool) (n : ℕ) (o : Option ℕ) → is_some o ≡ true → is_some (cond b (Some n) o) ≡ true
found_or true n o h = refl
found_or false n o h = h

found : (n : ℕ) (ns : List ℕ) (k from : ℕ) → k < length ns → get_or ns k 0 ≡ n → is_some (position_from (λ m. eqb n m) from ns) ≡ true
found n [] k from within is = absurd (omega (arith, within))
found n (m ∷ ns) zero from within is = rw (eq-eqb n m (sym is)) refl
found n (m ∷ ns) (suc k) from within is = found_or (eqb n m) from (position_from (λ m. eqb n m) (from + 1) ns) (found n ns k (from + 1) (omega (arith, within)) is)

pub has_desk : (ds : List ClientSide) (cs : List ClientValue) (k : ℕ) (c : ClientValue) → map client_of ds ≡ ids_of cs → k < length cs → c ≡ get_or cs k c
    → is_some (desk_place c.id.0 ds) ≡ true
has_desk ds cs k c named within is =
    let n = c.id.0 in
    let test : ℕ → Bool = λ m. eqb n m in
    let at : get_or (ids_of cs) k 0 ≡ n = get_or-map (λ (x : ClientValue). x.id.0) cs k c 0 within ∙ sym (ap (λ (x : ClientValue). x.id.0) is) in
    let there : k < length (ids_of cs) = omega (arith, within, length-map cs (λ (x : ClientValue). x.id.0)) in
    ap (λ (o : Option ℕ). is_some o) (sym (position_map client_of test ds) ∙ ap (position test) named ∙ position_from-zero test (ids_of cs))
    ∙ found n (ids_of cs) k 0 there at

-- ---- a command that the book ran

enrolled_after : {T : Type 0} (e : Event T) (server : ℕ) (command : Command) (reply : Reply T) (ws : List WorkerSide) (p : PassState) → IsEnrolled ws p
    → IsEnrolled (map (worker_after e) ws) (pass_after server command reply p)
enrolled_after e server command reply ws p h =
    let at : get_or (map (worker_after e) ws) p.place no_worker ≡ worker_after e (get_or ws p.place no_worker) =
    get_or-map (worker_after e) ws p.place no_worker no_worker h.within in
    record {
      within = omega (arith, h.within, length-map ws (worker_after e));
      its_worker = ap (λ (w : WorkerSide). w.worker) at ∙ h.its_worker;
      its_tills = subst (λ (w : WorkerSide). AreOf (tills_after (numbers_of command reply) p.tills) w.books) (sym at) h.its_tills;
      still = subst IsOpen (sym at) h.still;
    }

same_clients : {T : Type 0} (e : Event T) (ds : List ClientSide) → map client_of (map (desk_after e) ds) ≡ map client_of ds
same_clients e [] = refl
same_clients e (d ∷ ds) = ap (λ ns. d.client ∷ ns) (same_clients e ds)

module _ {T : Type 0} (ops : Tagging T) (old new : BookState T) (before later : PassState) (command : Command) (reply : Reply T)
    (ran : Ran ops old new before later command reply) where
  pub still_enrolled : IsEnrolled old.workers before → IsEnrolled new.workers later
  still_enrolled h =
      let e = event_of before.worker command reply in
      subst (λ (p : PassState). IsEnrolled new.workers p) (sym ran.pass)
      (subst (λ (ws : List WorkerSide). IsEnrolled ws (pass_after old.server command reply before)) (sym (ap (λ (b : BookState T). b.workers) ran.book))
      (enrolled_after e old.server command reply old.workers before h))

  desks_kept : map client_of new.desks ≡ map client_of old.desks
  desks_kept = ap (λ (b : BookState T). map client_of b.desks) ran.book ∙ same_clients (event_of before.worker command reply) old.desks

  pub set_as_before : IsSetAsBefore old new
  set_as_before = record {
    config = ap (λ (b : BookState T). b.config) ran.book;
    first = ap (λ (b : BookState T). b.first) ran.book;
    most = ap (λ (b : BookState T). b.most) ran.book;
    desks = desks_kept;
  }

-- as many events as clients that are registered
pub events_of : {T : Type 0} (history : List (Event T)) (cs : List ClientValue) (i : ℕ) → commands_of history ≡ map registration (take i cs) → i ≤ length cs
    → length history ≡ i
events_of {T} history cs i same le =
    sym (length-map history (λ (e : Event T). e.command)) ∙ ap length same ∙ length-map (take i cs) registration ∙ length-take-le i cs le

-- what holds whatever a call returns
pub on_ok : {X E P : Type 0} (r : Result X E) → P → OnOk r P
on_ok (Ok x) p = p
on_ok (Err e) p = tt
