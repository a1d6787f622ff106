-- The desks of a cluster while they are opened.
use Rattle.std.proofs.Common.{◌≡◌, ℕ, ◌+◌, ◌*◌, ◌<◌, ◌≤◌, List, [], ◌∷◌, ◌++◌, length, map, take, drop, sym, ap, ◌∙◌, subst, inl, inr, refl, get_or, arith}
use Rattle.std.specs.List.{range_with_len, remove}
use Rattle.std.proofs.Math.Nat.{eq-or-lt_of_le, mul-le-mul_left}
use Rattle.std.proofs.Math.ListN.{get_or-append}
use Rattle.std.proofs.Math.Seq.{get_or-append_seam}
use Rattle.std.proofs.lemmas.List.{get_or-map, map-append, length-append, length-map, map_more}
use Rattle.std.proofs.lemmas.List.FromFn.{get_or-range_with_len, length-map-range_with_len}
use Rattle.dmc_ledger.specs.Bundles.{ClientSide, ServerSide, client_side, new_server_side, server_side}
use Rattle.dmc_ledger.specs.declared.desk.ClientDesk.{ClientDesk}
use Rattle.dmc_ledger.specs.declared.desk.ServerDesk.{ServerDesk}
use Rattle.dmc_scene.specs.SceneValue.{ClientValue}
use Rattle.dmc_tlock.specs.BookState.{no_side}
use Rattle.dmc_tlock.specs.Opening.{AreNew}
use Rattle.dmc_driver_threads.specs.internal.Desks.{QueueDesksValue, ids_of, queue_of, queues_of, with_client}

-- ---- a client's, with one for the next server

are_new_snoc : (client : ℕ) (xs : List ServerSide) (d : ServerSide) → AreNew client xs
    → ((n : ℕ) × (d ≡ new_server_side client (length xs) n)) → AreNew client (xs ++ d ∷ [])
are_new_snoc client xs d old new s within =
    let le : s.0 ≤ length xs = omega (arith, length-append xs (d ∷ [])) in
    elim (eq-or-lt_of_le le) [
      | inl e ↦ (
        new.0,
        ap (λ k. get_or (xs ++ d ∷ []) k no_side) e ∙ get_or-append_seam xs d [] no_side ∙ new.1
            ∙ ap (λ k. new_server_side client k new.0) (sym e),
      )
      | inr h ↦ let o = old s h in (o.0, get_or-append xs (d ∷ []) no_side s.0 h ∙ o.1)
    ]

pub are_new_after_push : {S : Type 0} (client : ℕ) (items : List (ServerDesk S)) (desk : ServerDesk S)
    → AreNew client (map server_side items)
    → ((n : ℕ) × (server_side desk ≡ new_server_side client (length items) n))
    → AreNew client (map server_side (items ++ desk ∷ []))
are_new_after_push {S} client items desk old new =
    subst (AreNew client) (sym (map-append server_side items (desk ∷ [])))
    (are_new_snoc client (map server_side items) (server_side desk) old (
      new.0,
      new.1 ∙ ap (λ k. new_server_side client k new.0) (sym (length-map items (server_side {S = S}))),
    ))

-- ---- those of a server

pub as_many_desks : {S : Type 0} (items : List (ClientDesk S)) (cs : List ClientValue) → map (λ (d : ClientSide). d.client) (map (client_side {S = S}) items) ≡ ids_of cs
    → length items ≡ length cs
as_many_desks {S} items cs named =
    sym (length-map items (client_side {S = S})) ∙ sym (length-map (map (client_side {S = S}) items) (λ (d : ClientSide). d.client)) ∙ ap length named
    ∙ length-map cs (λ (c : ClientValue). c.id.0)

-- ---- those of the servers

abbrev server_of : QueueDesksValue → ℕ
server_of q = q.server

pub servers_of : (clients ns : List ℕ) → map server_of (map (queue_of clients) ns) ≡ ns
servers_of clients [] = refl
servers_of clients (n ∷ ns) = ap (λ ms. n ∷ ms) (servers_of clients ns)

pub as_many_queues : (servers : ℕ) (clients : List ℕ) → length (queues_of servers clients) ≡ servers
as_many_queues servers clients = length-map-range_with_len (queue_of clients) 0 servers

-- the server at a place
pub server_at : (queues : List QueueDesksValue) (i : ℕ) (d : QueueDesksValue) → map server_of queues ≡ range_with_len 0 (length queues) → i < length queues
    → (get_or queues i d).server ≡ i
server_at queues i d same within =
    let from_zero : 0 + i ≡ i = omega arith in
    sym (get_or-map server_of queues i d 0 within) ∙ ap (λ (ns : List ℕ). get_or ns i 0) same ∙ get_or-range_with_len 0 (length queues) i 0 within ∙ from_zero

one_client_more : (clients : List ℕ) (client : ℕ) (ns : List ℕ) → map (with_client client) (map (queue_of clients) ns) ≡ map (queue_of (clients ++ client ∷ [])) ns
one_client_more clients client [] = refl
one_client_more clients client (n ∷ ns) = ap (λ qs. queue_of (clients ++ client ∷ []) n ∷ qs) (one_client_more clients client ns)

-- the desks of the next client
pub next_client : (n : ℕ) (cs : List ClientValue) (i : ℕ) (c : ClientValue) (old new : List QueueDesksValue) → i < length cs → c ≡ get_or cs i c
    → old ≡ queues_of n (ids_of (take i cs)) → new ≡ map (with_client c.id.0) old → new ≡ queues_of n (ids_of (take (i + 1) cs))
next_client n cs i c old new within is before after =
    let id : ClientValue → ℕ = λ x. x.id.0 in
    let ids : ids_of (take (i + 1) cs) ≡ ids_of (take i cs) ++ c.id.0 ∷ [] = map_more id cs i c within ∙ ap (λ (k : ℕ). ids_of (take i cs) ++ k ∷ []) (sym (ap id is)) in
    after ∙ ap (map (with_client c.id.0)) before ∙ one_client_more (ids_of (take i cs)) c.id.0 (range_with_len 0 n)
    ∙ sym (ap (λ (ks : List ℕ). queues_of n ks) ids)

-- the desks of the next server are taken out
pub next_server : (clients : List ℕ) (n : ℕ) (queues : List QueueDesksValue) (q : QueueDesksValue) → 0 < length queues
    → queues ≡ map (queue_of clients) (range_with_len n (length queues)) → q ≡ get_or queues 0 q
    → (q ≡ queue_of clients n) × (remove queues 0 ≡ map (queue_of clients) (range_with_len (n + 1) (length (remove queues 0))))
next_server clients n [] q some are is = absurd (omega (arith, some))
next_server clients n (x ∷ xs) q some are is = (is ∙ ap (λ (qs : List QueueDesksValue). get_or qs 0 x) are, ap (λ (qs : List QueueDesksValue). drop 1 qs) are)

-- ---- the numbers that are left

-- this many turns of so many each are left, so one is
pub one_turn : (i n each left whole : ℕ) → i < n → left + i * each ≡ whole → n * each ≤ whole → each ≤ left
one_turn i n each left whole within left_is all =
    let next : i + 1 ≤ n = omega (arith, within) in
    let more : each * (i + 1) ≤ each * n = mul-le-mul_left each next in
    omega (arith, more, left_is, all)
