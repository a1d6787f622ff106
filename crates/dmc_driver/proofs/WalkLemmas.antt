-- The walks over a history and over stops: one step more, and the end.
use Rattle.std.proofs.Common.{◌≡◌, ◌↔◌, ℕ, zero, suc, ◌+◌, ◌<◌, ◌≤◌, ◌==◌, ◌&&◌, Bool, true, false, if◌then◌else◌, is_some, List, [], ◌∷◌, ◌++◌, Option, None, Some, map, take, drop, get_or, length, slice_get, refl, sym, ap, ◌∙◌, subst, inl, inr, arith, eq-eqb}
use Rattle.std.proofs.lemmas.Bool.{cases_lt, eqb-true}
use Rattle.std.specs.Global.{Vec}
use Rattle.std.specs.Option.{option_and_then, option_map}
use Rattle.std.proofs.lemmas.List.{append-nil, append_assoc, append_cancel_left, length-append, length-map, length-take-le, map-append, nil_from_length, take-append-drop, take-take, take_all, take_more}
use Rattle.std.proofs.lemmas.Option.{get_or_from_slice_get, none-some, same_Some, slice_get-map, slice_get_cases, slice_get_within}
use Rattle.dmc_tag.specs.declared.event.Event.{Event}
use Rattle.dmc_tag.specs.declared.reply.Reply.{Reply}
use Rattle.dmc_book.specs.Counts.{count, grant_in, one_if}
use Rattle.dmc_scene.specs.SceneValue.{SceneValue}
use Rattle.dmc_settle.specs.declared.report.StopCause.{StopCause}
use Rattle.dmc_settle.specs.declared.report.ClusterReport.{ClusterReport}
use Rattle.dmc_driver.specs.Stops.{AreExplained, AreServerStops, calls_in, causes, ends_of, first_refused, is_nothing, is_of, listed, refusals_in, refused, refused_of}
use Rattle.dmc_driver.specs.declared.stops.Calls.{Calls}
use Rattle.dmc_driver.specs.internal.Walks.{AreClientEnds, AreStopsOfServers, refused_at, with_event, with_refused, with_reply}

-- a list up to a place, with the item there
taken : {X : Type 0} (xs : List X) (i : ℕ) (x : X) → slice_get xs i ≡ Some x → take (i + 1) xs ≡ take i xs ++ x ∷ []
taken xs i x at = take_more xs i x (slice_get_within xs i x at) ∙ ap (λ y. take i xs ++ y ∷ []) (get_or_from_slice_get xs i x x at)

-- past its end there is nothing more
all_taken : {X : Type 0} (xs : List X) (i : ℕ) → length xs ≤ i → take (i + 1) xs ≡ take i xs
all_taken xs i past = take_all (i + 1) xs (omega (arith, past)) ∙ sym (take_all i xs (omega (arith, past)))

-- ---- counts

count_more : {T : Type 0} (adds : Event T → ℕ) (es : List (Event T)) (e : Event T) → count adds (es ++ e ∷ []) ≡ count adds es + adds e
count_more adds [] e = omega arith
count_more adds (x ∷ es) e = let rest = count_more adds es e in omega (arith, rest)

causes_append : (xs ys : List (Option StopCause)) → causes (xs ++ ys) ≡ causes xs ++ causes ys
causes_append [] ys = refl
causes_append (x ∷ xs) ys = ap (λ zs. listed x ++ zs) (causes_append xs ys) ∙ sym (append_assoc (listed x) (causes xs) (causes ys))

causes_more : (ends : List (Option StopCause)) (end : Option StopCause) → causes (ends ++ end ∷ []) ≡ causes ends ++ listed end
causes_more ends end = causes_append ends (end ∷ []) ∙ ap (λ ys. causes ends ++ ys) (append-nil (listed end))

refusals_more : (seen : List StopCause) (cause : Option StopCause) → with_refused (refusals_in seen) cause ≡ refusals_in (seen ++ listed cause)
refusals_more [] None = refl
refusals_more [] (Some c) = refl
refusals_more (x ∷ []) None = refl
refusals_more (x ∷ []) (Some c) = refl
refusals_more (x ∷ y ∷ more) None = refl
refusals_more (x ∷ y ∷ more) (Some c) = refl

-- one event more, of this worker or of another
event_more : {T : Type 0} (its : Bool) (replies grants nothings : ℕ) (seen : List StopCause) (reply : Reply T) → let calls : Calls = record { replies = replies; grants = grants; nothings = nothings; refused = refusals_in seen } in
    (if its then with_reply calls reply else calls) ≡ record {
      replies = replies + one_if its;
      grants = grants + one_if (its && is_some (grant_in reply));
      nothings = nothings + one_if (its && is_nothing reply);
      refused = refusals_in (seen ++ listed (if its then refused reply else None));
    }
event_more true replies grants nothings seen reply = rw (refusals_more seen (refused reply)) refl
event_more false replies grants nothings seen reply =
    let no_reply : replies + 0 ≡ replies = omega arith in
    let no_grant : grants + 0 ≡ grants = omega arith in
    let no_nothing : nothings + 0 ≡ nothings = omega arith in
    rw (no_reply, no_grant, no_nothing, append-nil seen) refl

pub calls_more : {T : Type 0} (worker : ℕ) (events : List (Event T)) (i : ℕ) (calls : Calls) → calls ≡ calls_in worker (take i events)
    → with_event worker calls (slice_get events i) ≡ calls_in worker (take (i + 1) events)
calls_more {T} worker events i calls h =
    let its : Event T → ℕ = (λ e. one_if (is_of worker e)) in
    let granted : Event T → ℕ = (λ e. one_if (is_of worker e && is_some (grant_in e.reply))) in
    let found : Event T → ℕ = (λ e. one_if (is_of worker e && is_nothing e.reply)) in
    let f : Event T → Option StopCause = (λ e. if is_of worker e then refused e.reply else None) in
    let es = take i events in
    elim (slice_get_cases events i).1 [
      | inl p ↦
          let all : refused_of worker (es ++ p.0 ∷ []) ≡ refused_of worker es ++ listed (f p.0) = ap causes (map-append f es (p.0 ∷ [])) ∙ causes_more (map f es) (f p.0) in
          ap (with_event worker calls) p.2 ∙ ap (λ (c : Calls). with_event worker c (Some p.0)) h
          ∙ event_more (is_of worker p.0) (count its es) (count granted es) (count found es) (refused_of worker es) p.0.reply
          ∙ rw (count_more its es p.0, count_more granted es p.0, count_more found es p.0, all) refl
          ∙ ap (calls_in worker) (sym (taken events i p.0 p.2))
      | inr p ↦ ap (with_event worker calls) p.1 ∙ h ∙ ap (calls_in worker) (sym (all_taken events i p.0))
    ]

-- they are no more than the events
one_if_few : (b : Bool) → one_if b ≤ 1
one_if_few true = omega arith
one_if_few false = omega arith

count_few : {T : Type 0} (p : Event T → Bool) (es : List (Event T)) → count (λ e. one_if (p e)) es ≤ length es
count_few p [] = omega arith
count_few p (x ∷ es) = let rest = count_few p es in let one = one_if_few (p x) in omega (arith, rest, one)

pub few_calls : {T : Type 0} (worker : ℕ) (events : List (Event T)) (i : ℕ) (calls : Calls) → i ≤ length events
    → calls ≡ calls_in worker (take i events) → (calls.replies ≤ i) × (calls.grants ≤ i) × (calls.nothings ≤ i)
few_calls {T} worker events i calls within h =
    let long = length-take-le i events within in
    let replies = count_few (λ (e : Event T). is_of worker e) (take i events) in
    let grants = count_few (λ (e : Event T). is_of worker e && is_some (grant_in e.reply)) (take i events) in
    let nothings = count_few (λ (e : Event T). is_of worker e && is_nothing e.reply) (take i events) in
    let replies_are = ap (λ (c : Calls). c.replies) h in
    let grants_are = ap (λ (c : Calls). c.grants) h in
    let nothings_are = ap (λ (c : Calls). c.nothings) h in
    (omega (arith, long, replies, replies_are), omega (arith, long, grants, grants_are), omega (arith, long, nothings, nothings_are))

-- ---- stops

-- what was refused of one command more, and of all commands after some
pub refused_more : {T : Type 0} (events : List (Event T)) (i : ℕ) → first_refused (i + 1) events ≡ first_refused i events ++ listed (refused_at i events)
refused_more {T} events i =
    let f : Event T → Option StopCause = (λ e. refused e.reply) in
    let before = first_refused i events in
    elim (slice_get_cases events i).1 [
      | inl p ↦ ap (λ es. causes (map f es)) (taken events i p.0 p.2) ∙ ap causes (map-append f (take i events) (p.0 ∷ []))
          ∙ causes_more (map f (take i events)) (f p.0) ∙ ap (λ o. before ++ listed (option_and_then f o)) (sym p.2)
      | inr p ↦ ap (λ es. causes (map f es)) (all_taken events i p.0) ∙ sym (append-nil before)
          ∙ ap (λ o. before ++ listed (option_and_then f o)) (sym p.1)
    ]

pub refused_after : {T : Type 0} (events : List (Event T)) (i n : ℕ) → i ≤ n → (more : List StopCause) × (first_refused n events ≡ first_refused i events ++ more)
refused_after {T} events i n within =
    let f : Event T → Option StopCause = (λ e. refused e.reply) in
    let es = take n events in
    let more = causes (map f (drop i es)) in
    let split = ap (λ (xs : List (Event T)). causes (map f xs)) (sym (take-append-drop i es)) ∙ ap causes (map-append f (take i es) (drop i es)) in
    let apart = causes_append (map f (take i es)) (map f (drop i es)) in
    let front = ap (λ (xs : List (Event T)). causes (map f xs) ++ more) (take-take i n events within) in
    (more, split ∙ apart ∙ front)

-- one end more, and all ends after some
pub ends_more : (ends : List (Option StopCause)) (i : ℕ) (d : Option StopCause) → i < length ends
    → causes (take (i + 1) ends) ≡ causes (take i ends) ++ listed (get_or ends i d)
ends_more ends i d within = ap causes (take_more ends i d within) ∙ causes_more (take i ends) (get_or ends i d)

pub ends_after : (ends : List (Option StopCause)) (i : ℕ) → causes ends ≡ causes (take i ends) ++ causes (drop i ends)
ends_after ends i = ap causes (sym (take-append-drop i ends)) ∙ causes_append (take i ends) (drop i ends)

-- ---- the rest of a list, after what it begins with

-- it begins with one part more, if the rest begins with that
pub rest_more : (stops before here rest after : List StopCause) → stops ≡ before ++ rest → rest ≡ here ++ after → stops ≡ (before ++ here) ++ after
rest_more stops before here rest after at is = at ∙ ap (λ xs. before ++ xs) is ∙ sym (append_assoc before here after)

-- and with no list that has this part there, if the rest does not
pub rest_other : (stops before here more rest : List StopCause) → stops ≡ before ++ rest → ((after : List StopCause) → rest ≡ here ++ after → ⊥)
    → (after : List StopCause) → stops ≡ ((before ++ here) ++ more) ++ after → ⊥
rest_other stops before here more rest at none after is =
    none (more ++ after) (append_cancel_left before rest (here ++ (more ++ after))
    (sym at ∙ is ∙ append_assoc (before ++ here) more after ∙ append_assoc before here (more ++ after)))

-- nothing is left exactly if the list is the two parts
pub none_left : (stops front back others rest : List StopCause) → stops ≡ front ++ others → others ≡ back ++ rest
    → (((length rest == 0) ≡ true) ↔ (stops ≡ front ++ back))
none_left stops front back others rest at is = (
  (λ e. at ∙ ap (λ xs. front ++ xs) (is ∙ ap (λ xs. back ++ xs) (nil_from_length rest (eqb-true (length rest) 0 e)) ∙ append-nil back)),
  (λ same.
      let all : others ≡ back = append_cancel_left front others back (sym at ∙ same) in
      eq-eqb (length rest) 0 (omega (arith, ap length (sym is ∙ all), length-append back rest))),
)

-- if the rest does not begin with the second part, the list is not the two parts
pub other_rest : (stops front back others : List StopCause) → stops ≡ front ++ others → ((rest : List StopCause) → others ≡ back ++ rest → ⊥) → stops ≡ front ++ back → ⊥
other_rest stops front back others at none same = none [] (append_cancel_left front others back (sym at ∙ same) ∙ sym (append-nil back))

-- ---- servers

-- a place of a list that is seen through a function
got_seen : {X Y : Type 0} (f : X → Y) (xs : List X) (k : ℕ) (y : Y) → slice_get (map f xs) k ≡ Some y → (x : X) × (slice_get xs k ≡ Some x) × (f x ≡ y)
got_seen f [] k y at = absurd (none-some y at)
got_seen f (x ∷ xs) zero y at = (x, refl, same_Some (f x) y at)
got_seen f (x ∷ xs) (suc k) y at = got_seen f xs k y at

abbrev seen : Vec (Option StopCause) → List (Option StopCause)
seen own = own.items

pub explained : {T : Type 0} (scene : SceneValue) (ends : List (Vec (Option StopCause))) (r : ClusterReport T)
    → AreStopsOfServers scene ends r.servers.items → AreClientEnds scene.clients r.clients.items → AreExplained scene (ends_of ends) r
explained scene ends r by_server by_client = record {
  ends_of_each = length-map ends seen ∙ by_server.ends_of_each;
  servers = λ k s own at_s at_own.
      let v = got_seen seen ends k own at_own in
      subst (λ (xs : List (Option StopCause)). AreServerStops scene k xs s) v.2 (by_server.each k s v.0 at_s v.1);
  clients = by_client;
}

pub of_servers : {T : Type 0} (scene : SceneValue) (ends : List (Vec (Option StopCause))) (r : ClusterReport T)
    → AreExplained scene (ends_of ends) r → AreStopsOfServers scene ends r.servers.items
of_servers scene ends r h = record {
  ends_of_each = sym (length-map ends seen) ∙ h.ends_of_each;
  each = λ k s own at_s at_own. h.servers k s own.items at_s (slice_get-map seen ends k ∙ ap (option_map seen) at_own);
}

-- what holds of each item up to a place, and of the one there; and the same of two lists
pub item_more : {X : Type 0} (P : ℕ → X → Type 0) (xs : List X) (k : ℕ) (x : X) → slice_get xs k ≡ Some x → P k x
    → ((j : ℕ) (a : X) → j < k → slice_get xs j ≡ Some a → P j a) → (j : ℕ) (a : X) → j < k + 1 → slice_get xs j ≡ Some a → P j a
item_more {X} P xs k x at_x here below j a within at_a = elim (cases_lt j k) [
  | inl less ↦ below j a less at_a
  | inr past ↦
      let same : j ≡ k = omega (arith, within, past) in
      let to_a : x ≡ a = same_Some x a (sym at_x ∙ ap (slice_get xs) (sym same) ∙ at_a) in
      subst (λ (i : ℕ). P i a) (sym same) (subst (λ (z : X). P k z) to_a here)
]

pub each_more : {X Y : Type 0} (P : ℕ → X → Y → Type 0) (xs : List X) (ys : List Y) (k : ℕ) (x : X) (y : Y) → slice_get xs k ≡ Some x → slice_get ys k ≡ Some y → P k x y
    → ((j : ℕ) (a : X) (b : Y) → j < k → slice_get xs j ≡ Some a → slice_get ys j ≡ Some b → P j a b)
    → (j : ℕ) (a : X) (b : Y) → j < k + 1 → slice_get xs j ≡ Some a → slice_get ys j ≡ Some b → P j a b
each_more {X} {Y} P xs ys k x y at_x at_y here below j a b within at_a at_b = elim (cases_lt j k) [
  | inl less ↦ below j a b less at_a at_b
  | inr past ↦
      let same : j ≡ k = omega (arith, within, past) in
      let to_a : x ≡ a = same_Some x a (sym at_x ∙ ap (slice_get xs) (sym same) ∙ at_a) in
      let to_b : y ≡ b = same_Some y b (sym at_y ∙ ap (slice_get ys) (sym same) ∙ at_b) in
      subst (λ (i : ℕ). P i a b) (sym same) (subst (λ (z : X). P k z b) to_a (subst (λ (z : Y). P k x z) to_b here))
]
