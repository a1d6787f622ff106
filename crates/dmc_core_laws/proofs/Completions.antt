-- In the form `All` the deltas between two arrivals sum to the completions between their stamps.
use Rattle.std.proofs.Common.{◌≡◌, ℕ, zero, suc, ◌+◌, ◌-◌, ◌<◌, ◌≤◌, Bool, true, false, cond, ◌==◌, List, [], ◌∷◌, ◌++◌, length, drop, take, Some, refl, sym, ap, ◌∙◌, subst, arith, append_assoc, length-append}
use Rattle.std.specs.Prelude.{slice_get, sum_by, if◌then◌else◌}
use Rattle.std.proofs.lemmas.List.Sums.{sum_by-cons, sum_by_push}
use Rattle.std.proofs.lemmas.List.{append-nil, length-map, take-append-drop, take-append-le}
use Rattle.std.proofs.lemmas.Option.{slice_get_within}
use Rattle.dmc_types.specs.Values.{Params, Counts, no_counts, counts_of}
use Rattle.dmc_types.specs.declared.ids.ClientId.{ClientId}
use Rattle.dmc_types.specs.declared.ids.ServerId.{ServerId}
use Rattle.dmc_types.specs.declared.command.Command.{Command}
use Rattle.dmc_types.specs.declared.command.Command.TheVariants.{Register, Update, Add, Pull, Remove, Cancel, Clean}
use Rattle.dmc_types.specs.declared.config.Counting.TheVariants.{All}
use Rattle.dmc_types.specs.declared.config.PhaseType.{PhaseType}
use Rattle.dmc_tag.specs.declared.event.Event.{Event}
use Rattle.dmc_tag.specs.declared.reply.Reply.{Reply}
use Rattle.dmc_tag.specs.declared.reply.Reply.TheVariants.{Registered, Updated, Tagged, Granted, Later, Nothing, Removed, Cleaned, Refused}
use Rattle.dmc_history_laws.specs.Bounds.{Arrival, Arrives, IsOf, SpanBy, arrival_of, arrivals, sum_of}
use Rattle.dmc_history_laws.proofs.ForCallers.{arrivals-append, take_one}
use Rattle.dmc_tracker.specs.declared.event.TrackerEvent.{TrackerEvent}
use Rattle.dmc_tracker.specs.declared.event.TrackerEvent.TheVariants.{Stamp, Skip, Response}
use Rattle.dmc_tracker.specs.TrackerList.{plus, is_skip_of, completions, skips, sent, skipped, pending, IsTracked}
use Rattle.dmc_tracker.proofs.ForCallers.{IsTracked-front, sums-all, sent-stamp_same, sent-stamp_other, sent-skip, sent-response, pending-stamp_same, completions-stamp, skips-stamp, skips-response, skipped-none}
use Rattle.dmc_core_laws.specs.Bounds.{before_stamp, completed_at, stamps_to}
use Rattle.dmc_core_laws.proofs.Clients.{params_of}

abbrev deltas : List Params → ℕ
deltas ps = sum_by (λ p. p.delta) ps

-- ---- up to a stamp all completions were sent, if none were skipped

module _ (s : ServerId) where
  -- right before a stamp to s
  at_stamp : (before after : List TrackerEvent) (q : ServerId) (params : Params) → (q.0 == s.0) ≡ true → IsTracked All (before ++ Stamp q params ∷ after)
      → skips s before ≡ 0 → (completions before).delta ≡ (sent s before).delta + params.delta
  at_stamp before after q params here tracked unskipped =
      let joined : (before ++ Stamp q params ∷ []) ++ after ≡ before ++ Stamp q params ∷ after = append_assoc before (Stamp q params ∷ []) after in
      let to_here = IsTracked-front All (before ++ Stamp q params ∷ []) after (rw joined tracked) in
      let all = sums-all s (before ++ Stamp q params ∷ []) to_here in
      let none = pending-stamp_same All s before q params here in
      let more = sent-stamp_same s before q params here in
      let same = completions-stamp before q params in
      let to_stamp = before ++ Stamp q params ∷ [] in
      let kept = skipped-none All s [] to_stamp (skips-stamp s before q params ∙ unskipped) in
      let whole = sym all ∙ ap (λ x. plus (plus x (skipped All s to_stamp)) (pending All s to_stamp)) more
      ∙ ap (λ x. plus (plus (plus (sent s before) (counts_of params)) x) (pending All s to_stamp)) kept
      ∙ ap (plus (plus (plus (sent s before) (counts_of params)) no_counts)) none in
      let delta = ap (λ (x : Counts). x.delta) (sym same ∙ whole) in
      omega (arith, delta)

  abbrev Upto : List TrackerEvent → List TrackerEvent → ℕ → Type 0
  Upto before rest j = (completions (before ++ before_stamp s j rest)).delta ≡ (sent s before).delta + deltas (take (suc j) (stamps_to s rest))

  -- after an entry that is no stamp to s
  past : (before es : List TrackerEvent) (e : TrackerEvent) (i : ℕ) → (sent s (before ++ e ∷ [])).delta ≡ (sent s before).delta → Upto (before ++ e ∷ []) es i
      → (completions (before ++ e ∷ before_stamp s i es)).delta ≡ (sent s before).delta + deltas (take (suc i) (stamps_to s es))
  past before es e i same rest =
      ap (λ xs. (completions xs).delta) (sym (append_assoc before (e ∷ []) (before_stamp s i es))) ∙ rest ∙ ap (λ n. n + deltas (take (suc i) (stamps_to s es))) same

  at_response : (before es : List TrackerEvent) (q : ServerId) (phase : PhaseType) (cost i : ℕ) → Upto (before ++ Response q phase cost ∷ []) es i → Upto before (Response q phase cost ∷ es) i
  at_response before es q phase cost zero rest = past before es (Response q phase cost) zero (ap (λ (x : Counts). x.delta) (sent-response s before q phase cost)) rest
  at_response before es q phase cost (suc i) rest = past before es (Response q phase cost) (suc i) (ap (λ (x : Counts). x.delta) (sent-response s before q phase cost)) rest

  at_skip : (before es : List TrackerEvent) (q : ServerId) (i : ℕ) → Upto (before ++ Skip q ∷ []) es i → Upto before (Skip q ∷ es) i
  at_skip before es q zero rest = past before es (Skip q) zero (ap (λ (x : Counts). x.delta) (sent-skip s before q)) rest
  at_skip before es q (suc i) rest = past before es (Skip q) (suc i) (ap (λ (x : Counts). x.delta) (sent-skip s before q)) rest

  at_other : (before es : List TrackerEvent) (q : ServerId) (params : Params) → (q.0 == s.0) ≡ false → (i : ℕ) → Upto (before ++ Stamp q params ∷ []) es i → Upto before (Stamp q params ∷ es) i
  at_other before es q params e zero rest = rw e (past before es (Stamp q params) zero (ap (λ (x : Counts). x.delta) (sent-stamp_other s before q params e)) rest)
  at_other before es q params e (suc i) rest = rw e (past before es (Stamp q params) (suc i) (ap (λ (x : Counts). x.delta) (sent-stamp_other s before q params e)) rest)

  at_first : (before es : List TrackerEvent) (q : ServerId) (params : Params) → (q.0 == s.0) ≡ true → IsTracked All (before ++ Stamp q params ∷ es) → skips s before ≡ 0 → Upto before (Stamp q params ∷ es) zero
  at_first before es q params e tracked unskipped =
      let one = sum_by-cons (λ (p : Params). p.delta) params [] in
      let none : deltas [] ≡ 0 = refl in
      let now = at_stamp before es q params e tracked unskipped in
      let here : (sent s before).delta + params.delta ≡ (sent s before).delta + deltas (params ∷ []) = omega (arith, one, none) in
      rw e (ap (λ xs. (completions xs).delta) (append-nil before) ∙ now ∙ here)

  at_later : (before es : List TrackerEvent) (q : ServerId) (params : Params) → (q.0 == s.0) ≡ true → (i : ℕ) → Upto (before ++ Stamp q params ∷ []) es i → Upto before (Stamp q params ∷ es) (suc i)
  at_later before es q params e i rest =
      let sum = sum_by-cons (λ (p : Params). p.delta) params (take (suc i) (stamps_to s es)) in
      let more = ap (λ (x : Counts). x.delta) (sent-stamp_same s before q params e) in
      let joined = ap (λ xs. (completions xs).delta) (sym (append_assoc before (Stamp q params ∷ []) (before_stamp s i es))) in
      let all : (sent s (before ++ Stamp q params ∷ [])).delta + deltas (take (suc i) (stamps_to s es)) ≡ (sent s before).delta + deltas (params ∷ take (suc i) (stamps_to s es)) = omega (arith, sum, more) in
      rw e (joined ∙ rest ∙ all)

  -- from any index of the list on
  completed_from : (rest before : List TrackerEvent) (j : ℕ) → IsTracked All (before ++ rest) → skips s before ≡ 0 → skips s rest ≡ 0
      → j < length (stamps_to s rest) → Upto before rest j
  completed_from [] before j tracked none unskipped within = absurd (omega (arith, within))
  completed_from (Skip q ∷ es) before j tracked none unskipped within =
      let joined : (before ++ Skip q ∷ []) ++ es ≡ before ++ Skip q ∷ es = append_assoc before (Skip q ∷ []) es in
      let parts = sum_by-cons (λ x. cond (is_skip_of s x) 1 0) (Skip q) es in
      let more = sum_by_push (λ x. cond (is_skip_of s x) 1 0) before (Skip q) in
      at_skip before es q j (completed_from es (before ++ Skip q ∷ []) j (rw joined tracked) (omega (arith, none, unskipped, parts, more)) (omega (arith, unskipped, parts)) within)
  completed_from (Response q phase cost ∷ es) before j tracked none unskipped within =
      let joined : (before ++ Response q phase cost ∷ []) ++ es ≡ before ++ Response q phase cost ∷ es = append_assoc before (Response q phase cost ∷ []) es in
      let rest = sum_by-cons (λ x. cond (is_skip_of s x) 1 0) (Response q phase cost) es in
      at_response before es q phase cost j (completed_from es (before ++ Response q phase cost ∷ []) j (rw joined tracked) (skips-response s before q phase cost ∙ none) (omega (arith, unskipped, rest)) within)
  completed_from (Stamp q params ∷ es) before j tracked none unskipped within =
      let joined : (before ++ Stamp q params ∷ []) ++ es ≡ before ++ Stamp q params ∷ es = append_assoc before (Stamp q params ∷ []) es in
      let rest = sum_by-cons (λ x. cond (is_skip_of s x) 1 0) (Stamp q params) es in
      by (q.0 == s.0) refl j within (λ i w. completed_from es (before ++ Stamp q params ∷ []) i (rw joined tracked) (skips-stamp s before q params ∙ none) (omega (arith, unskipped, rest)) w)
    where
      by : (b : Bool) → (q.0 == s.0) ≡ b → (i : ℕ) → i < length ((if b then params ∷ [] else []) ++ stamps_to s es)
          → ((k : ℕ) → k < length (stamps_to s es) → Upto (before ++ Stamp q params ∷ []) es k) → Upto before (Stamp q params ∷ es) i
      by true e zero w more = at_first before es q params e tracked none
      by true e (suc i) w more = at_later before es q params e i (more i (omega (arith, w)))
      by false e i w more = at_other before es q params e i (more i w)

  pub completed_is : (list : List TrackerEvent) (j : ℕ) → IsTracked All list → skips s list ≡ 0 → j < length (stamps_to s list) → completed_at s (suc j) list ≡ deltas (take (suc j) (stamps_to s list))
  completed_is list j tracked unskipped within =
      let same : j ≡ suc j - 1 = omega arith in
      subst (λ n. (completions (before_stamp s n list)).delta ≡ deltas (take (suc j) (stamps_to s list))) same
      (completed_from list [] j tracked refl unskipped within ∙ none_before (deltas (take (suc j) (stamps_to s list))))
    where
      none_before : (n : ℕ) → 0 + n ≡ n
      none_before n = omega arith

-- ---- sums over a part of a list

sum_of_params : (qs : List Arrival) (j : ℕ) → deltas (take j (params_of qs)) ≡ sum_by (λ a. a.params.delta) (take j qs)
sum_of_params qs zero = refl
sum_of_params [] (suc j) = refl
sum_of_params (q ∷ qs) (suc j) =
    let a = sum_by-cons (λ (p : Params). p.delta) q.params (take j (params_of qs)) in
    let b = sum_by-cons (λ (x : Arrival). x.params.delta) q (take j qs) in
    let rest = sum_of_params qs j in
    omega (arith, a, b, rest)

sum_between : {X : Type 0} (f : X → ℕ) (xs : List X) (i k : ℕ) → sum_by f (take k xs) - sum_by f (take i xs) ≡ sum_by f (drop i (take k xs))
sum_between f xs zero k = let none : sum_by f [] ≡ 0 = refl in omega (arith, none)
sum_between f [] (suc i) zero = refl
sum_between f [] (suc i) (suc k) = refl
sum_between f (x ∷ xs) (suc i) zero = let none : sum_by f [] ≡ 0 = refl in omega (arith, none)
sum_between f (x ∷ xs) (suc i) (suc k) =
    let a = sum_by-cons f x (take k xs) in
    let b = sum_by-cons f x (take i xs) in
    let rest = sum_between f xs i k in
    omega (arith, a, b, rest)

-- ---- the completions between the stamps of two arrivals

module _ {T : Type 0} (id : ClientId) where
  one_arrival : (command : Command) (reply : Reply T) → Arrives id command reply → length (arrival_of id command reply) ≡ 1
  one_arrival (Add client token params at) (Tagged tags) own = rw own refl
  one_arrival (Add client token params at) Registered own = absurd own
  one_arrival (Add client token params at) Updated own = absurd own
  one_arrival (Add client token params at) (Granted granted its phase beyond cost) own = absurd own
  one_arrival (Add client token params at) (Later due) own = absurd own
  one_arrival (Add client token params at) Nothing own = absurd own
  one_arrival (Add client token params at) (Removed count) own = absurd own
  one_arrival (Add client token params at) (Cleaned idled erased) own = absurd own
  one_arrival (Add client token params at) (Refused refusal) own = absurd own
  one_arrival (Register client info at) reply own = absurd own
  one_arrival (Update client info at) reply own = absurd own
  one_arrival (Pull at) reply own = absurd own
  one_arrival (Remove client) reply own = absurd own
  one_arrival (Cancel client token counting) reply own = absurd own
  one_arrival (Clean at) reply own = absurd own

  -- an accepted add is an arrival, and those up to it are among all
  some_arrival : (history : List (Event T)) (n : ℕ) (add : Event T) → slice_get history n ≡ Some add → Arrives id add.command add.reply
      → (0 < length (arrivals id (take (suc n) history))) × (length (arrivals id (take (suc n) history)) ≤ length (arrivals id history))
  some_arrival history n add is arrives =
      let up_to = take (suc n) history in
      let last = ap (arrivals id) (take_one n history add is) ∙ arrivals-append id (take n history) (add ∷ []) in
      let all = ap (arrivals id) (sym (take-append-drop (suc n) history)) ∙ arrivals-append id up_to (drop (suc n) history) in
      let one = one_arrival add.command add.reply arrives in
      let here = append-nil (arrival_of id add.command add.reply) in (
        omega (arith, ap length last, length-append (arrivals id (take n history)) (arrivals id (add ∷ [])), one, ap length here),
        omega (arith, ap length all, length-append (arrivals id up_to) (arrivals id (drop (suc n) history))),
      )

-- the arrivals follow the stamps, and more are in flight
pub completed_between : {T : Type 0} (Is : ℕ → List (Event T) → Type 0) (id : ClientId) (s : ServerId) (phase : PhaseType) (history : List (Event T)) (span : SpanBy Is id phase history) (list : List TrackerEvent) (flight : List Params)
    → IsTracked All list → skips s list ≡ 0 → params_of (arrivals id history) ++ flight ≡ stamps_to s list → 0 < span.k → IsOf span.token span.cost span.k (arrivals id history)
    → completed_at s span.k list - completed_at s span.i list ≡ sum_of (λ p. p.delta) span.i span.k (arrivals id history)
completed_between Is id s phase history span list flight tracked unskipped follows some_k granted =
    let came = arrivals id history in
    let params = params_of came in
    let left = span.k - 1 in
    let before = length (arrivals id (take (suc span.arrived) history)) - 1 in
    let long : length params ≡ length came = length-map came (λ (a : Arrival). a.params) in
    let sent : length (stamps_to s list) ≡ length params + length flight = ap length (sym follows) ∙ length-append params flight in
    let some = some_arrival id history span.arrived span.add span.add_is span.arrives in
    let i_is : span.i ≡ suc before = omega (arith, span.i_is, some.0) in
    let k_is : span.k ≡ suc left = omega (arith, some_k) in
    let here : left < length came = slice_get_within came left granted.arrival granted.here in
    let up_to : (j : ℕ) → j < length came → completed_at s (suc j) list ≡ sum_by (λ (a : Arrival). a.params.delta) (take (suc j) came) = (λ j within.
    completed_is s list j tracked unskipped (omega (arith, within, long, sent))
    ∙ ap (λ ps. deltas (take (suc j) ps)) (sym follows)
    ∙ ap deltas (take-append-le (suc j) params flight (omega (arith, within, long)))
    ∙ sum_of_params came (suc j)) in
    ap (λ n. completed_at s n list - completed_at s span.i list) k_is
    ∙ ap (λ n. completed_at s (suc left) list - completed_at s n list) i_is
    ∙ ap (λ n. n - completed_at s (suc before) list) (up_to left here)
    ∙ ap (λ n. sum_by (λ (a : Arrival). a.params.delta) (take (suc left) came) - n) (up_to before (omega (arith, i_is, span.i_is, some.1)))
    ∙ sum_between (λ (a : Arrival). a.params.delta) came (suc before) (suc left)
    ∙ ap (λ n. sum_of (λ p. p.delta) n (suc left) came) (sym i_is)
    ∙ ap (λ n. sum_of (λ p. p.delta) span.i n came) (sym k_is)
