-- What accounts and a book keep, one event later.
use Rattle.std.proofs.Common.{◌≡◌, ℕ, ◌+◌, ◌*◌, ◌≤◌, ◌<◌, ◌^◌, Bool, true, false, List, [], ◌∷◌, ◌++◌, map, drop, length, length-append, ap, ◌∙◌, refl, sym, subst, zero, suc, Option, Some, None, slice_index_or, arith, inl, inr, ◌⊎◌}
use Rattle.std.specs.Prelude.{◌==◌, ◌||◌, nat_lt, if◌then◌else◌, is_some, option_map}
use Rattle.std.specs.List.{AllByRecursion, list_any}
use Rattle.std.proofs.lemmas.List.{drop-append-le, get_or-map, length-map}
use Rattle.dmc_types.specs.declared.ids.ClientId.{ClientId}
use Rattle.dmc_types.specs.declared.config.PhaseType.{PhaseType}
use Rattle.dmc_types.specs.declared.config.PhaseType.TheVariants.{Reservation, Priority}
use Rattle.dmc_types.specs.declared.command.Command.{Command}
use Rattle.dmc_types.specs.Values.{Setting}
use Rattle.dmc_tag.specs.Tag.{Tagging}
use Rattle.dmc_tag.specs.State.{State}
use Rattle.dmc_tag.specs.Step.{step}
use Rattle.dmc_tag.specs.Steps.{Steps}
use Rattle.dmc_tag.specs.Replay.{after}
use Rattle.dmc_tag.specs.declared.event.Event.{Event}
use Rattle.dmc_tag.specs.declared.reply.Reply.{Reply}
use Rattle.dmc_tag.specs.declared.reply.Reply.TheVariants.{Registered, Updated, Tagged, Granted, Later, Nothing, Removed, Cleaned, Refused}
use Rattle.dmc_tag.proofs.ForCallers.{after_one_more, replays_one_more}
use Rattle.dmc_shared.specs.Segmented.{Segmented}
use Rattle.dmc_ledger.specs.Accounts.{Account, total_of}
use Rattle.dmc_ledger.specs.Bundles.{ClientSide, PhaseAccounts}
use Rattle.dmc_ledger.specs.Moves.{after_issue}
use Rattle.dmc_book.specs.declared.counts.Grant.{Grant}
use Rattle.dmc_book.specs.Counts.{CountedBook, accepted, cost_granted, costs_added, costs_for, count, counted_books, is_grant_of, max_added, numbers_of, no_numbers, worker_adds, stamps_added, delta_added, rho_added, grant_cost, grants_added, units_for, grant_in, is_miss, one_if}
use Rattle.dmc_book.specs.internal.Counts.{IsSmall}
use Rattle.dmc_book.specs.BookState.{AccountsState, PassState, WorkerSide, accounts_of, no_desk, no_worker, state_of}
use Rattle.dmc_book.specs.Consistent.{AreConsistent, ArePhaseCounted, AreTokensFit, DoesCostFit, IsCounted, IsReplayed, IsWorker, IsDesk, AreWorkersApart, AreClientsApart, AreDesks, AreWithin, HasDesk, HasLeft, IsOpenBook, IsSeated, reaching}
use Rattle.dmc_book.specs.internal.Consistent.{AreGrantsWithin, IsPhaseWithin, max_before}
use Rattle.dmc_book.specs.PerCount.{WorkerCounts, EachCount}
use Rattle.dmc_book.specs.Settling.{HasGathered, IsGathered}
use Rattle.dmc_book.proofs.PerCountLemmas.{each_both, each_same, each_with}
use Rattle.dmc_book.proofs.RenewingLemmas.{all_there, worker_there}
use Rattle.dmc_book.proofs.WorkerLemmas.{unmoved_at}
use Rattle.dmc_book.specs.Moves.{IsEnrolled, IsOpen, book_after, phase_after, worker_after, desk_after}
use Rattle.dmc_book.specs.internal.Moves.{accounts_after}
use Rattle.dmc_lemmas.proofs.Lists.{all_as, all_both, all_mapped, all_next, position_map}

-- ---- the counts

small_adds : (n : WorkerCounts ℕ) → IsSmall n → (b : Bool) → IsSmall (if b then n else no_numbers)
small_adds n h true = h
small_adds n h false = each_same (λ k. k ≤ max_added) 0 (omega arith)

pub one_at_most : (b : Bool) → one_if b ≤ 1
one_at_most true = omega arith
one_at_most false = omega arith

one_of : (n : WorkerCounts ℕ) → n.calls ≤ 1 → n.misses ≤ 1 → n.grants ≤ 1 → (b : Bool) → ((if b then n else no_numbers).calls ≤ 1) × ((if b then n else no_numbers).misses ≤ 1) × ((if b then n else no_numbers).grants ≤ 1)
one_of n c m g true = (c, m, g)
one_of n c m g false = (omega arith, omega arith, omega arith)

unit_at_most : (client : ℕ) (phase : PhaseType) (o : Option Grant) → units_for client phase o ≤ 1
unit_at_most client phase None = omega arith
unit_at_most client phase (Some grant) = one_at_most _

-- no count of costs adds more than the grant costs

if_at_most : (n : ℕ) (b : Bool) → (if b then n else 0) ≤ n
if_at_most n true = omega arith
if_at_most n false = omega arith

cost_at_most : {T : Type 0} (client : ℕ) (phase : PhaseType) (reply : Reply T) → costs_for client phase (grant_in reply) ≤ cost_granted reply
cost_at_most client phase Registered = omega arith
cost_at_most client phase Updated = omega arith
cost_at_most client phase (Tagged tags) = omega arith
cost_at_most client phase (Granted to token p beyond cost) = if_at_most cost (is_grant_of client phase (record { client = to; phase = p; cost = cost }))
cost_at_most client phase (Later m) = omega arith
cost_at_most client phase Nothing = omega arith
cost_at_most client phase (Removed count) = omega arith
cost_at_most client phase (Cleaned idled erased) = omega arith
cost_at_most client phase (Refused refusal) = omega arith

costs_one : (n : WorkerCounts ℕ) (b : Bool) → (if b then n else no_numbers).cost ≤ n.cost
costs_one n true = omega arith
costs_one n false = omega arith

-- no book of a worker counts from later on than its sums of tokens were renewed
all_within : (T : Type 0) (n : ℕ) (w : WorkerSide) → w.renewed ≤ n → EachCount (λ (c : CountedBook T). c.from ≤ n) (counted_books w)
all_within T n w within = (omega arith, omega arith, within, omega arith, within, omega arith)

module _ {T : Type 0} where
  count_more : (adds : Event T → ℕ) (es : List (Event T)) (e : Event T) → count adds (es ++ e ∷ []) ≡ count adds es + adds e
  count_more adds [] e = omega arith
  count_more adds (x ∷ es) e = let rest = count_more adds es e in omega arith

  counted_more : (adds : Event T → ℕ) (es : List (Event T)) (e : Event T) (tills : ℕ) (a : Account) → IsCounted adds es tills a → IsCounted adds (es ++ e ∷ []) tills (after_issue (adds e) a)
  counted_more adds es e tills a h =
      let more = count_more adds es e in
      let was = h.total in
      record { total = omega arith; gathered = h.gathered; open_tills = h.open_tills }

  amount_more : (adds : Event T → ℕ) (es : List (Event T)) (e : Event T) (n : ℕ) → n ≡ count adds es → n + adds e ≡ count adds (es ++ e ∷ [])
  amount_more adds es e n h = let more = count_more adds es e in omega arith

  -- what is counted since a renewal, one event later
  since_more : (adds : Event T → ℕ) (es : List (Event T)) (e : Event T) (n tills : ℕ) (a : Account) → n ≤ length es → IsCounted adds (drop n es) tills a → IsCounted adds (drop n (es ++ e ∷ [])) tills (after_issue (adds e) a)
  since_more adds es e n tills a within h =
      subst (λ (xs : List (Event T)). IsCounted adds xs tills (after_issue (adds e) a)) (sym (drop-append-le n es (e ∷ []) within)) (counted_more adds (drop n es) e tills a h)

  worker_more : (es : List (Event T)) (e : Event T) → (w : WorkerSide) → IsWorker es w → IsWorker (es ++ e ∷ []) (worker_after e w)
  worker_more es e w h = record {
    renewed = let long : length (es ++ e ∷ []) ≡ length es + 1 = length-append es (e ∷ []) in omega (arith, h.renewed, long);
    books = each_with (λ c. c.from ≤ length es) (IsOpenBook es) (λ c. IsCounted c.adds (drop c.from (es ++ e ∷ [])) 1 (after_issue (c.adds e) c.book))
        (λ c within is. since_more c.adds es e c.from 1 c.book within is) (counted_books w) (all_within T (length es) w h.renewed) h.books;
  }

  gathered_since : (adds : Event T → ℕ) (es : List (Event T)) (e : Event T) (n : ℕ) (book : Account) → n ≤ length es → adds e ≡ 0 → IsGathered adds (drop n es) book → IsGathered adds (drop n (es ++ e ∷ [])) book
  gathered_since adds es e n book within none h =
      let more = ap (count adds) (drop-append-le n es (e ∷ []) within) ∙ count_more adds (drop n es) e in
      record { gathered = omega (arith, more, none, h.gathered); held = h.held; open_tills = h.open_tills }

  -- an event of another worker leaves one that was dismissed
  left_more : (es : List (Event T)) (e : Event T) (w : WorkerSide) → (e.worker.0 == w.worker) ≡ false → HasLeft es w → HasLeft (es ++ e ∷ []) w
  left_more es e w other h =
      let none : worker_adds w.worker e ≡ no_numbers = ap (λ b. if b then numbers_of e.command e.reply else no_numbers) other in
      let adds_none : EachCount (λ (c : CountedBook T). c.adds e ≡ 0) (counted_books w) = subst (EachCount (λ k. k ≡ 0)) (sym none) (each_same (λ k. k ≡ 0) 0 refl) in
      let long : length (es ++ e ∷ []) ≡ length es + 1 = length-append es (e ∷ []) in
      record {
        settled = each_with (λ c. (c.from ≤ length es) × (c.adds e ≡ 0)) (HasGathered es) (HasGathered (es ++ e ∷ []))
            (λ c known was. gathered_since c.adds es e c.from c.book known.0 known.1 was) (counted_books w)
            (each_both (λ c. c.from ≤ length es) (λ c. c.adds e ≡ 0) (counted_books w) (all_within T (length es) w h.renewed) adds_none) h.settled;
        renewed = omega (arith, h.renewed, long);
        reach = h.reach;
      }

  either_more : (es : List (Event T)) (e : Event T) (w : WorkerSide) → (w.books.calls.open_tills ≡ 0 → (e.worker.0 == w.worker) ≡ false) → IsWorker es w ⊎ HasLeft es w
      → IsWorker (es ++ e ∷ []) (worker_after e w) ⊎ HasLeft (es ++ e ∷ []) (worker_after e w)
  either_more es e w others (inl h) = inl (worker_more es e w h)
  either_more es e w others (inr h) =
      let other = others h.settled.0.open_tills in
      inr (subst (HasLeft (es ++ e ∷ [])) (sym (unmoved_at e w _ refl other)) (left_more es e w other h))

  phase_more : (client : ℕ) (phase : PhaseType) (es : List (Event T)) (e : Event T) (tills : ℕ) (books : PhaseAccounts) → ArePhaseCounted client phase es tills books → ArePhaseCounted client phase (es ++ e ∷ []) tills (phase_after client phase e books)
  phase_more client phase es e tills books h = record {
    grants = counted_more (grants_added client phase) es e tills books.grants h.grants;
    cost = counted_more (costs_added client phase) es e tills books.cost h.cost;
  }

  desk_more : (es : List (Event T)) (e : Event T) (server passes : ℕ) (d : ClientSide) → IsDesk es server passes d → IsDesk (es ++ e ∷ []) server passes (desk_after e d)
  desk_more es e server passes d h = record {
    its_server = h.its_server;
    stamps = amount_more (stamps_added d.client) es e _ h.stamps;
    delta = amount_more (delta_added d.client) es e _ h.delta;
    rho = amount_more (rho_added d.client) es e _ h.rho;
    reservation = phase_more d.client Reservation es e _ d.books.reservation h.reservation;
    priority = phase_more d.client Priority es e _ d.books.priority h.priority;
  }

  -- an event leaves what a pass reaches
  reaching_same : (e : Event T) (k : ℕ) (ws : List WorkerSide) → reaching k (map (worker_after e) ws) ≡ reaching k ws
  reaching_same e k [] = refl
  reaching_same e k (w ∷ ws) = ap (λ n. one_if (nat_lt k w.reach) + n) (reaching_same e k ws)

  desks_more : (es : List (Event T)) (e : Event T) (server : ℕ) (ws : List WorkerSide) (ds : List ClientSide) → AreDesks es server ws ds → AreDesks (es ++ e ∷ []) server (map (worker_after e) ws) (map (desk_after e) ds)
  desks_more es e server ws ds h k l =
      let within : k < length ds = omega (arith, l, length-map ds (desk_after e)) in
      rw (reaching_same e k ws, get_or-map (desk_after e) ds k no_desk no_desk within) (desk_more es e server (reaching k ws) (slice_index_or ds k no_desk) (h k within))

  -- ---- no total can pass a book's 2^63

  -- what adds at most 1 counts at most the events
  count_few : (adds : Event T → ℕ) → ((e : Event T) → adds e ≤ 1) → (es : List (Event T)) → count adds es ≤ length es
  count_few adds one [] = omega arith
  count_few adds one (e ∷ es) = let here = one e in let rest = count_few adds one es in omega arith

  few_fit : (adds : Event T → ℕ) → ((e : Event T) → adds e ≤ 1) → (es : List (Event T)) (tills : ℕ) (a : Account) → length es ≤ 2 ^ 62 + 2 ^ 30 → IsCounted adds es tills a → total_of a ≤ max_before
  few_fit adds one es tills a few h = let most = count_few adds one es in omega (arith, few, most, h.total)

  -- what adds at most what a grant costs counts at most what all grants cost
  count_low : (adds : Event T → ℕ) → ((e : Event T) → adds e ≤ grant_cost e) → (es : List (Event T)) → count adds es ≤ count grant_cost es
  count_low adds low [] = omega arith
  count_low adds low (e ∷ es) = let here = low e in let rest = count_low adds low es in omega (arith, here, rest)

  costs_fit : (adds : Event T → ℕ) → ((e : Event T) → adds e ≤ grant_cost e) → (es : List (Event T)) (tills : ℕ) (a : Account) → count grant_cost es ≤ max_before → IsCounted adds es tills a → total_of a ≤ max_before
  costs_fit adds low es tills a few h = let most = count_low adds low es in omega (arith, few, most, h.total)

  one_each : (worker : ℕ) (e : Event T) → ((worker_adds worker e).calls ≤ 1) × ((worker_adds worker e).misses ≤ 1) × ((worker_adds worker e).grants ≤ 1)
  one_each worker e = one_of (numbers_of e.command e.reply) (omega arith) (one_at_most (is_miss e.reply)) (one_at_most (is_some (grant_in e.reply))) (e.worker.0 == worker)

-- what holds of the desk at each place holds of all
all_of : (P : ClientSide → Type 0) (ds : List ClientSide) → ((k : ℕ) → k < length ds → P (slice_index_or ds k no_desk)) → AllByRecursion P ds
all_of P [] h = tt
all_of P (d ∷ ds) h = (h zero (omega arith), all_of P ds (λ k l. h (suc k) (omega (arith, l))))

module _ {T : Type 0} (a : AccountsState T) (h : AreConsistent a) (fewer : length a.history < a.most) where
  short : length a.history ≤ 2 ^ 62 + 2 ^ 30
  short = omega (arith, fewer, h.few, h.limit)

  tokens_below : (total : ℕ) → total + a.first * 4294967295 ≤ 2 ^ 62 + length a.history * 4294967295 → total ≤ max_before
  tokens_below total fit = omega (arith, fit, fewer, h.limit)

  -- what all grants cost together, with one event more
  pub cost_below : count grant_cost a.history ≤ max_before
  cost_below = tokens_below (count grant_cost a.history) h.cost_fits

  worker_fits : (w : WorkerSide) → IsWorker a.history w → AreTokensFit a.first (length a.history) w.books → AreWithin max_before w.books
  worker_fits w is fit = (
    few_fit _ (λ e. (one_each w.worker e).0) a.history 1 w.books.calls short is.books.0,
    few_fit _ (λ e. (one_each w.worker e).1) a.history 1 w.books.misses short is.books.1,
    tokens_below (total_of w.books.tokens) fit.tokens,
    few_fit _ (λ e. (one_each w.worker e).2) a.history 1 w.books.grants short is.books.3,
    tokens_below (total_of w.books.granted) fit.granted,
    costs_fit _ (λ e. costs_one (numbers_of e.command e.reply) (e.worker.0 == w.worker)) a.history 1 w.books.cost cost_below is.books.5,
  )

  -- the books of a worker that is enrolled can count one event more
  pub workers_fit : (p : PassState) → IsEnrolled a.workers p → AreWithin max_before (slice_index_or a.workers p.place no_worker).books
  workers_fit p its = worker_fits (slice_index_or a.workers p.place no_worker) (worker_there a p.place its.within its.still h)
      (all_there (λ w. IsOpen w → AreTokensFit a.first (length a.history) w.books) a.workers p.place its.within h.tokens_fit its.still)

  phase_fits : (client : ℕ) (phase : PhaseType) (tills : ℕ) (books : PhaseAccounts) → ArePhaseCounted client phase a.history tills books → IsPhaseWithin max_before books
  phase_fits client phase tills books is = record {
    grants = few_fit _ (λ e. unit_at_most client phase (grant_in e.reply)) a.history tills books.grants short is.grants;
    cost = costs_fit _ (λ e. cost_at_most client phase e.reply) a.history tills books.cost cost_below is.cost;
  }

  desk_fits : (passes : ℕ) (d : ClientSide) → IsDesk a.history a.server passes d → AreGrantsWithin max_before d.books
  desk_fits passes d is = record {
    reservation = phase_fits d.client Reservation _ d.books.reservation is.reservation;
    priority = phase_fits d.client Priority _ d.books.priority is.priority;
  }

  pub desks_fit : AllByRecursion (λ d. AreGrantsWithin max_before d.books) a.desks
  desks_fit = all_of (λ d. AreGrantsWithin max_before d.books) a.desks (λ k l. desk_fits (reaching k a.workers) (slice_index_or a.desks k no_desk) (h.desks k l))

module _ {T : Type 0} where
  -- ---- who is who

  workers_apart : (e : Event T) (ws : List WorkerSide) → AreWorkersApart ws → AreWorkersApart (map (worker_after e) ws)
  workers_apart e [] h = tt
  workers_apart e (w ∷ ws) h = (all_mapped _ _ (worker_after e) (λ o a. a) ws h.0, workers_apart e ws h.1)

  clients_apart : (e : Event T) (ds : List ClientSide) → AreClientsApart ds → AreClientsApart (map (desk_after e) ds)
  clients_apart e [] h = tt
  clients_apart e (d ∷ ds) h = (all_mapped _ _ (desk_after e) (λ o a. a) ds h.0, clients_apart e ds h.1)

  -- ---- who has a desk keeps it, and who is enrolled stays so

  desk_stays : (e : Event T) (ds : List ClientSide) (o : Option ClientId) → HasDesk ds o → HasDesk (map (desk_after e) ds) o
  desk_stays e ds None h = tt
  desk_stays e ds (Some client) h = ap (λ place. is_some place) (position_map (desk_after e) (λ d. client.0 == d.client) ds) ∙ h

  seat_stays : (e : Event T) (n : ℕ) (ws : List WorkerSide) → list_any (λ w. n == w.worker) (map (worker_after e) ws) ≡ list_any (λ w. n == w.worker) ws
  seat_stays e n [] = refl
  seat_stays e n (w ∷ ws) = ap (λ b. (n == w.worker) || b) (seat_stays e n ws)

  -- what holds of each event, and stays, holds of one more
  each_more : (P Q : Event T → Type 0) → ((x : Event T) → P x → Q x) → (es : List (Event T)) (e : Event T) → AllByRecursion P es → P e → AllByRecursion Q (es ++ e ∷ [])
  each_more P Q stays es e h last = all_next Q es e (all_as P Q stays es h) (stays e last)

-- ---- one event more

module _ {T : Type 0} (e : Event T) where
  tokens_more : (first events : ℕ) (w : WorkerSide) → IsSmall (numbers_of e.command e.reply) → AreTokensFit first events w.books → AreTokensFit first (events + 1) ((worker_after e w).books)
  tokens_more first events w small h =
      let adds = small_adds (numbers_of e.command e.reply) small (e.worker.0 == w.worker) in
      record { tokens = omega (arith, adds.2, h.tokens); granted = omega (arith, adds.4, h.granted) }

  -- what all grants cost together is counted with the event
  pub cost_more : (es : List (Event T)) → count grant_cost (es ++ e ∷ []) ≡ count grant_cost es + grant_cost e
  cost_more es = count_more grant_cost es e

  cost_fits_more : (first : ℕ) (es : List (Event T)) → IsSmall (numbers_of e.command e.reply) → DoesCostFit first es → DoesCostFit first (es ++ e ∷ [])
  cost_fits_more first es small h = let more = cost_more es in let long : length (es ++ e ∷ []) ≡ length es + 1 = length-append es (e ∷ []) in omega (arith, more, long, small.5, h)

  -- what was written to the parts of accounts is consistent
  pub consistent_recorded : (a : AccountsState T) (h : Segmented (Event T)) (workers : List WorkerSide) (desks : List ClientSide)
      → h.events ≡ a.history ++ e ∷ [] → h.first ≡ a.first → h.most ≡ a.most → workers ≡ map (worker_after e) a.workers → desks ≡ map (desk_after e) a.desks
      → IsSmall (numbers_of e.command e.reply) → HasDesk a.desks (option_map (λ g. g.client) (grant_in e.reply)) → HasDesk a.desks (option_map (λ s. s.0) (accepted e)) → IsSeated a.workers e.worker.0
      → AllByRecursion (λ w. w.books.calls.open_tills ≡ 0 → (e.worker.0 == w.worker) ≡ false) a.workers → AreConsistent a → AreConsistent (accounts_of a.server h workers desks)
  consistent_recorded a h workers desks events first most ws ds small granted queued seated others was =
      let long : length (a.history ++ e ∷ []) ≡ length a.history + 1 = length-append a.history (e ∷ []) in
      let as_many : length (map (worker_after e) a.workers) ≡ length a.workers = length-map a.workers (worker_after e) in
      let same : AreConsistent (accounts_after e a) = record {
        workers = all_mapped _ _ (worker_after e) (λ w both. either_more a.history e w both.0 both.1) a.workers (all_both _ _ a.workers others was.workers);
        desks = desks_more a.history e a.server a.workers a.desks was.desks;
        reach = all_mapped _ _ (worker_after e) (λ w l. omega (arith, l, length-map a.desks (desk_after e))) a.workers was.reach;
        workers_apart = workers_apart e a.workers was.workers_apart;
        clients_apart = clients_apart e a.desks was.clients_apart;
        granted = each_more _ _ (λ x. desk_stays e a.desks (option_map (λ g. g.client) (grant_in x.reply))) a.history e was.granted granted;
        queued = each_more _ _ (λ x. desk_stays e a.desks (option_map (λ s. s.0) (accepted x))) a.history e was.queued queued;
        seated = each_more _ _ (λ x is. seat_stays e x.worker.0 a.workers ∙ is) a.history e was.seated seated;
        tokens_fit = subst (λ (n : ℕ). AllByRecursion (λ w. IsOpen w → AreTokensFit a.first n w.books) (map (worker_after e) a.workers)) (sym long) (all_mapped _ _ (worker_after e) (λ w fit still. tokens_more a.first (length a.history) w small (fit still)) a.workers was.tokens_fit);
        cost_fits = cost_fits_more a.first a.history small was.cost_fits;
        within = omega (arith, was.within, long);
        few = was.few;
        limit = was.limit;
        few_workers = omega (arith, was.few_workers, as_many);
      } in
      rw (events, first, most, ws, ds) (record {
        workers = same.workers;
        desks = same.desks;
        reach = same.reach;
        workers_apart = same.workers_apart;
        clients_apart = same.clients_apart;
        granted = same.granted;
        queued = same.queued;
        seated = same.seated;
        tokens_fit = same.tokens_fit;
        cost_fits = same.cost_fits;
        within = same.within;
        few = same.few;
        limit = same.limit;
        few_workers = same.few_workers;
      })

-- ---- the queue

module _ {T : Type 0} (ops : Tagging T) (q p : State T) (config : Setting) (history : List (Event T)) (h : IsReplayed ops q config history) where
  -- a call that was refused memory
  pub replayed_memory : (command : Command) → Steps ops q p command None → IsReplayed ops p config history
  replayed_memory command steps = record { state = steps.2 ∙ h.state; replaying = h.replaying }

  -- the reply is that of the rules
  pub reply_after : (command : Command) (reply : Reply T) → Steps ops q p command (Some reply) → reply ≡ (step ops (after ops config history) command).1
  reply_after command reply steps = ap (λ p. p.1) steps ∙ ap (λ s. (step ops s command).1) h.state

  -- one event more
  pub replayed_more : (e : Event T) → Steps ops q p e.command (Some e.reply) → IsReplayed ops p config (history ++ e ∷ [])
  replayed_more e steps = record {
    state = ap (λ p. p.0) steps ∙ ap (λ s. (step ops s e.command).0) h.state ∙ sym (after_one_more ops config history e);
    replaying = replays_one_more ops config history e h.replaying (reply_after e.command e.reply steps);
  }

-- ---- a book whose accounts made a place, or have an event more

module _ {T : Type 0} (config : Setting) (closed : Bool) (old reserved : AccountsState T) (kept : reserved ≡ record old { room = reserved.room }) where
  pub book_reserved : state_of config reserved closed ≡ state_of config old closed
  book_reserved = ap (λ (a : AccountsState T). state_of config a closed) kept

  module _ (e : Event T) (new : AccountsState T) (recorded : new ≡ accounts_after e reserved) where
    pub history_recorded : new.history ≡ old.history ++ e ∷ []
    history_recorded = ap (λ (a : AccountsState T). a.history) recorded ∙ ap (λ (a : AccountsState T). a.history ++ e ∷ []) kept

    pub book_recorded : state_of config new closed ≡ book_after e (state_of config old closed)
    book_recorded = ap (λ (a : AccountsState T). state_of config a closed) recorded ∙ ap (book_after e) book_reserved
