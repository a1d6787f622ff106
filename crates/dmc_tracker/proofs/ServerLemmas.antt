-- What a tracker keeps for its servers, through a stamp, a skip and a response.
use Rattle.std.proofs.Common.{◌≡◌, ℕ, zero, suc, ◌<◌, List, [], ◌∷◌, ◌+◌, ◌≤◌, length, map, set, get_or, replicate, refl, sym, ap, ◌∙◌, arith}
use Rattle.std.specs.Prelude.{All as Each}
use Rattle.std.proofs.lemmas.List.{get_or-map, map-set, length-replicate}
use Rattle.std.proofs.lemmas.List.Elements.{All-set, All-replicate}
use Rattle.std.proofs.lemmas.List.{length-set}
use Rattle.std.proofs.Math.Seq.{map-set_same}
use Rattle.dmc_types.specs.Values.{Counts, no_counts}
use Rattle.dmc_types.specs.declared.ids.ServerId.{ServerId}
use Rattle.dmc_types.specs.declared.config.Counting.{Counting}
use Rattle.dmc_types.specs.declared.config.Counting.TheVariants.{All, Others}
use Rattle.dmc_types.specs.declared.config.PhaseType.{PhaseType}
use Rattle.dmc_types.specs.declared.config.PhaseType.TheVariants.{Reservation, Priority}
use Rattle.dmc_tracker.specs.declared.server.ServerCounts.{ServerCounts}
use Rattle.dmc_tracker.specs.TrackerList.{plus, completed_in, own_share}
use Rattle.dmc_tracker.specs.Numbers.{Numbers, ServerNumbers, no_numbers, new_numbers, numbers_at, next_counts, after_stamp, after_skip, after_response, grown, servers_grown, AreLimits}
use Rattle.dmc_tracker.specs.Parts.{minus, IsPart}
use Rattle.dmc_tracker.specs.Server.{counted_at, numbers_now, view_of, IsKept, AreKept}
use Rattle.dmc_tracker.proofs.ListLemmas.{same_counts}
use Rattle.dmc_tracker.proofs.RepresentsLemmas.{same_numbers}

minus_self : (a : Counts) → minus a a ≡ no_counts
minus_self a = same_counts _ _ (omega arith) (omega arith)

-- counts that grow together
minus-plus : (a b k : Counts) → IsPart b a → minus (plus a k) b ≡ plus (minus a b) k
minus-plus a b k h = same_counts _ _ (omega (arith, h.delta)) (omega (arith, h.rho))

minus-both : (a b k : Counts) → minus (plus a k) (plus b k) ≡ minus a b
minus-both a b k = same_counts _ _ (omega arith) (omega arith)

-- a stamp that carries params
abbrev stamped : Counting → Counts → Counts → ServerCounts → ServerCounts
stamped counting comps params x = record x { sent = plus x.sent params; mark = counted_at counting comps x }

-- a skip
abbrev passed : Counting → Counts → ServerCounts → ServerCounts
passed counting comps x =
    record x { skipped = plus x.skipped (numbers_now counting comps x).pending; mark = counted_at counting comps x }

-- a response of the server
abbrev answered : PhaseType → ℕ → ServerCounts → ServerCounts
answered phase cost x = record x { own = plus x.own (completed_in phase cost) }

-- what contracts see of a server, after a stamp, after a skip and after a response
now-stamped : (counting : Counting) (comps params : Counts) (x : ServerCounts)
    → numbers_now counting comps (stamped counting comps params x) ≡ record { sent = plus x.sent params; skipped = x.skipped; pending = no_counts }
now-stamped All comps params x = same_numbers _ _ refl refl (minus_self comps)
now-stamped Others comps params x = same_numbers _ _ refl refl (minus_self (minus comps x.own))

now-passed : (counting : Counting) (comps : Counts) (x : ServerCounts)
    → numbers_now counting comps (passed counting comps x)
    ≡ record { sent = x.sent; skipped = plus x.skipped (numbers_now counting comps x).pending; pending = no_counts }
now-passed All comps x = same_numbers _ _ refl refl (minus_self comps)
now-passed Others comps x = same_numbers _ _ refl refl (minus_self (minus comps x.own))

now-grown : (counting : Counting) (most : ℕ) (comps : Counts) (phase : PhaseType) (cost : ℕ) (x : ServerCounts) → IsKept counting most comps x
    → numbers_now counting (plus comps (completed_in phase cost)) x ≡ grown phase cost (numbers_now counting comps x)
now-grown All most comps phase cost x h = same_numbers _ _ refl refl (minus-plus comps x.mark (completed_in phase cost) h.mark)
now-grown Others most comps phase cost x h =
    same_numbers _ _ refl refl (ap (λ c. minus c x.mark) (minus-plus comps x.own (completed_in phase cost) h.own)
    ∙ minus-plus (minus comps x.own) x.mark (completed_in phase cost) h.mark)

map-grown : (counting : Counting) (most : ℕ) (comps : Counts) (phase : PhaseType) (cost : ℕ) (servers : List ServerCounts)
    → Each (IsKept counting most comps) servers
    → map (numbers_now counting (plus comps (completed_in phase cost))) servers ≡ map (grown phase cost) (map (numbers_now counting comps) servers)
map-grown counting most comps phase cost [] h = refl
map-grown counting most comps phase cost (x ∷ servers) h =
    ap (λ y. y ∷ map (numbers_now counting (plus comps (completed_in phase cost))) servers) (now-grown counting most comps phase cost x (h 0 x (omega arith)))
    ∙ ap (λ ys. grown phase cost (numbers_now counting comps x) ∷ ys)
    (map-grown counting most comps phase cost servers (λ k e inside. h (suc k) e (omega arith)))

now-answered : (comps : Counts) (phase : PhaseType) (cost : ℕ) (x : ServerCounts)
    → numbers_now Others (plus comps (completed_in phase cost)) (answered phase cost x) ≡ numbers_now Others comps x
now-answered comps phase cost x = same_numbers _ _ refl refl (ap (λ c. minus c x.mark) (minus-both comps x.own (completed_in phase cost)))

-- the numbers that contracts see of a server
pub seen_at : (counting : Counting) (most : ℕ) (comps : Counts) (servers : List ServerCounts) (s : ServerId) (x : ServerCounts)
    → s.0 < length servers → x ≡ get_or servers s.0 x
    → numbers_at (view_of counting most comps servers) s ≡ numbers_now counting comps x
seen_at counting most comps servers s x within at =
    get_or-map (numbers_now counting comps) servers s.0 x no_numbers within ∙ ap (numbers_now counting comps) (sym at)

pub next_counts-view : (counting : Counting) (most cost : ℕ) (comps : Counts) (servers : List ServerCounts) (s : ServerId) (x : ServerCounts)
    → s.0 < length servers → x ≡ get_or servers s.0 x
    → next_counts (view_of counting most comps servers) s cost ≡ plus (numbers_now counting comps x).pending (own_share counting cost)
next_counts-view counting most cost comps servers s x within at =
    ap (λ (n : ServerNumbers). plus n.pending (own_share counting cost)) (seen_at counting most comps servers s x within at)

-- a stamp
pub view-stamp : (counting : Counting) (most cost : ℕ) (comps params : Counts) (servers : List ServerCounts) (s : ServerId) (x : ServerCounts)
    → s.0 < length servers → x ≡ get_or servers s.0 x
    → params ≡ plus (numbers_now counting comps x).pending (own_share counting cost)
    → view_of counting most comps (set servers s.0 (stamped counting comps params x)) ≡ after_stamp s cost (view_of counting most comps servers)
view-stamp counting most cost comps params servers s x within at e =
    let f = numbers_now counting comps in
    let view = view_of counting most comps servers in
    ap (λ (ys : List ServerNumbers). let n : Numbers = record view { servers = ys } in n) (
    map-set f servers s.0 (stamped counting comps params x)
    ∙ ap (λ (y : ServerNumbers). set (map f servers) s.0 y) (now-stamped counting comps params x)
    ∙ ap (λ (p : Counts). let y : ServerNumbers = record { sent = plus x.sent p; skipped = x.skipped; pending = no_counts } in set (map f servers) s.0 y) e
    ∙ ap (λ (n : ServerNumbers). let y : ServerNumbers = record { sent = plus n.sent (plus n.pending (own_share counting cost)); skipped = n.skipped; pending = no_counts } in set (map f servers) s.0 y)
    (sym (seen_at counting most comps servers s x within at)))

-- a skip
pub view-skip : (counting : Counting) (most : ℕ) (comps : Counts) (servers : List ServerCounts) (s : ServerId) (x : ServerCounts)
    → s.0 < length servers → x ≡ get_or servers s.0 x
    → view_of counting most comps (set servers s.0 (passed counting comps x)) ≡ after_skip s (view_of counting most comps servers)
view-skip counting most comps servers s x within at =
    let f = numbers_now counting comps in
    let view = view_of counting most comps servers in
    ap (λ (ys : List ServerNumbers). let n : Numbers = record view { servers = ys } in n) (
    map-set f servers s.0 (passed counting comps x)
    ∙ ap (λ (y : ServerNumbers). set (map f servers) s.0 y) (now-passed counting comps x)
    ∙ ap (λ (n : ServerNumbers). let y : ServerNumbers = record { sent = n.sent; skipped = plus n.skipped n.pending; pending = no_counts } in set (map f servers) s.0 y)
    (sym (seen_at counting most comps servers s x within at)))

part_itself : (a : Counts) → IsPart a a
part_itself a = record { delta = omega arith; rho = omega arith; rest = omega arith }

-- a mark that is set to what is counted
mark_itself : (counting : Counting) (comps : Counts) (x y : ServerCounts) → x.own ≡ y.own → IsPart (counted_at counting comps x) (counted_at counting comps y)
mark_itself All comps x y e = part_itself comps
mark_itself Others comps x y e = rw e (part_itself (minus comps y.own))

own_rho : (counting : Counting) (cost : ℕ) → (own_share counting cost).rho ≤ (own_share counting cost).delta
own_rho counting cost = omega arith

-- in `All`, what a stamp and a skip pass on is all that is counted
stamped_all : (counting : Counting) (most cost : ℕ) (comps params : Counts) (x : ServerCounts) → IsKept counting most comps x
    → params ≡ plus (numbers_now counting comps x).pending (own_share counting cost) → counting ≡ All → plus (plus x.sent params) x.skipped ≡ counted_at counting comps x
stamped_all All most cost comps params x h e form =
    let d = ap (λ (p : Counts). p.delta) e in
    let r = ap (λ (p : Counts). p.rho) e in
    let sent = ap (λ (p : Counts). p.delta) (h.sent_all refl) in
    let sent_rho = ap (λ (p : Counts). p.rho) (h.sent_all refl) in
    same_counts _ _ (omega (arith, h.mark.delta)) (omega (arith, h.mark.rho))
stamped_all Others most cost comps params x h e form = absurd (cc)

passed_all : (counting : Counting) (most : ℕ) (comps : Counts) (x : ServerCounts) → IsKept counting most comps x
    → counting ≡ All → plus x.sent (plus x.skipped (numbers_now counting comps x).pending) ≡ counted_at counting comps x
passed_all All most comps x h form =
    let sent = ap (λ (p : Counts). p.delta) (h.sent_all refl) in
    let sent_rho = ap (λ (p : Counts). p.rho) (h.sent_all refl) in
    same_counts _ _ (omega (arith, sent, h.mark.delta)) (omega (arith, sent_rho, h.mark.rho))
passed_all Others most comps x h form = absurd (cc)

IsKept-stamped : (counting : Counting) (most cost : ℕ) (comps params : Counts) (x : ServerCounts) → IsKept counting most comps x
    → params ≡ plus (numbers_now counting comps x).pending (own_share counting cost) → x.sent.delta + params.delta ≤ most
    → IsKept counting most comps (stamped counting comps params x)
IsKept-stamped counting most cost comps params x h e bound =
    let d = ap (λ (p : Counts). p.delta) e in
    let r = ap (λ (p : Counts). p.rho) e in
    record {
      own = h.own;
      mark = mark_itself counting comps x (stamped counting comps params x) refl;
      sent_rho = omega (arith, h.mark.rest, h.mark.rho, h.mark.delta, h.sent_rho, own_rho counting cost);
      sent_most = bound;
      skipped_rho = h.skipped_rho;
      skipped_mark = omega (arith, h.skipped_mark, h.mark.delta);
      sent_all = stamped_all counting most cost comps params x h e;
    }

IsKept-passed : (counting : Counting) (most : ℕ) (comps : Counts) (x : ServerCounts) → IsKept counting most comps x
    → IsKept counting most comps (passed counting comps x)
IsKept-passed counting most comps x h = record {
  own = h.own;
  mark = mark_itself counting comps x (passed counting comps x) refl;
  sent_rho = h.sent_rho;
  sent_most = h.sent_most;
  skipped_rho = omega (arith, h.mark.rest, h.mark.rho, h.mark.delta, h.skipped_rho);
  skipped_mark = omega (arith, h.skipped_mark, h.mark.delta);
  sent_all = passed_all counting most comps x h;
}

-- the counts of one server are others
AreKept-set : (counting : Counting) (most : ℕ) (comps : Counts) (servers : List ServerCounts) (s : ServerId) (new : ServerCounts) → AreKept counting most comps servers
    → IsKept counting most comps new → AreKept counting most comps (set servers s.0 new)
AreKept-set counting most comps servers s new kept now = record {
  some_most = kept.some_most;
  max_limit = kept.max_limit;
  some_servers = omega (arith, length-set servers s.0 new, kept.some_servers);
  servers_limit = omega (arith, length-set servers s.0 new, kept.servers_limit);
  completions_rho = kept.completions_rho;
  completions_most = kept.completions_most;
  each = All-set (IsKept counting most comps) servers s.0 new now kept.each;
}

-- a stamp that takes what is sent to its server no further than `most`
pub AreKept-stamp : (counting : Counting) (most cost : ℕ) (comps params : Counts) (servers : List ServerCounts) (s : ServerId) (x : ServerCounts)
    → AreKept counting most comps servers → s.0 < length servers → x ≡ get_or servers s.0 x
    → params ≡ plus (numbers_now counting comps x).pending (own_share counting cost) → x.sent.delta + params.delta ≤ most
    → AreKept counting most comps (set servers s.0 (stamped counting comps params x))
AreKept-stamp counting most cost comps params servers s x kept within at e bound =
    AreKept-set counting most comps servers s (stamped counting comps params x) kept (IsKept-stamped counting most cost comps params x (rw at (kept.each s.0 x within)) e bound)

pub AreKept-skip : (counting : Counting) (most : ℕ) (comps : Counts) (servers : List ServerCounts) (s : ServerId) (x : ServerCounts)
    → AreKept counting most comps servers → s.0 < length servers → x ≡ get_or servers s.0 x
    → AreKept counting most comps (set servers s.0 (passed counting comps x))
AreKept-skip counting most comps servers s x kept within at =
    AreKept-set counting most comps servers s (passed counting comps x) kept (IsKept-passed counting most comps x (rw at (kept.each s.0 x within)))

-- a part stays one if the whole grows, and if both do
part-grown : (part whole k : Counts) → k.rho ≤ k.delta → IsPart part whole → IsPart part (plus whole k)
part-grown part whole k rho h = record {
  delta = omega (arith, h.delta);
  rho = omega (arith, h.rho);
  rest = omega (arith, h.rest, rho);
}

part-both : (part whole k : Counts) → IsPart part whole → IsPart (plus part k) (plus whole k)
part-both part whole k h = record {
  delta = omega (arith, h.delta);
  rho = omega (arith, h.rho);
  rest = omega (arith, h.rest);
}

pub completed_rho : (phase : PhaseType) (cost : ℕ) → (completed_in phase cost).rho ≤ (completed_in phase cost).delta
completed_rho Reservation cost = omega arith
completed_rho Priority cost = omega arith

pub completed_delta : (phase : PhaseType) (cost : ℕ) → (completed_in phase cost).delta ≡ cost
completed_delta Reservation cost = refl
completed_delta Priority cost = refl

mark-grown : (counting : Counting) (most : ℕ) (comps : Counts) (phase : PhaseType) (cost : ℕ) (x : ServerCounts) → IsKept counting most comps x
    → IsPart x.mark (counted_at counting (plus comps (completed_in phase cost)) x)
mark-grown All most comps phase cost x h = part-grown x.mark comps (completed_in phase cost) (completed_rho phase cost) h.mark
mark-grown Others most comps phase cost x h =
    rw (minus-plus comps x.own (completed_in phase cost) h.own) (part-grown x.mark (minus comps x.own) (completed_in phase cost) (completed_rho phase cost) h.mark)

mark-answered : (counting : Counting) (most : ℕ) (comps : Counts) (phase : PhaseType) (cost : ℕ) (x : ServerCounts) → IsKept counting most comps x
    → IsPart x.mark (counted_at counting (plus comps (completed_in phase cost)) (answered phase cost x))
mark-answered All most comps phase cost x h = part-grown x.mark comps (completed_in phase cost) (completed_rho phase cost) h.mark
mark-answered Others most comps phase cost x h = rw (minus-both comps x.own (completed_in phase cost)) h.mark

-- a response that takes the completions no further than `most`
pub AreKept-response : (counting : Counting) (most : ℕ) (comps : Counts) (servers : List ServerCounts) (s : ServerId) (x : ServerCounts)
    (phase : PhaseType) (cost : ℕ) → AreKept counting most comps servers → s.0 < length servers → x ≡ get_or servers s.0 x → comps.delta + cost ≤ most
    → AreKept counting most (plus comps (completed_in phase cost)) (set servers s.0 (answered phase cost x))
AreKept-response counting most comps servers s x phase cost kept within at bound =
    let after = plus comps (completed_in phase cost) in
    let new = answered phase cost x in
    let before : IsKept counting most comps x = rw at (kept.each s.0 x within) in
    let grown_each : Each (IsKept counting most after) servers = λ k d inside.
    let h = kept.each k d inside in
    record {
      own = part-grown _ comps (completed_in phase cost) (completed_rho phase cost) h.own;
      mark = mark-grown counting most comps phase cost _ h;
      sent_rho = h.sent_rho;
      sent_most = h.sent_most;
      skipped_rho = h.skipped_rho;
      skipped_mark = h.skipped_mark;
      sent_all = h.sent_all;
    }
    in
    let answered_is : IsKept counting most after new = record {
      own = part-both x.own comps (completed_in phase cost) before.own;
      mark = mark-answered counting most comps phase cost x before;
      sent_rho = before.sent_rho;
      sent_most = before.sent_most;
      skipped_rho = before.skipped_rho;
      skipped_mark = before.skipped_mark;
      sent_all = before.sent_all;
    } in
    record {
      some_most = kept.some_most;
      max_limit = kept.max_limit;
      some_servers = omega (arith, length-set servers s.0 new, kept.some_servers);
      servers_limit = omega (arith, length-set servers s.0 new, kept.servers_limit);
      completions_rho = omega (arith, kept.completions_rho, completed_rho phase cost);
      completions_most = omega (arith, bound, completed_delta phase cost);
      each = All-set (IsKept counting most after) servers s.0 new answered_is grown_each;
    }

-- a response, seen at all servers
servers-response : (counting : Counting) (most : ℕ) (comps : Counts) (servers : List ServerCounts) (s : ServerId) (x : ServerCounts)
    (phase : PhaseType) (cost : ℕ) → AreKept counting most comps servers → s.0 < length servers → x ≡ get_or servers s.0 x
    → map (numbers_now counting (plus comps (completed_in phase cost))) (set servers s.0 (answered phase cost x))
    ≡ servers_grown counting s phase cost (map (numbers_now counting comps) servers)
servers-response All most comps servers s x phase cost kept within at =
    map-set_same (numbers_now All (plus comps (completed_in phase cost))) servers s.0 (answered phase cost x) x
    (ap (λ (y : ServerCounts). numbers_now All (plus comps (completed_in phase cost)) y) at)
    ∙ map-grown All most comps phase cost servers kept.each
servers-response Others most comps servers s x phase cost kept within at =
    let f = numbers_now Others comps in
    let after = numbers_now Others (plus comps (completed_in phase cost)) in
    map-set after servers s.0 (answered phase cost x)
    ∙ ap (λ (ys : List ServerNumbers). set ys s.0 (after (answered phase cost x))) (map-grown Others most comps phase cost servers kept.each)
    ∙ ap (λ (y : ServerNumbers). set (map (grown phase cost) (map f servers)) s.0 y)
    (now-answered comps phase cost x ∙ sym (seen_at Others most comps servers s x within at))

pub view-response : (counting : Counting) (most : ℕ) (comps : Counts) (servers : List ServerCounts) (s : ServerId) (x : ServerCounts)
    (phase : PhaseType) (cost : ℕ) → AreKept counting most comps servers → s.0 < length servers → x ≡ get_or servers s.0 x
    → view_of counting most (plus comps (completed_in phase cost)) (set servers s.0 (answered phase cost x))
    ≡ after_response s phase cost (view_of counting most comps servers)
view-response counting most comps servers s x phase cost kept within at =
    let view = view_of counting most (plus comps (completed_in phase cost)) servers in
    ap (λ (ys : List ServerNumbers). let n : Numbers = record view { servers = ys } in n)
    (servers-response counting most comps servers s x phase cost kept within at)

map-replicate : {X Y : Type 0} (f : X → Y) (n : ℕ) (x : X) → map f (replicate n x) ≡ replicate n (f x)
map-replicate f zero x = refl
map-replicate f (suc n) x = ap (λ ys. f x ∷ ys) (map-replicate f n x)

-- a new tracker
pub view-new : (counting : Counting) (most n : ℕ) (d : ServerCounts) → numbers_now counting no_counts d ≡ no_numbers
    → view_of counting most no_counts (replicate n d) ≡ new_numbers counting most n
view-new counting most n d e =
    let view = new_numbers counting most n in
    ap (λ (ys : List ServerNumbers). let m : Numbers = record view { servers = ys } in m)
    (map-replicate (numbers_now counting no_counts) n d ∙ ap (replicate n) e)

-- no counts
abbrev none_yet : ServerCounts
none_yet = record { sent = no_counts; skipped = no_counts; own = no_counts; mark = no_counts }

none_counted : (counting : Counting) → IsPart no_counts (counted_at counting no_counts none_yet)
none_counted All = part_itself no_counts
none_counted Others = part_itself no_counts

none_kept : (counting : Counting) (most : ℕ) → IsKept counting most no_counts none_yet
none_kept counting most = record {
  own = part_itself no_counts;
  mark = none_counted counting;
  sent_rho = omega arith;
  sent_most = omega arith;
  skipped_rho = omega arith;
  skipped_mark = omega arith;
  sent_all = λ form. refl;
}

-- a new tracker keeps nothing of its servers
pub AreKept-new : (counting : Counting) (most n : ℕ) → AreLimits n most → AreKept counting most no_counts (replicate n none_yet)
AreKept-new counting most n limits = record {
  some_most = limits.some_most;
  max_limit = limits.max_limit;
  some_servers = rw length-replicate limits.some_servers;
  servers_limit = rw length-replicate limits.servers_limit;
  completions_rho = omega arith;
  completions_most = omega arith;
  each = All-replicate (IsKept counting most no_counts) n none_yet (none_kept counting most);
}
