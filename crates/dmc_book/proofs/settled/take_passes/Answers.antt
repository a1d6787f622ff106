use Rattle.std.proofs.Common.{◌≡◌, ℕ, ◌+◌, ◌<◌, List, [], ◌∷◌, length, map, refl, sym, ap, ◌∙◌, subst, slice_index_or, arith, rules}
use Rattle.std.specs.Prelude.{nat_lt}
use Rattle.std.proofs.lemmas.List.{length-append, length-map, append-nil}
use Rattle.dmc_ledger.specs.Bundles.{ClientSide, client_side}
use Rattle.dmc_book.specs.BookState.{PassState, WorkerSide, no_worker, pass_state, worker_side}
use Rattle.dmc_book.specs.Consistent.{reaching}
use Rattle.dmc_book.specs.Counts.{one_if}
use Rattle.dmc_book.specs.Settling.{IsOwn, closed_worker, open_passes}
use Rattle.dmc_book.specs.internal.Settling.{ArePassesTakenIn, having}
use Rattle.dmc_book.proofs.SettlingLemmas.{ArePartly, all_after, all_gone, all_left, one_open_at, open_at, open_less, partly_end, partly_long, partly_more, partly_start, passes_more, passes_none, reaching_end, reaching_less, reaching_start, still_reaching, tills_at, units_at}
use Rattle.dmc_book.proofs.settled.take_passes.Goals as goal

pub loop-pass-init : goal.loop-pass-init
loop-pass-init g c = record {
  workers = partly_start (map worker_side c.args.workers.now);
  still_open = sym c.requires.own.as_many ∙ length-map c.args.passes.items (pass_state {S = g.row.S.Denot});
  own = c.requires.own.each;
  taken = [];
  all = sym (append-nil (map pass_state c.args.passes.items));
  tills = λ k. omega (arith, reaching_start k (map worker_side c.args.workers.now) c.requires.one_open);
  desks = passes_none (map client_side c.args.desks.now);
}

pub take_pass-requires-clause-within : goal.take_pass-requires-clause-within
take_pass-requires-clause-within g c =
    let ws : List WorkerSide = map worker_side c.args.workers.now in
    let vs : List WorkerSide = map worker_side c.loop-pass.workers in
    let inv = c.loop-pass.invariant in
    let left = all_left (IsOwn ws (map client_side c.args.desks.now)) pass_state c.loop-pass.passes.items c.pop.new.self.items c.in-Some.pass c.in-Some.ensures.items inv.own in
    omega (arith, left.1.enrolled.within, partly_long ws vs inv.workers, length-map c.loop-pass.workers (worker_side {S = g.row.S.Denot}))

pub take_pass-requires-clause-its : goal.take_pass-requires-clause-its
take_pass-requires-clause-its g c =
    let ws : List WorkerSide = map worker_side c.args.workers.now in
    let vs : List WorkerSide = map worker_side c.loop-pass.workers in
    let inv = c.loop-pass.invariant in
    let left = all_left (IsOwn ws (map client_side c.args.desks.now)) pass_state c.loop-pass.passes.items c.pop.new.self.items c.in-Some.pass c.in-Some.ensures.items inv.own in
    tills_at (pass_state c.in-Some.pass) ws vs inv.workers left.1.enrolled

pub take_pass-requires-clause-units : goal.take_pass-requires-clause-units
take_pass-requires-clause-units g c =
    let ws : List WorkerSide = map worker_side c.args.workers.now in
    let inv = c.loop-pass.invariant in
    let left = all_left (IsOwn ws (map client_side c.args.desks.now)) pass_state c.loop-pass.passes.items c.pop.new.self.items c.in-Some.pass c.in-Some.ensures.items inv.own in
    units_at (pass_state c.in-Some.pass).units inv.taken (map client_side c.args.desks.now) (map client_side c.loop-pass.desks) inv.desks left.1.units

pub loop-pass-preserved : goal.loop-pass-preserved
loop-pass-preserved g c =
    let ws : List WorkerSide = map worker_side c.args.workers.now in
    let vs : List WorkerSide = map worker_side c.loop-pass.workers in
    let ds : List ClientSide = map client_side c.args.desks.now in
    let es : List ClientSide = map client_side c.loop-pass.desks in
    let inv = c.loop-pass.invariant in
    let popped = c.in-Some.ensures.items in
    let p = pass_state c.in-Some.pass in
    let left = all_left (IsOwn ws ds) pass_state c.loop-pass.passes.items c.pop.new.self.items c.in-Some.pass popped inv.own in
    let within = left.1.enrolled.within in
    let inside : p.place < length vs = omega (arith, within, partly_long ws vs inv.workers) in
    let some = c.take_pass.ensures.some in
    let one = one_open_at ws vs p.place inv.workers c.requires.one_open within some in
    let closed = c.take_pass.ensures.only one in
    let fewer : length c.loop-pass.passes.items ≡ length c.pop.new.self.items + 1 = ap length popped ∙ length-append c.pop.new.self.items (c.in-Some.pass ∷ []) in
    let reach : length p.units ≡ (slice_index_or vs p.place no_worker).reach = left.1.reach ∙ sym (ap (λ (w : WorkerSide). w.reach) (open_at ws vs p.place inv.workers within some)) in
    let reached : (k : ℕ) → one_if (nat_lt k (length p.units)) ≡ one_if (nat_lt k (slice_index_or vs p.place no_worker).reach) = λ k. ap (λ n. one_if (nat_lt k n)) reach in
    let less = open_less vs p.place (closed_worker (slice_index_or vs p.place no_worker)) inside refl one.0 in
    record {
      workers = subst (ArePartly ws) (sym closed) (partly_more ws vs p.place inv.workers within some);
      still_open = ap open_passes closed ∙ omega (arith, less, inv.still_open, fewer);
      own = left.0;
      taken = p ∷ inv.taken;
      all = all_after (IsOwn ws ds) pass_state c.loop-pass.passes.items c.pop.new.self.items c.in-Some.pass popped (map pass_state c.args.passes.items) inv.taken inv.all;
      tills = λ k. subst (λ (xs : List WorkerSide). having k (p ∷ inv.taken) + still_reaching k xs ≡ reaching k ws) (sym closed) (omega (arith, inv.tills k, reached k, reaching_less k vs p.place (closed_worker (slice_index_or vs p.place no_worker)) inside refl one.0));
      desks = passes_more p inv.taken ds es (map client_side c.take_pass.new.desks) inv.desks c.take_pass.ensures.desks;
    }

pub returns-clause-workers : goal.returns-clause-workers
returns-clause-workers g c =
    let none : length c.loop-pass.passes.items ≡ 0 = search rules in
    partly_end (map worker_side c.args.workers.now) (map worker_side c.loop-pass.workers) c.loop-pass.invariant.workers c.requires.one_open (c.loop-pass.invariant.still_open ∙ none)

pub returns-clause-tills : goal.returns-clause-tills
returns-clause-tills g c k =
    let none : length c.loop-pass.passes.items ≡ 0 = search rules in
    let inv = c.loop-pass.invariant in
    let gone = reaching_end k (map worker_side c.loop-pass.workers) (inv.still_open ∙ none) in
    subst (λ (ps : List PassState). having k ps ≡ reaching k (map worker_side c.args.workers.now)) (all_gone pass_state c.loop-pass.passes.items (map pass_state c.args.passes.items) inv.taken none inv.all) (omega (arith, inv.tills k, gone))

pub returns-clause-desks : goal.returns-clause-desks
returns-clause-desks g c =
    let none : length c.loop-pass.passes.items ≡ 0 = search rules in
    let inv = c.loop-pass.invariant in
    subst (λ (ps : List PassState). ArePassesTakenIn ps (map client_side c.args.desks.now) (map client_side c.loop-pass.desks)) (all_gone pass_state c.loop-pass.passes.items (map pass_state c.args.passes.items) inv.taken none inv.all) inv.desks
