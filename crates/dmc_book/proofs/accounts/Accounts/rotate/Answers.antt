use Rattle.std.proofs.Common.{◌≤◌, ◌^◌, ◌∙◌, List, ap, map, subst, sym, arith}
use Rattle.std.specs.List.{AllByRecursion}
use Rattle.dmc_ledger.specs.Bundles.{client_side}
use Rattle.dmc_shared.specs.Segmented.{Ending}
use Rattle.dmc_tag.specs.Replay.{replays}
use Rattle.dmc_tag.specs.declared.event.Event.{Event}
use Rattle.dmc_book.specs.BookState.{WorkerSide, accounts_of, worker_side}
use Rattle.dmc_book.specs.Consistent.{AreConsistent}
use Rattle.dmc_book.specs.Counts.{count, grant_cost}
use Rattle.dmc_book.specs.Moves.{IsOpen}
use Rattle.dmc_book.specs.Rotating.{AreTokensLow}
use Rattle.dmc_book.specs.declared.seat.Seat.{Seat}
use Rattle.dmc_book.proofs.RotatingLemmas.{consistent_either, events_stay}
use Rattle.dmc_book.proofs.accounts.Accounts.rotate.Given.{Over}
use Rattle.dmc_book.proofs.accounts.Accounts.rotate.Goals as goal
use Rattle.dmc_book.proofs.accounts.Accounts.rotate.Goals.{After-rotate}

-- whether the events are released or not
consistent : (g : Over) (c : After-rotate g) → AreConsistent (accounts_of c.self.inside.server.0 c.rotate.new.self (map worker_side c.self.inside.workers.items) (map client_side c.self.inside.desks.items))
consistent g c =
    let here = c.self.inside in
    let low = subst (λ (ws : List (Seat g.row.S.Denot)). AllByRecursion (λ (w : WorkerSide). IsOpen w → AreTokensLow w.books) (map worker_side ws)) c.deref.ensures.value (c.are_low.ensures.0 c.if-not-are_low.false) in
    let cheap : count grant_cost here.history.events ≤ 2 ^ 62 = omega (arith, c.if-self-gt-MAX_COST.false, c.self.invariant.2) in
    consistent_either here.server.0 here.history (map worker_side here.workers.items) (map client_side here.desks.items) low cheap c.self.invariant.0
    c.rotate.result c.rotate.new.self c.rotate.ensures.rotated c.rotate.ensures.kept c.rotate.ensures.some.0

pub new-requires : goal.new-requires
new-requires g c =
    let whole = ap (λ (e : Ending (Event g.row.T.Denot)). e.history) c.in_ok-part.ensures.segment in
    subst (replays g.T.Tag.ops c.args.config) (sym whole) (rw (← c.self.view_is) at c.requires)

pub invariant_of-self-2 : goal.invariant_of-self-2
invariant_of-self-2 g c = (consistent g (goal.at.invariant_of-self-2 g c).After-rotate, c.self.invariant.1, c.self.invariant.2 ∙ ap (count grant_cost) (sym (events_stay _ c.rotate.result c.rotate.new.self c.rotate.ensures.rotated c.rotate.ensures.kept)))
