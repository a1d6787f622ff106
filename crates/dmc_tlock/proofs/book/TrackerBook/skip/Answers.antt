use Rattle.std.proofs.Common.{◌+◌, ◌-◌, ◌<◌, length, refl, sym, arith, rules, subst}
use Rattle.std.proofs.lemmas.List.{length-map}
use Rattle.dmc_ledger.specs.Bundles.{server_side}
use Rattle.dmc_tlock.specs.Consistent.{IsConsistent}
use Rattle.dmc_tlock.proofs.ConsistentLemmas.{IsConsistent-skip}
use Rattle.dmc_tlock.proofs.book.TrackerBook.skip.Goals as goal

pub returns-clause-book : goal.returns-clause-book
returns-clause-book g c =
    rw (← c.self.view_is, c.record_skip.ensures.tracker, c.record_skip.ensures.number, c.record_skip.ensures.events, c.record_skip.ensures.first, c.record_skip.ensures.most, c.in_ok-reserve_one.ensures.kept) refl

pub invariant_of-self-2 : goal.invariant_of-self-2
invariant_of-self-2 g c =
    let here = c.self.inside in
    let within : c.args.server.0 < length here.desks.items = search rules in
    let room : length here.list.events < here.list.first + (here.list.most - here.list.first) = omega (arith, c.in_ok-reserve_one.ensures.fewer) in (
      subst IsConsistent (sym (returns-clause-book g c))
          (rw (← c.self.view_is) (IsConsistent-skip _ c.args.server (omega (arith, within, length-map here.desks.items (server_side {S = g.row.S.Denot}))) room c.self.invariant.0)),
      c.self.invariant.1,
    )
