use Rattle.std.proofs.Common.{map, subst, sym}
use Rattle.dmc_ledger.specs.Bundles.{client_side}
use Rattle.dmc_book.specs.BookState.{AccountsState, worker_side}
use Rattle.dmc_book.specs.internal.Joining.{IsAgainst}
use Rattle.dmc_book.specs.declared.fault.AdmitCause.TheVariants.{Memory}
use Rattle.dmc_book.proofs.JoiningLemmas.{admitted_view, consistent_either}
use Rattle.dmc_book.proofs.accounts.Accounts.admit.Goals as goal

pub invariant_of-self : goal.invariant_of-self
invariant_of-self g c =
    let here = c.self.inside in
    let may = subst (λ (a : AccountsState g.row.T.Denot). IsAgainst a.server a.desks (client_side c.args.desk) Memory) (sym c.self.view_is) c.requires in (
      consistent_either here.server.0 here.history (map worker_side here.workers.items) here.desks.items c.add_desk.new.desks.items c.args.desk c.add_desk.result
          c.add_desk.ensures.added c.add_desk.ensures.kept may.0 may.1 c.self.invariant.0,
      c.add_desk.ensures.named,
      c.self.invariant.2,
    )

pub returns-clause-admitted : goal.returns-clause-admitted
returns-clause-admitted g c =
    let here = c.self.inside in
    admitted_view here.server.0 here.history (map worker_side here.workers.items) here.desks.items c.add_desk.new.desks.items c.args.desk c.args.self.now c.add_desk.result
    c.self.view_is c.add_desk.ensures.added
