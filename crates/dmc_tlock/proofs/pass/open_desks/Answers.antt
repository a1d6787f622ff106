use Rattle.std.proofs.Common.{refl, sym, ◌∙◌, subst, arith}
use Rattle.std.proofs.lemmas.List.{length-set}
use Rattle.dmc_ledger.specs.Bundles.{ServerSide, StampHoldings, server_side}
use Rattle.dmc_ledger.specs.Moves.{new_tills}
use Rattle.dmc_ledger.specs.declared.desk.ServerDesk.{ServerDesk}
use Rattle.dmc_tlock.specs.Opening.{side_after_opening}
use Rattle.dmc_tlock.specs.internal.Opening.{IsOneTill}
use Rattle.dmc_tlock.proofs.OpeningLemmas.{books_kept, seen_without}
use Rattle.dmc_tlock.proofs.pass.open_desks.Goals as goal

pub open_pass-requires-clause-one : goal.open_pass-requires-clause-one
open_pass-requires-clause-one g c =
    let f : ServerDesk g.row.S.Denot → ServerSide = server_side in
    λ k within.
    subst IsOneTill (sym (books_kept f c.args.desks.now c.take_list-list.new.desk c.index-desks-0.result c.take_list-list.ensures.desk k))
    (c.requires.one k (omega (arith, within, length-set c.args.desks.now 0 c.take_list-list.new.desk)))

pub returns-clause-desks : goal.returns-clause-desks
returns-clause-desks g c =
    let f : ServerDesk g.row.S.Denot → ServerSide = server_side in
    c.open_pass.ensures.desks ∙ seen_without f side_after_opening (λ x. refl) c.args.desks.now c.take_list-list.new.desk c.index-desks-0.result c.take_list-list.ensures.desk

pub returns-clause-tills : goal.returns-clause-tills
returns-clause-tills g c =
    let f : ServerDesk g.row.S.Denot → ServerSide = server_side in
    let opened : ServerSide → StampHoldings = λ d. new_tills d.books in
    c.open_pass.ensures.tills ∙ seen_without f opened (λ x. refl) c.args.desks.now c.take_list-list.new.desk c.index-desks-0.result c.take_list-list.ensures.desk
