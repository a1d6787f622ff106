use Rattle.std.proofs.Common.{◌≡◌, length, map, sym, ◌∙◌, rules}
use Rattle.std.proofs.lemmas.List.{length-map}
use Rattle.dmc_tracker.specs.Numbers.{AreLimits}
use Rattle.dmc_shards.specs.ShardNumbers.{new_numbers}
use Rattle.dmc_sharded.specs.BookState.{desk_state}
use Rattle.dmc_sharded.proofs.OpeningLemmas.{book_is_new}
use Rattle.dmc_sharded.proofs.book.ArrivalBook.open.Goals as goal

pub invariant_of-book : goal.invariant_of-book
invariant_of-book g c =
    let limits : AreLimits c.args.shards c.args.most = search rules in
    let numbers : c.in_ok-tracker.tracker ≡ new_numbers c.args.most c.args.shards = c.in_ok-tracker.ensures.ok in
    let long = length-map c.open_desks.new.desks.items (desk_state {S = g.row.S.Denot}) ∙ c.open_desks.ensures.desks in
    rw numbers (book_is_new c.args.client.0 c.args.shards c.args.most c.args.mint.now.opened _ limits long c.open_desks.ensures.each_desk)
