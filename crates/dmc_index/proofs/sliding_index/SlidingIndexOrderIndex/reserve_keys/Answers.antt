use Rattle.std.proofs.Common.{◌≡◌, drop, ap, ◌∙◌, arith}
use Rattle.dmc_index.specs.Entries.{slots_of}
use Rattle.dmc_index.proofs.EntryLemmas.{within_room, length-slots_of, slots_of-more, same_room}
use Rattle.dmc_index.proofs.sliding_index.SlidingIndexOrderIndex.reserve_keys.Goals as goal

pub overflow_sub-saturating_mul : goal.overflow_sub-saturating_mul
overflow_sub-saturating_mul g c =
    let x = c.self.inside in
    let es = drop x.start x.entries.items in
    omega (arith, within_room g.R.Rank.cmp g.met.R.Rank.total x.room _ es c.self.invariant.0, c.len.ensures, c.close_gap.new.entries.ok.0, ap Rattle.std.proofs.Common.length c.close_gap.ensures.items, c.saturating_mul.ensures)

pub returns-in_err-reserve-clause-succeeds : goal.returns-in_err-reserve-clause-succeeds
returns-in_err-reserve-clause-succeeds g c l =
    let x = c.self.inside in
    let size = rw c.self.view_is at (length-slots_of x.room (drop x.start x.entries.items)) in
    absurd (omega arith)

pub returns-in_ok-reserve-clause-ok : goal.returns-in_ok-reserve-clause-ok
returns-in_ok-reserve-clause-ok g c =
    let x = c.self.inside in
    let es = drop x.start x.entries.items in
    ap (slots_of c.args.n) (c.in_ok-reserve.ensures.items ∙ c.close_gap.ensures.items) ∙ rw c.self.view_is at (slots_of-more x.room c.args.n es c.self.invariant.0.in_room (omega arith))

pub returns-else-n-self-clause-ok : goal.returns-else-n-self-clause-ok
returns-else-n-self-clause-ok g c =
    let x = c.self.inside in
    let size = rw c.self.view_is at (length-slots_of x.room (drop x.start x.entries.items)) in
    same_room c.args.self.now c.args.n (omega arith)
