use Rattle.std.proofs.Common.{◌≡◌, ◌∙◌, ap, sym, length, arith}
use Rattle.std.specs.Prelude.{filter, slice_index_or, None}
use Rattle.dmc_lemmas.proofs.Lists.{length_filtered}
use Rattle.dmc_roster.specs.Entries.{Entry}
use Rattle.dmc_roster.proofs.Held.{counted, length_entries}
use Rattle.dmc_roster.proofs.roster.Roster.count.Goals as goal

pub returns-clause-value : goal.returns-clause-value
returns-clause-value g c =
    let passes = g.R.RecordTest.passes c.args.test.now in
    c.count_passing.ensures
    ∙ sym (counted passes (λ k. slice_index_or c.self.inside.records.slots k None) c.self.inside.ids.entries)
    ∙ ap (λ r. length (filter (λ e. passes e.rec) r.entries)) c.self.view_is

pub returns-clause-bound : goal.returns-clause-bound
returns-clause-bound g c =
    let test = λ (e : Entry g.row.T.Denot). g.R.RecordTest.passes c.args.test.now e.rec in
    let slots = c.self.inside.records.slots in
    let ids = c.self.inside.ids.entries in
    let all : c.count_passing.result ≡ length (filter test c.args.self.now.entries) = returns-clause-value g c in
    let entries : length c.args.self.now.entries ≡ length ids = ap (λ r. length r.entries) (sym c.self.view_is) ∙ length_entries slots ids c.self.invariant.held in
    omega (arith, all, entries, length_filtered test c.args.self.now.entries, c.self.invariant.bound)
