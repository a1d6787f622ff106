use Rattle.std.proofs.Common.{ℕ, get_or, map, refl, sym, ◌∙◌, arith, below_more}
use Rattle.std.proofs.lemmas.Bool.{false≢true}
use Rattle.std.proofs.lemmas.List.{get_or_read}
use Rattle.dmc_ledger.specs.Bundles.{client_side, server_side}
use Rattle.dmc_settle.specs.internal.Checks.{ArePairsOf, IsPairAt}
use Rattle.dmc_settle.specs.internal.Places.{no_book}
use Rattle.dmc_settle.proofs.checks.are_pairs_of.Goals as goal

pub returns-then-not-is_pair_at : goal.returns-then-not-is_pair_at
returns-then-not-is_pair_at g c =
    let s = c.loop-s.s in
    let at = get_or_read c.args.books.now s c.index-books-s.result c.loop-s-test.true c.index-books-s.is no_book in
    let others : IsPairAt c.args.client s (map (client_side {S = g.row.S.Denot}) c.desks.result.now) (map (server_side {S = g.row.S.Denot}) c.desks-in-loop-s.result.now) → ⊥ =
    (λ p. false≢true (sym c.if-not-is_pair_at.true ∙ c.is_pair_at.ensures.1 p)) in
    ((λ e. cc), λ (all : ArePairsOf c.args.client c.args.books.now c.args.tracker.now). absurd (others (rw (c.desks.ensures, c.desks-in-loop-s.ensures, at) (all s c.loop-s-test.true))))

pub loop-s-preserved : goal.loop-s-preserved
loop-s-preserved g c =
    let s = c.loop-s.s in
    let at = get_or_read c.args.books.now s c.index-books-s.result c.loop-s-test.true c.index-books-s.is no_book in
    let here : IsPairAt c.args.client s (map (client_side {S = g.row.S.Denot}) c.desks.result.now) (map (server_side {S = g.row.S.Denot}) c.desks-in-loop-s.result.now) =
    c.is_pair_at.ensures.0 c.if-not-is_pair_at.false in
    below_more (λ (k : ℕ). IsPairAt c.args.client k (get_or c.args.books.now k no_book).desks c.args.tracker.now.desks) s c.loop-s.invariant
    (rw (c.desks.ensures, c.desks-in-loop-s.ensures, at) at here)

pub returns : goal.returns
returns g c = ((λ e k within. c.loop-s.invariant k (omega (arith, within, c.loop-s-test.false))), λ all. refl)
