use Rattle.std.proofs.Common.{ℕ, get_or, refl, sym, ◌∙◌, arith, below_more}
use Rattle.std.proofs.lemmas.Bool.{false≢true}
use Rattle.std.proofs.lemmas.List.{get_or_read}
use Rattle.dmc_settle.specs.internal.Checks.{ArePairs, ArePairsOf}
use Rattle.dmc_settle.specs.internal.Places.{no_tracker}
use Rattle.dmc_settle.proofs.checks.are_pairs.Goals as goal

pub returns-then-not-are_pairs_of : goal.returns-then-not-are_pairs_of
returns-then-not-are_pairs_of g c =
    let i = c.loop-c.c in
    let at = get_or_read c.args.trackers.now i c.index-trackers-c.result c.loop-c-test.true c.index-trackers-c.is no_tracker in
    let others : ArePairsOf i c.args.books.now c.index-trackers-c.result → ⊥ = (λ p. false≢true (sym c.if-not-are_pairs_of.true ∙ c.are_pairs_of.ensures.1 p)) in
    ((λ e. cc), λ (all : ArePairs c.args.books.now c.args.trackers.now). absurd (others (rw at (all i c.loop-c-test.true))))

pub loop-c-preserved : goal.loop-c-preserved
loop-c-preserved g c =
    let i = c.loop-c.c in
    let at = get_or_read c.args.trackers.now i c.index-trackers-c.result c.loop-c-test.true c.index-trackers-c.is no_tracker in
    let here : ArePairsOf i c.args.books.now c.index-trackers-c.result = c.are_pairs_of.ensures.0 c.if-not-are_pairs_of.false in
    below_more (λ (k : ℕ). ArePairsOf k c.args.books.now (get_or c.args.trackers.now k no_tracker)) i c.loop-c.invariant (rw at at here)

pub returns : goal.returns
returns g c = ((λ e k within. c.loop-c.invariant k (omega (arith, within, c.loop-c-test.false))), λ all. refl)
