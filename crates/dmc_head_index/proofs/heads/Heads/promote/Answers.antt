use Rattle.std.proofs.Common.{◌<◌, count_by, refl, sym, ◌∙◌, subst}
use Rattle.dmc_head_index.proofs.MarkLemmas.{mark_more, is_unready, fewer_unready}
use Rattle.dmc_head_index.proofs.heads.Heads.promote.Goals as goal

pub loop-key-preserved : goal.loop-key-preserved
loop-key-preserved g c =
    rw c.set_ready.ensures (mark_more g.T.Tag.ops c.args.t c.loop-key.self c.in-Some.key c.in-Some.ensures ∙ c.loop-key.invariant)

pub loop-key-init : goal.loop-key-init
loop-key-init g c = refl

pub loop-key-smaller : goal.loop-key-smaller
loop-key-smaller g c =
    subst (λ hs. count_by is_unready hs < count_by is_unready c.loop-key.self) (sym c.set_ready.ensures) (fewer_unready g.T.Tag.ops c.args.t c.loop-key.self c.in-Some.key c.in-Some.ensures)

pub returns : goal.returns
returns g c = sym c.in_default.ensures ∙ c.loop-key.invariant
