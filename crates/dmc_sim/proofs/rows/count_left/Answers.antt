use Rattle.std.proofs.Common.{◌<◌, ℕ, get_or, length, set, ap, ◌∙◌, arith}
use Rattle.std.specs.Prelude.{Option, unwrap_or}
use Rattle.std.proofs.lemmas.List.{get_or_default}
use Rattle.std.proofs.lemmas.List.Edits.{map_over_more}
use Rattle.dmc_pull.specs.Queue.{state_of}
use Rattle.dmc_sim.specs.internal.Rows.{idle_row, with_left}
use Rattle.dmc_sim.proofs.rows.count_left.Goals as goal

pub loop-row-preserved : goal.loop-row-preserved
loop-row-preserved g c =
    let rows = c.loop-row.servers in
    let i = c.loop-row.row-index in
    let row = get_or rows i (idle_row 0) in
    let within : i < length rows = omega arith in
    let first : i < length c.args.servers.now = omega arith in
    let left = c.unwrap_or-left.ensures ∙ ap (λ (o : Option ℕ). unwrap_or o 0) c.request_count.ensures in
    ap (λ (n : ℕ). set rows i (record row { left = n })) left
    ∙ map_over_more (with_left state_of c.args.core.now.servers) c.args.servers.now rows i row first c.loop-row.invariant (get_or_default rows i (idle_row 0) row within)
