use Rattle.std.proofs.Common.{◌≡◌, ◌+◌, ◌∷◌, [], ◌++◌, sym, ap, ◌∙◌, arith}
use Rattle.std.proofs.lemmas.List.FromFn.{map-range_with_len_more}
use Rattle.dmc_sim.specs.internal.Rows.{idle_row}
use Rattle.dmc_sim.proofs.rows.idle_servers.Goals as goal

pub loop-server-preserved : goal.loop-server-preserved
loop-server-preserved c =
    let n = c.loop-server.server in
    let at : 0 + n ≡ n = omega arith in
    c.in_ok-push.ensures.items ∙ ap (λ rows. rows ++ idle_row n ∷ []) c.loop-server.invariant ∙ sym (map-range_with_len_more idle_row 0 n n at)
