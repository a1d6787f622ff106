-- Each number is one of its type, and each rate is one.
use Rattle.std.proofs.Common.{◌<◌, ◌^◌, subst, arith}
use Rattle.std.specs.Prelude.{IfSome}
use Rattle.dmc_types.specs.Values.{IsRate}
use Rattle.dmc_text.proofs.WrittenLemmas.{info_again}
use Rattle.dmc_text.proofs.write_line.write_info.Goals as goal

pub returns-clause-again : goal.returns-clause-again
returns-clause-again g c =
    let info = c.args.info in
    info_again c.args.client info c.args.at (omega arith)
    (subst (λ q. IfSome q (λ n. n < 2 ^ 32)) c.reservation.ensures.value c.rate_word-reservation.ensures.fits)
    (omega (arith, c.weight-weight.ensures.value))
    (subst (λ q. IfSome q (λ n. n < 2 ^ 32)) c.limit.ensures.value c.rate_word-limit.ensures.fits)
    (record {
      reserved = subst (λ q. IfSome q IsRate) c.reservation.ensures.value c.reservation.ensures.rate;
      weighed = omega (arith, c.weight-weight.ensures.value, c.weight-weight.ensures.rate);
      limited = subst (λ q. IfSome q IsRate) c.limit.ensures.value c.limit.ensures.rate;
    })
    (omega (arith, c.ticks-ticks.ensures.value, c.ticks-ticks.ensures.bound))
