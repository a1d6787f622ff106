use Rattle.std.proofs.Common.{refl, ◌∙◌, arith, length-append}
use Rattle.dmc_core.proofs.opening.open_servers.Goals as goal
use Rattle.dmc_lemmas.proofs.Lists.{all_next}

pub loop-preserved : goal.loop-preserved
loop-preserved g c = record {
  as_many = rw c.in_ok-push.ensures.items (simp length-append (omega arith));
  each = rw c.in_ok-push.ensures.items (all_next _ c.loop.servers.items _ c.loop.invariant.each c.in_ok-server.ensures);
}

pub loop-init : goal.loop-init
loop-init g c = rw c.in_ok-servers.ensures.items (record { as_many = refl; each = tt })

pub returns : goal.returns
returns g c = record {
  as_many = c.loop.invariant.as_many ∙ omega arith;
  each = c.loop.invariant.each;
}
