use Rattle.std.proofs.Common.{◌≡◌, [], ◌∷◌, ◌++◌, length, sym, ap, ◌∙◌, arith, rules}
use Rattle.rand_pcg.proofs.LcgLemmas.{advance_zero}
use Rattle.rand_pcg.specs.Lcg.{next}
use Rattle.rand_pcg.specs.Pcg.{multiplier_64}
use Rattle.dmc_work.specs.Plan.{generator, word, server_at}
use Rattle.dmc_work.proofs.PlanLemmas.{next-advance, planned-more, length-planned, planned-within}
use Rattle.dmc_work.proofs.plan.plan.Goals as goal

pub loop-request-init : goal.loop-request-init
loop-request-init c = record {
  room = omega (arith, c.in_ok-plan.ensures.capacity);
  given = c.new-words.ensures ∙ rw c.from.ensures (sym (advance_zero 64 multiplier_64 (generator c.args.seed c.args.client.0)));
  planned_so_far = search rules;
}

pub unwrap-requires : goal.unwrap-requires
unwrap-requires c =
    let counted : length c.loop-request.plan.items ≡ c.loop-request._request =
    rw c.loop-request.invariant.planned_so_far (length-planned _ _ _) in
    c.push.ensures.succeeds (omega (arith, c.loop-request.plan.ok))

pub loop-request-preserved : goal.loop-request-preserved
loop-request-preserved c =
    let start = generator c.args.seed c.args.client.0 in
    let done = c.loop-request._request in
    let given : c.loop-request.words ≡ _ = c.loop-request.invariant.given in
    let stepped : c.next_word.new.self ≡ next 64 multiplier_64 c.loop-request.words = ap (λ p. p.1) c.next_word.ensures in
    let drawn : c.next_word.result ≡ word start done = ap (λ p. p.0) c.next_word.ensures ∙ rw given in
    let added : c.push.new.self.items ≡ c.loop-request.plan.items ++ server_at (word start) c.args.servers done ∷ [] =
    rw (← drawn) (search rules) in
    record {
      room = omega arith;
      given = stepped ∙ rw given (next-advance done start);
      planned_so_far = added ∙ rw (c.loop-request.invariant.planned_so_far, planned-more);
    }

pub returns-clause-len : goal.returns-clause-len
returns-clause-len c =
    let counted : length c.loop-request.plan.items ≡ c.loop-request._request =
    rw c.loop-request.invariant.planned_so_far (length-planned _ _ _) in
    omega (arith, c.loop-request.plan.ok)

pub returns-clause-within : goal.returns-clause-within
returns-clause-within c = rw c.loop-request.invariant.planned_so_far (planned-within _ _ _ c.requires)
