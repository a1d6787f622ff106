use Rattle.std.proofs.Common.{◌≡◌, ◌∙◌, ℕ, min, List, [], ◌∷◌, Some, None, refl, ap}
use Rattle.std.specs.Prelude.{fold}
use Rattle.std.proofs.lemmas.List.{take_all}
use Rattle.dmc_tag.specs.Rules.{due_moment}
use Rattle.dmc_tag.specs.State.{queued_requests}
use Rattle.dmc_tag.specs.Tag.{Tagging}
use Rattle.dmc_tag.specs.declared.plain.QueuedRequest.{QueuedRequest}
use Rattle.dmc_plain.specs.internal.Due.{sooner, least_due}
use Rattle.dmc_plain.proofs.due.least_due.Goals as goal

module _ {T : Type 0} (ops : Tagging T) where
  from_some : (m : ℕ) (requests : List (QueuedRequest T)) → fold (sooner ops) (Some m) requests ≡ Some (fold (λ m r. min m (due_moment ops r)) m requests)
  from_some m [] = refl
  from_some m (x ∷ xs) = from_some (min m (due_moment ops x)) xs

  from_none : (requests : List (QueuedRequest T)) → fold (sooner ops) None requests ≡ least_due ops requests
  from_none [] = refl
  from_none (x ∷ xs) = from_some (due_moment ops x) xs

pub returns : goal.returns
returns g c =
    c.loop-client.invariant
    ∙ ap (λ clients. fold (sooner g.T.Tag.ops) None (queued_requests clients)) (take_all c.loop-client.client-index c.args.clients.now c.loop-client-test.false)
    ∙ from_none g.T.Tag.ops (queued_requests c.args.clients.now)
