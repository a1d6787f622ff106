-- Why a registration or an update is refused before anything else; and the reply of a call that is refused, or at which an
-- allocation failed.
use Rattle.std.proofs.Common.{◌≡◌, true, false, Some, None, is_some, Result, Err, refl, sym, ap, ◌∙◌, subst}
use Rattle.std.specs.Prelude.{IsOk, IsTrue}
use Rattle.dmc_types.specs.Values.{Rates}
use Rattle.dmc_types.specs.declared.ids.ClientId.{ClientId}
use Rattle.dmc_types.specs.declared.command.Command.{Command}
use Rattle.dmc_types.specs.declared.refusal.Field.{Field}
use Rattle.dmc_types.specs.declared.refusal.QueueFault.{QueueFault}
use Rattle.dmc_types.specs.declared.refusal.QueueFault.TheVariants as faults
use Rattle.dmc_types.specs.declared.refusal.Refusal.{Refusal}
use Rattle.dmc_types.specs.declared.refusal.Refusal.TheVariants.{Known, Unknown, Inexact}
use Rattle.dmc_tag.specs.Tag.{Tagging}
use Rattle.dmc_tag.specs.State.{State, PlainClient, client_named}
use Rattle.dmc_tag.specs.Answers.{call_reply}
use Rattle.dmc_tag.specs.Spacing.{spacings_of}
use Rattle.dmc_tag.specs.Rules.{can_register, can_update}
use Rattle.dmc_tag.specs.Step.{answer_of, outcome}
use Rattle.dmc_tag.specs.Steps.{Steps, may_grow}
use Rattle.dmc_tag.specs.declared.reply.Reply.{Reply}

module _ {T : Type 0} (ops : Tagging T) (s : State T) (id : ClientId) (info : Rates) where
  pub refused_known : is_some (client_named id s.clients) ≡ true → Err Known ≡ can_register ops s id info
  refused_known known = rw known refl

  pub refused_inexact : (field : Field) → is_some (client_named id s.clients) ≡ false → spacings_of ops s.config.hz info ≡ Err field → Err (Inexact field) ≡ can_register ops s id info
  refused_inexact field known inexact = rw (known, inexact) refl

  pub refused_unknown : client_named id s.clients ≡ None → Err Unknown ≡ can_update ops s id info
  refused_unknown none = rw none refl

  pub update_inexact : (client : PlainClient T) → client_named id s.clients ≡ Some client → (field : Field) → spacings_of ops s.config.hz info ≡ Err field → Err (Inexact field) ≡ can_update ops s id info
  update_inexact client known field inexact = rw (known, inexact) refl

-- ---- nothing has changed

module _ {T X : Type 0} (ops : Tagging T) (old : State T) (command : Command) (tell : X → Reply T) (result : Result X QueueFault) where
  pub refused_as : (refusal : Refusal) → result ≡ Err (faults.Refused refusal) → Err refusal ≡ outcome ops old command → Steps ops old old command (call_reply tell result)
  refused_as refusal e o = subst (λ r. Steps ops old old command (call_reply tell r)) (sym e) (ap (answer_of old) o)

  pub no_memory : (new : State T) (fault : QueueFault) → IsTrue (may_grow command) → result ≡ Err fault → fault ≡ faults.Memory → IsOk (outcome ops old command) → new ≡ old
      → Steps ops old new command (call_reply tell result)
  no_memory new fault grows e m ok kept = subst (λ r. Steps ops old new command (call_reply tell r)) (sym (e ∙ ap Err m)) (grows, ok, kept)
