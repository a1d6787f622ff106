-- The reply to a registration or an add that is refused, and to one that is not.
use Rattle.std.proofs.Common.{◌≡◌, ℕ, [], ◌∷◌, ◌++◌, refl, sym, ap, ◌∙◌}
use Rattle.std.specs.Prelude.{Result, Ok, Err, ⊤, is_ok, IsOk, OnOk, OnErr, IsOkUnless}
use Rattle.dmc_types.specs.Values.{Rates, Params}
use Rattle.dmc_types.specs.declared.ids.ClientId.{ClientId}
use Rattle.dmc_types.specs.declared.ids.Token.{Token}
use Rattle.dmc_types.specs.declared.command.Command.TheVariants.{Register, Add}
use Rattle.dmc_types.specs.declared.refusal.Refusal.{Refusal}
use Rattle.dmc_types.specs.declared.refusal.QueueFault.{QueueFault}
use Rattle.dmc_types.specs.declared.refusal.QueueFault.TheVariants as faults
use Rattle.dmc_tag.specs.Tag.{Tagging}
use Rattle.dmc_tag.specs.Answers.{call_reply}
use Rattle.dmc_tag.specs.State.{PlainClient, State, effective}
use Rattle.dmc_tag.specs.Outcome.{◌>>=◌}
use Rattle.dmc_tag.specs.Rules.{Outcome, can_register, registered, newcomer, can_add, added, queued, request_of}
use Rattle.dmc_tag.specs.Step.{answer_of, outcome}
use Rattle.dmc_tag.specs.Steps.{Steps}
use Rattle.dmc_tag.specs.declared.reply.Reply.{Reply}
use Rattle.dmc_tag.specs.declared.reply.Reply.TheVariants.{Registered, Tagged}
use Rattle.dmc_tag.proofs.Refusals.{no_memory}

module _ {T : Type 0} (ops : Tagging T) (old : State T) (id : ClientId) where
  -- the effect of a registration, from its tests
  abbrev registered_by : Rates → ℕ → Result ⊤ Refusal → Outcome T
  registered_by info t tests = tests >>= λ x. Ok (record old { clients = old.clients ++ newcomer ops id info t ∷ []; last_moment = t }, Registered)

  pub register_refused : (info : Rates) (at : ℕ) (refusal : Refusal) → Err refusal ≡ can_register ops old id info → Err refusal ≡ outcome ops old (Register id info at)
  register_refused info at refusal e = ap (registered_by info (effective old at)) e

  pub registered_step : (new : State T) (info : Rates) (at moment : ℕ) (answer : Result ⊤ QueueFault) → moment ≡ effective old at → Ok tt ≡ can_register ops old id info
      → (client : PlainClient T) → client ≡ newcomer ops id info moment
      → OnOk answer (new ≡ record old { clients = old.clients ++ client ∷ []; last_moment = moment }) → OnErr answer (new ≡ old) → IsOkUnless answer faults.Memory
      → Steps ops old new (Register id info at) (call_reply (λ done. Registered) answer)
  registered_step new info at moment (Ok done) moment_is may client client_is ok err memory =
      ap (λ s. (s, Registered)) ok
      ∙ ap (λ c. (record old { clients = old.clients ++ c ∷ []; last_moment = moment }, Registered)) client_is
      ∙ ap (λ tests. answer_of old (registered_by info moment tests)) may
      ∙ ap (λ t. answer_of old (registered ops old id info t)) moment_is
  registered_step new info at moment (Err fault) moment_is may client client_is ok err memory =
      let done : IsOk (outcome ops old (Register id info at)) = ap (λ tests. is_ok (registered_by info (effective old at) tests)) (sym may) in
      no_memory ops old (Register id info at) (λ (done : ⊤). Registered) (Err fault) new fault refl refl memory done err

  module _ (token : Token) (params : Params) (at moment : ℕ) (moment_is : moment ≡ effective old at) where
    pub add_refused : (refusal : Refusal) → can_add ops old id params moment ≡ Err refusal → Err refusal ≡ outcome ops old (Add id token params at)
    add_refused refusal e =
        sym (ap (added ops old id token params) (sym moment_is)
        ∙ ap (λ tests. tests >>= λ addition. Ok (queued ops old addition.shift id (request_of token params.cost addition) moment, Tagged addition.tags)) e)

    pub add_done : (answer : State T × Reply T) → added ops old id token params moment ≡ Ok answer → IsOk (outcome ops old (Add id token params at))
    add_done answer e = ap is_ok (ap (added ops old id token params) (sym moment_is) ∙ e)
