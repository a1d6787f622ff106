-- The replies of steps can be written: no grant by reservation is beyond its limit.
use Rattle.std.proofs.Common.{ℕ, Bool, true, false, List, [], ◌∷◌, Option, Some, None, Result, Ok, Err, refl}
use Rattle.dmc_types.specs.declared.config.AtLimit.{AtLimit}
use Rattle.dmc_types.specs.declared.config.AtLimit.TheVariants.{Wait, Allow, Reject}
use Rattle.dmc_types.specs.declared.refusal.Refusal.{Refusal}
use Rattle.dmc_types.specs.declared.command.Command.{Command}
use Rattle.dmc_types.specs.declared.command.Command.TheVariants.{Register, Update, Add, Pull, Remove, Cancel, Clean}
use Rattle.dmc_tag.specs.Tag.{Tagging}
use Rattle.dmc_tag.specs.Outcome.{◌>>=◌}
use Rattle.dmc_tag.specs.State.{State, effective, queued_requests}
use Rattle.dmc_tag.specs.Best.{Found, best_of_all, by_reservation, by_weight, is_early, is_free, is_any}
use Rattle.dmc_tag.specs.Rules.{Outcome, can_register, can_update, can_add, can_remove, can_grant, grant_priority, grant_found, at_limit, nothing_due, pulled_free, pulled_early}
use Rattle.dmc_tag.specs.Step.{answer_of, step}
use Rattle.dmc_tag.specs.declared.plain.QueuedRequest.{QueuedRequest}
use Rattle.dmc_text.specs.Replies.{IsWritable}

writable_of : {T A : Type 0} (s : State T) (r : Result A Refusal) (f : A → Outcome T) → ((a : A) → IsWritable ((answer_of s (f a)).1)) → IsWritable ((answer_of s (r >>= f)).1)
writable_of s (Ok a) f h = h a
writable_of s (Err e) f h = tt

writable_priority : {T : Type 0} (ops : Tagging T) (u s : State T) (t : ℕ) (found : Found T) (beyond : Bool) → IsWritable ((answer_of u (grant_priority ops s t found beyond)).1)
writable_priority ops u s t found beyond = writable_of u (can_grant ops s.config.hz found) _ (λ a. tt)

writable_found : {T : Type 0} (ops : Tagging T) (u s : State T) (t : ℕ) (found : Option (Found T)) → IsWritable ((answer_of u (grant_found ops s t true found)).1)
writable_found ops u s t None = tt
writable_found ops u s t (Some found) = writable_priority ops u s t found true

writable_limit : {T : Type 0} (ops : Tagging T) (u s : State T) (t : ℕ) (kind : AtLimit) (x : QueuedRequest T) (xs : List (QueuedRequest T)) → IsWritable ((answer_of u (at_limit ops s t kind x xs)).1)
writable_limit ops u s t Wait x xs = tt
writable_limit ops u s t (Reject threshold) x xs = tt
writable_limit ops u s t Allow x xs = writable_found ops u s t (best_of_all ops by_weight is_any s.clients)

writable_none : {T : Type 0} (ops : Tagging T) (u s : State T) (t : ℕ) (requests : List (QueuedRequest T)) → IsWritable ((answer_of u (nothing_due ops s t requests)).1)
writable_none ops u s t [] = tt
writable_none ops u s t (x ∷ xs) = writable_limit ops u s t s.config.at_limit x xs

writable_free : {T : Type 0} (ops : Tagging T) (u s : State T) (t : ℕ) (found : Option (Found T)) → IsWritable ((answer_of u (pulled_free ops s t found)).1)
writable_free ops u s t (Some found) = writable_priority ops u s t found false
writable_free ops u s t None = writable_none ops u s t (queued_requests s.clients)

writable_early : {T : Type 0} (ops : Tagging T) (u s : State T) (t : ℕ) (found : Option (Found T)) → IsWritable ((answer_of u (pulled_early ops s t found)).1)
writable_early ops u s t (Some found) = refl
writable_early ops u s t None = writable_free ops u s t (best_of_all ops by_weight (is_free ops t) s.clients)

-- each reply of a step can be written
pub writable : {T : Type 0} (ops : Tagging T) (s : State T) (command : Command) → IsWritable ((step ops s command).1)
writable ops s (Register client info at) = writable_of s (can_register ops s client info) _ (λ a. tt)
writable ops s (Update client info at) = writable_of s (can_update ops s client info) _ (λ a. tt)
writable ops s (Add client token params at) = writable_of s (can_add ops s client params (effective s at)) _ (λ a. tt)
writable ops s (Pull at) = writable_early ops s s (effective s at) (best_of_all ops by_reservation (is_early ops (effective s at)) s.clients)
writable ops s (Remove client) = writable_of s (can_remove s client) _ (λ a. tt)
writable ops s (Cancel client token counting) = writable_of s (can_remove s client) _ (λ a. tt)
writable ops s (Clean at) = tt
