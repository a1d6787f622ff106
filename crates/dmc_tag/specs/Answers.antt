-- What a scheduler's calls return, as replies. A failed allocation has no reply.
use Rattle.std.specs.Prelude.{ℕ, Option, Some, None, Result, Ok, Err}
use Rattle.dmc_types.specs.declared.refusal.Refusal.{Refusal}
use Rattle.dmc_types.specs.declared.refusal.QueueFault.{QueueFault}
use Rattle.dmc_types.specs.declared.refusal.QueueFault.TheVariants as faults
use Rattle.dmc_tag.specs.declared.reply.Pulled.{Pulled}
use Rattle.dmc_tag.specs.declared.reply.Pulled.TheVariants as pulls
use Rattle.dmc_tag.specs.declared.reply.Reply.{Reply}
use Rattle.dmc_tag.specs.declared.reply.Reply.TheVariants.{Granted, Later, Nothing, Cleaned, Refused}

-- the reply of a call that returned a value or a refusal, and none if an allocation failed
abbrev pub call_reply : {T X : Type 0} → (X → Reply T) → Result X QueueFault → Option (Reply T)
call_reply reply_of (Ok x) = Some (reply_of x)
call_reply reply_of (Err (faults.Refused refusal)) = Some (Refused refusal)
call_reply reply_of (Err faults.Memory) = None

-- the reply of a call that does not allocate
abbrev pub sure_call_reply : {T X : Type 0} → (X → Reply T) → Result X Refusal → Option (Reply T)
sure_call_reply reply_of (Ok x) = Some (reply_of x)
sure_call_reply reply_of (Err refusal) = Some (Refused refusal)

abbrev pub pull_reply : {T : Type 0} → Pulled → Reply T
pull_reply (pulls.Returning client token phase beyond cost) = Granted client token phase beyond cost
pull_reply (pulls.Future m) = Later m
pull_reply pulls.Nothing = Nothing

abbrev pub clean_reply : {T : Type 0} → ℕ × ℕ → Reply T
clean_reply counts = Cleaned counts.0 counts.1
