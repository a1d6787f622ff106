-- A script's run, reply by reply.
use Rattle.std.specs.Prelude.{ℕ, List, [], Option, Some, None, Result, Ok, Err, ⊤, Bool, if◌then◌else◌}
use Rattle.dmc_tag.specs.Tag.{Tagging}
use Rattle.dmc_tag.specs.State.{State}
use Rattle.dmc_tag.specs.Step.{step}
use Rattle.dmc_text.specs.declared.line.Line.{Line}
use Rattle.dmc_text.specs.declared.line.Line.TheVariants.{Skip, Config, Ask, Value}
use Rattle.dmc_text.specs.declared.script.ScriptFault.{ScriptFault}
use Rattle.dmc_text.specs.declared.script.ScriptFault.TheVariants as faults
use Rattle.dmc_text.specs.Replies.{reply_text}
use Rattle.dmc_text.specs.Texts.{with_line_end, value_text}

-- what is written for one line, in a state; there is none before the hz line
abbrev pub answer_text : {T : Type 0} → Tagging T → (T → List ℕ) → Option (State T) → Line → List ℕ
answer_text ops text s Skip = []
answer_text ops text s (Config config) = []
answer_text ops text s (Value fault) = with_line_end (value_text fault)
answer_text ops text None (Ask command) = []
answer_text ops text (Some s) (Ask command) = with_line_end (reply_text text ((step ops s command).1))

-- what was pending is written, or not all of it
abbrev pub settled_of : Result ⊤ ScriptFault → Bool → Result ⊤ ScriptFault
settled_of (Ok x) sent = if sent then Ok x else Err faults.Write
settled_of (Err (faults.Line n cause)) sent = if sent then Err (faults.Line n cause) else Err faults.Write
settled_of (Err faults.Read) sent = Err faults.Read
settled_of (Err faults.Write) sent = Err faults.Write
settled_of (Err faults.Memory) sent = Err faults.Memory
