-- Runs that end before anything is read.
use Rattle.std.proofs.Common.{◌≡◌, ℕ, List, [], refl, sym, subst, ap, arith, Option, Some, None, Result, Ok, Err, inl, inr}
use Rattle.std.specs.Prelude.{IsErrAnd}
use Rattle.dmc_types.specs.declared.config.TagKind.{TagKind}
use Rattle.dmc_types.specs.declared.config.TagKind.TheVariants as kinds
use Rattle.dmc_tag.specs.Tag.{Tagging}
use Rattle.dmc_tick.specs.Tick.{tick_ops}
use Rattle.dmc_ratio.specs.Ratio.{ratio_ops}
use Rattle.dmc_text.specs.declared.script.ScriptFault.TheVariants as script
use Rattle.dmc_text.specs.Replies.{in_ticks}
use Rattle.dmc_text.specs.Texts.{RunsAs, out}
use Rattle.dmc_tool.specs.Faults.{fault_of_words}
use Rattle.dmc_tool.specs.Runs.{ChecksEvents, RunsCommand, RunsScript, RunsWords, ratio_text}
use Rattle.dmc_tool.specs.SceneRuns.{RunsRun}
use Rattle.dmc_tool.specs.Sims.{RunsSim}
use Rattle.dmc_tool.specs.declared.fault.Fault.{Fault}
use Rattle.dmc_tool.specs.declared.fault.Fault.TheVariants as faults
use Rattle.dmc_tool.specs.declared.outcome.Outcome.{Outcome}
use Rattle.dmc_tool.specs.declared.words.Tool.{Tool}
use Rattle.dmc_tool.specs.declared.words.ToolCommand.{ToolCommand}
use Rattle.dmc_tool.specs.declared.words.ToolCommand.TheVariants.{Script, Check, Sim, Run}
use Rattle.dmc_tool.specs.declared.words.WordsFault.{WordsFault}
use Rattle.dmc_tool.specs.declared.words.WordsFault.TheVariants as words
use Rattle.dmc_tool.proofs.SimLemmas.{none_yet}
use Rattle.std.proofs.KnownBytes.{Consumes-nil, Appends-nil, Keeps-refl}
use Rattle.dmc_text.proofs.RunEnds.{nothing_read}

-- ---- nothing is read or written

no_memory_yet : {T : Type 0} (ops : Tagging T) (text : T → List ℕ) (before old : Option (List ℕ)) → RunsAs ops text before before old old (Err script.Memory)
no_memory_yet ops text before old = ([], (Consumes-nil before, omega arith), ([], out ops text [], Appends-nil old, refl))

no_script_yet : (tags : TagKind) (before old : Option (List ℕ)) → RunsScript tags before before old old (Err script.Memory)
no_script_yet kinds.Tick before old = no_memory_yet tick_ops in_ticks before old
no_script_yet kinds.Ratio before old = no_memory_yet ratio_ops ratio_text before old

no_check_yet : (tags : TagKind) (before old : Option (List ℕ)) → ChecksEvents tags before before old old (Err script.Memory)
no_check_yet kinds.Tick before old = (nothing_read before, Keeps-refl old)
no_check_yet kinds.Ratio before old = (nothing_read before, Keeps-refl old)

no_sim_yet : (before old : Option (List ℕ)) → RunsSim before before old old (Err faults.Memory)
no_sim_yet before old = (none_yet before, Keeps-refl old)

no_run_yet : (before old : Option (List ℕ)) → RunsRun before before old old (Err faults.Memory)
no_run_yet before old = inr (faults.Memory, none_yet before, Keeps-refl old, refl)

-- ---- words that are not read

-- the allocation failure, before the command runs
none_of : (command : ToolCommand) (tags : TagKind) (before old : Option (List ℕ)) → RunsCommand command tags before before old old (Err faults.Memory)
none_of Script tags before old = (Err script.Memory, no_script_yet tags before old, refl)
none_of Check tags before old = (Err script.Memory, no_check_yet tags before old, refl)
none_of Sim tags before old = no_sim_yet before old
none_of Run tags before old = no_run_yet before old

no_command_yet : (tool : Tool) (before old : Option (List ℕ)) (result : Result Outcome Fault) → IsErrAnd result (λ fault. fault ≡ faults.Memory)
    → RunsWords (Some tool) before before old old result
no_command_yet tool before old (Ok outcome) e = absurd e
no_command_yet tool before old (Err fault) e = subst (λ f. RunsWords (Some tool) before before old old (Err f)) (sym e) (none_of tool.command tool.tags before old)

pub words_unread : (tool : Option Tool) (before old : Option (List ℕ)) (fault : WordsFault) (result : Result Outcome Fault)
    → (fault ≡ words.Usage → tool ≡ None) → IsErrAnd result (λ reported. reported ≡ fault_of_words fault) → RunsWords tool before before old old result
words_unread None before old fault (Ok outcome) none e = absurd e
words_unread None before old words.Usage (Err reported) none e = (Keeps-refl before, Keeps-refl old, inl (ap Err e))
words_unread None before old words.Memory (Err reported) none e = (Keeps-refl before, Keeps-refl old, inr (ap Err e))
words_unread (Some tool) before old words.Usage result none e = let no : Some tool ≡ None = none refl in absurd (cc)
words_unread (Some tool) before old words.Memory result none e = no_command_yet tool before old result e
