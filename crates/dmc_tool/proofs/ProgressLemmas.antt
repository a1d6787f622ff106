-- Lines of progress, one behind the other.
use Rattle.std.proofs.Common.{◌≡◌, ℕ, Bool, true, false, List, [], ◌∷◌, ◌++◌, ◌∙◌, refl, sym, ap, subst, append_assoc, Option, Some, None}
use Rattle.std.proofs.lemmas.List.{append-nil}
use Rattle.dmc_text.specs.declared.watched.Watched.{Watched}
use Rattle.dmc_tool.specs.FaultLine.{Sends}
use Rattle.dmc_tool.specs.Progress.{ShowsProgress, WritesProgress, progress_line, progress_lines}
use Rattle.dmc_tool.specs.declared.words.ToolCommand.{ToolCommand}
use Rattle.dmc_tool.proofs.FaultLineLemmas.{sent_both, sent_none}

-- one line more
lines_and_one : (command : ToolCommand) (counts : List ℕ) (count : ℕ)
    → progress_lines command (counts ++ count ∷ []) ≡ progress_lines command counts ++ progress_line command count
lines_and_one command [] count = append-nil (progress_line command count)
lines_and_one command (first ∷ rest) count =
    ap (λ lines. progress_line command first ++ lines) (lines_and_one command rest count)
    ∙ sym (append_assoc (progress_line command first) (progress_lines command rest) (progress_line command count))

module _ {E : Type 0} (heard : E → Option (List ℕ)) where
  -- no progress is shown
  pub shows_none : (shown : Option ToolCommand) (writer : Watched E) → ShowsProgress heard shown writer writer
  shows_none None writer = refl
  shows_none (Some command) writer = ([], (true, sent_none heard writer))

  -- all lines so far are written
  abbrev pub Shown : ToolCommand → (old new : Watched E) → Type 0
  Shown command old new = (counts : List ℕ) × Sends heard (progress_lines command counts) old new true

  -- none yet
  pub shown_none : (command : ToolCommand) (writer : Watched E) → Shown command writer writer
  shown_none command writer = ([], sent_none heard writer)

  -- and no more
  pub shown_all : (command : ToolCommand) (old new : Watched E) → Shown command old new → WritesProgress heard command old new
  shown_all command old new (counts, sent) = (counts, (true, sent))

  module _ (command : ToolCommand) (old middle new : Watched E) (count : ℕ) (shown : Shown command old middle) where
    one_more : (b : Bool) → Sends heard (progress_line command count) middle new b → Sends heard (progress_lines command (shown.0 ++ count ∷ [])) old new b
    one_more b sent =
        subst (λ lines. Sends heard lines old new b) (sym (lines_and_one command shown.0 count))
        (sent_both heard (progress_lines command shown.0) (progress_line command count) old middle new b shown.1 sent)

    -- one more is written
    pub shown_next : Sends heard (progress_line command count) middle new true → Shown command old new
    shown_next sent = (shown.0 ++ count ∷ [], one_more true sent)

    -- the writer fails at one more
    pub shown_part : Sends heard (progress_line command count) middle new false → WritesProgress heard command old new
    shown_part sent = (shown.0 ++ count ∷ [], (false, one_more false sent))
