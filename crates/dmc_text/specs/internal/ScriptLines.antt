-- A run of a script, line by line.
use Rattle.std.specs.Prelude.{◌≡◌, ℕ, List, ◌∷◌, ◌++◌, Option, is_some, Ok}
use Rattle.dmc_tag.specs.Tag.{Tagging}
use Rattle.dmc_tag.specs.State.{State}
use Rattle.dmc_text.specs.declared.line.Line.{Line}
use Rattle.dmc_text.specs.Lines.{line_of}
use Rattle.dmc_text.specs.Texts.{has_config_after, written}

-- a line is carried out: its meaning, what is written for it, and that the rest continues from the state after it
pub record Answers {T : Type 0} (ops : Tagging T) (text : T → List ℕ) (s : Option (State T)) (bytes answer : List ℕ) (t : Option (State T)) : Type 0 where
  pub line : Line
  pub is_line : line_of (is_some s) bytes ≡ Ok line
  pub has_config : is_some t ≡ has_config_after (is_some s) line
  pub rest : (rest : List Line) → answer ++ written ops text t rest ≡ written ops text s (line ∷ rest)
