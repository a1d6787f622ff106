-- The lines of a text, one after the other, and how many of its bytes are read.
use Rattle.std.proofs.Common.{◌≡◌, ℕ, ◌<◌, Bool, false, cond, List, ap, length}
use Rattle.std.specs.Prelude.{◌&&◌, Err}
use Rattle.std.specs.List.{list_all}
use Rattle.std.proofs.lemmas.Bool.{lt-leb}
use Rattle.dmc_types.specs.Limits.{max_line_bytes}
use Rattle.dmc_text.specs.declared.cause.LineCause.TheVariants.{Bytes}
use Rattle.dmc_text.specs.Answers.{◌>>=◌}
use Rattle.dmc_text.specs.Words.{words}
use Rattle.dmc_text.specs.Lines.{kind, kind_of, line_of_kind, line_of, is_clean, is_line_byte}

-- ---- a line that is too long

unclean : (line : List ℕ) → max_line_bytes < length line → is_clean line ≡ false
unfolding is_clean
unclean line h = ap (λ b. b && list_all is_line_byte line) (lt-leb (length line) max_line_bytes h)

pub long_kind : (has_config : Bool) (line : List ℕ) → max_line_bytes < length line → kind_of has_config line ≡ Err Bytes
long_kind has_config line h = ap (λ b. cond b (kind has_config (words line)) (Err Bytes)) (unclean line h)

-- so a line of a script is faulty
pub long_line : (has_config : Bool) (line : List ℕ) → max_line_bytes < length line → line_of has_config line ≡ Err Bytes
long_line has_config line h = ap (λ k. k >>= λ x. line_of_kind x (words line)) (long_kind has_config line h)
