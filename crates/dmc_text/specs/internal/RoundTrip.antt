-- Parts of a line that are read back.
use Rattle.std.specs.Prelude.{◌≡◌, ℕ, ℤ, false, List, [], ◌∷◌, Option, Some, None, Ok, codes}
use Rattle.std.specs.Str.{bytes_eq}
use Rattle.std.specs.Fmt.{decimal}
use Rattle.dmc_types.specs.Values.{Rates}
use Rattle.dmc_types.specs.declared.ids.ClientId.{ClientId}
use Rattle.dmc_types.specs.declared.command.Command.{Command}
use Rattle.dmc_text.specs.Commands.{with_info}
use Rattle.dmc_text.specs.Replies.{tag}
use Rattle.dmc_text.specs.Written.{rate_word, info_words}
use Rattle.dmc_text.specs.RoundTrip.{AreWords}

-- ---- replies

-- a tag's text is one word, which is not `-` and is read as the tag
pub record ReadsAgain {T : Type 0} (made : ℤ → ℕ → Option T) (text : T → List ℕ) (a : T) : Type 0 where
  pub word : AreWords 40 (text a ∷ [])
  pub some : bytes_eq (text a) (codes "-") ≡ false
  pub read : tag made (text a) ≡ Ok a

abbrev pub ReadsEach : {T : Type 0} → (ℤ → ℕ → Option T) → (T → List ℕ) → Option T → Type 0
ReadsEach made text None = Unit {0}
ReadsEach made text (Some a) = ReadsAgain made text a

-- ---- commands

-- what follows `client` or `update` is read again
pub record IsInfoAgain (client : ClientId) (info : Rates) (at : ℕ) : Type 0 where
  pub read : (make : ClientId → Rates → ℕ → Command) → with_info make (decimal client.0) (rate_word info.reservation) (decimal info.weight) (rate_word info.limit) (decimal at) ≡ Ok (make client info at)
  pub of_words : AreWords 63 (info_words client info at)
