-- Bytes that are sent to the fault writer in parts.
use Rattle.std.proofs.Common.{◌≡◌, ℕ, Bool, true, false, List, [], ◌++◌, ◌∙◌, refl, sym, ap, append_assoc, Option, Result, Ok, Err}
use Rattle.std.specs.Prelude.{OnOk, OnErr, is_ok}
use Rattle.std.proofs.KnownBytes.{Appends-nil, Appends-trans}
use Rattle.std.specs.Io.KnownBytes.{Appends}
use Rattle.dmc_text.specs.Texts.{AppendsSome}
use Rattle.dmc_text.specs.Watching.{stream_of, IsNoted, IsNotedBy}
use Rattle.dmc_text.specs.declared.watched.Watched.{Watched}
use Rattle.dmc_tool.specs.FaultLine.{Sends}

module _ {W : Type 0} (held : W → Option (List ℕ)) where
  -- nothing is sent
  pub sent_none : (old : Watched W) → Sends held [] old old true
  sent_none old = (Appends-nil (held (stream_of old)), refl)

  -- all bytes are sent, or the writer fails
  pub sent_by : {X E : Type 0} (bytes : List ℕ) (old new : Watched W) (r : Result X E) → OnOk r (Appends (held (stream_of old)) (held (stream_of new)) bytes)
      → OnErr r (AppendsSome (held (stream_of old)) (held (stream_of new)) bytes) → IsNoted old new r → Sends held bytes old new (is_ok r)
  sent_by bytes old new (Ok x) all some noted = (all, noted)
  sent_by bytes old new (Err e) all some noted = (some, noted)

  -- the same, and the writer is flushed
  pub sent_flushed : (bytes : List ℕ) (old new : Watched W) (b : Bool) → (b ≡ true → Appends (held (stream_of old)) (held (stream_of new)) bytes)
      → AppendsSome (held (stream_of old)) (held (stream_of new)) bytes → IsNotedBy old new b → Sends held bytes old new b
  sent_flushed bytes old new true all some noted = (all refl, noted)
  sent_flushed bytes old new false all some noted = (some, noted)

  -- the first bytes are not all sent, and no more
  pub sent_cut : (first more : List ℕ) (old new : Watched W) → Sends held first old new false → Sends held (first ++ more) old new false
  sent_cut first more old new ((sent, unsent, app, parts), noted) =
      ((sent, unsent ++ more, app, sym (append_assoc sent unsent more) ∙ ap (λ bytes. bytes ++ more) parts), noted)

  -- the first bytes are sent, and then the second
  pub sent_both : (first second : List ℕ) (old middle new : Watched W) (b : Bool) → Sends held first old middle true → Sends held second middle new b
      → Sends held (first ++ second) old new b
  sent_both first second old middle new true (app, calm) (app', calm') = (Appends-trans _ _ _ first second app app', calm' ∙ calm)
  sent_both first second old middle new false (app, calm) ((sent, unsent, app', parts), noted) =
      ((first ++ sent, unsent, Appends-trans _ _ _ first sent app app', append_assoc first sent unsent ∙ ap (λ bytes. first ++ bytes) parts), noted)
