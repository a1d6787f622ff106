-- Watched streams: whether a call of the stream failed, and when a run over a text may report that.
use Rattle.std.specs.Prelude.{◌≡◌, ◌⊎◌, ℕ, suc, ◌+◌, Bool, true, false, List, length, Option, Result, Ok, Err}
use Rattle.std.specs.Io.KnownBytes.{Consumes}
use Rattle.dmc_text.specs.declared.script.ScriptFault.{ScriptFault}
use Rattle.dmc_text.specs.declared.script.ScriptFault.TheVariants as ends
use Rattle.dmc_text.specs.declared.watched.Watched.{Watched}
use Rattle.dmc_text.specs.Reading.{max_bytes}

-- ---- a stream and its note

-- the stream that is watched
abbrev pub stream_of : {S : Type 0} → Watched S → S
stream_of w = w.stream

-- whether a call of it failed
abbrev pub failed : {S : Type 0} → Watched S → Bool
failed w = w.has_failed

-- no call of it failed in between
abbrev pub IsCalm : {S : Type 0} → (old new : Watched S) → Type 0
IsCalm old new = failed new ≡ failed old

-- calls of it may have failed in between; the note is never reset
abbrev pub MayFail : {S : Type 0} → (old new : Watched S) → Type 0
MayFail old new = failed old ≡ true → failed new ≡ true

-- by the result of a call: an error is reported exactly if the stream failed
abbrev pub IsNoted : {S X E : Type 0} → (old new : Watched S) → Result X E → Type 0
IsNoted old new (Ok x) = IsCalm old new
IsNoted old new (Err e) = failed new ≡ true

-- the note after a call that returns whether the stream did not fail
abbrev pub IsNotedBy : {S : Type 0} → (old new : Watched S) → Bool → Type 0
IsNotedBy old new true = IsCalm old new
IsNotedBy old new false = failed new ≡ true

-- ---- texts

-- One more byte is read than a text may have. The first argument is how many were read before.
abbrev pub ReadsPast : (taken : ℕ) → (before after : Option (List ℕ)) → Type 0
ReadsPast taken before after = (bytes : List ℕ) × Consumes before after bytes × (taken + length bytes ≡ suc max_bytes)

-- Reading a text fails: the reader failed, or it did not and the text has more than its most bytes. The first argument says which
-- bytes a reader has left.
abbrev pub FailsToRead : {R : Type 0} → (R → Option (List ℕ)) → (taken : ℕ) → (before after : Watched R) → Type 0
FailsToRead left taken before after =
    (failed after ≡ true) ⊎ (IsCalm before after × ReadsPast taken (left (stream_of before)) (left (stream_of after)))

-- More of a text is read.
abbrev pub FillsNoted : {R X E : Type 0} → (R → Option (List ℕ)) → (taken : ℕ) → (before after : Watched R) → Result X E → Type 0
FillsNoted left taken before after (Ok x) = IsCalm before after
FillsNoted left taken before after (Err e) = FailsToRead left taken before after

-- ---- runs

-- A run over a text, after this many bytes were read. Read and Write are reported only if the reader or the writer failed, or
-- at the most bytes of a text, and any other end only if neither failed.
abbrev pub EndsNoted : {R W X : Type 0} → (R → Option (List ℕ)) → (taken : ℕ) → (before after : Watched R) → (old new : Watched W) → Result X ScriptFault → Type 0
EndsNoted left taken before after old new (Ok x) = IsCalm before after × IsCalm old new
EndsNoted left taken before after old new (Err (ends.Line n cause)) = IsCalm before after × IsCalm old new
EndsNoted left taken before after old new (Err ends.Read) = FailsToRead left taken before after × IsCalm old new
EndsNoted left taken before after old new (Err ends.Write) = IsCalm before after × (failed new ≡ true)
EndsNoted left taken before after old new (Err ends.Memory) = IsCalm before after × IsCalm old new

-- A run that at its end also sends what is pending, whatever its result: at Read and at Memory the writer may fail then, and the
-- first fault is reported.
abbrev pub SendsNoted : {R W X : Type 0} → (R → Option (List ℕ)) → (taken : ℕ) → (before after : Watched R) → (old new : Watched W) → Result X ScriptFault → Type 0
SendsNoted left taken before after old new (Ok x) = IsCalm before after × IsCalm old new
SendsNoted left taken before after old new (Err (ends.Line n cause)) = IsCalm before after × IsCalm old new
SendsNoted left taken before after old new (Err ends.Read) = FailsToRead left taken before after × MayFail old new
SendsNoted left taken before after old new (Err ends.Write) = IsCalm before after × (failed new ≡ true)
SendsNoted left taken before after old new (Err ends.Memory) = IsCalm before after × MayFail old new
