-- More of a text is read for a walk over its lines.
use Rattle.std.proofs.Common.{◌≡◌, ℕ, suc, ◌+◌, ◌<◌, ◌≤◌, true, false, List, [], ◌++◌, refl, sym, ap, subst, ◌∙◌, arith, length, length-append, append-nil, Option, None, Result, Ok, Err, inl, inr}
use Rattle.std.specs.Prelude.{OnOk, OnErr, is_err}
use Rattle.std.specs.Io.KnownBytes.{Consumes, Appends, IsAtEnd, Keeps}
use Rattle.std.proofs.KnownBytes.{Consumes-nil, Consumes-trans, Appends-nil, Appends-trans}
use Rattle.std.proofs.lemmas.List.{append_assoc}
use Rattle.dmc_text.specs.declared.script.ScriptFault.{ScriptFault}
use Rattle.dmc_text.specs.declared.script.ScriptFault.TheVariants as faults
use Rattle.dmc_text.specs.declared.walk.Walk.{Walk}
use Rattle.dmc_text.specs.declared.watched.Watched.{Watched}
use Rattle.dmc_text.specs.Watching.{stream_of, IsCalm, IsNoted, FailsToRead, EndsNoted}
use Rattle.dmc_text.specs.Reading.{Reading, max_bytes, next_line, Filled, Fills}
use Rattle.dmc_text.specs.Texts.{AppendsSome}
use Rattle.dmc_text.specs.Walks.{Feeds, Fails}
use Rattle.dmc_text.specs.internal.LineLaws.{none_taken}

-- ---- results

pub given_err : {X E A : Type 0} (r : Result X E) → true ≡ is_err r → OnErr r A → A
given_err (Ok x) e a = absurd (cc)
given_err (Err x) e a = a

pub given_ok : {X E A : Type 0} (r : Result X E) → false ≡ is_err r → OnOk r A → A
given_ok (Ok x) e a = a
given_ok (Err x) e a = absurd (cc)

-- ---- the notes of the streams

-- a call that did not fail
pub calm_ok : {S X E : Type 0} (old new : Watched S) (r : Result X E) → false ≡ is_err r → IsNoted old new r → IsCalm old new
calm_ok old new (Ok x) e noted = noted
calm_ok old new (Err x) e noted = absurd (cc)

-- the reader fails once these bytes were read, or the text has more than its most bytes
pub fails_later : {R : Type 0} (left : R → Option (List ℕ)) (taken later : ℕ) (bytes : List ℕ) (before between after : Watched R)
    → Consumes (left (stream_of before)) (left (stream_of between)) bytes → later ≡ taken + length bytes → IsCalm before between
    → FailsToRead left later between after → FailsToRead left taken before after
fails_later left taken later bytes before between after reads later-is calm (inl noted) = inl noted
fails_later left taken later bytes before between after reads later-is calm (inr (calm-too, (more, reads-more, past))) =
    inr (calm-too ∙ calm, (bytes ++ more, Consumes-trans _ _ _ bytes more reads reads-more, omega (arith, past, later-is, length-append bytes more)))

-- the walk fails once these bytes were read
pub ends_later : {R W : Type 0} (X Y : Type 0) (left : R → Option (List ℕ)) (taken later : ℕ) (bytes : List ℕ) (before between after : Watched R) (old middle new : Watched W) (fault : ScriptFault)
    → Consumes (left (stream_of before)) (left (stream_of between)) bytes → later ≡ taken + length bytes → IsCalm before between → IsCalm old middle
    → EndsNoted {X = X} left later between after middle new (Err fault) → EndsNoted {X = Y} left taken before after old new (Err fault)
ends_later X Y left taken later bytes before between after old middle new (faults.Line n cause) reads later-is calm silent (noted, written) = (noted ∙ calm, written ∙ silent)
ends_later X Y left taken later bytes before between after old middle new faults.Read reads later-is calm silent (noted, written) =
    (fails_later left taken later bytes before between after reads later-is calm noted, written ∙ silent)
ends_later X Y left taken later bytes before between after old middle new faults.Write reads later-is calm silent (noted, written) = (noted ∙ calm, written)
ends_later X Y left taken later bytes before between after old middle new faults.Memory reads later-is calm silent (noted, written) = (noted ∙ calm, written ∙ silent)

-- ---- from what was read before to what is read next

pub fed_nothing : (r w : Option (List ℕ)) (walk : Walk) → walk.lines.taken ≤ max_bytes → Feeds r w walk r w walk
fed_nothing r w walk within = record {
  bytes = [];
  sent = [];
  reads = Consumes-nil r;
  sends = Appends-nil w;
  rest = sym (append-nil walk.lines.rest);
  taken = omega arith;
  within = within;
  out = refl;
  number = refl;
}

module _ {r0 w0 r w : Option (List ℕ)} {old walk : Walk} (f : Feeds r0 w0 old r w walk) (r' w' : Option (List ℕ)) (new : Walk) where
  fed_by : (bytes : List ℕ) → Appends w w' walk.out.items → new.out.items ≡ [] → new.number ≡ walk.number → new.lines.taken ≤ max_bytes
      → Consumes r r' bytes → new.lines.rest ≡ walk.lines.rest ++ bytes → new.lines.taken ≡ walk.lines.taken + length bytes → Feeds r0 w0 old r' w' new
  fed_by bytes sends empty number-is within reads rest-is taken-is = record {
    bytes = f.bytes ++ bytes;
    sent = f.sent ++ walk.out.items;
    reads = Consumes-trans r0 r r' f.bytes bytes f.reads reads;
    sends = Appends-trans w0 w w' f.sent walk.out.items f.sends sends;
    rest = rest-is ∙ ap (λ xs. xs ++ bytes) f.rest ∙ append_assoc old.lines.rest f.bytes bytes;
    taken = omega (arith, taken-is, f.taken, length-append f.bytes bytes);
    within = within;
    out = ap (λ xs. (f.sent ++ walk.out.items) ++ xs) empty ∙ append-nil (f.sent ++ walk.out.items) ∙ f.out;
    number = number-is ∙ f.number;
  }

  -- what was to be written is written, and then more is read
  pub fed_more : (lines : Reading) → lines ≡ walk.lines → Appends w w' walk.out.items → new.out.items ≡ [] → new.number ≡ walk.number → new.lines.taken ≤ max_bytes
      → Filled r r' lines new.lines true → Feeds r0 w0 old r' w' new
  fed_more lines same sends empty number-is within (bytes, reads, rest-is, some, taken-is) =
      fed_by bytes sends empty number-is within reads (rest-is ∙ ap (λ l. l.rest ++ bytes) same) (taken-is ∙ ap (λ l. l.taken + length bytes) same)

  -- or the reader is at its end
  pub fed_end : (lines : Reading) → next_line walk.lines.rest ≡ None → lines ≡ walk.lines → Appends w w' walk.out.items → new.out.items ≡ [] → new.number ≡ walk.number → new.lines.taken ≤ max_bytes
      → Filled r r' lines new.lines false → Feeds r0 w0 old r' w' new × IsAtEnd r' × (next_line new.lines.rest ≡ None)
  fed_end lines none same sends empty number-is within (end, keeps, rest-is, taken-is) =
      let rest-too : new.lines.rest ≡ walk.lines.rest = rest-is ∙ ap (λ l. l.rest) same in
      let taken-too : new.lines.taken ≡ walk.lines.taken = taken-is ∙ ap (λ l. l.taken) same in (
        fed_by [] sends empty number-is within (none_taken r r' keeps) (rest-too ∙ sym (append-nil walk.lines.rest)) (omega (arith, taken-too)),
        end,
        ap next_line rest-too ∙ none,
      )

  fails_by : (most : ℕ) (bytes : List ℕ) → Consumes r r' bytes → AppendsSome w w' walk.out.items → walk.lines.taken + length bytes ≤ most → new.out.items ≡ [] → Fails most r0 w0 old r' w' new
  fails_by most bytes reads (sent, unsent, sends, parts) within empty = record {
    bytes = f.bytes ++ bytes;
    sent = f.sent ++ sent;
    unsent = unsent;
    reads = Consumes-trans r0 r r' f.bytes bytes f.reads reads;
    sends = Appends-trans w0 w w' f.sent sent f.sends sends;
    within = omega (arith, within, f.taken, length-append f.bytes bytes);
    parts = append_assoc f.sent sent unsent ∙ ap (λ xs. f.sent ++ xs) parts ∙ f.out;
    out = empty;
  }

  -- or the reader failed
  pub fails_read : {E : Type 0} (lines : Reading) (e : E) → lines ≡ walk.lines → Appends w w' walk.out.items → new.out.items ≡ [] → Fills r r' lines new.lines (Err e)
      → Fails (suc max_bytes) r0 w0 old r' w' new
  fails_read lines e same sends empty (bytes, reads, rest-is, taken-is, within) =
      fails_by (suc max_bytes) bytes reads (walk.out.items, [], sends, append-nil walk.out.items) (subst (λ l. l.taken + length bytes ≤ suc max_bytes) same within) empty

  -- or the writer, for which there was something
  pub fails_write : Keeps r r' → AppendsSome w w' walk.out.items → 0 < length walk.out.items → new.out.items ≡ [] → Fails max_bytes r0 w0 old r' w' new × (0 < length old.out.items)
  fails_write keeps sends some empty =
      (fails_by max_bytes [] (none_taken r r' keeps) sends (omega (arith, f.within)) empty, omega (arith, some, length-append f.sent walk.out.items, ap length f.out))
