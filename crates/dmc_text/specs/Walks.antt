-- The loop over the lines of a text.
use Rattle.std.specs.Prelude.{◌≡◌, ◌⊎◌, ℕ, suc, ◌+◌, ◌<◌, ◌≤◌, length, Bool, true, false, List, [], ◌∷◌, ◌++◌, Option, Some, None, Result, Ok, Err, ⊤}
use Rattle.std.specs.Io.KnownBytes.{Consumes, Appends, IsAtEnd}
use Rattle.dmc_types.specs.Limits.{max_line_bytes}
use Rattle.dmc_text.specs.declared.cause.LineCause.{LineCause}
use Rattle.dmc_text.specs.declared.cause.LineCause.TheVariants.{Hz, Bytes}
use Rattle.dmc_text.specs.declared.script.ScriptFault.{ScriptFault}
use Rattle.dmc_text.specs.declared.script.ScriptFault.TheVariants as faults
use Rattle.dmc_text.specs.declared.walk.Walk.{Walk}
use Rattle.dmc_text.specs.Reading.{max_bytes, next_line}
use Rattle.dmc_text.specs.Texts.{lines_of, whole_lines, ReadsWithin}

-- In each of these, takes relates a state, a line, what is to be written for it and the next state; refuses says for which cause
-- a line is faulty; and has_config whether an hz line was taken.

-- ---- lines

-- from one state to another by these lines, and what is to be written for them
abbrev pub GoesThrough : {S : Type 0} → (takes : S → List ℕ → List ℕ → S → Type 0) → S → List (List ℕ) → List ℕ → S → Type 0
GoesThrough takes s [] answers t = (t ≡ s) × (answers ≡ [])
GoesThrough {S} takes s (line ∷ lines) answers t =
    (next : S) × (answer : List ℕ) × (others : List ℕ) × takes s line answer next × GoesThrough takes next lines others t × (answers ≡ answer ++ others)

-- these bytes are whole lines, which were taken, and what is to be written for them
pub record TakesWhole {S : Type 0} (takes : S → List ℕ → List ℕ → S → Type 0) (s : S) (bytes : List ℕ) (t : S) : Type 0 where
  pub lines : List (List ℕ)
  pub answers : List ℕ
  pub goes : GoesThrough takes s lines answers t
  pub split : (more : List ℕ) → lines_of (bytes ++ more) ≡ lines ++ lines_of more
  pub whole : whole_lines bytes ≡ bytes

-- what is left of the bytes: all, or nothing
abbrev pub IsCut : List ℕ → List ℕ → Type 0
IsCut old new = (new ≡ old) ⊎ (new ≡ [])

-- A line is taken, and what is to be written for it is added. Or it is faulty, and all stays. Or an allocation failed, and what
-- was to be written stays or is dropped.
abbrev pub IsAnswer : {S E : Type 0} → (takes : S → List ℕ → List ℕ → S → Type 0) → (refuses : S → List ℕ → LineCause → Type 0)
    → S → List ℕ → S → (old new : List ℕ) → Result (Option LineCause) E → Type 0
IsAnswer takes refuses s line t old new (Ok None) = (answer : List ℕ) × takes s line answer t × (new ≡ old ++ answer)
IsAnswer takes refuses s line t old new (Ok (Some cause)) = refuses s line cause × (t ≡ s) × (new ≡ old)
IsAnswer takes refuses s line t old new (Err e) = IsCut old new

-- ---- the steps of a walk

-- a walk that has read nothing yet
pub record Starts (walk : Walk) : Type 0 where
  pub number : walk.number ≡ 1
  pub out : walk.out.items ≡ []
  pub rest : walk.lines.rest ≡ []
  pub taken : walk.lines.taken ≡ 0

-- bytes are read after what was read, and of what was to be written a first part is written
pub record Feeds (r w : Option (List ℕ)) (old : Walk) (r' w' : Option (List ℕ)) (new : Walk) : Type 0 where
  pub bytes : List ℕ
  pub sent : List ℕ
  pub reads : Consumes r r' bytes
  pub sends : Appends w w' sent
  pub rest : new.lines.rest ≡ old.lines.rest ++ bytes
  pub taken : new.lines.taken ≡ old.lines.taken + length bytes
  pub within : new.lines.taken ≤ max_bytes
  pub out : sent ++ new.out.items ≡ old.out.items
  pub number : new.number ≡ old.number

-- as before, and then the reader or the writer failed
pub record Fails (most : ℕ) (r w : Option (List ℕ)) (old : Walk) (r' w' : Option (List ℕ)) (new : Walk) : Type 0 where
  pub bytes : List ℕ
  pub sent : List ℕ
  pub unsent : List ℕ
  pub reads : Consumes r r' bytes
  pub sends : Appends w w' sent
  pub within : old.lines.taken + length bytes ≤ most
  pub parts : sent ++ unsent ≡ old.out.items
  pub out : new.out.items ≡ []

-- the next whole line is found in what has been read by then
pub record FindsLine (r w : Option (List ℕ)) (old : Walk) (r' w' : Option (List ℕ)) (new : Walk) : Type 0 where
  pub between : Walk
  pub feeds : Feeds r w old r' w' between
  pub found : next_line between.lines.rest ≡ Some (new.lines.line, new.lines.rest)
  pub taken : new.lines.taken ≡ between.lines.taken
  pub out : new.out.items ≡ between.out.items
  pub number : new.number ≡ between.number

-- or there is none up to the end of the text, or the one that begins is too long
abbrev pub Finds : (r w : Option (List ℕ)) → Walk → (r' w' : Option (List ℕ)) → Walk → Result Bool ScriptFault → Type 0
Finds r w old r' w' new (Ok true) = FindsLine r w old r' w' new
Finds r w old r' w' new (Ok false) = Feeds r w old r' w' new × IsAtEnd r' × (next_line new.lines.rest ≡ None)
Finds r w old r' w' new (Err (faults.Line n cause)) =
    Feeds r w old r' w' new × (next_line new.lines.rest ≡ None) × (max_line_bytes < length new.lines.rest) × (n ≡ new.number) × (cause ≡ Bytes)
Finds r w old r' w' new (Err faults.Read) = Fails (suc max_bytes) r w old r' w' new
Finds r w old r' w' new (Err faults.Write) = Fails max_bytes r w old r' w' new × (0 < length old.out.items)
Finds r w old r' w' new (Err faults.Memory) = ⊥

-- ---- whole texts

-- What is left after the lines that were taken, from number n on, has this fault: nothing is left, or the next line is faulty.
abbrev pub IsFault : {S : Type 0} → (refuses : S → List ℕ → LineCause → Type 0) → (has_config : S → Bool) → S → ℕ → List (List ℕ) → Option (ℕ × LineCause) → Type 0
IsFault refuses has_config t n [] None = has_config t ≡ true
IsFault refuses has_config t n [] (Some (m, cause)) = (m ≡ n) × (cause ≡ Hz) × (has_config t ≡ false)
IsFault refuses has_config t n (line ∷ lines) None = ⊥
IsFault refuses has_config t n (line ∷ lines) (Some (m, cause)) = (m ≡ n) × refuses t line cause

-- All lines were taken, or those before the first faulty one. What is to be written for them is written or pending. The same
-- holds of what was read, whatever follows it, if the reader is not at its end.
pub record Ending {S : Type 0} (takes : S → List ℕ → List ℕ → S → Type 0) (refuses : S → List ℕ → LineCause → Type 0) (has_config : S → Bool) (fault : Option (ℕ × LineCause))
    (first : S) (input output : Option (List ℕ)) (last : S) (before after : Option (List ℕ)) (pending : List ℕ) : Type 0 where
  pub read : List ℕ
  pub lines : List (List ℕ)
  pub answers : List ℕ
  pub sent : List ℕ
  pub goes : GoesThrough takes first lines answers last
  pub reads : ReadsWithin max_bytes input before read
  pub sends : Appends output after sent
  pub out : sent ++ pending ≡ answers
  pub ends : (more : List ℕ) → (IsAtEnd before → more ≡ []) →
      (others : List (List ℕ)) × (lines_of (read ++ more) ≡ lines ++ others) × IsFault refuses has_config last (suc (length lines)) others fault

-- Of what was read, at most this many bytes, whole lines were taken. Of what is to be written for them a first part is written,
-- and the next one is pending.
pub record Halt {S : Type 0} (takes : S → List ℕ → List ℕ → S → Type 0) (most : ℕ) (first : S) (input output before after : Option (List ℕ)) (pending : List ℕ) : Type 0 where
  pub done : List ℕ
  pub rest : List ℕ
  pub last : S
  pub took : TakesWhole takes first done last
  pub sent : List ℕ
  pub dropped : List ℕ
  pub reads : ReadsWithin most input before (done ++ rest)
  pub sends : Appends output after sent
  pub out : sent ++ (pending ++ dropped) ≡ took.answers

-- The result of a walk. Read: the reader failed, or the text has more than the most bytes, which one more byte shows. Write: the
-- writer failed, so there was something to be written.
abbrev pub EndsAs : {S : Type 0} → (takes : S → List ℕ → List ℕ → S → Type 0) → (refuses : S → List ℕ → LineCause → Type 0) → (has_config : S → Bool)
    → S → (input output : Option (List ℕ)) → S → (before after : Option (List ℕ)) → Walk → Result ⊤ ScriptFault → Type 0
EndsAs takes refuses has_config s input output t before after walk (Ok x) = IsAtEnd before × Ending takes refuses has_config None s input output t before after walk.out.items
EndsAs takes refuses has_config s input output t before after walk (Err (faults.Line n cause)) = Ending takes refuses has_config (Some (n, cause)) s input output t before after walk.out.items
EndsAs takes refuses has_config s input output t before after walk (Err faults.Read) = Halt takes (suc max_bytes) s input output before after walk.out.items
EndsAs takes refuses has_config s input output t before after walk (Err faults.Write) =
    (halt : Halt takes max_bytes s input output before after walk.out.items) × (0 < length halt.took.answers)
EndsAs takes refuses has_config s input output t before after walk (Err faults.Memory) = Halt takes max_bytes s input output before after walk.out.items
