-- How a check of an event text ends.
use Rattle.std.proofs.Common.{◌≡◌, ℕ, suc, ℤ, ◌+◌, ◌≤◌, Bool, true, List, [], ◌∷◌, ◌++◌, refl, sym, ap, subst, ◌∙◌, arith, length, append-nil, Option, Some, None, is_some, Result, Ok, Err}
use Rattle.std.specs.Prelude.{IfSome, OnOk}
use Rattle.std.specs.Io.KnownBytes.{Appends, Keeps, IsAtEnd}
use Rattle.std.proofs.KnownBytes.{Consumes-whole, Appends-trans, Appends-kept}
use Rattle.dmc_types.specs.Values.{Setting}
use Rattle.dmc_tag.specs.Tag.{Tagging}
use Rattle.dmc_tag.specs.declared.event.Event.{Event}
use Rattle.dmc_pull.specs.Queue.{state_of}
use Rattle.dmc_text.specs.declared.cause.LineCause.{LineCause}
use Rattle.dmc_text.specs.declared.cause.LineCause.TheVariants.{Hz}
use Rattle.dmc_text.specs.declared.script.ScriptFault.{ScriptFault}
use Rattle.dmc_text.specs.declared.script.ScriptFault.TheVariants as faults
use Rattle.dmc_text.specs.declared.walk.Walk.{Walk}
use Rattle.dmc_text.specs.declared.event_line.EventLine.TheVariants as event_lines
use Rattle.dmc_text.specs.Reading.{max_bytes}
use Rattle.dmc_text.specs.Walks.{GoesThrough, IsFault, Ending, Halt, EndsAs}
use Rattle.dmc_text.proofs.RunEnds.{of_text, of_read}
use Rattle.dmc_check.specs.declared.check.Verdict.{Verdict}
use Rattle.dmc_check.specs.declared.replay.Replay.{Replay}
use Rattle.dmc_check.specs.declared.text.Checking.{Checking}
use Rattle.dmc_check.specs.declared.text.Checked.{Checked}
use Rattle.dmc_check.specs.EventTexts.{Recorded, with_line, count_of, line_behind, or_fault, with_lines, record_of, verdict_text, HasVerdict, ChecksAs}
use Rattle.dmc_check.specs.internal.TextLines.{Holds, Follows, next_line}
use Rattle.dmc_check.specs.internal.Checking.{IsChecked, WritesVerdict}
use Rattle.dmc_check.specs.Verdicts.{RepresentsEvents, IsVerdict}
use Rattle.dmc_check.proofs.VerdictLemmas.{verdict_by}

-- what nothing is written to is kept
kept : (old new : Option (List ℕ)) → Appends old new [] → Keeps old new
kept None new h = tt
kept (Some xs) None h = h
kept (Some xs) (Some ys) h = h ∙ append-nil xs

-- of nothing a first part is nothing
nothing_sent : (output w : Option (List ℕ)) (sent others answers : List ℕ) → Appends output w sent → sent ++ others ≡ answers → answers ≡ [] → Appends output w []
nothing_sent output w [] others answers h e none = h
nothing_sent output w (x ∷ sent) others answers h e none = absurd (cc)

on_text : (input : Option (List ℕ)) (P Q : List ℕ → Type 0) → ((text : List ℕ) → P text → Q text) → IfSome input P → IfSome input Q
on_text None P Q f h = tt
on_text (Some text) P Q f h = f text h

module _ {T : Type 0} (ops : Tagging T) (made : ℤ → ℕ → Option T) where
  -- ---- events

  event_holds : (recorded : Option (Recorded T)) (old new : Replay T) (event : Event T)
      → ((config : Setting) (events : List (Event T)) → RepresentsEvents ops config events old → RepresentsEvents ops config (events ++ event ∷ []) new)
      → Holds ops recorded (Some old) → Holds ops (with_line recorded (event_lines.Event event)) (Some new)
  event_holds None old new event f h = absurd h
  event_holds (Some r) old new event f h = f r.config r.events h

  -- an event is replayed
  pub event_on : {X E : Type 0} (result : Result X E) (old new : Replay T) (event : Event T)
      → ((config : Setting) (events : List (Event T)) → RepresentsEvents ops config events old → OnOk result (RepresentsEvents ops config (events ++ event ∷ []) new))
      → OnOk result ((recorded : Option (Recorded T)) → Holds ops recorded (Some old) → Holds ops (with_line recorded (event_lines.Event event)) (Some new))
  event_on (Ok x) old new event f = λ recorded h. event_holds recorded old new event f h
  event_on (Err e) old new event f = tt

  -- before the hz line nothing is replayed
  pub none_begun : (event : Event T) (recorded : Option (Recorded T)) → Holds ops recorded None → Holds ops (with_line recorded (event_lines.Event event)) None
  none_begun event None h = tt
  none_begun event (Some r) h = absurd h

  -- ---- lines

  abbrev takes : Checking T → List ℕ → List ℕ → Checking T → Type 0
  takes s line answer t = Follows ops made s.replay line answer t.replay

  abbrev refuses : Checking T → List ℕ → LineCause → Type 0
  refuses s line cause = next_line made s.replay line ≡ Err cause

  abbrev has_config : Checking T → Bool
  has_config s = is_some s.replay

  -- what holds says whether an hz line was read
  same_head : (recorded : Option (Recorded T)) (replay : Option (Replay T)) → Holds ops recorded replay → is_some recorded ≡ is_some replay
  same_head None None h = refl
  same_head None (Some replay) h = absurd h
  same_head (Some r) None h = absurd h
  same_head (Some r) (Some replay) h = refl

  -- and how many events were replayed
  same_line : (recorded : Option (Recorded T)) (replay : Option (Replay T)) (line : List ℕ) → Holds ops recorded replay → line_behind made (is_some recorded) (count_of recorded) line ≡ next_line made replay line
  same_line None None line h = refl
  same_line None (Some replay) line h = absurd h
  same_line (Some r) None line h = absurd h
  same_line (Some r) (Some replay) line h = ap (λ n. line_behind made true n line) (sym h.count)

  -- lines that are not faulty are recorded, and the rest goes on from there
  record Behind (recorded : Option (Recorded T)) (n : ℕ) (lines : List (List ℕ)) (answers : List ℕ) (t : Checking T) : Type 0 where
    pub after : Option (Recorded T)
    pub holds : Holds ops after t.replay
    pub goes_on : (more : List (List ℕ)) → with_lines made recorded n (lines ++ more) ≡ with_lines made after (n + length lines) more
    pub silent : answers ≡ []

  behind : (recorded : Option (Recorded T)) (n : ℕ) (s t : Checking T) (lines : List (List ℕ)) (answers : List ℕ) → GoesThrough takes s lines answers t → Holds ops recorded s.replay
      → Behind recorded n lines answers t
  behind recorded n s t [] answers (same, none) h =
      let number : n ≡ n + 0 = omega arith in
      record {
        after = recorded;
        holds = subst (λ x. Holds ops recorded x.replay) (sym same) h;
        goes_on = λ more. ap (λ k. with_lines made recorded k more) number;
        silent = none;
      }
  behind recorded n s t (line ∷ lines) answers (next, answer, others, f, g, parts) h =
      let number : suc n + length lines ≡ n + suc (length lines) = omega arith in
      let says : line_behind made (is_some recorded) (count_of recorded) line ≡ Ok f.line = same_line recorded s.replay line h ∙ f.is_line in
      let b = behind (with_line recorded f.line) (suc n) next t lines others g (f.holds recorded h) in
      record {
        after = b.after;
        holds = b.holds;
        goes_on = λ more.
            ap (λ o. or_fault n o (λ k. with_lines made (with_line recorded k) (suc n) (lines ++ more))) says
            ∙ b.goes_on more
            ∙ ap (λ k. with_lines made b.after k more) number;
        silent = parts ∙ ap (λ w. w ++ others) f.silent ∙ b.silent;
      }

  -- what is found in a text that ends with this fault
  abbrev Found : Option (ℕ × LineCause) → Checking T → Result (Recorded T) (ℕ × LineCause) → Type 0
  Found None t (Ok recorded) = Holds ops (Some recorded) t.replay
  Found None t (Err fault) = ⊥
  Found (Some fault) t found = found ≡ Err fault

  found_left : (after : Option (Recorded T)) (n : ℕ) (t : Checking T) (others : List (List ℕ)) (fault : Option (ℕ × LineCause)) → Holds ops after t.replay → IsFault refuses has_config t n others fault
      → Found fault t (with_lines made after n others)
  found_left None n t [] None h e = absurd (let none = same_head None t.replay h ∙ e in cc)
  found_left (Some r) n t [] None h e = h
  found_left None n t [] (Some (m, cause)) h (number, hz, e) = ap (λ k. Err (k, Hz)) (sym number) ∙ ap (λ c. Err (m, c)) (sym hz)
  found_left (Some r) n t [] (Some (m, cause)) h (number, hz, e) = absurd (let some = same_head (Some r) t.replay h ∙ e in cc)
  found_left after n t (line ∷ others) None h e = absurd e
  found_left after n t (line ∷ others) (Some (m, cause)) h (number, e) =
      ap (λ o. or_fault n o (λ k. with_lines made (with_line after k) (suc n) others)) (same_line after t.replay line h ∙ e)
      ∙ ap (λ k. Err (k, cause)) (sym number)

  -- ---- the verdict

  verdict_in : (text : List ℕ) (replay : Option (Replay T)) (recorded : Recorded T) (checked : Checked) → record_of made text ≡ Ok recorded → length text ≤ max_bytes
      → Holds ops (Some recorded) replay
      → IsChecked replay checked → HasVerdict ops made text checked.verdict checked.events
  verdict_in text None recorded checked e within h is = absurd h
  verdict_in text (Some replay) recorded checked e within h is = record {
    within = within;
    recorded = recorded;
    says = e;
    is_verdict = subst (IsVerdict ops recorded.config recorded.events) (sym is.0) (verdict_by ops recorded.config recorded.events (state_of replay.queue) replay.difference h.so_far);
    counts = is.1 ∙ h.count;
  }

  has_verdict : (text : List ℕ) (t : Checking T) (found : Result (Recorded T) (ℕ × LineCause)) (checked : Checked) → record_of made text ≡ found → length text ≤ max_bytes → Found None t found
      → IsChecked t.replay checked → HasVerdict ops made text checked.verdict checked.events
  has_verdict text t (Err fault) checked e within h is = absurd h
  has_verdict text t (Ok recorded) checked e within h is = verdict_in text t.replay recorded checked e within h is

  -- ---- texts

  module _ (first : Checking T) (opens : Holds ops None first.replay) where
    module _ {input output r w : Option (List ℕ)} {last : Checking T} {pending : List ℕ} where
      found : {fault : Option (ℕ × LineCause)} (e : Ending takes refuses has_config fault first input output last r w pending) (more : List ℕ) → (IsAtEnd r → more ≡ [])
          → Found fault last (record_of made (e.read ++ more))
      found {fault} e more end =
          let (others, split, is_fault) = e.ends more end in
          let b = behind None 1 first last e.lines e.answers e.goes opens in
          let number : 1 + length e.lines ≡ suc (length e.lines) = omega arith in
          subst (Found fault last) (sym (ap (with_lines made None 1) split ∙ b.goes_on others ∙ ap (λ k. with_lines made b.after k others) number))
          (found_left b.after (suc (length e.lines)) last others fault b.holds is_fault)

      found_read : {fault : Option (ℕ × LineCause)} (e : Ending takes refuses has_config fault first input output last r w pending) → Found fault last (record_of made e.read)
      found_read {fault} e = of_read r e.read (λ text. Found fault last (record_of made text)) (found e)

      ended_silent : {fault : Option (ℕ × LineCause)} → Ending takes refuses has_config fault first input output last r w pending → Appends output w []
      ended_silent e = nothing_sent output w e.sent pending e.answers e.sends e.out (behind None 1 first last e.lines e.answers e.goes opens).silent

      text_verdict : (checked : Checked) → Ending takes refuses has_config None first input output last r w pending → IsAtEnd r → IsChecked last.replay checked
          → IfSome input (λ text. HasVerdict ops made text checked.verdict checked.events)
      text_verdict checked e end is = Consumes-whole input r e.read _ e.reads.0 end (has_verdict e.read last (record_of made e.read) checked refl e.reads.1 (found_read e) is)

      -- a text without a fault has an hz line
      pub text_has_config : Ending takes refuses has_config None first input output last r w pending → is_some last.replay ≡ true
      text_has_config e = by_found (record_of made e.read) last.replay (found_read e)
        where
          by_found : (found : Result (Recorded T) (ℕ × LineCause)) (replay : Option (Replay T)) → Found None (record { replay = replay }) found → is_some replay ≡ true
          by_found (Ok recorded) None h = absurd h
          by_found (Ok recorded) (Some replay) h = refl
          by_found (Err fault) replay h = absurd h

    halt_silent : {most : ℕ} {input output r w : Option (List ℕ)} {pending : List ℕ} (h : Halt takes most first input output r w pending) → (h.took.answers ≡ []) × Keeps output w
    halt_silent {output = output} {w = w} {pending = pending} h =
        let none = (behind None 1 first h.last h.took.lines h.took.answers h.took.goes opens).silent in
        (none, kept output w (nothing_sent output w h.sent (pending ++ h.dropped) h.took.answers h.sends h.out none))

    module _ (input output r w : Option (List ℕ)) (last : Checking T) (walk : Walk) where
      -- the walk failed
      pub ends_early : (fault : ScriptFault) → EndsAs takes refuses has_config first input output last r w walk (Err fault) → ChecksAs ops made input r output w (Err fault)
      ends_early (faults.Line n cause) e = ((e.read, e.reads, found_read e), of_text input r e.read e.reads.0 (λ text. record_of made text ≡ Err (n, cause)) (found e), kept output w (ended_silent e))
      ends_early faults.Read h = ((h.done ++ h.rest, h.reads), (halt_silent h).1)
      ends_early faults.Memory h = ((h.done ++ h.rest, h.reads), (halt_silent h).1)
      ends_early faults.Write (h, some) = absurd (omega (arith, some, ap length (halt_silent h).0))

      -- the walk came to the end, and then the verdict is written
      pub checks_as : (w' : Option (List ℕ)) (checked : Checked) (result : Result Verdict ScriptFault) → EndsAs takes refuses has_config first input output last r w walk (Ok tt)
          → IsChecked last.replay checked → WritesVerdict w w' checked result → ChecksAs ops made input r output w' result
      checks_as w' checked (Ok v) (end, e) is (same, app) =
          let writes : Appends output w' (verdict_text checked.verdict checked.events) = Appends-trans output w w' [] _ (ended_silent e) app in
          subst (λ x. ChecksAs ops made input r output w' (Ok x)) (sym same) (end, on_text input _ _ (λ text h. (checked.events, h, writes)) (text_verdict checked e end is))
      checks_as w' checked (Err faults.Write) (end, e) is (sent, unsent, app, parts) =
          let writes : Appends output w' sent = Appends-trans output w w' [] sent (ended_silent e) app in
          (end, on_text input _ _ (λ text h. (checked.verdict, checked.events, h, (sent, unsent, writes, parts))) (text_verdict checked e end is))
      checks_as w' checked (Err faults.Memory) (end, e) is keeps = ((e.read, e.reads), kept output w' (Appends-kept output w w' [] (ended_silent e) keeps))
      checks_as w' checked (Err faults.Read) e is never = absurd never
      checks_as w' checked (Err (faults.Line n cause)) e is never = absurd never
