-- How a run of a script ends: what its lines say, and what is written for them.
use Rattle.std.proofs.Common.{◌≡◌, ℕ, suc, ◌+◌, Bool, true, false, List, [], ◌∷◌, ◌++◌, refl, sym, ap, subst, ◌∙◌, arith, length, append-nil, Option, Some, None, is_some, Result, Ok, Err}
use Rattle.std.specs.Prelude.{IfSome, ⊤}
use Rattle.std.specs.Io.KnownBytes.{Consumes, Appends, IsAtEnd}
use Rattle.std.proofs.KnownBytes.{Consumes-nil, Consumes-whole, Appends-trans}
use Rattle.std.proofs.lemmas.List.{append_assoc}
use Rattle.dmc_tag.specs.Tag.{Tagging}
use Rattle.dmc_tag.specs.State.{State}
use Rattle.dmc_text.specs.declared.cause.LineCause.{LineCause}
use Rattle.dmc_text.specs.declared.cause.LineCause.TheVariants.{Hz}
use Rattle.dmc_text.specs.declared.script.ScriptFault.{ScriptFault}
use Rattle.dmc_text.specs.declared.script.ScriptFault.TheVariants as ends
use Rattle.dmc_text.specs.declared.walk.Walk.{Walk}
use Rattle.dmc_text.specs.Lines.{line_of}
use Rattle.dmc_text.specs.Reading.{max_bytes}
use Rattle.dmc_text.specs.Texts.{and_on, fault_or, has_config_after, lines_of, commands, written, first_fault, fault_of, whole_lines, out, AppendsSome, ReadsWithin, RunsPartly, RunsAs}
use Rattle.dmc_text.specs.internal.LineLaws.{whole_on}
use Rattle.dmc_text.specs.Walks.{GoesThrough, IsFault, Ending, Halt, EndsAs}
use Rattle.dmc_text.specs.internal.ScriptLines.{Answers}
use Rattle.dmc_text.specs.internal.Runs.{settled_of}

pub nothing_read : (r : Option (List ℕ)) → (read : List ℕ) × ReadsWithin max_bytes r r read
nothing_read r = ([], (Consumes-nil r, omega arith))

-- what holds of what was read, however it goes on, holds of the text
pub of_text : (input r : Option (List ℕ)) (read : List ℕ) → Consumes input r read → (P : List ℕ → Type 0) → ((more : List ℕ) → (IsAtEnd r → more ≡ []) → P (read ++ more)) → IfSome input P
of_text None r read h P f = tt
of_text (Some xs) None read h P f = absurd h
of_text (Some xs) (Some ys) read h P f = subst P (sym h) (f ys (λ end. end))

-- and of itself
pub of_read : (r : Option (List ℕ)) (read : List ℕ) (P : List ℕ → Type 0) → ((more : List ℕ) → (IsAtEnd r → more ≡ []) → P (read ++ more)) → P read
of_read r read P f = subst P (append-nil read) (f [] (λ end. refl))

-- a first part of what is pending is written
more_sent : (output w w' : Option (List ℕ)) (sent pending dropped bytes : List ℕ) → Appends output w sent → AppendsSome w w' pending → sent ++ (pending ++ dropped) ≡ bytes
    → AppendsSome output w' bytes
more_sent output w w' sent pending dropped bytes h (part, unsent, app, parts) e = (
  sent ++ part,
  unsent ++ dropped,
  Appends-trans output w w' sent part h app,
  append_assoc sent part (unsent ++ dropped) ∙ ap (λ o. sent ++ o) (sym (append_assoc part unsent dropped) ∙ ap (λ o. o ++ dropped) parts) ∙ e,
)

-- Each state of the walk has a state of the queue, once there is one, and the first has none.
module _ {T S : Type 0} (ops : Tagging T) (text : T → List ℕ) (seen : S → Option (State T)) where
  abbrev takes : S → List ℕ → List ℕ → S → Type 0
  takes s line answer t = Answers ops text (seen s) line answer (seen t)

  abbrev refuses : S → List ℕ → LineCause → Type 0
  refuses s line cause = line_of (is_some (seen s)) line ≡ Err cause

  abbrev has_config : S → Bool
  has_config s = is_some (seen s)

  -- what is written for lines from a state on
  abbrev rest_text : S → List (List ℕ) → List ℕ
  rest_text s lines = written ops text (seen s) (commands (has_config s) lines)

  -- behind lines that are not faulty, the first fault is that of the rest
  fault_behind : (s t : S) (lines more : List (List ℕ)) (answers : List ℕ) (n : ℕ) → GoesThrough takes s lines answers t
      → first_fault (has_config s) n (lines ++ more) ≡ first_fault (has_config t) (n + length lines) more
  fault_behind s t [] more answers n (same, none) =
      let number : n ≡ n + 0 = omega arith in
      ap (λ x. first_fault (has_config x) n more) (sym same) ∙ ap (λ k. first_fault (has_config t) k more) number
  fault_behind s t (line ∷ lines) more answers n (next, answer, others, a, g, parts) =
      let number : suc n + length lines ≡ n + suc (length lines) = omega arith in
      ap (λ o. fault_or n o (λ k. first_fault (has_config_after (has_config s) k) (suc n) (lines ++ more))) a.is_line
      ∙ ap (λ b. first_fault b (suc n) (lines ++ more)) (sym a.has_config)
      ∙ fault_behind next t lines more others (suc n) g
      ∙ ap (λ k. first_fault (has_config t) k more) number

  -- what is written for them, and then what is written for the rest
  text_behind : (s t : S) (lines more : List (List ℕ)) (answers : List ℕ) → GoesThrough takes s lines answers t → rest_text s (lines ++ more) ≡ answers ++ rest_text t more
  text_behind s t [] more answers (same, none) = ap (λ x. rest_text x more) (sym same) ∙ ap (λ w. w ++ rest_text t more) (sym none)
  text_behind s t (line ∷ lines) more answers (next, answer, others, a, g, parts) =
      ap (λ o. written ops text (seen s) (and_on o (λ k. commands (has_config_after (has_config s) k) (lines ++ more)))) a.is_line
      ∙ sym (a.rest (commands (has_config_after (has_config s) a.line) (lines ++ more)))
      ∙ ap (λ b. answer ++ written ops text (seen next) (commands b (lines ++ more))) (sym a.has_config)
      ∙ ap (λ w. answer ++ w) (text_behind next t lines more others g)
      ∙ sym (append_assoc answer others (rest_text t more))
      ∙ ap (λ w. w ++ rest_text t more) (sym parts)

  -- the fault of what is left is the first one, and nothing is written for it
  fault_left : (t : S) (n : ℕ) (others : List (List ℕ)) (fault : Option (ℕ × LineCause)) → IsFault refuses has_config t n others fault
      → (first_fault (has_config t) n others ≡ fault) × (rest_text t others ≡ [])
  fault_left t n [] None e = (ap (λ b. first_fault b n []) e, refl)
  fault_left t n [] (Some (m, cause)) (number, hz, e) = (ap (λ b. first_fault b n []) e ∙ ap (λ k. Some (k, Hz)) (sym number) ∙ ap (λ c. Some (m, c)) (sym hz), refl)
  fault_left t n (line ∷ others) None e = absurd e
  fault_left t n (line ∷ others) (Some (m, cause)) (number, e) = (
    ap (λ o. fault_or n o (λ k. first_fault (has_config_after (has_config t) k) (suc n) others)) e ∙ ap (λ k. Some (k, cause)) (sym number),
    ap (λ o. written ops text (seen t) (and_on o (λ k. commands (has_config_after (has_config t) k) others))) e,
  )

  module _ (first : S) (opens : seen first ≡ None) where
    -- what is written for a text that begins with these lines
    out_behind : (bytes : List ℕ) (lines others : List (List ℕ)) (answers : List ℕ) (t : S) → lines_of bytes ≡ lines ++ others → GoesThrough takes first lines answers t
        → out ops text bytes ≡ answers ++ rest_text t others
    out_behind bytes lines others answers t split g =
        ap (λ s. written ops text s (commands (is_some s) (lines_of bytes))) (sym opens) ∙ ap (rest_text first) split ∙ text_behind first t lines others answers g

    -- the fault of the text, and what is written for it
    abbrev Told : Option (ℕ × LineCause) → List ℕ → List ℕ → Type 0
    Told fault answers bytes = (fault_of bytes ≡ fault) × (out ops text bytes ≡ answers)

    module _ {input output r w : Option (List ℕ)} {last : S} {pending : List ℕ} where
      reported : {fault : Option (ℕ × LineCause)} (e : Ending takes refuses has_config fault first input output last r w pending) (more : List ℕ) → (IsAtEnd r → more ≡ [])
          → Told fault (e.sent ++ pending) (e.read ++ more)
      reported {fault} e more end =
          let (others, split, is_fault) = e.ends more end in
          let left = fault_left last (suc (length e.lines)) others fault is_fault in
          let number : 1 + length e.lines ≡ suc (length e.lines) = omega arith in (
            ap (λ s. first_fault (is_some s) 1 (lines_of (e.read ++ more))) (sym opens)
                ∙ ap (first_fault (has_config first) 1) split
                ∙ fault_behind first last e.lines others e.answers 1 e.goes
                ∙ ap (λ k. first_fault (has_config last) k others) number
                ∙ left.0,
            out_behind (e.read ++ more) e.lines others e.answers last split e.goes ∙ ap (λ w. e.answers ++ w) left.1 ∙ append-nil e.answers ∙ sym e.out,
          )

      writable_read : {fault : Option (ℕ × LineCause)} (e : Ending takes refuses has_config fault first input output last r w pending) → Told fault (e.sent ++ pending) e.read
      writable_read {fault} e = of_read r e.read (Told fault (e.sent ++ pending)) (reported e)

      -- what is pending is written
      all_sent : {fault : Option (ℕ × LineCause)} (w' : Option (List ℕ)) (e : Ending takes refuses has_config fault first input output last r w pending) (bytes : List ℕ)
          → Told fault (e.sent ++ pending) bytes → Appends w w' pending → (fault_of bytes ≡ fault) × Appends output w' (out ops text bytes)
      all_sent w' e bytes t app = (t.0, subst (Appends output w') (sym t.1) (Appends-trans output w w' e.sent pending e.sends app))

      -- or a first part of it
      some_sent : {fault : Option (ℕ × LineCause)} (w' : Option (List ℕ)) → Ending takes refuses has_config fault first input output last r w pending → AppendsSome w w' pending
          → RunsPartly ops text input r output w'
      some_sent w' e app =
          (e.read, e.reads, more_sent output w w' e.sent pending [] (out ops text e.read) e.sends app (ap (λ o. e.sent ++ o) (append-nil pending) ∙ sym (writable_read e).1))

    -- what is written for the lines that were taken, and for more
    halt_sent : {most : ℕ} {input output r w : Option (List ℕ)} {pending : List ℕ} (w' : Option (List ℕ)) (h : Halt takes most first input output r w pending) (more : List ℕ)
        → AppendsSome w w' pending → AppendsSome output w' (out ops text (h.done ++ more))
    halt_sent {output = output} {w = w} {pending = pending} w' h more app =
        let rest : List ℕ = rest_text h.last (lines_of more) in
        more_sent output w w' h.sent pending (h.dropped ++ rest) (out ops text (h.done ++ more)) h.sends app
        (ap (λ o. h.sent ++ o) (sym (append_assoc pending h.dropped rest))
        ∙ sym (append_assoc h.sent (pending ++ h.dropped) rest)
        ∙ ap (λ o. o ++ rest) h.out
        ∙ sym (out_behind (h.done ++ more) h.took.lines (lines_of more) h.took.answers h.last (h.took.split more) h.took.goes))

    pub runs_as : (input output r w w' : Option (List ℕ)) (last : S) (walk : Walk) (result : Result ⊤ ScriptFault) (b : Bool) → EndsAs takes refuses has_config first input output last r w walk result
        → (b ≡ true → Appends w w' walk.out.items) → AppendsSome w w' walk.out.items → RunsAs ops text input r output w' (settled_of result b)
    runs_as input output r w w' last walk (Ok x) true (end, e) all some =
        let sent = all_sent w' e e.read (writable_read e) (all refl) in
        (end, Consumes-whole input r e.read _ e.reads.0 end (e.reads.1, sent.0, sent.1))
    runs_as input output r w w' last walk (Ok x) false (end, e) all some = some_sent w' e some
    runs_as input output r w w' last walk (Err (ends.Line n cause)) true e all some =
        ((e.read, e.reads, (writable_read e).0), of_text input r e.read e.reads.0 _ (λ more end. all_sent w' e (e.read ++ more) (reported e more end) (all refl)))
    runs_as input output r w w' last walk (Err (ends.Line n cause)) false e all some = some_sent w' e some
    runs_as input output r w w' last walk (Err ends.Read) b h all some =
        (h.done ++ h.rest, h.reads, subst (λ i. AppendsSome output w' (out ops text i)) (sym (whole_on h.done h.rest h.took.whole)) (halt_sent w' h (whole_lines h.rest) some))
    runs_as input output r w w' last walk (Err ends.Write) b (h, answers) all some = (h.done ++ h.rest, h.reads, halt_sent w' h h.rest some)
    runs_as input output r w w' last walk (Err ends.Memory) b h all some = (h.done ++ h.rest, h.reads, halt_sent w' h h.rest some)
