-- A walk over the lines of a text: what its steps keep, and how it ends.
use Rattle.std.proofs.Common.{◌≡◌, ℕ, suc, ◌+◌, ◌-◌, ◌*◌, ◌<◌, ◌≤◌, Bool, true, false, List, [], ◌∷◌, ◌++◌, refl, sym, ap, subst, ◌∙◌, arith, length, length-append, append-nil, Option, Some, None, Result, Ok, Err, inl, inr}
use Rattle.std.specs.Prelude.{⊤}
use Rattle.std.specs.Io.KnownBytes.{Consumes, Appends, IsAtEnd}
use Rattle.std.proofs.KnownBytes.{Consumes-nil, Consumes-trans, Appends-nil, Appends-trans}
use Rattle.std.proofs.lemmas.List.{append_assoc}
use Rattle.dmc_types.specs.Limits.{max_line_bytes}
use Rattle.dmc_text.specs.declared.cause.LineCause.{LineCause}
use Rattle.dmc_text.specs.declared.cause.LineCause.TheVariants.{Bytes, Hz}
use Rattle.dmc_text.specs.declared.script.ScriptFault.{ScriptFault}
use Rattle.dmc_text.specs.declared.script.ScriptFault.TheVariants as faults
use Rattle.dmc_text.specs.declared.walk.Walk.{Walk}
use Rattle.dmc_text.specs.Reading.{Reading, max_bytes, next_line}
use Rattle.dmc_text.specs.Texts.{lines_of, has_end}
use Rattle.dmc_text.specs.Walks.{GoesThrough, TakesWhole, IsCut, Starts, Feeds, Fails, Finds, FindsLine, IsFault, Ending, Halt, EndsAs}
use Rattle.dmc_text.specs.internal.Walks.{TakesLine, Takes, TakesRest, TakesLast, end_result}
use Rattle.dmc_text.specs.internal.LineLaws.{first_line, no_line, line_first, lines_behind, leads, last_line, whole_on, ends_whole, behind_line, line_and_more, shorter}

-- how much is left to do at most: what may still be read counts twice, and what is read and not yet returned once
abbrev pub work_left : Walk → ℕ
work_left walk = 2 * (max_bytes - walk.lines.taken) + length walk.lines.rest

-- Whole lines are taken, from the first state on. What is to be written for them is written, or is left to be.
pub record Progress {S : Type 0} (takes : S → List ℕ → List ℕ → S → Type 0) (first : S) (input output r w : Option (List ℕ)) (walk : Walk) (s : S) : Type 0 where
  pub done : List ℕ
  pub took : TakesWhole takes first done s
  pub sent : List ℕ
  pub reads : Consumes input r (done ++ walk.lines.rest)
  pub taken : length (done ++ walk.lines.rest) ≡ walk.lines.taken
  pub within : walk.lines.taken ≤ max_bytes
  pub sends : Appends output w sent
  pub out : sent ++ walk.out.items ≡ took.answers
  pub number : walk.number ≡ suc (length took.lines)
  pub counted : walk.number + length walk.lines.rest ≤ walk.lines.taken + 1

-- less is left to do once a line is taken
pub less_left : {S : Type 0} {takes : S → List ℕ → List ℕ → S → Type 0} {s t : S} {r w r' w' : Option (List ℕ)} {old found new : Walk} → FindsLine r w old r' w' found → TakesLine takes s found t new
    → work_left new < work_left old
less_left {found = found} f k =
    let less = shorter f.between.lines.rest found.lines f.found in
    let fed-is = ap length f.feeds.rest ∙ length-append _ f.feeds.bytes in
    omega (arith, f.feeds.within, f.feeds.taken, f.taken, less, fed-is, ap (λ x. length x.rest) k.lines, ap (λ x. x.taken) k.lines)

module _ {S : Type 0} (takes : S → List ℕ → List ℕ → S → Type 0) where
  -- ---- lines

  -- these lines, and then those
  goes_both : (s m t : S) (lines more : List (List ℕ)) (answers others : List ℕ) → GoesThrough takes s lines answers m → GoesThrough takes m more others t
      → GoesThrough takes s (lines ++ more) (answers ++ others) t
  goes_both s m t [] more answers others (same, none) g =
      subst (λ x. GoesThrough takes x more (answers ++ others) t) same (subst (λ w. GoesThrough takes m more (w ++ others) t) (sym none) g)
  goes_both s m t (line ∷ lines) more answers others (next, answer, rest, took, g, parts) h =
      (next, answer, rest ++ others, took, goes_both next m t lines more rest others g h, ap (λ w. w ++ others) parts ∙ append_assoc answer rest others)

  goes_one : (s t : S) (line answer : List ℕ) → takes s line answer t → GoesThrough takes s (line ∷ []) answer t
  goes_one s t line answer took = (t, answer, [], took, (refl, refl), sym (append-nil answer))

  -- the last line is taken as any other
  pub last_taken : (refuses : S → List ℕ → LineCause → Type 0) (s t : S) (old new : Walk) (l : Reading) (result : Result ⊤ ScriptFault) → next_line old.lines.rest ≡ None → 0 < length old.lines.rest
      → l.line ≡ old.lines.rest → Takes takes refuses s (record old { lines = l }) t new result → TakesLast takes refuses s old t new result
  last_taken refuses s t old new l (Ok x) none some line-is k =
      let one : lines_of old.lines.rest ≡ old.lines.rest ∷ [] = last_line old.lines.rest none some in
      record {
        answers = k.answer;
        goes = subst (λ ls. GoesThrough takes s ls k.answer t) (sym one) (goes_one s t old.lines.rest k.answer (subst (λ line. takes s line k.answer t) line-is k.is_taken));
        out = k.out;
        number = omega (arith, k.number, ap length one);
      }
  last_taken refuses s t old new l (Err (faults.Line n cause)) none some line-is (refused, number, same, out) =
      (last_line old.lines.rest none some, subst (λ line. refuses s line cause) line-is refused, number, same, out)
  last_taken refuses s t old new l (Err faults.Memory) none some line-is cut = cut
  last_taken refuses s t old new l (Err faults.Read) none some line-is never = never
  last_taken refuses s t old new l (Err faults.Write) none some line-is never = never

-- one more whole line
abbrev takes_next : {S : Type 0} {takes : S → List ℕ → List ℕ → S → Type 0} {first s t : S} {done line answer : List ℕ} (k : TakesWhole takes first done s) → has_end line ≡ false
    → takes s line answer t → TakesWhole takes first (done ++ (line ++ 10 ∷ [])) t
takes_next {takes = takes} {first} {s} {t} {done} {line} {answer} k plain took = record {
  lines = k.lines ++ line ∷ [];
  answers = k.answers ++ answer;
  goes = goes_both takes first s t k.lines (line ∷ []) k.answers answer k.goes (goes_one takes s t line answer took);
  split = λ more.
      ap lines_of (sym (behind_line done line more))
      ∙ k.split (line ++ (10 ∷ more))
      ∙ ap (λ ls. k.lines ++ ls) (line_first line more plain)
      ∙ sym (append_assoc k.lines (line ∷ []) (lines_of more));
  whole = whole_on done (line ++ 10 ∷ []) k.whole ∙ ap (λ w. done ++ w) (ends_whole line);
}

-- ---- progress

pub begins : {S : Type 0} (takes : S → List ℕ → List ℕ → S → Type 0) (s : S) (r w : Option (List ℕ)) (walk : Walk) → Starts walk → Progress takes s r w r w walk s
begins takes s r w walk h =
    let none : length walk.lines.rest ≡ 0 = ap length h.rest in
    record {
      done = [];
      took = record { lines = []; answers = []; goes = (refl, refl); split = λ more. refl; whole = refl };
      sent = [];
      reads = subst (Consumes r r) (sym h.rest) (Consumes-nil r);
      taken = none ∙ sym h.taken;
      within = omega (arith, h.taken);
      sends = Appends-nil w;
      out = h.out;
      number = h.number;
      counted = omega (arith, h.number, h.taken, none);
    }

-- the line that begins is too long
too_long : {S : Type 0} (refuses : S → List ℕ → LineCause → Type 0) (long : (s : S) (line : List ℕ) → max_line_bytes < length line → refuses s line Bytes) (s : S) (rest more : List ℕ)
    → next_line rest ≡ None → max_line_bytes < length rest → (line : List ℕ) × (others : List (List ℕ)) × (lines_of (rest ++ more) ≡ line ∷ others) × refuses s line Bytes
too_long refuses long s [] more none h = absurd (omega (arith, h))
too_long refuses long s (b ∷ bs) more none h =
    let l = leads b bs (lines_of more) in
    (l.line, l.others, lines_behind (b ∷ bs) more (no_line (b ∷ bs) none) ∙ l.split, long s l.line (omega (arith, h, l.long)))

module _ {S : Type 0} {takes : S → List ℕ → List ℕ → S → Type 0} {first : S} {input output : Option (List ℕ)} where
  -- more is read
  pub fed : {s : S} {r w r' w' : Option (List ℕ)} {old new : Walk} → Progress takes first input output r w old s → Feeds r w old r' w' new → Progress takes first input output r' w' new s
  fed {s} {r} {w} {r'} {w'} {old} {new} p f =
      let all-is : (p.done ++ old.lines.rest) ++ f.bytes ≡ p.done ++ new.lines.rest = append_assoc p.done old.lines.rest f.bytes ∙ ap (λ w. p.done ++ w) (sym f.rest) in
      let len-is : length new.lines.rest ≡ length old.lines.rest + length f.bytes = ap length f.rest ∙ length-append old.lines.rest f.bytes in
      record {
        done = p.done;
        took = p.took;
        sent = p.sent ++ f.sent;
        reads = subst (Consumes input r') all-is (Consumes-trans input r r' (p.done ++ old.lines.rest) f.bytes p.reads f.reads);
        taken = ap length (sym all-is) ∙ length-append (p.done ++ old.lines.rest) f.bytes ∙ ap (λ k. k + length f.bytes) p.taken ∙ sym f.taken;
        within = f.within;
        sends = Appends-trans output w w' p.sent f.sent p.sends f.sends;
        out = append_assoc p.sent f.sent new.out.items ∙ ap (λ o. p.sent ++ o) f.out ∙ p.out;
        number = f.number ∙ p.number;
        counted = omega (arith, p.counted, f.taken, f.number, len-is);
      }

  -- the next line is found and taken
  pub took : {s t : S} {r w r' w' : Option (List ℕ)} {old found new : Walk} → Progress takes first input output r w old s → FindsLine r w old r' w' found → TakesLine takes s found t new
      → Progress takes first input output r' w' new t
  took {s} {t} {r} {w} {r'} {w'} {old} {found} {new} before f k =
      let p = fed before f.feeds in
      let line : List ℕ = found.lines.line in
      let l = first_line f.between.lines.rest line found.lines.rest f.found in
      let less = shorter f.between.lines.rest found.lines f.found in
      let rest-is : p.done ++ f.between.lines.rest ≡ (p.done ++ (line ++ 10 ∷ [])) ++ new.lines.rest =
      ap (λ w. p.done ++ w) l.whole ∙ behind_line p.done line found.lines.rest ∙ ap (λ x. (p.done ++ (line ++ 10 ∷ [])) ++ x.rest) (sym k.lines) in
      let len-is : length new.lines.rest ≡ length found.lines.rest = ap (λ x. length x.rest) k.lines in
      let taken-is : new.lines.taken ≡ f.between.lines.taken = ap (λ x. x.taken) k.lines ∙ f.taken in
      record {
        done = p.done ++ (line ++ 10 ∷ []);
        took = takes_next p.took l.plain k.is_taken;
        sent = p.sent;
        reads = subst (Consumes input r') rest-is p.reads;
        taken = ap length (sym rest-is) ∙ p.taken ∙ sym taken-is;
        within = omega (arith, p.within, taken-is);
        sends = p.sends;
        out = ap (λ o. p.sent ++ o) (k.out ∙ ap (λ o. o ++ k.answer) f.out) ∙ sym (append_assoc p.sent f.between.out.items k.answer) ∙ ap (λ w. w ++ k.answer) p.out;
        number = omega (arith, k.number, f.number, p.number, length-append p.took.lines (line ∷ []));
        counted = omega (arith, p.counted, k.number, f.number, less, len-is, taken-is);
      }

  -- ---- halts

  -- of what was to be written a part is written, and then no more is taken
  halts : {s : S} {r w r' w' : Option (List ℕ)} {old : Walk} (most : ℕ) (pending bytes sent dropped : List ℕ) (p : Progress takes first input output r w old s) → Consumes r r' bytes
      → Appends w w' sent → old.lines.taken + length bytes ≤ most → sent ++ (pending ++ dropped) ≡ old.out.items
      → (halt : Halt takes most first input output r' w' pending) × (length halt.took.answers ≡ length p.sent + length old.out.items)
  halts {s} {r} {w} {r'} {w'} {old} most pending bytes sent dropped p reads sends within parts =
      let all-is : (p.done ++ old.lines.rest) ++ bytes ≡ p.done ++ (old.lines.rest ++ bytes) = append_assoc p.done old.lines.rest bytes in
      let len-is : length (p.done ++ (old.lines.rest ++ bytes)) ≡ old.lines.taken + length bytes =
      ap length (sym all-is) ∙ length-append (p.done ++ old.lines.rest) bytes ∙ ap (λ k. k + length bytes) p.taken in (
        record {
          done = p.done;
          rest = old.lines.rest ++ bytes;
          last = s;
          took = p.took;
          sent = p.sent ++ sent;
          dropped = dropped;
          reads = (subst (Consumes input r') all-is (Consumes-trans input r r' (p.done ++ old.lines.rest) bytes p.reads reads), subst (λ n. n ≤ most) (sym len-is) within);
          sends = Appends-trans output w w' p.sent sent p.sends sends;
          out = append_assoc p.sent sent (pending ++ dropped) ∙ ap (λ o. p.sent ++ o) parts ∙ p.out;
        },
        ap length (sym p.out) ∙ length-append p.sent old.out.items,
      )

  failed : {s : S} {r w r' w' : Option (List ℕ)} {old new : Walk} {most : ℕ} (p : Progress takes first input output r w old s) → Fails most r w old r' w' new
      → (halt : Halt takes most first input output r' w' new.out.items) × (length halt.took.answers ≡ length p.sent + length old.out.items)
  failed {new = new} {most} p f = halts most new.out.items f.bytes f.sent f.unsent p f.reads f.sends f.within (ap (λ o. f.sent ++ (o ++ f.unsent)) f.out ∙ f.parts)

  no_memory : {s : S} {r w : Option (List ℕ)} {old : Walk} (new : List ℕ) → Progress takes first input output r w old s → IsCut old.out.items new → Halt takes max_bytes first input output r w new
  no_memory {r = r} {w} {old} new p cut = by_cut cut
    where
      halted : (dropped : List ℕ) → new ++ dropped ≡ old.out.items → Halt takes max_bytes first input output r w new
      halted dropped parts = (halts max_bytes new [] [] dropped p (Consumes-nil r) (Appends-nil w) (omega (arith, p.within)) parts).0

      by_cut : IsCut old.out.items new → Halt takes max_bytes first input output r w new
      by_cut (inl same) = halted [] (append-nil new ∙ same)
      by_cut (inr none) = halted old.out.items (ap (λ o. o ++ old.out.items) none)

  -- ---- ends

  module _ (refuses : S → List ℕ → LineCause → Type 0) (has_config : S → Bool) where
    -- What was read is taken up to a fault, by these lines behind the ones before.
    ends_by : {s t : S} {r w : Option (List ℕ)} {old : Walk} (fault : Option (ℕ × LineCause)) (new : List ℕ) (lines : List (List ℕ)) (answers : List ℕ) → Progress takes first input output r w old s
        → GoesThrough takes s lines answers t → new ≡ old.out.items ++ answers
        → ((more : List ℕ) → (IsAtEnd r → more ≡ []) → (others : List (List ℕ)) × (lines_of (old.lines.rest ++ more) ≡ lines ++ others) × IsFault refuses has_config t (old.number + length lines) others fault)
        → Ending takes refuses has_config fault first input output t r w new
    ends_by {s} {t} {old = old} fault new lines answers p goes out-is left = record {
      read = p.done ++ old.lines.rest;
      lines = p.took.lines ++ lines;
      answers = p.took.answers ++ answers;
      sent = p.sent;
      goes = goes_both takes first s t p.took.lines lines p.took.answers answers p.took.goes goes;
      reads = (p.reads, subst (λ n. n ≤ max_bytes) (sym p.taken) p.within);
      sends = p.sends;
      out = ap (λ o. p.sent ++ o) out-is ∙ sym (append_assoc p.sent old.out.items answers) ∙ ap (λ w. w ++ answers) p.out;
      ends = λ more end.
          let (others, split, is_fault) = left more end in
          let number : old.number + length lines ≡ suc (length (p.took.lines ++ lines)) = omega (arith, p.number, length-append p.took.lines lines) in (
            others,
            ap lines_of (append_assoc p.done old.lines.rest more) ∙ p.took.split (old.lines.rest ++ more) ∙ ap (λ ls. p.took.lines ++ ls) split ∙ sym (append_assoc p.took.lines lines others),
            subst (λ n. IsFault refuses has_config t n others fault) number is_fault,
          );
    }

    -- the next line of what is left is faulty
    faulty : {s t : S} {r w : Option (List ℕ)} {old : Walk} (new : List ℕ) (n : ℕ) (cause : LineCause) → Progress takes first input output r w old s → n ≡ old.number → t ≡ s → new ≡ old.out.items
        → ((more : List ℕ) → (IsAtEnd r → more ≡ []) → (line : List ℕ) × (others : List (List ℕ)) × (lines_of (old.lines.rest ++ more) ≡ line ∷ others) × refuses s line cause)
        → Ending takes refuses has_config (Some (n, cause)) first input output t r w new
    faulty {old = old} new n cause p number-is same out-is here = ends_by (Some (n, cause)) new [] [] p (same, refl) (out-is ∙ sym (append-nil old.out.items))
        (λ more end.
        let (line, others, split, refused) = here more end in
        (line ∷ others, split, (omega (arith, number-is), subst (λ x. refuses x line cause) (sym same) refused)))

    -- no line was found
    pub find_ends : ((s : S) (line : List ℕ) → max_line_bytes < length line → refuses s line Bytes)
        → {s : S} {r w : Option (List ℕ)} {old : Walk} (r' w' : Option (List ℕ)) (new : Walk) (fault : ScriptFault) → Progress takes first input output r w old s → Finds r w old r' w' new (Err fault)
        → EndsAs takes refuses has_config first input output s r' w' new (Err fault)
    find_ends long {s} r' w' new (faults.Line n cause) p (feeds, none, length-is, number-is, cause-is) =
        subst (λ x. Ending takes refuses has_config (Some (n, x)) first input output s r' w' new.out.items) (sym cause-is)
        (faulty new.out.items n Bytes (fed p feeds) number-is refl refl (λ more end. too_long refuses long s new.lines.rest more none length-is))
    find_ends long r' w' new faults.Read p f = (failed p f).0
    find_ends long r' w' new faults.Write p (f, some) = let halted = failed p f in (halted.0, omega (arith, some, halted.1))
    find_ends long r' w' new faults.Memory p never = absurd never

    -- the line that was found was not taken
    pub take_ends : {s : S} {r w r' w' : Option (List ℕ)} {old found : Walk} (t : S) (new : Walk) (fault : ScriptFault) → Progress takes first input output r w old s → FindsLine r w old r' w' found
        → Takes takes refuses s found t new (Err fault) → EndsAs takes refuses has_config first input output t r' w' new (Err fault)
    take_ends {found = found} t new (faults.Line n cause) p f (refused, number-is, same, out-is) =
        faulty new.out.items n cause (fed p f.feeds) (number-is ∙ f.number) same (out-is ∙ f.out)
        (λ more end. (found.lines.line, lines_of (found.lines.rest ++ more), line_and_more f.between.lines.rest found.lines more f.found, refused))
    take_ends t new faults.Memory p f cut = no_memory new.out.items (fed p f.feeds) (subst (λ o. IsCut o new.out.items) f.out cut)
    take_ends t new faults.Read p f never = absurd never
    take_ends t new faults.Write p f never = absurd never

    -- the last line was not taken
    pub last_ends : {s : S} {r w : Option (List ℕ)} {old : Walk} (t : S) (new : Walk) (fault : ScriptFault) → Progress takes first input output r w old s → IsAtEnd r
        → TakesLast takes refuses s old t new (Err fault) → EndsAs takes refuses has_config first input output t r w new (Err fault)
    last_ends {old = old} t new (faults.Line n cause) p at_end (one, refused, number-is, same, out-is) =
        faulty new.out.items n cause p number-is same out-is
        (λ more end. (old.lines.rest, [], ap (λ m. lines_of (old.lines.rest ++ m)) (end at_end) ∙ ap lines_of (append-nil old.lines.rest) ∙ one, refused))
    last_ends t new faults.Memory p at_end cut = no_memory new.out.items p cut
    last_ends t new faults.Read p at_end never = absurd never
    last_ends t new faults.Write p at_end never = absurd never

    -- all lines are taken
    pub closed : {s t : S} {r w : Option (List ℕ)} {old new : Walk} → Progress takes first input output r w old s → TakesRest takes s old t new → IsAtEnd r
        → EndsAs takes refuses has_config first input output t r w new (end_result (has_config t) new.number)
    closed {s} {t} {r} {w} {old} {new} p k at_end = by_head (has_config t) refl
      where
        all : (fault : Option (ℕ × LineCause)) → IsFault refuses has_config t (old.number + length (lines_of old.lines.rest)) [] fault
            → Ending takes refuses has_config fault first input output t r w new.out.items
        all fault e = ends_by fault new.out.items (lines_of old.lines.rest) k.answers p k.goes k.out
            (λ more end. ([], ap (λ m. lines_of (old.lines.rest ++ m)) (end at_end) ∙ ap lines_of (append-nil old.lines.rest) ∙ sym (append-nil (lines_of old.lines.rest)), e))

        by_head : (b : Bool) → has_config t ≡ b → EndsAs takes refuses has_config first input output t r w new (end_result b new.number)
        by_head true e = (at_end, all None e)
        by_head false e = all (Some (new.number, Hz)) (k.number, refl, e)
