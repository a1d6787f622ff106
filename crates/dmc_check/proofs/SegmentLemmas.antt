-- The text of a segment is read as its header and its events.
use Rattle.std.proofs.Common.{◌≡◌, ℕ, zero, suc, ◌+◌, ℤ, Bool, true, false, cond, leb, eqb, List, [], ◌∷◌, ◌++◌, length, drop, take, append-nil, append_assoc, refl, sym, ap, subst, ◌∙◌, arith, Option, Some, Result, Ok, Err}
use Rattle.std.specs.Prelude.{OnOk, slice_get}
use Rattle.std.specs.List.{AllByRecursion, list_all}
use Rattle.std.specs.Io.KnownBytes.{Appends}
use Rattle.std.proofs.KnownBytes.{Appends-trans}
use Rattle.std.proofs.lemmas.Bool.{eq-eqb}
use Rattle.std.proofs.lemmas.Bool.Decides.{nat_tests}
use Rattle.std.proofs.lemmas.Grind.{flat_map-append}
use Rattle.dmc_types.specs.Values.{Setting}
use Rattle.dmc_types.specs.declared.ids.ServerId.{ServerId}
use Rattle.dmc_tag.specs.Tag.{Tagging}
use Rattle.dmc_tag.specs.State.{State, opening}
use Rattle.dmc_tag.specs.Step.{step}
use Rattle.dmc_tag.specs.Replay.{replays, replays_from}
use Rattle.dmc_tag.specs.declared.event.Event.{Event}
use Rattle.dmc_lemmas.proofs.Lists.{all_append}
use Rattle.dmc_queue_history.specs.Segmented.{SegmentState}
use Rattle.dmc_text.specs.declared.cause.LineCause.{LineCause}
use Rattle.dmc_text.specs.declared.cause.LineCause.TheVariants.{Bytes, Number}
use Rattle.dmc_text.specs.declared.event_line.EventLine.{EventLine}
use Rattle.dmc_text.specs.declared.event_line.EventLine.TheVariants as event_lines
use Rattle.dmc_text.specs.Answers.{◌>>=◌}
use Rattle.dmc_text.specs.Words.{words}
use Rattle.dmc_text.specs.Lines.{is_clean, is_line_byte, kind, kind_of}
use Rattle.dmc_text.specs.internal.LineLaws.{line_first}
use Rattle.dmc_text.specs.EventLines.{comment, event_of, event_line_of_kind}
use Rattle.dmc_text.specs.Replies.{IsWritable}
use Rattle.dmc_text.specs.RoundTrip.{IsHeaderAgain}
use Rattle.dmc_text.specs.Texts.{has_end, lines_of, with_line_end}
use Rattle.dmc_text.specs.Written.{event_text, header_text}
use Rattle.dmc_text.proofs.TextLemmas.{and_parts}
use Rattle.dmc_text.proofs.Writable.{writable}
use Rattle.dmc_check.specs.EventTexts.{Recorded, with_line, placed, line_behind, or_fault, with_lines}
use Rattle.dmc_check.specs.SegmentTexts.{IsEventAgain, IsSegmentAgain, events_in, events_text, segment_text}
use Rattle.dmc_check.proofs.VerdictLemmas.{taken_next}

-- ---- lists

all_drop : {X : Type 0} (P : X → Type 0) (n : ℕ) (xs : List X) → AllByRecursion P xs → AllByRecursion P (drop n xs)
all_drop P zero xs h = h
all_drop P (suc n) [] h = h
all_drop P (suc n) (x ∷ xs) h = all_drop P n xs h.1

-- what holds of each if something else does
all_met : {X : Type 0} (P Q : X → Type 0) (xs : List X) → AllByRecursion (λ x. P x → Q x) xs → AllByRecursion P xs → AllByRecursion Q xs
all_met P Q [] h k = tt
all_met P Q (x ∷ xs) h k = (h.0 k.0, all_met P Q xs h.1 k.1)

-- ---- events that a queue recorded

tellable_from : {T : Type 0} (ops : Tagging T) (s : State T) (events : List (Event T)) → replays_from ops s events → AllByRecursion (λ e. IsWritable e.reply) events
tellable_from ops s [] h = tt
tellable_from ops s (e ∷ es) h = (subst IsWritable (sym h.0) (writable ops s e.command), tellable_from ops ((step ops s e.command).0) es h.1)

-- ---- lines

clean_open : (bs : List ℕ) → list_all is_line_byte bs ≡ true → has_end bs ≡ false
clean_open [] h = refl
clean_open (b ∷ bs) h =
    let p = and_parts (is_line_byte b) (list_all is_line_byte bs) h in
    let q = and_parts (leb 32 b) (leb b 126) p.0 in
    let no : eqb b 10 ≡ false = grind (arith, nat_tests) in
    rw (no, clean_open bs p.1) refl

-- a line that means something has no LF
line_open : {X : Type 0} (has_config : Bool) (line : List ℕ) (x : X) (f : _ → Result X LineCause) (clean : Bool) → is_clean line ≡ clean → (kind_of has_config line >>= f) ≡ Ok x → has_end line ≡ false
unfolding is_clean
line_open has_config line x f true is h = clean_open line (and_parts (leb (length line) 256) (list_all is_line_byte line) is).1
line_open has_config line x f false is h =
    let faulty : Err Bytes ≡ Ok x = ap (λ b. cond b (kind has_config (words line)) (Err Bytes) >>= f) (sym is) ∙ h in
    absurd (cc)

module _ {T : Type 0} (made : ℤ → ℕ → Option T) where
  -- a line is taken, and the others go on from there
  line_taken : (r : Recorded T) (number : ℕ) (line more : List ℕ) (says : EventLine T) → event_of made true line ≡ Ok says → placed (length r.events) says ≡ Ok says
      → with_lines made (Some r) number (lines_of (with_line_end line ++ more)) ≡ with_lines made (with_line (Some r) says) (suc number) (lines_of more)
  line_taken r number line more says e at =
      let plain : has_end line ≡ false = line_open true line says _ (is_clean line) refl e in
      let behind : line_behind made true (length r.events) line ≡ Ok says = ap (λ x. x >>= placed (length r.events)) e ∙ at in
      ap (λ bs. with_lines made (Some r) number (lines_of bs)) (append_assoc line (10 ∷ []) more)
      ∙ ap (with_lines made (Some r) number) (line_first line more plain)
      ∙ ap (λ x. or_fault number x (λ l. with_lines made (with_line (Some r) l) (suc number) (lines_of more))) behind

  module _ (text : T → List ℕ) where
    abbrev Again : Event T → Type 0
    Again e = event_of made true (event_text text e) ≡ Ok (event_lines.Event e)

    -- the lines of events add them
    events_taken : (config : Setting) (before events : List (Event T)) (number : ℕ) (more : List ℕ) → AllByRecursion Again events
        → with_lines made (Some (record { config = config; events = before })) number (lines_of (events_text text events ++ more))
        ≡ with_lines made (Some (record { config = config; events = before ++ events })) (number + length events) (lines_of more)
    events_taken config before [] number more h =
        let same : number ≡ number + 0 = omega arith in
        ap (λ es. with_lines made (Some (record { config = config; events = es })) number (lines_of more)) (sym (append-nil before))
        ∙ ap (λ n. with_lines made (Some (record { config = config; events = before ++ [] })) n (lines_of more)) same
    events_taken config before (e ∷ es) number more h =
        let next : suc number + length es ≡ number + suc (length es) = omega arith in
        let here : Recorded T = record { config = config; events = before } in
        ap (λ bs. with_lines made (Some here) number (lines_of bs)) (append_assoc (with_line_end (event_text text e)) (events_text text es) more)
        ∙ line_taken here number (event_text text e) (events_text text es ++ more) (event_lines.Event e) h.0 refl
        ∙ events_taken config (before ++ e ∷ []) es (suc number) more h.1
        ∙ ap (λ all. with_lines made (Some (record { config = config; events = all })) (suc number + length es) (lines_of more)) (append_assoc before (e ∷ []) es)
        ∙ ap (λ n. with_lines made (Some (record { config = config; events = before ++ e ∷ es })) n (lines_of more)) next

    header_says : (server : ServerId) (first : ℕ) → IsHeaderAgain server first → event_of made true (header_text server.0 first) ≡ Ok (event_lines.Segment server first)
    header_says server first h =
        ap (λ k. k >>= λ x. event_line_of_kind made true x (words (header_text server.0 first))) (h.kind true) ∙ ap (comment true) h.read

    header_placed : (server : ServerId) (first count : ℕ) → count ≡ first → placed {T = T} count (event_lines.Segment server first) ≡ Ok (event_lines.Segment server first)
    header_placed server first count same = ap (λ b. cond b (Ok (event_lines.Segment server first)) (Err Number)) (eq-eqb first count (sym same))

    -- the text of a segment adds its events
    pub segment_again : (segment : SegmentState T) (server : ServerId) → server.0 ≡ segment.server → IsHeaderAgain server segment.first → AllByRecursion Again (events_in segment) → IsSegmentAgain made text segment
    segment_again segment server same header events = record {
      read = λ config before number more count.
          let here : Recorded T = record { config = config; events = before } in
          let es : List (Event T) = events_in segment in
          let next : suc number + length es ≡ number + suc (length es) = omega arith in
          ap (λ s. with_lines made (Some here) number (lines_of ((with_line_end (header_text s segment.first) ++ events_text text es) ++ more))) (sym same)
          ∙ ap (λ bs. with_lines made (Some here) number (lines_of bs)) (append_assoc (with_line_end (header_text server.0 segment.first)) (events_text text es) more)
          ∙ line_taken here number (header_text server.0 segment.first) (events_text text es ++ more) (event_lines.Segment server segment.first) (header_says server segment.first header)
          (header_placed server segment.first (length before) count)
          ∙ events_taken config before es (suc number) more events
          ∙ ap (λ n. with_lines made (Some (record { config = config; events = before ++ es })) n (lines_of more)) next;
    }

    -- it is written piece by piece
    pub segment_written : {X E : Type 0} (result : Result X E) (a b c : Option (List ℕ)) (segment : SegmentState T) (server : ServerId) (first : ℕ) (events : List (Event T)) → server.0 ≡ segment.server → first ≡ segment.first
        → events ≡ events_in segment → Appends a b (with_line_end (header_text server.0 first)) → OnOk result (Appends b c (events_text text events)) → OnOk result (Appends a c (segment_text text segment))
    segment_written (Ok x) a b c segment server first events same number all header lines =
        let whole : with_line_end (header_text server.0 first) ++ events_text text events ≡ segment_text text segment =
        ap (λ s. with_line_end (header_text s first) ++ events_text text events) same
        ∙ ap (λ n. with_line_end (header_text segment.server n) ++ events_text text events) number
        ∙ ap (λ es. with_line_end (header_text segment.server segment.first) ++ events_text text es) all in
        subst (Appends a c) whole (Appends-trans a b c (with_line_end (header_text server.0 first)) (events_text text events) header lines)
    segment_written (Err e) a b c segment server first events same number all header lines = tt

    -- by the history up to its end, which replays
    pub segment_by : {X E : Type 0} (result : Result X E) (ops : Tagging T) (segment : SegmentState T) (server : ServerId) → replays ops segment.config segment.history → server.0 ≡ segment.server
        → IsHeaderAgain server segment.first → OnOk result (AllByRecursion (IsEventAgain made text) (events_in segment)) → OnOk result (IsSegmentAgain made text segment)
    segment_by (Ok x) ops segment server h same header events =
        let reported = all_drop (λ e. IsWritable e.reply) segment.first segment.history (tellable_from ops (opening ops segment.config) segment.history h) in
        segment_again segment server same header (all_met (λ e. IsWritable e.reply) Again (events_in segment) events reported)
    segment_by (Err e) ops segment server h same header events = tt

    -- ---- events, one after the other

    pub one_more_written : (a b c : Option (List ℕ)) (all : List (Event T)) (i : ℕ) (e : Event T) → slice_get all i ≡ Some e → Appends a b (events_text text (take i all)) → Appends b c (with_line_end (event_text text e))
        → Appends a c (events_text text (take (i + 1) all))
    one_more_written a b c all i e at before line =
        let lines : Event T → List ℕ = λ event. with_line_end (event_text text event) in
        let longer : events_text text (take (i + 1) all) ≡ events_text text (take i all) ++ with_line_end (event_text text e) =
        ap (events_text text) (taken_next all i e at) ∙ flat_map-append lines (take i all) (e ∷ []) ∙ ap (λ bs. events_text text (take i all) ++ bs) (append-nil (with_line_end (event_text text e))) in
        subst (Appends a c) (sym longer) (Appends-trans a b c (events_text text (take i all)) (with_line_end (event_text text e)) before line)

    pub one_more_again : (all : List (Event T)) (i : ℕ) (e : Event T) → slice_get all i ≡ Some e → AllByRecursion (IsEventAgain made text) (take i all) → IsEventAgain made text e
        → AllByRecursion (IsEventAgain made text) (take (i + 1) all)
    one_more_again all i e at before h =
        subst (AllByRecursion (IsEventAgain made text)) (sym (taken_next all i e at)) (all_append (IsEventAgain made text) (take i all) (e ∷ []) before (h, tt))
