-- The texts of replies: words, separated by one space each.
use Rattle.std.specs.Prelude.{◌≡◌, ℕ, ◌==◌, ◌^◌, ℤ, Bool, true, false, ◌&&◌, List, [], ◌∷◌, ◌++◌, Option, Some, None, option_and_then, Result, Ok, Err, nat_lt, if◌then◌else◌, codes}
use Rattle.std.specs.List.{join_with_byte}
use Rattle.std.specs.Option.{ok_or, option_map}
use Rattle.std.specs.Str.{bytes_eq}
use Rattle.std.specs.Fmt.{decimal}
use Rattle.dmc_types.specs.declared.config.PhaseType.{PhaseType}
use Rattle.dmc_types.specs.declared.config.PhaseType.TheVariants as phases
use Rattle.dmc_types.specs.declared.refusal.Field.{Field}
use Rattle.dmc_types.specs.declared.refusal.Field.TheVariants as fields
use Rattle.dmc_types.specs.declared.refusal.Refusal.{Refusal}
use Rattle.dmc_types.specs.declared.refusal.Refusal.TheVariants.{Known, Unknown, Inexact, Clients, QueueFull, Range, Busy, OverLimit}
use Rattle.dmc_tag.specs.declared.reply.Reply.{Reply}
use Rattle.dmc_tag.specs.declared.reply.Reply.TheVariants.{Registered, Updated, Tagged, Granted, Later, Nothing, Removed, Cleaned, Refused}
use Rattle.dmc_text.specs.declared.cause.LineCause.{LineCause}
use Rattle.dmc_text.specs.declared.cause.LineCause.TheVariants.{Words, Number}
use Rattle.dmc_text.specs.declared.reply.ReplyName.{ReplyName}
use Rattle.dmc_text.specs.declared.reply.ReplyName.TheVariants as names
use Rattle.dmc_text.specs.declared.reply.ReplyWords.{ReplyWords}
use Rattle.dmc_text.specs.declared.reply.ReplyWords.TheVariants as shown
use Rattle.dmc_text.specs.Numbers.{number}
use Rattle.dmc_text.specs.Tags.{fraction_text, fraction_of}
use Rattle.dmc_text.specs.Commands.{cost_behind}
use Rattle.dmc_text.specs.Answers.{◌>>=◌}

-- ---- writing

abbrev pub field_word : Field → List ℕ
field_word fields.Reservation = codes "reservation"
field_word fields.Weight = codes "weight"
field_word fields.Limit = codes "limit"

abbrev pub refusal_words : Refusal → List (List ℕ)
refusal_words Known = codes "known" ∷ []
refusal_words Unknown = codes "unknown" ∷ []
refusal_words (Inexact f) = codes "inexact" ∷ field_word f ∷ []
refusal_words Clients = codes "clients" ∷ []
refusal_words QueueFull = codes "full" ∷ []
refusal_words Range = codes "range" ∷ []
refusal_words Busy = codes "busy" ∷ []
refusal_words OverLimit = codes "over" ∷ codes "limit" ∷ []

-- no grant by reservation is beyond its limit
abbrev pub grant_words : PhaseType → Bool → List (List ℕ)
grant_words phases.Reservation beyond = codes "reservation" ∷ []
grant_words phases.Priority false = codes "priority" ∷ []
grant_words phases.Priority true = codes "priority" ∷ codes "beyond" ∷ []

-- a cost of 1 is not written
abbrev pub cost_words : ℕ → List (List ℕ)
cost_words cost = if cost == 1 then [] else codes "cost" ∷ decimal cost ∷ []

-- `-` if there is no tag
abbrev pub tag_word : {T : Type 0} → (T → List ℕ) → Option T → List ℕ
tag_word text None = codes "-"
tag_word text (Some a) = text a

-- the words of a reply, where text is the text of a tag
abbrev pub reply_words : {T : Type 0} → (T → List ℕ) → Reply T → List (List ℕ)
reply_words text Registered = codes "ok" ∷ []
reply_words text Updated = codes "updated" ∷ []
reply_words text (Tagged t) = codes "tags" ∷ tag_word text t.r ∷ text t.l ∷ text t.p ∷ []
reply_words text (Granted client token phase beyond cost) = codes "grant" ∷ decimal client.0 ∷ decimal token.0 ∷ grant_words phase beyond ++ cost_words cost
reply_words text (Later m) = codes "future" ∷ decimal m ∷ []
reply_words text Nothing = codes "none" ∷ []
reply_words text (Removed n) = codes "dropped" ∷ decimal n ∷ []
reply_words text (Cleaned idled erased) = codes "cleaned" ∷ decimal idled ∷ decimal erased ∷ []
reply_words text (Refused refusal) = codes "refused" ∷ refusal_words refusal

-- the text of a tag with this numerator and this denominator
abbrev pub tag_text : {T : Type 0} → (T → ℤ) → (T → ℕ) → T → List ℕ
tag_text numer denom a = fraction_text (numer a) (denom a)

-- the text of a whole number of ticks
abbrev pub in_ticks : ℤ → List ℕ
in_ticks z = fraction_text z 1

-- a tag's parts as text, or `-` if there is no tag
abbrev pub word_text : Option (ℤ × ℕ) → List ℕ
word_text None = codes "-"
word_text (Some x) = fraction_text x.0 x.1

abbrev pub reply_text : {T : Type 0} → (T → List ℕ) → Reply T → List ℕ
reply_text text reply = join_with_byte 32 (reply_words text reply)

-- no grant by reservation is beyond its limit
abbrev pub IsPhase : PhaseType → Bool → Type 0
IsPhase phases.Reservation beyond = beyond ≡ false
IsPhase phases.Priority beyond = Unit {0}

abbrev pub IsWritable : {T : Type 0} → Reply T → Type 0
IsWritable (Granted client token phase beyond cost) = IsPhase phase beyond
IsWritable reply = Unit {0}

-- ---- reading: words

-- a reply whose words are not yet read as numbers or tags
pub data Saying : Type 0 where
  registered : Saying
  updated : Saying
  tagged : (r l p : List ℕ) → Saying
  granted : (client token : List ℕ) → PhaseType → Bool → (cost : Option (List ℕ)) → Saying
  later : (m : List ℕ) → Saying
  nothing : Saying
  removed : (n : List ℕ) → Saying
  cleaned : (idled erased : List ℕ) → Saying
  refused : Refusal → Saying

abbrev pub name_of : List ℕ → Option ReplyName
name_of word =
    if bytes_eq word (codes "ok") then Some names.Ok
    else (if bytes_eq word (codes "updated") then Some names.Updated
    else (if bytes_eq word (codes "tags") then Some names.Tags
    else (if bytes_eq word (codes "grant") then Some names.Grant
    else (if bytes_eq word (codes "future") then Some names.Future
    else (if bytes_eq word (codes "none") then Some names.None
    else (if bytes_eq word (codes "dropped") then Some names.Dropped
    else (if bytes_eq word (codes "cleaned") then Some names.Cleaned
    else (if bytes_eq word (codes "refused") then Some names.Refused
    else None))))))))

abbrev pub no_more : Saying → List (List ℕ) → Result Saying LineCause
no_more s [] = Ok s
no_more s (w ∷ ws) = Err Words

abbrev pub one_more : (List ℕ → Saying) → List (List ℕ) → Result Saying LineCause
one_more s [] = Err Words
one_more s (a ∷ ws) = no_more (s a) ws

abbrev pub two_more : (List ℕ → List ℕ → Saying) → List (List ℕ) → Result Saying LineCause
two_more s [] = Err Words
two_more s (a ∷ ws) = one_more (s a) ws

abbrev pub three_more : (List ℕ → List ℕ → List ℕ → Saying) → List (List ℕ) → Result Saying LineCause
three_more s [] = Err Words
three_more s (a ∷ ws) = two_more (s a) ws

-- whether `beyond` is the next word, and the words after it
abbrev pub beyond_behind : List (List ℕ) → Bool × List (List ℕ)
beyond_behind [] = (false, [])
beyond_behind (w ∷ ws) = if bytes_eq w (codes "beyond") then (true, ws) else (false, w ∷ ws)

-- the phase of a grant, whether it is beyond its limit, and the words after them
abbrev pub phase_of : List (List ℕ) → Result (PhaseType × Bool × List (List ℕ)) LineCause
phase_of [] = Err Words
phase_of (w ∷ ws) =
    if bytes_eq w (codes "reservation") then Ok (phases.Reservation, false, ws)
    else (if bytes_eq w (codes "priority") then Ok (phases.Priority, (beyond_behind ws).0, (beyond_behind ws).1) else Err Words)

abbrev pub grant_of : List (List ℕ) → Result Saying LineCause
grant_of [] = Err Words
grant_of (c ∷ []) = Err Words
grant_of (c ∷ k ∷ ws) = phase_of ws >>= λ x. cost_behind x.2 >>= λ y. no_more (granted c k x.0 x.1 y.0) y.1

abbrev pub field_of : List ℕ → Result Field LineCause
field_of w =
    if bytes_eq w (codes "reservation") then Ok fields.Reservation
    else (if bytes_eq w (codes "weight") then Ok fields.Weight
    else (if bytes_eq w (codes "limit") then Ok fields.Limit else Err Words))

abbrev pub plain_refusal : List ℕ → Result Refusal LineCause
plain_refusal w =
    if bytes_eq w (codes "known") then Ok Known
    else (if bytes_eq w (codes "unknown") then Ok Unknown
    else (if bytes_eq w (codes "clients") then Ok Clients
    else (if bytes_eq w (codes "full") then Ok QueueFull
    else (if bytes_eq w (codes "range") then Ok Range
    else (if bytes_eq w (codes "busy") then Ok Busy else Err Words)))))

abbrev pub refusal_of : List (List ℕ) → Result Refusal LineCause
refusal_of [] = Err Words
refusal_of (w ∷ []) = plain_refusal w
refusal_of (w ∷ f ∷ []) =
    if bytes_eq w (codes "inexact") then (field_of f >>= λ x. Ok (Inexact x))
    else (if bytes_eq w (codes "over") && bytes_eq f (codes "limit") then Ok OverLimit else Err Words)
refusal_of (w ∷ f ∷ x ∷ ws) = Err Words

abbrev pub saying_of : ReplyName → List (List ℕ) → Result Saying LineCause
saying_of names.Ok = no_more registered
saying_of names.Updated = no_more updated
saying_of names.Tags = three_more tagged
saying_of names.Grant = grant_of
saying_of names.Future = one_more later
saying_of names.None = no_more nothing
saying_of names.Dropped = one_more removed
saying_of names.Cleaned = two_more cleaned
saying_of names.Refused = λ ws. refusal_of ws >>= λ x. Ok (refused x)

-- the kind of reply that words make
unfoldable pub saying : List (List ℕ) → Result Saying LineCause
saying [] = Err Words
saying (name ∷ args) = ok_or (name_of name) Words >>= λ n. saying_of n args

-- ---- reading: numbers and tags

unfoldable pub count : List ℕ → Result ℕ LineCause
count word = ok_or (number (2 ^ 32) word) Number

unfoldable pub instant : List ℕ → Result ℕ LineCause
instant word = ok_or (number (2 ^ 128) word) Number

-- the tag of a word, where made says which tag has a numerator and a denominator
unfoldable pub tag : {T : Type 0} → (ℤ → ℕ → Option T) → List ℕ → Result T LineCause
tag made word = ok_or (option_and_then (λ x. made x.0 x.1) (fraction_of word)) Number

unfoldable pub optional_tag : {T : Type 0} → (ℤ → ℕ → Option T) → List ℕ → Result (Option T) LineCause
optional_tag made word = if bytes_eq word (codes "-") then Ok None else (tag made word >>= λ a. Ok (Some a))

-- no cost is 0
unfoldable pub cost_of : ℕ → Result ℕ LineCause
cost_of units = if nat_lt 0 units then Ok units else Err Number

-- the cost, which is 1 where no word says it
unfoldable pub cost_said : Option (List ℕ) → Result ℕ LineCause
cost_said None = Ok 1
cost_said (Some word) = count word >>= cost_of

-- the reply of words
unfoldable pub reply_said : {T : Type 0} → (ℤ → ℕ → Option T) → Saying → Result (Reply T) LineCause
reply_said made registered = Ok Registered
reply_said made updated = Ok Updated
reply_said made (tagged r l p) = do
  r' ← optional_tag made r
  l' ← tag made l
  p' ← tag made p
  Ok (Tagged (record { r = r'; l = l'; p = p' }))
reply_said made (granted c k phase beyond n) = do
  client ← count c
  token ← count k
  cost ← cost_said n
  Ok (Granted (record { 0 = client }) (record { 0 = token }) phase beyond cost)
reply_said made (later m) = instant m >>= λ at. Ok (Later at)
reply_said made nothing = Ok Nothing
reply_said made (removed n) = count n >>= λ k. Ok (Removed k)
reply_said made (cleaned i e) = do
  idled ← count i
  erased ← count e
  Ok (Cleaned idled erased)
reply_said made (refused refusal) = Ok (Refused refusal)

-- the reply of a text
abbrev pub reply_of : {T : Type 0} → (ℤ → ℕ → Option T) → List (List ℕ) → Result (Reply T) LineCause
reply_of made ws = saying ws >>= reply_said made

-- ---- the code's words

abbrev pub seen_reply : ReplyWords → Saying
seen_reply shown.Registered = registered
seen_reply shown.Updated = updated
seen_reply (shown.Tagged t) = tagged t.r.now t.l.now t.p.now
seen_reply (shown.Granted client token phase beyond cost) = granted client.now token.now phase beyond (option_map (λ word. word.now) cost)
seen_reply (shown.Later m) = later m.now
seen_reply shown.Nothing = nothing
seen_reply (shown.Removed n) = removed n.now
seen_reply (shown.Cleaned idled erased) = cleaned idled.now erased.now
seen_reply (shown.Refused refusal) = refused refusal
