-- The lines that are written of a configuration, a command, an event and a segment's header are read again.
use Rattle.std.proofs.Common.{◌≡◌, ℕ, ◌^◌, ◌<◌, ◌≤◌, ℤ, Bool, true, false, cond, ltb, leb, eqb, List, [], ◌∷◌, ◌++◌, length, length-append, append-nil, append_assoc, refl, sym, ap, subst, ◌∙◌, arith, Option, Some, None, Result, Ok, Err}
use Rattle.std.specs.Prelude.{codes, IfSome, OnOk}
use Rattle.std.specs.Io.KnownBytes.{Appends}
use Rattle.std.proofs.KnownBytes.{Appends-trans}
use Rattle.dmc_text.specs.Texts.{with_line_end}
use Rattle.std.specs.List.{join_with_byte}
use Rattle.std.specs.Option.{ok_or}
use Rattle.std.specs.Str.{bytes_eq}
use Rattle.std.specs.Fmt.{decimal}
use Rattle.std.proofs.lemmas.Bool.{le-leb, eqb-true}
use Rattle.std.proofs.lemmas.Bool.Decides.{nat_tests}
use Rattle.dmc_types.specs.Limits.{max_hz, max_moment, max_line_bytes}
use Rattle.dmc_types.specs.Values.{Params, Rates, Setting, IsRate, AreRates, IsSetting, threshold_of}
use Rattle.dmc_types.specs.declared.config.AtLimit.{AtLimit}
use Rattle.dmc_types.specs.declared.config.AtLimit.TheVariants.{Wait, Allow, Reject}
use Rattle.dmc_types.specs.declared.config.Counting.{Counting}
use Rattle.dmc_types.specs.declared.config.Counting.TheVariants.{All, Others}
use Rattle.dmc_types.specs.declared.config.Shares.{Shares}
use Rattle.dmc_types.specs.declared.config.Shares.TheVariants.{Clock, Virtual}
use Rattle.dmc_types.specs.declared.ids.ClientId.{ClientId}
use Rattle.dmc_types.specs.declared.ids.ServerId.{ServerId}
use Rattle.dmc_types.specs.declared.ids.Token.{Token}
use Rattle.dmc_types.specs.declared.command.Command.{Command}
use Rattle.dmc_types.specs.declared.command.Command.TheVariants.{Register, Update, Add, Pull, Remove, Cancel, Clean}
use Rattle.dmc_tag.specs.declared.reply.Reply.{Reply}
use Rattle.dmc_tag.specs.declared.reply.Reply.TheVariants.{Registered, Updated, Tagged, Granted, Later, Nothing, Removed, Cleaned, Refused}
use Rattle.dmc_tag.specs.declared.event.Event.{Event}
use Rattle.dmc_text.specs.declared.cause.LineCause.TheVariants as causes
use Rattle.dmc_text.specs.declared.command.CommandFault.TheVariants as faults
use Rattle.dmc_text.specs.declared.line.Line.TheVariants.{Ask}
use Rattle.dmc_text.specs.declared.line.LineKind.TheVariants as kinds
use Rattle.dmc_text.specs.declared.event_line.EventLine.TheVariants as event_lines
use Rattle.dmc_text.specs.Answers.{◌>>=◌}
use Rattle.dmc_text.specs.Words.{words}
use Rattle.dmc_text.specs.Lines.{kind, kind_of, line_of_kind, line_of, line_of_words, line_of_command, alone, heading, setting, figure, configured, is_reject, is_virtual}
use Rattle.dmc_text.specs.Commands.{registering, updating, adding, pulling, dropping, cancelling, cleaning, counting_named, phrase, command, small, long, optional, moment, params, cost_word, cost, rates, is_rate}
use Rattle.dmc_text.specs.Replies.{saying, reply_said, reply_words, reply_text, reply_of}
use Rattle.dmc_text.specs.EventLines.{answer_words, event_words as words_of_event, event_said, event_line_of_kind, event_of, header_words as words_of_header, header_said, header_of}
use Rattle.dmc_text.specs.RoundTrip.{AreWords, IsReadBack, IsAskedAgain, IsHeaderAgain}
use Rattle.dmc_text.specs.internal.RoundTrip.{IsInfoAgain}
use Rattle.dmc_text.specs.Written.{config_words, config_text, limit_words, shares_words, rate_word, counting_word, command_words, command_text, event_words, event_text, header_words}
use Rattle.dmc_text.proofs.TextLemmas.{words_joined, number_again}
use Rattle.dmc_text.proofs.CostLemmas.{word_of, cost_again, with_cost}
use Rattle.dmc_text.proofs.LineWords.{given, shorter, and_more, and_some, both_some, join_some, number_word, small_word, apart, decimal_means, is_line}

-- ---- numbers

small_again : (n : ℕ) → n < 2 ^ 32 → small (decimal n) ≡ Ok n
unfolding small
small_again n h = ap (λ o. ok_or o faults.Number) (number_again (2 ^ 32) n h (omega (arith, h)))

long_again : (n : ℕ) → n < 2 ^ 64 → long (decimal n) ≡ Ok n
unfolding long
long_again n h = ap (λ o. ok_or o faults.Number) (number_again (2 ^ 64) n h (omega (arith, h)))

figure_again : (n : ℕ) → n < 2 ^ 64 → figure (decimal n) ≡ Ok n
unfolding figure
figure_again n h = ap (λ o. ok_or o causes.Number) (number_again (2 ^ 64) n h (omega (arith, h)))

moment_word : (t : ℕ) → t ≤ max_moment → AreWords 19 (decimal t ∷ [])
moment_word t h = number_word 19 t (omega arith) (omega (arith, h)) (omega (arith, h))

-- ---- rates

rate_again : (q : Option ℕ) → IfSome q (λ n. n < 2 ^ 32) → AreWords 10 (rate_word q ∷ []) × (optional (rate_word q) ≡ Ok q)
unfolding optional
rate_again None h = (given 10 (codes "-" ∷ []) refl refl refl, refl)
rate_again (Some n) h =
    let other : bytes_eq (decimal n) (codes "-") ≡ false = apart (2 ^ 32) n (codes "-") (bytes_eq (decimal n) (codes "-")) refl h (omega (arith, h)) refl in
    (small_word n h, rw (other, small_again n h) refl)

some_rate : (q : Option ℕ) → IfSome q IsRate → is_rate q ≡ true
some_rate None h = refl
some_rate (Some n) h = let yes : ltb 0 n ≡ true = grind (arith, nat_tests) in yes

rates_again : (r : Option ℕ) (w : ℕ) (l : Option ℕ) → AreRates r w l → rates r w l ≡ Ok (record { reservation = r; weight = w; limit = l })
unfolding rates
rates_again r w l h = rw (some_rate r h.reserved, some_rate (Some w) h.weighed, some_rate l h.limited) refl

-- what follows `client` and `update`
pub info_again : (client : ClientId) (info : Rates) (at : ℕ) → client.0 < 2 ^ 32 → IfSome info.reservation (λ q. q < 2 ^ 32) → info.weight < 2 ^ 32 → IfSome info.limit (λ q. q < 2 ^ 32)
    → AreRates info.reservation info.weight info.limit → at ≤ max_moment → IsInfoAgain client info at
unfolding moment
info_again client info at id reserved weighed limited are last =
    let r = rate_again info.reservation reserved in
    let l = rate_again info.limit limited in
    let within : leb at max_moment ≡ true = le-leb at max_moment last in
    record {
      read = λ make.
          rw (small_again client.0 id, r.1, small_again info.weight weighed, l.1, long_again at (omega (arith, last)), within, rates_again info.reservation info.weight info.limit are) refl;
      of_words = and_more 10 52 (small_word client.0 id) (and_more 10 41 r.0 (and_more 10 30 (small_word info.weight weighed) (and_more 10 19 l.0 (moment_word at last))));
    }

-- ---- commands

units_by : (units : ℕ) (one : Bool) → eqb units 1 ≡ one → units < 2 ^ 32 → cost_word (word_of units) ≡ Ok units
unfolding cost_word
units_by units true e h = rw e (ap Ok (sym (eqb-true units 1 e)))
units_by units false e h = rw e (small_again units h)

units_again : (units : ℕ) → units < 2 ^ 32 → cost_word (word_of units) ≡ Ok units
units_again units h = units_by units (eqb units 1) refl h

pub asked_register : (client : ClientId) (info : Rates) (at : ℕ) → IsInfoAgain client info at → IsAskedAgain (Register client info at)
unfolding phrase command
asked_register client info at i = record {
  said = registering (decimal client.0) (rate_word info.reservation) (decimal info.weight) (rate_word info.limit) (decimal at);
  said_by = λ behind apart. refl;
  read = i.read Register;
  of_words = shorter 70 83 (and_more 6 63 (given 6 (codes "client" ∷ []) refl refl refl) i.of_words) (omega arith);
}

pub asked_update : (client : ClientId) (info : Rates) (at : ℕ) → IsInfoAgain client info at → IsAskedAgain (Update client info at)
unfolding phrase command
asked_update client info at i = record {
  said = updating (decimal client.0) (rate_word info.reservation) (decimal info.weight) (rate_word info.limit) (decimal at);
  said_by = λ behind apart. refl;
  read = i.read Update;
  of_words = shorter 70 83 (and_more 6 63 (given 6 (codes "update" ∷ []) refl refl refl) i.of_words) (omega arith);
}

pub asked_add : (client : ClientId) (token : Token) (counts : Params) (at : ℕ) → client.0 < 2 ^ 32 → token.0 < 2 ^ 32 → counts.delta < 2 ^ 32 → counts.rho ≤ counts.delta → 0 < counts.cost → counts.cost < 2 ^ 32 → at ≤ max_moment
    → IsAskedAgain (Add client token counts at)
unfolding phrase command moment params cost
asked_add client token counts at id name many fewer some small last =
    let within : leb at max_moment ≡ true = le-leb at max_moment last in
    let few : counts.rho < 2 ^ 32 = omega (arith, many, fewer) in
    let charged : ltb 0 counts.cost ≡ true = grind (arith, nat_tests, some) in
    let numbers = and_more 10 41 (small_word token.0 name) (and_more 10 30 (small_word counts.delta many) (and_more 10 19 (small_word counts.rho few) (moment_word at last))) in
    record {
      said = adding (decimal client.0) (decimal token.0) (decimal counts.delta) (decimal counts.rho) (decimal at) (word_of counts.cost);
      said_by = λ behind apart.
          ap (λ r. r >>= λ x. Ok (adding (decimal client.0) (decimal token.0) (decimal counts.delta) (decimal counts.rho) (decimal at) x.0, x.1)) (cost_again counts.cost behind apart);
      read = rw (small_again client.0 id, small_again token.0 name, small_again counts.delta many, small_again counts.rho few, long_again at (omega (arith, last)), units_again counts.cost small, within, le-leb counts.rho counts.delta fewer, charged) refl;
      of_words = with_cost 67 counts.cost (codes "add" ∷ decimal client.0 ∷ decimal token.0 ∷ decimal counts.delta ∷ decimal counts.rho ∷ decimal at ∷ []) (omega arith) small
          (and_more 3 63 (given 3 (codes "add" ∷ []) refl refl refl) (and_more 10 52 (small_word client.0 id) numbers));
    }

pub asked_pull : (at : ℕ) → at ≤ max_moment → IsAskedAgain (Pull at)
unfolding phrase command moment
asked_pull at last =
    let within : leb at max_moment ≡ true = le-leb at max_moment last in
    record {
      said = pulling (decimal at);
      said_by = λ behind apart. refl;
      read = rw (long_again at (omega (arith, last)), within) refl;
      of_words = shorter 24 83 (and_more 4 19 (given 4 (codes "pull" ∷ []) refl refl refl) (moment_word at last)) (omega arith);
    }

pub asked_clean : (at : ℕ) → at ≤ max_moment → IsAskedAgain (Clean at)
unfolding phrase command moment
asked_clean at last =
    let within : leb at max_moment ≡ true = le-leb at max_moment last in
    record {
      said = cleaning (decimal at);
      said_by = λ behind apart. refl;
      read = rw (long_again at (omega (arith, last)), within) refl;
      of_words = shorter 25 83 (and_more 5 19 (given 5 (codes "clean" ∷ []) refl refl refl) (moment_word at last)) (omega arith);
    }

pub asked_drop : (client : ClientId) → client.0 < 2 ^ 32 → IsAskedAgain (Remove client)
unfolding phrase command
asked_drop client id = record {
  said = dropping (decimal client.0);
  said_by = λ behind apart. refl;
  read = rw (small_again client.0 id) refl;
  of_words = shorter 15 83 (and_more 4 10 (given 4 (codes "drop" ∷ []) refl refl refl) (small_word client.0 id)) (omega arith);
}

counting_again : (counting : Counting) → counting_named (counting_word counting) ≡ Some counting
counting_again All = refl
counting_again Others = refl

counting_fits : (counting : Counting) → AreWords 6 (counting_word counting ∷ [])
counting_fits All = given 6 (codes "all" ∷ []) refl refl refl
counting_fits Others = given 6 (codes "others" ∷ []) refl refl refl

pub asked_cancel : (client : ClientId) (token : Token) (counting : Counting) → client.0 < 2 ^ 32 → token.0 < 2 ^ 32 → IsAskedAgain (Cancel client token counting)
unfolding phrase command
asked_cancel client token counting id name = record {
  said = cancelling (decimal client.0) (decimal token.0) counting;
  said_by = λ behind apart. ap (λ o. ok_or o causes.Words >>= λ counting. Ok (cancelling (decimal client.0) (decimal token.0) counting, behind)) (counting_again counting);
  read = rw (small_again client.0 id, small_again token.0 name) refl;
  of_words = shorter 35 83 (and_more 6 28 (given 6 (codes "cancel" ∷ []) refl refl refl)
      (and_more 10 17 (small_word client.0 id) (and_more 10 6 (small_word token.0 name) (counting_fits counting)))) (omega arith);
}

-- ---- lines

-- the kind of a line of words that were written
kind_by : (has_config : Bool) (ws : List (List ℕ)) → AreWords max_line_bytes ws → kind_of has_config (join_with_byte 32 ws) ≡ kind has_config ws
kind_by has_config ws a =
    ap (λ b. cond b (kind has_config (words (join_with_byte 32 ws))) (Err causes.Bytes)) (is_line ws a) ∙ ap (kind has_config) (words_joined ws a.plain)

-- the first words of a script's line are no comment and no hz line
command_kind : (c : Command) → kind true (command_words c) ≡ Ok kinds.Command
command_kind (Register client info at) = refl
command_kind (Update client info at) = refl
command_kind (Add client token counts at) = refl
command_kind (Pull at) = refl
command_kind (Remove client) = refl
command_kind (Cancel client token counting) = refl
command_kind (Clean at) = refl

pub line_again : (c : Command) → IsAskedAgain c → line_of true (command_text c) ≡ Ok (Ask c)
unfolding line_of_words
line_again c a =
    let ws : List (List ℕ) = command_words c in
    let fits : AreWords max_line_bytes ws = shorter 83 256 a.of_words (omega arith) in
    let nothing : ws ++ [] ≡ ws = append-nil ws in
    let spoken : phrase ws ≡ Ok (a.said, []) = ap phrase (sym nothing) ∙ a.said_by [] refl in
    ap (λ k. k >>= λ x. line_of_kind x (words (command_text c))) (kind_by true ws fits ∙ command_kind c)
    ∙ ap line_of_words (words_joined ws fits.plain)
    ∙ ap (λ p. p >>= λ x. alone x >>= λ q. line_of_command (command q)) spoken
    ∙ ap line_of_command a.read

-- ---- the configuration

setting_again : (c : Setting) → IsSetting c.hz c.idle_age c.erase_age c.at_limit → configured c.hz c.idle_age c.erase_age c.at_limit c.shares ≡ Ok c
unfolding configured
setting_again c is =
    let a : ltb 0 c.hz ≡ true = grind (arith, nat_tests, is.some_hz) in
    let b : leb c.hz max_hz ≡ true = le-leb c.hz max_hz is.hz_limit in
    let d : ltb 0 c.idle_age ≡ true = grind (arith, nat_tests, is.some_age) in
    let e : leb c.idle_age c.erase_age ≡ true = le-leb c.idle_age c.erase_age is.in_order in
    let f : leb c.erase_age max_moment ≡ true = le-leb c.erase_age max_moment is.age_limit in
    let g : leb (threshold_of c.at_limit) max_moment ≡ true = le-leb (threshold_of c.at_limit) max_moment is.threshold_limit in
    rw (a, b, d, e, f, g) refl

-- the first age is not the word `reject`
not_reject : (age : ℕ) → age < 2 ^ 64 → is_reject (decimal age) ≡ false
not_reject age small = apart (2 ^ 64) age (codes "reject") (is_reject (decimal age)) refl (omega (arith, small)) (omega (arith, small)) refl

config_kind : (hz idle erase : ℕ) (at_limit : AtLimit) (shares : Shares) → IsSetting hz idle erase at_limit
    → kind false (config_words (record { hz = hz; idle_age = idle; erase_age = erase; at_limit = at_limit; shares = shares })) ≡ Ok (kinds.Config (record { hz = hz; idle_age = idle; erase_age = erase; at_limit = at_limit; shares = shares }))
unfolding heading setting
config_kind hz idle erase Wait Clock is =
    let ages = not_reject idle (omega (arith, is.in_order, is.age_limit)) in
    let other : is_virtual (decimal erase) ≡ false = apart (2 ^ 64) erase (codes "virtual") (is_virtual (decimal erase)) refl (omega (arith, is.age_limit)) (omega (arith, is.age_limit)) refl in
    rw (
      ages,
      other,
      figure_again hz (omega (arith, is.hz_limit)),
      figure_again idle (omega (arith, is.in_order, is.age_limit)),
      figure_again erase (omega (arith, is.age_limit)),
      setting_again (record { hz = hz; idle_age = idle; erase_age = erase; at_limit = Wait; shares = Clock }) is,
    ) refl
config_kind hz idle erase Wait Virtual is =
    let ages = not_reject idle (omega (arith, is.in_order, is.age_limit)) in
    rw (
      ages,
      figure_again hz (omega (arith, is.hz_limit)),
      figure_again idle (omega (arith, is.in_order, is.age_limit)),
      figure_again erase (omega (arith, is.age_limit)),
      setting_again (record { hz = hz; idle_age = idle; erase_age = erase; at_limit = Wait; shares = Virtual }) is,
    ) refl
config_kind hz idle erase Allow Clock is =
    let ages = not_reject idle (omega (arith, is.in_order, is.age_limit)) in
    rw (
      ages,
      figure_again hz (omega (arith, is.hz_limit)),
      figure_again idle (omega (arith, is.in_order, is.age_limit)),
      figure_again erase (omega (arith, is.age_limit)),
      setting_again (record { hz = hz; idle_age = idle; erase_age = erase; at_limit = Allow; shares = Clock }) is,
    ) refl
config_kind hz idle erase Allow Virtual is =
    let ages = not_reject idle (omega (arith, is.in_order, is.age_limit)) in
    rw (
      ages,
      figure_again hz (omega (arith, is.hz_limit)),
      figure_again idle (omega (arith, is.in_order, is.age_limit)),
      figure_again erase (omega (arith, is.age_limit)),
      setting_again (record { hz = hz; idle_age = idle; erase_age = erase; at_limit = Allow; shares = Virtual }) is,
    ) refl
config_kind hz idle erase (Reject threshold) Clock is =
    let ages = not_reject idle (omega (arith, is.in_order, is.age_limit)) in
    rw (
      ages,
      figure_again threshold (omega (arith, is.threshold_limit)),
      figure_again hz (omega (arith, is.hz_limit)),
      figure_again idle (omega (arith, is.in_order, is.age_limit)),
      figure_again erase (omega (arith, is.age_limit)),
      setting_again (record { hz = hz; idle_age = idle; erase_age = erase; at_limit = Reject threshold; shares = Clock }) is,
    ) refl
config_kind hz idle erase (Reject threshold) Virtual is =
    let ages = not_reject idle (omega (arith, is.in_order, is.age_limit)) in
    rw (
      ages,
      figure_again threshold (omega (arith, is.threshold_limit)),
      figure_again hz (omega (arith, is.hz_limit)),
      figure_again idle (omega (arith, is.in_order, is.age_limit)),
      figure_again erase (omega (arith, is.age_limit)),
      setting_again (record { hz = hz; idle_age = idle; erase_age = erase; at_limit = Reject threshold; shares = Virtual }) is,
    ) refl

config_fits : (hz idle erase : ℕ) (at_limit : AtLimit) (shares : Shares) → IsSetting hz idle erase at_limit → AreWords max_line_bytes (config_words (record { hz = hz; idle_age = idle; erase_age = erase; at_limit = at_limit; shares = shares }))
config_fits hz idle erase at_limit shares is =
    let first = number_word 10 hz (omega arith) (omega (arith, is.hz_limit)) (omega (arith, is.hz_limit)) in
    let ages = and_more 19 54 (moment_word idle (omega (arith, is.in_order, is.age_limit))) (erase_fits at_limit shares is.threshold_limit) in
    shorter 88 256 (and_more 2 85 (given 2 (codes "hz" ∷ []) refl refl refl) (and_more 10 74 first ages)) (omega arith)
  where
    last : AreWords 19 (decimal erase ∷ [])
    last = moment_word erase is.age_limit

    erase_fits : (at_limit : AtLimit) (shares : Shares) → threshold_of at_limit ≤ max_moment → AreWords 54 (decimal erase ∷ limit_words at_limit ++ shares_words shares)
    erase_fits Wait Clock small = shorter 19 54 last (omega arith)
    erase_fits Wait Virtual small = shorter 27 54 (and_more 19 7 last (given 7 (codes "virtual" ∷ []) refl refl refl)) (omega arith)
    erase_fits Allow Clock small = shorter 25 54 (and_more 19 5 last (given 5 (codes "allow" ∷ []) refl refl refl)) (omega arith)
    erase_fits Allow Virtual small = shorter 33 54 (and_more 19 13 last (given 13 (codes "allow" ∷ codes "virtual" ∷ []) refl refl refl)) (omega arith)
    erase_fits (Reject threshold) Clock small = shorter 46 54 (and_more 19 26 last (and_more 6 19 (given 6 (codes "reject" ∷ []) refl refl refl) (moment_word threshold small))) (omega arith)
    erase_fits (Reject threshold) Virtual small =
        and_more 19 34 last (and_more 6 27 (given 6 (codes "reject" ∷ []) refl refl refl) (and_more 19 7 (moment_word threshold small) (given 7 (codes "virtual" ∷ []) refl refl refl)))

pub config_again : (c : Setting) → IsSetting c.hz c.idle_age c.erase_age c.at_limit → kind_of false (config_text c) ≡ Ok (kinds.Config c)
config_again c is = kind_by false (config_words c) (config_fits c.hz c.idle_age c.erase_age c.at_limit c.shares is) ∙ config_kind c.hz c.idle_age c.erase_age c.at_limit c.shares is

-- ---- headers

header_kind : (has_config : Bool) (server first : ℕ) → kind has_config (header_words server first) ≡ Ok kinds.Skip
header_kind has_config server first = refl

pub header_again : (server : ServerId) (first : ℕ) → server.0 < 2 ^ 32 → first < 2 ^ 64 → IsHeaderAgain server first
unfolding words_of_header header_said
header_again server first id small =
    let number = number_word 20 first (omega arith) (omega (arith, small)) (omega (arith, small)) in
    let behind = and_more 10 26 (small_word server.0 id) (and_more 5 20 (given 5 (codes "first" ∷ []) refl refl refl) number) in
    let fits = shorter 46 256 (and_more 1 44 (given 1 (codes "#" ∷ []) refl refl refl) (and_more 6 37 (given 6 (codes "server" ∷ []) refl refl refl) behind)) (omega arith) in
    record {
      kind = λ has_config. kind_by has_config (header_words server.0 first) fits ∙ header_kind has_config server.0 first;
      read = ap header_of (words_joined (header_words server.0 first) fits.plain) ∙ rw (number_again (2 ^ 32) server.0 id (omega (arith, id)), number_again (2 ^ 64) first small (omega (arith, small))) refl;
    }

-- ---- events

pieces : (d c r : List ℕ) → ((((d ++ (32 ∷ [])) ++ c) ++ (32 ∷ 61 ∷ 32 ∷ [])) ++ r) ≡ d ++ (32 ∷ (c ++ (32 ∷ 61 ∷ 32 ∷ r)))
pieces d c r =
    append_assoc ((d ++ (32 ∷ [])) ++ c) (32 ∷ 61 ∷ 32 ∷ []) r
    ∙ append_assoc (d ++ (32 ∷ [])) c (32 ∷ 61 ∷ 32 ∷ r)
    ∙ append_assoc d (32 ∷ []) (c ++ (32 ∷ 61 ∷ 32 ∷ r))

-- what was bound to a result that is Ok
record Bound {S X E : Type 0} (r : Result S E) (f : S → Result X E) (x : X) : Type 0 where
  pub value : S
  pub ok : r ≡ Ok value
  pub next : f value ≡ Ok x

bound : {S X E : Type 0} (r : Result S E) (f : S → Result X E) (x : X) → (r >>= f) ≡ Ok x → Bound r f x
bound (Ok s) f x h = record { value = s; ok = refl; next = h }
bound (Err e) f x h = absurd (cc)

command_some : (c : Command) → 0 < length (command_words c)
command_some (Register client info at) = omega arith
command_some (Update client info at) = omega arith
command_some (Add client token counts at) = omega arith
command_some (Pull at) = omega arith
command_some (Remove client) = omega arith
command_some (Cancel client token counting) = omega arith
command_some (Clean at) = omega arith

-- the first word is a number, so the line is a command's
event_kind : (n : ℕ) (ws : List (List ℕ)) → n < 2 ^ 32 → kind true (decimal n ∷ ws) ≡ Ok kinds.Command
event_kind n ws h =
    let other : bytes_eq (decimal n) (codes "hz") ≡ false = apart (2 ^ 32) n (codes "hz") (bytes_eq (decimal n) (codes "hz")) refl h (omega (arith, h)) refl in
    rw (decimal_means n (omega (arith, h)), other) refl

module _ {T : Type 0} (made : ℤ → ℕ → Option T) (text : T → List ℕ) where
  reply_some : (r : Reply T) → 0 < length (reply_words text r)
  reply_some Registered = omega arith
  reply_some Updated = omega arith
  reply_some (Tagged t) = omega arith
  reply_some (Granted client token phase beyond cost) = omega arith
  reply_some (Later m) = omega arith
  reply_some Nothing = omega arith
  reply_some (Removed n) = omega arith
  reply_some (Cleaned idled erased) = omega arith
  reply_some (Refused refusal) = omega arith

  -- what follows the worker
  abbrev behind : Event T → List (List ℕ)
  behind e = command_words e.command ++ (codes "=" ∷ reply_words text e.reply)

  behind_some : (e : Event T) → 0 < length (behind e)
  behind_some e = omega (arith, length-append (command_words e.command) (codes "=" ∷ reply_words text e.reply))

  event_fits : (e : Event T) → e.worker.0 < 2 ^ 32 → IsAskedAgain e.command → IsReadBack made text e.reply → AreWords max_line_bytes (event_words text e)
  event_fits e id a r =
      let replied = and_some 1 127 (codes "=") (reply_words text e.reply) (reply_some e.reply) (given 1 (codes "=" ∷ []) refl refl refl) r.of_words in
      let both = both_some 83 129 (command_words e.command) (codes "=" ∷ reply_words text e.reply) (command_some e.command) (omega arith) a.of_words replied in
      shorter 224 256 (and_some 10 213 (decimal e.worker.0) (behind e) (behind_some e) (small_word e.worker.0 id) both) (omega arith)

  -- the event of its words
  event_read : (e : Event T) → e.worker.0 < 2 ^ 32 → IsAskedAgain e.command → IsReadBack made text e.reply → (words_of_event (event_words text e) >>= event_said made) ≡ Ok e
  unfolding words_of_event answer_words event_said
  event_read e id a r =
      let same : words (reply_text text e.reply) ≡ reply_words text e.reply = words_joined (reply_words text e.reply) r.of_words.plain in
      let b = bound (saying (reply_words text e.reply)) (reply_said made) e.reply (ap (reply_of made) (sym same) ∙ r.read) in
      rw (a.said_by (codes "=" ∷ reply_words text e.reply) refl, b.ok, number_again (2 ^ 32) e.worker.0 id (omega (arith, id)), a.read, b.next) refl

  pub event_again : (e : Event T) → e.worker.0 < 2 ^ 32 → IsAskedAgain e.command → IsReadBack made text e.reply → event_of made true (event_text text e) ≡ Ok (event_lines.Event e)
  event_again e id a r =
      let ws = event_words text e in
      let fits = event_fits e id a r in
      ap (λ k. k >>= λ x. event_line_of_kind made true x (words (event_text text e))) (kind_by true ws fits ∙ event_kind e.worker.0 (behind e) id)
      ∙ ap (event_line_of_kind made true kinds.Command) (words_joined ws fits.plain)
      ∙ ap (λ x. x >>= λ event. Ok (event_lines.Event event)) (event_read e id a r)

  -- its text, piece by piece
  pub event_pieces : (e : Event T) → event_text text e ≡ decimal e.worker.0 ++ (32 ∷ (command_text e.command ++ (32 ∷ 61 ∷ 32 ∷ reply_text text e.reply)))
  event_pieces e =
      let sign : List (List ℕ) = codes "=" ∷ reply_words text e.reply in
      join_some (decimal e.worker.0 ∷ []) (behind e) (omega arith) (behind_some e)
      ∙ ap (λ t. decimal e.worker.0 ++ (32 ∷ t)) (join_some (command_words e.command) sign (command_some e.command) (omega arith)
      ∙ ap (λ t. command_text e.command ++ (32 ∷ t)) (join_some (codes "=" ∷ []) (reply_words text e.reply) (omega arith) (reply_some e.reply)))

  -- these pieces are written one after the other, and then the LF
  pub event_written : {X E : Type 0} (result : Result X E) (a b c d e f : Option (List ℕ)) (event : Event T) → Appends a b (decimal event.worker.0 ++ (32 ∷ [])) → Appends b c (command_text event.command)
      → Appends c d (32 ∷ 61 ∷ 32 ∷ []) → Appends d e (reply_text text event.reply) → OnOk result (Appends e f (10 ∷ [])) → OnOk result (Appends a f (with_line_end (event_text text event)))
  event_written (Ok x) a b c d e f event worker asked sign replied end =
      let number = decimal event.worker.0 in
      let word = command_text event.command in
      let reply = reply_text text event.reply in
      let front = Appends-trans a b c (number ++ (32 ∷ [])) word worker asked in
      let middle = Appends-trans a c d ((number ++ (32 ∷ [])) ++ word) (32 ∷ 61 ∷ 32 ∷ []) front sign in
      let line = Appends-trans a d e (((number ++ (32 ∷ [])) ++ word) ++ (32 ∷ 61 ∷ 32 ∷ [])) reply middle replied in
      subst (λ t. Appends a f (t ++ (10 ∷ []))) (pieces number word reply ∙ sym (event_pieces event))
      (Appends-trans a e f ((((number ++ (32 ∷ [])) ++ word) ++ (32 ∷ 61 ∷ 32 ∷ [])) ++ reply) (10 ∷ []) line end)
  event_written (Err x) a b c d e f event worker asked sign replied end = tt

pub whenever : {X E P : Type 0} (result : Result X E) → P → OnOk result P
whenever (Ok x) h = h
whenever (Err e) h = tt
