-- Replies that were written are read again.
use Rattle.std.proofs.Common.{◌≡◌, ℕ, suc, ◌^◌, ◌<◌, Bool, true, false, List, [], ◌∷◌, ◌++◌, refl, sym, ap, subst, ◌∙◌, arith, ◌≤◌, length, length-append, Option, Some, None, Ok, ℤ, pos, negsuc, eqb, ltb, cond}
use Rattle.std.specs.Prelude.{codes, option_and_then, unsigned_abs}
use Rattle.std.specs.List.{list_all}
use Rattle.std.specs.Option.{ok_or}
use Rattle.std.specs.Str.{bytes_eq}
use Rattle.std.specs.Fmt.{decimal, signed_decimal}
use Rattle.std.proofs.lemmas.Bool.{eqb-true}
use Rattle.std.proofs.lemmas.Bool.Decides.{nat_tests}
use Rattle.std.proofs.lemmas.Slice.Eq.{bytes_eq-Decides}
use Rattle.dmc_types.specs.declared.ids.ClientId.{ClientId}
use Rattle.dmc_types.specs.declared.ids.Token.{Token}
use Rattle.dmc_types.specs.declared.config.PhaseType.{PhaseType}
use Rattle.dmc_types.specs.declared.config.PhaseType.TheVariants as phases
use Rattle.dmc_types.specs.declared.refusal.Field.TheVariants as fields
use Rattle.dmc_types.specs.declared.refusal.Refusal.{Refusal}
use Rattle.dmc_types.specs.declared.refusal.Refusal.TheVariants as refusals
use Rattle.dmc_tag.specs.declared.reply.Tags.{Tags}
use Rattle.dmc_tag.specs.declared.reply.Reply.{Reply}
use Rattle.dmc_tag.specs.declared.reply.Reply.TheVariants.{Registered, Updated, Tagged, Granted, Later, Nothing, Removed, Cleaned, Refused}
use Rattle.dmc_text.specs.declared.cause.LineCause.TheVariants as causes
use Rattle.dmc_text.specs.Words.{is_word}
use Rattle.dmc_text.specs.Tags.{fraction_text, fraction_of, signed}
use Rattle.dmc_text.specs.Replies.{IsPhase, tag, optional_tag, tag_word, tag_text, cost_words, reply_words, reply_of, saying, reply_said, count, cost_of, cost_said, instant}
use Rattle.std.proofs.lemmas.Fmt.{length-decimal-le_wide}
use Rattle.dmc_text.specs.Lines.{is_line_byte}
use Rattle.dmc_text.specs.RoundTrip.{is_plain, AreWords, IsReadBack}
use Rattle.dmc_text.specs.internal.RoundTrip.{ReadsAgain, ReadsEach}
use Rattle.dmc_text.proofs.LineWords.{one_word, given, shorter, and_more, number_word, small_word, decimal_clean}
use Rattle.dmc_text.proofs.CostLemmas.{word_of, cost_last, no_beyond, with_cost}
use Rattle.dmc_text.proofs.TextLemmas.{is_other, and_parts, words_joined, number_again, decimal_plain, Fits128, fraction_again}

all_joined : (p : ℕ → Bool) (xs ys : List ℕ) → list_all p xs ≡ true → list_all p ys ≡ true → list_all p (xs ++ ys) ≡ true
all_joined p [] ys h k = k
all_joined p (x ∷ xs) ys h k =
    let q = and_parts (p x) (list_all p xs) h in
    rw (q.0, all_joined p xs ys q.1 k) refl

still_word : (xs ys : List ℕ) → is_word xs ≡ true → is_word (xs ++ ys) ≡ true
still_word [] ys h = absurd (cc)
still_word (x ∷ xs) ys h = refl

plain_parts : (w : List ℕ) → is_word w ≡ true → list_all is_other w ≡ true → is_plain w ≡ true
plain_parts w h k = rw (h, k) refl

-- how large the numerator of a tag is
abbrev pub Fits90 : ℤ → Type 0
Fits90 z = unsigned_abs z ≤ 2 ^ 90

fits_more : (z : ℤ) → Fits90 z → Fits128 z
fits_more (pos n) h = omega arith
fits_more (negsuc m) h = omega arith

signed_plain : (z : ℤ) → Fits128 z → is_plain (signed_decimal z) ≡ true
signed_plain (pos n) h = decimal_plain n (omega arith)
signed_plain (negsuc m) h =
    let p = and_parts (is_word (decimal (suc m))) (list_all is_other (decimal (suc m))) (decimal_plain (suc m) (omega arith)) in
    p.1

signed_clean : (z : ℤ) → Fits128 z → list_all is_line_byte (signed_decimal z) ≡ true
signed_clean (pos n) h = decimal_clean n (omega arith)
signed_clean (negsuc m) h = decimal_clean (suc m) (omega arith)

signed_short : (z : ℤ) → Fits90 z → length (signed_decimal z) ≤ 29
signed_short (pos n) h = omega (arith, length-decimal-le_wide 28 n (omega arith) (omega arith) (omega arith))
signed_short (negsuc m) h = omega (arith, length-decimal-le_wide 28 (suc m) (omega arith) (omega arith) (omega arith))

fraction_clean : (n : ℤ) (d : ℕ) (b : Bool) → eqb d 1 ≡ b → Fits128 n → d ≤ 2 ^ 32 → list_all is_line_byte (fraction_text n d) ≡ true
fraction_clean n d true e h small = ap (λ t. list_all is_line_byte (cond t (signed_decimal n) (signed_decimal n ++ (47 ∷ decimal d)))) e ∙ signed_clean n h
fraction_clean n d false e h small =
    ap (λ t. list_all is_line_byte (cond t (signed_decimal n) (signed_decimal n ++ (47 ∷ decimal d)))) e
    ∙ all_joined is_line_byte (signed_decimal n) (47 ∷ decimal d) (signed_clean n h) (decimal_clean d (omega arith))

fraction_short : (n : ℤ) (d : ℕ) (b : Bool) → eqb d 1 ≡ b → Fits90 n → d ≤ 2 ^ 32 → length (fraction_text n d) ≤ 40
fraction_short n d true e h small =
    let whole : length (fraction_text n d) ≡ length (signed_decimal n) = ap (λ t. length (cond t (signed_decimal n) (signed_decimal n ++ (47 ∷ decimal d)))) e in
    omega (arith, whole, signed_short n h)
fraction_short n d false e h small =
    let both : length (fraction_text n d) ≡ length (signed_decimal n ++ (47 ∷ decimal d)) = ap (λ t. length (cond t (signed_decimal n) (signed_decimal n ++ (47 ∷ decimal d)))) e in
    omega (arith, both, length-append (signed_decimal n) (47 ∷ decimal d), signed_short n h, length-decimal-le_wide 10 d (omega arith) (omega arith) (omega arith))

fraction_plain : (n : ℤ) (d : ℕ) (b : Bool) → eqb d 1 ≡ b → Fits128 n → d < 2 ^ 64 → is_plain (fraction_text n d) ≡ true
fraction_plain n d true e h small = ap (λ t. is_plain (cond t (signed_decimal n) (signed_decimal n ++ (47 ∷ decimal d)))) e ∙ signed_plain n h
fraction_plain n d false e h small =
    let p = and_parts (is_word (signed_decimal n)) (list_all is_other (signed_decimal n)) (signed_plain n h) in
    let q = and_parts (is_word (decimal d)) (list_all is_other (decimal d)) (decimal_plain d (omega arith)) in
    ap (λ t. is_plain (cond t (signed_decimal n) (signed_decimal n ++ (47 ∷ decimal d)))) e
    ∙ plain_parts (signed_decimal n ++ (47 ∷ decimal d)) (still_word (signed_decimal n) (47 ∷ decimal d) p.0) (all_joined is_other (signed_decimal n) (47 ∷ decimal d) p.1 q.1)

dash_none : fraction_of (codes "-") ≡ None
unfolding fraction_of signed
dash_none = refl

not_dash : (w : List ℕ) (x : ℤ × ℕ) (b : Bool) → bytes_eq w (codes "-") ≡ b → fraction_of w ≡ Some x → bytes_eq w (codes "-") ≡ false
not_dash w x false e h = e
not_dash w x true e h =
    let same : w ≡ codes "-" = (bytes_eq-Decides w (codes "-")).0 e in
    let none : fraction_of w ≡ None = ap fraction_of same ∙ dash_none in
    absurd (cc)

-- a tag of whose parts it is made again reads again
pub tag_again : {T : Type 0} (made : ℤ → ℕ → Option T) (numer : T → ℤ) (denom : T → ℕ) (a : T) → Fits90 (numer a) → 0 < denom a → denom a ≤ 2 ^ 32 → made (numer a) (denom a) ≡ Some a
    → ReadsAgain made (tag_text numer denom) a
unfolding tag
tag_again {T} made numer denom a h some small e =
    let fits = fits_more (numer a) h in
    let parts = fraction_again (numer a) (denom a) fits some (omega arith) in
    record {
      word = one_word 40 (fraction_text (numer a) (denom a)) (fraction_plain (numer a) (denom a) (eqb (denom a) 1) refl fits (omega arith))
          (fraction_clean (numer a) (denom a) (eqb (denom a) 1) refl fits small) (fraction_short (numer a) (denom a) (eqb (denom a) 1) refl h small);
      some = not_dash (fraction_text (numer a) (denom a)) (numer a, denom a) (bytes_eq (fraction_text (numer a) (denom a)) (codes "-")) refl parts;
      read = ap (λ o. ok_or (option_and_then (λ x. made x.0 x.1) o) causes.Number) parts ∙ ap (λ o. ok_or o causes.Number) e;
    }

-- the same of the parts that a call gave
pub parts_again : {T : Type 0} (made : ℤ → ℕ → Option T) (numer : T → ℤ) (denom : T → ℕ) (a : T) (n : ℤ) (d : ℕ) → n ≡ numer a → d ≡ denom a → Fits90 n → 0 < d → d ≤ 2 ^ 32 → made n d ≡ Some a
    → ReadsAgain made (tag_text numer denom) a
parts_again made numer denom a n d n-is d-is h some small e =
    tag_again made numer denom a (subst Fits90 n-is h) (omega arith) (omega arith) (ap (λ z. made z (denom a)) (sym n-is) ∙ ap (made n) (sym d-is) ∙ e)

-- ---- each reply

count_again : (n : ℕ) → n < 2 ^ 32 → count (decimal n) ≡ Ok n
unfolding count
count_again n h = ap (λ o. ok_or o causes.Number) (number_again (2 ^ 32) n h (omega arith))

cost_said_by : (cost : ℕ) (one : Bool) → eqb cost 1 ≡ one → 0 < cost → cost < 2 ^ 32 → cost_said (word_of cost) ≡ Ok cost
unfolding cost_said cost_of
cost_said_by cost true e some h = rw e (ap Ok (sym (eqb-true cost 1 e)))
cost_said_by cost false e some h =
    let yes : ltb 0 cost ≡ true = grind (arith, nat_tests) in
    rw (e, count_again cost h, yes) refl

cost_said_again : (cost : ℕ) → 0 < cost → cost < 2 ^ 32 → cost_said (word_of cost) ≡ Ok cost
cost_said_again cost some h = cost_said_by cost (eqb cost 1) refl some h

instant_again : (n : ℕ) → n < 2 ^ 128 → instant (decimal n) ≡ Ok n
unfolding instant
instant_again n h = ap (λ o. ok_or o causes.Number) (number_again (2 ^ 128) n h (omega arith))

optional_again : {T : Type 0} (made : ℤ → ℕ → Option T) (text : T → List ℕ) (o : Option T) → ReadsEach made text o → AreWords 40 (tag_word text o ∷ []) × (optional_tag made (tag_word text o) ≡ Ok o)
unfolding optional_tag
optional_again made text None h = (given 40 (codes "-" ∷ []) refl refl refl, refl)
optional_again made text (Some a) h = (h.word, rw (h.some, h.read) refl)

module _ {T : Type 0} (made : ℤ → ℕ → Option T) (text : T → List ℕ) where
  -- words in one piece each, which are read as the reply
  joined : (reply : Reply T) → AreWords 127 (reply_words text reply) → reply_of made (reply_words text reply) ≡ Ok reply → IsReadBack made text reply
  joined reply ws e = record { read = ap (reply_of made) (words_joined (reply_words text reply) ws.plain) ∙ e; of_words = ws }

  pub back_registered : IsReadBack made text Registered
  unfolding saying reply_said
  back_registered = joined Registered (given 127 (codes "ok" ∷ []) refl refl refl) refl

  pub back_updated : IsReadBack made text Updated
  unfolding saying reply_said
  back_updated = joined Updated (given 127 (codes "updated" ∷ []) refl refl refl) refl

  pub back_nothing : IsReadBack made text Nothing
  unfolding saying reply_said
  back_nothing = joined Nothing (given 127 (codes "none" ∷ []) refl refl refl) refl

  pub back_later : (m : ℕ) → m < 2 ^ 128 → IsReadBack made text (Later m)
  unfolding saying reply_said
  back_later m h =
      let number = number_word 39 m (omega arith) (omega arith) (omega arith) in
      joined (Later m) (shorter 46 127 (and_more 6 39 (given 6 (codes "future" ∷ []) refl refl refl) number) (omega arith)) (rw (instant_again m h) refl)

  pub back_removed : (n : ℕ) → n < 2 ^ 32 → IsReadBack made text (Removed n)
  unfolding saying reply_said
  back_removed n h = joined (Removed n) (shorter 18 127 (and_more 7 10 (given 7 (codes "dropped" ∷ []) refl refl refl) (small_word n h)) (omega arith)) (rw (count_again n h) refl)

  pub back_cleaned : (i e : ℕ) → i < 2 ^ 32 → e < 2 ^ 32 → IsReadBack made text (Cleaned i e)
  unfolding saying reply_said
  back_cleaned i e h k =
      let numbers = and_more 10 10 (small_word i h) (small_word e k) in
      joined (Cleaned i e) (shorter 29 127 (and_more 7 21 (given 7 (codes "cleaned" ∷ []) refl refl refl) numbers) (omega arith)) (rw (count_again i h, count_again e k) refl)

  refused : (refusal : Refusal) → AreWords 127 (reply_words text (Refused refusal)) → reply_of made (reply_words text (Refused refusal)) ≡ Ok (Refused refusal) → IsReadBack made text (Refused refusal)
  refused refusal ws e = joined (Refused refusal) ws e

  pub back_refused : (refusal : Refusal) → IsReadBack made text (Refused refusal)
  unfolding saying reply_said
  back_refused refusals.Known = refused refusals.Known (given 127 _ refl refl refl) refl
  back_refused refusals.Unknown = refused refusals.Unknown (given 127 _ refl refl refl) refl
  back_refused (refusals.Inexact fields.Reservation) = refused (refusals.Inexact fields.Reservation) (given 127 _ refl refl refl) refl
  back_refused (refusals.Inexact fields.Weight) = refused (refusals.Inexact fields.Weight) (given 127 _ refl refl refl) refl
  back_refused (refusals.Inexact fields.Limit) = refused (refusals.Inexact fields.Limit) (given 127 _ refl refl refl) refl
  back_refused refusals.Clients = refused refusals.Clients (given 127 _ refl refl refl) refl
  back_refused refusals.QueueFull = refused refusals.QueueFull (given 127 _ refl refl refl) refl
  back_refused refusals.Range = refused refusals.Range (given 127 _ refl refl refl) refl
  back_refused refusals.Busy = refused refusals.Busy (given 127 _ refl refl refl) refl
  back_refused refusals.OverLimit = refused refusals.OverLimit (given 127 _ refl refl refl) refl

  -- a grant, by the words of its phase
  granted_words : (c : ClientId) (k : Token) (cost : ℕ) (w : List ℕ) (ws : List (List ℕ)) → c.0 < 2 ^ 32 → k.0 < 2 ^ 32 → cost < 2 ^ 32 → AreWords 15 (w ∷ ws)
      → AreWords 127 (codes "grant" ∷ decimal c.0 ∷ decimal k.0 ∷ w ∷ (ws ++ cost_words cost))
  granted_words c k cost w ws h j small last =
      let ids = and_more 10 26 (small_word c.0 h) (and_more 10 15 (small_word k.0 j) last) in
      let all = and_more 5 37 (given 5 (codes "grant" ∷ []) refl refl refl) ids in
      shorter 59 127 (with_cost 43 cost (codes "grant" ∷ decimal c.0 ∷ decimal k.0 ∷ w ∷ ws) (omega arith) small all) (omega arith)

  pub back_reserved : (c : ClientId) (k : Token) (cost : ℕ) → c.0 < 2 ^ 32 → k.0 < 2 ^ 32 → 0 < cost → cost < 2 ^ 32 → IsReadBack made text (Granted c k phases.Reservation false cost)
  unfolding saying reply_said
  back_reserved c k cost h j some small =
      joined (Granted c k phases.Reservation false cost) (granted_words c k cost (codes "reservation") [] h j small (given 15 _ refl refl refl))
      (rw (cost_last cost, count_again c.0 h, count_again k.0 j, cost_said_again cost some small) refl)

  pub back_shared : (c : ClientId) (k : Token) (cost : ℕ) → c.0 < 2 ^ 32 → k.0 < 2 ^ 32 → 0 < cost → cost < 2 ^ 32 → IsReadBack made text (Granted c k phases.Priority false cost)
  unfolding saying reply_said
  back_shared c k cost h j some small =
      joined (Granted c k phases.Priority false cost) (granted_words c k cost (codes "priority") [] h j small (given 15 _ refl refl refl))
      (rw (no_beyond cost, cost_last cost, count_again c.0 h, count_again k.0 j, cost_said_again cost some small) refl)

  pub back_beyond : (c : ClientId) (k : Token) (cost : ℕ) → c.0 < 2 ^ 32 → k.0 < 2 ^ 32 → 0 < cost → cost < 2 ^ 32 → IsReadBack made text (Granted c k phases.Priority true cost)
  unfolding saying reply_said
  back_beyond c k cost h j some small =
      joined (Granted c k phases.Priority true cost) (granted_words c k cost (codes "priority") (codes "beyond" ∷ []) h j small (given 15 _ refl refl refl))
      (rw (cost_last cost, count_again c.0 h, count_again k.0 j, cost_said_again cost some small) refl)

  pub back_tagged : (t : Tags T) → ReadsEach made text t.r → ReadsAgain made text t.l → ReadsAgain made text t.p → IsReadBack made text (Tagged t)
  unfolding saying reply_said
  back_tagged t r l p =
      let first = optional_again made text t.r r in
      let tags = and_more 40 81 first.0 (and_more 40 40 l.word p.word) in
      joined (Tagged t) (and_more 4 122 (given 4 (codes "tags" ∷ []) refl refl refl) tags) (rw (first.1, l.read, p.read) refl)

  pub back_granted : (c : ClientId) (k : Token) (phase : PhaseType) (beyond : Bool) (cost : ℕ) → IsPhase phase beyond → c.0 < 2 ^ 32 → k.0 < 2 ^ 32 → 0 < cost → cost < 2 ^ 32 → IsReadBack made text (Granted c k phase beyond cost)
  back_granted c k phases.Reservation true cost reported h j some small = absurd (cc)
  back_granted c k phases.Reservation false cost reported h j some small = back_reserved c k cost h j some small
  back_granted c k phases.Priority true cost reported h j some small = back_beyond c k cost h j some small
  back_granted c k phases.Priority false cost reported h j some small = back_shared c k cost h j some small
