-- Those that wait, and those of which something was given back, are arrivals in the order of their numbers.
use Rattle.std.proofs.Common.{◌≡◌, ℕ, zero, suc, ◌+◌, ◌-◌, ◌<◌, Bool, true, false, not, List, [], ◌∷◌, ◌++◌, length, drop, Some, refl, sym, ap, ◌∙◌, subst, arith, append_assoc, length-append}
use Rattle.std.specs.Prelude.{filter, slice_get, if◌then◌else◌}
use Rattle.std.specs.List.{AllByRecursion}
use Rattle.std.specs.Cmp.{IsTotalOrder}
use Rattle.std.proofs.lemmas.List.{append-nil}
use Rattle.dmc_types.specs.Values.{Setting}
use Rattle.dmc_types.specs.declared.ids.ClientId.{ClientId}
use Rattle.dmc_types.specs.declared.ids.Token.{Token}
use Rattle.dmc_types.specs.declared.config.Counting.{Counting}
use Rattle.dmc_types.specs.declared.config.Counting.TheVariants.{All, Others}
use Rattle.dmc_types.specs.declared.command.Command.{Command}
use Rattle.dmc_types.specs.declared.command.Command.TheVariants.{Register, Update, Add, Pull, Remove, Cancel}
use Rattle.dmc_tag.specs.Cancel as cancels
use Rattle.dmc_tag.specs.Replay.{replays_from}
use Rattle.dmc_tag.specs.Rules as rules_of
use Rattle.dmc_tag.specs.State.{State, is_client}
use Rattle.dmc_tag.specs.Step.{step}
use Rattle.dmc_tag.specs.Tag.{Fraction, Tagging, IsExact}
use Rattle.dmc_tag.specs.declared.event.Event.{Event}
use Rattle.dmc_tag.specs.declared.reply.Reply.{Reply}
use Rattle.dmc_tag.specs.declared.reply.Reply.TheVariants.{Registered, Updated, Tagged, Removed}
use Rattle.dmc_lemmas.proofs.Lists.{all_append, all_as, all_filtered, all_next}
use Rattle.dmc_history_laws.specs.Bounds.{Arrival, Numbered, arrival_of, arrivals, given_back_from, given_back_of, has_token, numbered_from, still_waiting, waiting_from}
use Rattle.dmc_history_laws.proofs.Becomes.{step_becomes}
use Rattle.dmc_history_laws.proofs.Given.{AreBelow, AscendsFrom, ascends_filtered, ascends_next, from_lower, zero_more}
use Rattle.dmc_history_laws.proofs.Histories.{IsSound, sound_step}
use Rattle.dmc_history_laws.proofs.InTurn.{AreInTurn}

-- ---- from event to event

module _ {T : Type 0} (id : ClientId) (F : ℕ → List Numbered → List Numbered → Type 0) (c : Command) (reply : Reply T) (arrived : ℕ) (those back : List Numbered) where
  -- so many arrived, those wait, and of those something was given back
  abbrev pub Next : Type 0
  Next = F (arrived + length (arrival_of id c reply)) (still_waiting id c reply those ++ numbered_from (suc arrived) (arrival_of id c reply)) (back ++ given_back_of id c reply those)

  -- none comes
  pub none_comes : (left given : List Numbered) → arrival_of id c reply ≡ [] → still_waiting id c reply those ≡ left → given_back_of id c reply those ≡ given → F arrived left (back ++ given) → Next
  none_comes left given none left_is given_is h =
      subst (λ came. F (arrived + length came) (still_waiting id c reply those ++ numbered_from (suc arrived) came) (back ++ given_back_of id c reply those)) (sym none)
      (subst (λ n. F n (still_waiting id c reply those ++ []) (back ++ given_back_of id c reply those)) (sym (zero_more arrived))
      (subst (λ ns. F arrived ns (back ++ given_back_of id c reply those)) (sym (append-nil (still_waiting id c reply those) ∙ left_is))
      (subst (λ ns. F arrived left (back ++ ns)) (sym given_is) h)))

  abbrev pub as_new : Arrival → Numbered
  as_new a = record { number = suc arrived; arrival = a }

  -- one comes
  pub one_comes : (a : Arrival) → arrival_of id c reply ≡ a ∷ [] → still_waiting id c reply those ≡ those → given_back_of id c reply those ≡ [] → F (suc arrived) (those ++ as_new a ∷ []) back → Next
  one_comes a one left_is given_is h =
      let more : suc arrived ≡ arrived + 1 = omega arith in
      subst (λ came. F (arrived + length came) (still_waiting id c reply those ++ numbered_from (suc arrived) came) (back ++ given_back_of id c reply those)) (sym one)
      (subst (λ n. F n (still_waiting id c reply those ++ as_new a ∷ []) (back ++ given_back_of id c reply those)) more
      (subst (λ ns. F (suc arrived) (ns ++ as_new a ∷ []) (back ++ given_back_of id c reply those)) (sym left_is)
      (subst (λ ns. F (suc arrived) (those ++ as_new a ∷ []) (back ++ ns)) (sym given_is)
      (subst (λ ns. F (suc arrived) (those ++ as_new a ∷ []) ns) (sym (append-nil back)) h))))

  -- nothing is given back
  pub none_back : F arrived those back → F arrived those (back ++ [])
  none_back h = subst (F arrived those) (sym (append-nil back)) h

-- ---- lists

pub at_front : {X : Type 0} (n : ℕ) (xs : List X) (x : X) (rest : List X) → drop n xs ≡ x ∷ rest → slice_get xs n ≡ Some x
at_front zero [] x rest e = cc
at_front zero (y ∷ xs) x rest e = let same : y ≡ x = cc in ap Some same
at_front (suc n) [] x rest e = cc
at_front (suc n) (y ∷ xs) x rest e = at_front n xs x rest e

pub drop_on : {X : Type 0} (n m : ℕ) (xs : List X) → drop (n + m) xs ≡ drop m (drop n xs)
drop_on zero m xs = let e : 0 + m ≡ m = omega arith in ap (λ k. drop k xs) e
drop_on (suc n) m [] = none (n + m) m (omega arith) where
  none : (k m : ℕ) {X : Type 0} → suc k ≡ suc n + m → ◌≡◌ {A = List X} (drop (suc n + m) []) (drop m [])
  none k zero e = ap (λ j. drop j []) (sym e)
  none k (suc m) e = ap (λ j. drop j []) (sym e)
drop_on (suc n) m (x ∷ xs) = let e : suc n + m ≡ suc (n + m) = omega arith in ap (λ k. drop k (x ∷ xs)) e ∙ drop_on n m xs

pub behind_all : {X : Type 0} (xs ys : List X) → drop (length xs) (xs ++ ys) ≡ ys
behind_all [] ys = refl
behind_all (x ∷ xs) ys = behind_all xs ys

-- ---- all of a client's arrivals

module _ (all : List Arrival) where
  -- it is the arrival of its number
  abbrev pub IsArrival : Numbered → Type 0
  IsArrival n = slice_get all (n.number - 1) ≡ Some n.arrival

  pub record IsCounted (arrived : ℕ) (those back : List Numbered) : Type 0 where
    pub ascends : AscendsFrom 0 those
    pub below : AreBelow (suc arrived) those
    pub arrivals : AllByRecursion IsArrival those
    pub given : AreBelow (suc arrived) back

  module _ (arrived : ℕ) (those back : List Numbered) (is : IsCounted arrived those back) where
    -- some of them go
    counted_filtered : (test : Numbered → Bool) (given : List Numbered) → AreBelow (suc arrived) given → IsCounted arrived (filter test those) (back ++ given)
    counted_filtered test given more = record {
      ascends = ascends_filtered test 0 those is.ascends;
      below = all_filtered (λ n. n.number < suc arrived) test those is.below;
      arrivals = all_filtered IsArrival test those is.arrivals;
      given = all_append (λ n. n.number < suc arrived) back given is.given more;
    }

    counted_rest : IsCounted arrived (drop 1 those) back
    counted_rest = record { ascends = rest those is.ascends; below = rest_all (λ n. n.number < suc arrived) those is.below; arrivals = rest_all IsArrival those is.arrivals; given = is.given } where
      rest : (ns : List Numbered) → AscendsFrom 0 ns → AscendsFrom 0 (drop 1 ns)
      rest [] h = tt
      rest (n ∷ ns) h = from_lower 0 n.number ns (omega arith) h.1

      rest_all : (P : Numbered → Type 0) (ns : List Numbered) → AllByRecursion P ns → AllByRecursion P (drop 1 ns)
      rest_all P [] h = tt
      rest_all P (n ∷ ns) h = h.1

    counted_none : IsCounted arrived [] back
    counted_none = record { ascends = tt; below = tt; arrivals = tt; given = is.given }

    counted_more : (a : Arrival) (later : List Arrival) → drop arrived all ≡ a ∷ later → IsCounted (suc arrived) (those ++ record { number = suc arrived; arrival = a } ∷ []) back
    counted_more a later e =
        let n : Numbered = record { number = suc arrived; arrival = a } in
        let at : suc arrived - 1 ≡ arrived = omega arith in
        record {
          ascends = ascends_next 0 those n (omega arith) is.ascends is.below;
          below = all_next (λ m. m.number < suc (suc arrived)) those n (all_as (λ m. m.number < suc arrived) (λ m. m.number < suc (suc arrived)) (λ m h. omega (arith, h)) those is.below) (omega arith);
          arrivals = all_next IsArrival those n is.arrivals (ap (slice_get all) at ∙ at_front arrived all a later e);
          given = all_as (λ m. m.number < suc arrived) (λ m. m.number < suc (suc arrived)) (λ m h. omega (arith, h)) back is.given;
        }

  module _ {T : Type 0} (ops : Tagging T) (order : IsTotalOrder ops.compare) (id : ClientId) where
    -- those that come by the command are the next of all
    abbrev pub Counts : Command → Reply T → Type 0
    Counts c reply = (arrived : ℕ) (those back : List Numbered) (later : List Arrival) → drop arrived all ≡ arrival_of id c reply ++ later → IsCounted arrived those back → Next id IsCounted c reply arrived those back

    abbrev taken_with : Token → List Numbered → List Numbered
    taken_with token those = filter (has_token token) those

    pub step_counts : (s : State T) → AreInTurn ops order s → (c : Command) → Counts c ((step ops s c).1)
    step_counts s turn = step_becomes ops order id s turn (λ c reply new. Counts c reply)
        (λ c reply new o says stay like next arrived those back later e is. none_comes id IsCounted c reply arrived those back those [] says.came_is (stay those).0 (stay those).1 (none_back id IsCounted c reply arrived those back is))
        (λ client info at new own none next arrived those back later e is. none_comes {T = T} id IsCounted (Register client info at) Registered arrived those back those [] refl refl refl (none_back {T = T} id IsCounted (Register client info at) Registered arrived those back is))
        (λ client info at new c own mine next arrived those back later e is. none_comes {T = T} id IsCounted (Update client info at) Updated arrived those back those [] refl refl refl (none_back {T = T} id IsCounted (Update client info at) Updated arrived those back is))
        (λ client token params at new c d tags slack says mine like given next last slack_is arrived those back later e is. one_comes {T = T} id IsCounted (Add client token params at) (Tagged tags) arrived those back (record { token = token; params = params }) says.came_is refl refl (counted_more arrived those back is (record { token = token; params = params }) later (e ∙ ap (λ came. came ++ later) says.came_is)))
        (λ at new found amount phase beyond says g mine next arrived those back later e is. none_comes id IsCounted (Pull at) (rules_of.granted found phase beyond) arrived those back (drop 1 those) [] refl (ap (λ b. if b then drop 1 those else those) (is_own _ says.left_is)) refl (subst (IsCounted arrived (drop 1 those)) (sym (append-nil back)) (counted_rest arrived those back is)))
        (λ client new c own says mine next arrived those back later e is. none_comes {T = T} id IsCounted (Remove client) (Removed (length c.requests)) arrived those back [] [] refl (ap (λ b. if b then [] else those) own) refl (subst (IsCounted arrived []) (sym (append-nil back)) (counted_none arrived those back is)))
        (λ client token counting new c own mine next arrived those back later e is. cancel_counts client token counting (length (filter (cancels.has_token token) c.requests)) own arrived those back is)
      where
        is_own : (b : Bool) → ◌≡◌ {A = ℕ} (if b then 1 else 0) 1 → b ≡ true
        is_own true e = refl
        is_own false e = cc

        cancel_counts : (client : ClientId) (token : Token) (counting : Counting) (count : ℕ) → is_client id client ≡ true → (arrived : ℕ) (those back : List Numbered) → IsCounted arrived those back → Next {T = T} id IsCounted (Cancel client token counting) (Removed count) arrived those back
        cancel_counts client token All count own arrived those back is = none_comes {T = T} id IsCounted (Cancel client token All) (Removed count) arrived those back (filter (λ n. not (has_token token n)) those) [] refl (ap (λ b. if b then filter (λ n. not (has_token token n)) those else those) own) refl (counted_filtered arrived those back is (λ n. not (has_token token n)) [] tt)
        cancel_counts client token Others count own arrived those back is = none_comes {T = T} id IsCounted (Cancel client token Others) (Removed count) arrived those back (filter (λ n. not (has_token token n)) those) (filter (has_token token) those) refl (ap (λ b. if b then filter (λ n. not (has_token token n)) those else those) own) (ap (λ b. if b then filter (has_token token) those else []) own) (counted_filtered arrived those back is (λ n. not (has_token token n)) (filter (has_token token) those) (all_filtered (λ n. n.number < suc arrived) (has_token token) those is.below))

    -- ---- over a history

    module _ (fraction : T → Fraction) (is_value : Fraction → Type 0) (exact : IsExact ops fraction is_value) (config : Setting) (some : 0 < config.hz) where
      pub counted_after : (s : State T) (es : List (Event T)) (arrived : ℕ) (those back : List Numbered) (later : List Arrival) → IsSound ops fraction is_value exact order config some s → replays_from ops s es → drop arrived all ≡ arrivals id es ++ later → IsCounted arrived those back
          → IsCounted (arrived + length (arrivals id es)) (waiting_from id arrived those es) (back ++ given_back_from id arrived those es)
      counted_after s [] arrived those back later sound h e is =
          subst (λ n. IsCounted n those (back ++ [])) (sym (zero_more arrived)) (subst (IsCounted arrived those) (sym (append-nil back)) is)
      counted_after s (x ∷ es) arrived those back later sound h e is =
          let next = (step ops s x.command).0 in
          let came = arrival_of id x.command x.reply in
          let rest = arrivals id es in
          let given = given_back_of id x.command x.reply those in
          let those' = still_waiting id x.command x.reply those ++ numbered_from (suc arrived) came in
          let whole : drop arrived all ≡ came ++ (rest ++ later) = e ∙ append_assoc came rest later in
          let now = subst (Counts x.command) (sym h.0) (step_counts s sound.turn x.command) arrived those back (rest ++ later) whole is in
          let on : drop (arrived + length came) all ≡ rest ++ later = drop_on arrived (length came) all ∙ ap (drop (length came)) whole ∙ behind_all came (rest ++ later) in
          let more = counted_after next es (arrived + length came) those' (back ++ given) later (sound_step ops fraction is_value exact order config some s x.command sound) h.1 on now in
          let sum : arrived + length came + length rest ≡ arrived + length (came ++ rest) = omega (arith, length-append came rest) in
          subst (λ n. IsCounted n (waiting_from id (arrived + length came) those' es) (back ++ (given ++ given_back_from id (arrived + length came) those' es))) sum
          (subst (IsCounted (arrived + length came + length rest) (waiting_from id (arrived + length came) those' es)) (append_assoc back given (given_back_from id (arrived + length came) those' es)) more)
