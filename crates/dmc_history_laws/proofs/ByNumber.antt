-- What waits and what was given back before the event with a number, and what the event makes of it.
use Rattle.std.proofs.Common.{◌≡◌, ℕ, suc, ◌+◌, ◌<◌, List, [], ◌∷◌, ◌++◌, map, length, drop, take, Some, sym, ap, ◌∙◌, subst, arith, length-append}
use Rattle.std.specs.Prelude.{slice_get}
use Rattle.std.specs.Cmp.{IsTotalOrder}
use Rattle.std.proofs.lemmas.List.{append-nil, take-append-drop}
use Rattle.dmc_types.specs.Values.{Setting}
use Rattle.dmc_types.specs.declared.ids.ClientId.{ClientId}
use Rattle.dmc_tag.specs.Replay.{replays}
use Rattle.dmc_tag.specs.State.{opening, requests_of}
use Rattle.dmc_tag.specs.Tag.{Fraction, Tagging, IsExact}
use Rattle.dmc_tag.specs.declared.event.Event.{Event}
use Rattle.dmc_history_laws.specs.Bounds.{Arrival, Numbered, arrival_of, arrivals, asked_by, given_back_from, given_back_of, numbered_from, still_waiting, waiting}
use Rattle.dmc_history_laws.specs.Shares.{before}
use Rattle.dmc_history_laws.proofs.Counted.{IsCounted, Next, behind_all, counted_after}
use Rattle.dmc_history_laws.proofs.Given.{zero_first}
use Rattle.dmc_history_laws.proofs.Histories.{replays_split, sound_opening}
use Rattle.dmc_history_laws.proofs.Parts.{arrivals-append, cut_at, take_one}
use Rattle.dmc_history_laws.proofs.Spans.{given-append, waiting-append}
use Rattle.dmc_history_laws.proofs.Waiting.{asked_of, in_order_of_arrival}

module _ {T : Type 0} (ops : Tagging T) (fraction : T → Fraction) (is_value : Fraction → Type 0) (exact : IsExact ops fraction is_value) (order : IsTotalOrder ops.compare) (config : Setting) (some : 0 < config.hz) (history : List (Event T)) (replay : replays ops config history) (id : ClientId) where
  abbrev pub all : List Arrival
  all = arrivals id history

  abbrev pub arrived : ℕ → ℕ
  arrived n = 0 + length (arrivals id (take n history))

  abbrev pub those : ℕ → List Numbered
  those n = waiting id (take n history)

  abbrev pub back : ℕ → List Numbered
  back n = given_back_from id 0 [] (take n history)

  replayed : (n : ℕ) → replays ops config (take n history)
  replayed n = (replays_split ops (opening ops config) (take n history) (drop n history) (subst (replays ops config) (sym (take-append-drop n history)) replay)).0

  all_is : (n : ℕ) → all ≡ arrivals id (take n history) ++ arrivals id (drop n history)
  all_is n = ap (arrivals id) (sym (take-append-drop n history)) ∙ arrivals-append id (take n history) (drop n history)

  pub counted_by : (n : ℕ) → IsCounted all (arrived n) (those n) (back n)
  counted_by n = counted_after all ops order id fraction is_value exact config some (opening ops config) (take n history) 0 [] [] (arrivals id (drop n history)) (sound_opening ops fraction is_value exact order config some) (replayed n) (all_is n) (record { ascends = tt; below = tt; arrivals = tt; given = tt })

  pub asked_by_then : (n : ℕ) → map asked_by (requests_of id (before ops config history n).clients) ≡ map asked_of (those n)
  asked_by_then n = in_order_of_arrival ops fraction is_value exact order config some id (take n history) (replayed n)

  -- the event with this number
  module _ (n : ℕ) (e : Event T) (here : slice_get history n ≡ Some e) where
    abbrev came : List Arrival
    came = arrival_of id e.command e.reply

    cut : take (suc n) history ≡ take n history ++ e ∷ []
    cut = take_one n history e here

    pub arrived_next : arrived (suc n) ≡ arrived n + length came
    arrived_next =
        let more : length (arrivals id (take n history ++ e ∷ [])) ≡ length (arrivals id (take n history)) + length came = ap length (arrivals-append id (take n history) (e ∷ []) ∙ ap (λ qs. arrivals id (take n history) ++ qs) (append-nil came)) ∙ length-append (arrivals id (take n history)) came in
        ap (λ es. 0 + length (arrivals id es)) cut ∙ ap (λ m. 0 + m) more ∙ omega arith

    pub those_next : those (suc n) ≡ still_waiting id e.command e.reply (those n) ++ numbered_from (suc (arrived n)) came
    those_next = ap (waiting id) cut ∙ waiting-append id 0 [] (take n history) (e ∷ [])

    pub back_next : back (suc n) ≡ back n ++ given_back_of id e.command e.reply (those n)
    back_next = ap (given_back_from id 0 []) cut ∙ given-append id 0 [] (take n history) (e ∷ []) ∙ ap (λ ns. back n ++ ns) (append-nil (given_back_of id e.command e.reply (those n)))

    pub comes_next : drop (arrived n) all ≡ came ++ arrivals id (drop (suc n) history)
    comes_next =
        let whole : all ≡ arrivals id (take n history) ++ (came ++ arrivals id (drop (suc n) history)) = ap (arrivals id) (cut_at n history e here) ∙ arrivals-append id (take n history) (e ∷ drop (suc n) history) in
        ap (λ m. drop m all) (zero_first (length (arrivals id (take n history)))) ∙ ap (drop (length (arrivals id (take n history)))) whole ∙ behind_all (arrivals id (take n history)) (came ++ arrivals id (drop (suc n) history))

    pub reaches : (F : ℕ → List Numbered → List Numbered → Type 0) → Next id F e.command e.reply (arrived n) (those n) (back n) → F (arrived (suc n)) (those (suc n)) (back (suc n))
    reaches F h = subst (λ m. F m (those (suc n)) (back (suc n))) (sym arrived_next) (subst (λ ns. F (arrived n + length came) ns (back (suc n))) (sym those_next) (subst (λ ns. F (arrived n + length came) (still_waiting id e.command e.reply (those n) ++ numbered_from (suc (arrived n)) came) ns) (sym back_next) h))
