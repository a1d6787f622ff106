-- Those that wait are numbered from 1.
use Rattle.std.proofs.Common.{◌≡◌, ℕ, suc, ◌+◌, ◌<◌, ◌++◌, Bool, true, false, List, [], ◌∷◌, drop, length, not, slice_get, Some, arith}
use Rattle.std.specs.Prelude.{filter, if◌then◌else◌}
use Rattle.std.specs.Option.{option_map}
use Rattle.std.specs.List.{AllByRecursion}
use Rattle.dmc_types.specs.declared.ids.ClientId.{ClientId}
use Rattle.dmc_types.specs.declared.command.Command.{Command}
use Rattle.dmc_types.specs.declared.command.Command.TheVariants.{Pull, Remove, Cancel}
use Rattle.dmc_tag.specs.declared.event.Event.{Event}
use Rattle.dmc_tag.specs.declared.reply.Reply.{Reply}
use Rattle.dmc_tag.specs.declared.reply.Reply.TheVariants.{Granted, Removed}
use Rattle.dmc_lemmas.proofs.Lists.{all_append, all_filtered}
use Rattle.dmc_history_laws.specs.Bounds.{Arrival, IsFirstThatWaits, Numbered, arrival_of, has_token, numbered_from, still_waiting, waiting, waiting_from}

abbrev ArePositive : List Numbered → Type 0
ArePositive those = AllByRecursion (λ n. 0 < n.number) those

without_first : (those : List Numbered) → ArePositive those → ArePositive (drop 1 those)
without_first [] h = tt
without_first (n ∷ those) h = h.1

either : (b : Bool) (xs ys : List Numbered) → ArePositive xs → ArePositive ys → ArePositive (if b then xs else ys)
either true xs ys h k = h
either false xs ys h k = k

numbered : (n : ℕ) (came : List Arrival) → ArePositive (numbered_from (suc n) came)
numbered n [] = tt
numbered n (a ∷ came) = (omega arith, numbered (suc n) came)

module _ {T : Type 0} (id : ClientId) where
  stay : (command : Command) (reply : Reply T) (those : List Numbered) → ArePositive those → ArePositive (still_waiting id command reply those)
  stay (Pull at) (Granted client token phase beyond cost) those h = either _ (drop 1 those) those (without_first those h) h
  stay (Remove client) (Removed count) those h = either _ [] those tt h
  stay (Cancel client token counting) (Removed count) those h = either _ (filter (λ n. not (has_token token n)) those) those (all_filtered (λ (n : Numbered). 0 < n.number) (λ n. not (has_token token n)) those h) h
  stay command reply those h = h

  wait : (arrived : ℕ) (those : List Numbered) (es : List (Event T)) → ArePositive those → ArePositive (waiting_from id arrived those es)
  wait arrived those [] h = h
  wait arrived those (e ∷ es) h =
      let came = arrival_of id e.command e.reply in
      wait (arrived + length came) (still_waiting id e.command e.reply those ++ numbered_from (suc arrived) came) es
      (all_append (λ (n : Numbered). 0 < n.number) (still_waiting id e.command e.reply those) (numbered_from (suc arrived) came) (stay e.command e.reply those h) (numbered arrived came))

  pub first_positive : (k : ℕ) (es : List (Event T)) → IsFirstThatWaits id k es → 0 < k
  first_positive k es is = by (waiting id es) (wait 0 [] es tt) is where
    by : (those : List Numbered) → ArePositive those → option_map (λ n. n.number) (slice_get those 0) ≡ Some k → 0 < k
    by [] h e = cc
    by (n ∷ those) h e = let same : n.number ≡ k = cc in omega (arith, h.0, same)
