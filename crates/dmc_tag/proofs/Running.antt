-- One more command of a run, and one more event of a history.
use Rattle.std.proofs.Common.{◌≡◌, ℕ, ◌+◌, ◌<◌, false, List, [], ◌∷◌, ◌++◌, map, length, take, get_or, slice_get, Some, None, refl, sym, ap, ◌∙◌, subst}
use Rattle.std.specs.Prelude.{IsTrue}
use Rattle.std.specs.Option.{option_map_or}
use Rattle.std.proofs.lemmas.List.{take_more}
use Rattle.std.proofs.lemmas.Option.{slice_get_read}
use Rattle.dmc_types.specs.declared.command.Command.{Command}
use Rattle.dmc_tag.specs.Tag.{Tagging}
use Rattle.dmc_tag.specs.State.{State}
use Rattle.dmc_tag.specs.Step.{step}
use Rattle.dmc_tag.specs.Steps.{Steps, Runs, may_grow, grows_at}
use Rattle.dmc_tag.specs.Replay.{replies_of, state_after, replays_from}
use Rattle.dmc_tag.specs.declared.event.Event.{Event}
use Rattle.dmc_tag.specs.declared.reply.Reply.{Reply}

pub grows_here : (cs : List Command) (i : ℕ) (c : Command) → i < length cs → c ≡ get_or cs i c → IsTrue (may_grow c) → IsTrue (grows_at cs i)
grows_here cs i c within is grows = subst (λ o. IsTrue (option_map_or may_grow o false)) (sym (slice_get_read cs (length cs) i c refl within is)) grows

module _ {T : Type 0} (ops : Tagging T) where
  replies_of-more : (s : State T) (cs : List Command) (c : Command) → replies_of ops s (cs ++ c ∷ []) ≡ replies_of ops s cs ++ (step ops (state_after ops s cs) c).1 ∷ []
  replies_of-more s [] c = refl
  replies_of-more s (d ∷ cs) c = ap (λ rs. (step ops s d).1 ∷ rs) (replies_of-more ((step ops s d).0) cs c)

  pub state_after-more : (s : State T) (cs : List Command) (c : Command) → state_after ops s (cs ++ c ∷ []) ≡ (step ops (state_after ops s cs) c).0
  state_after-more s [] c = refl
  state_after-more s (d ∷ cs) c = state_after-more ((step ops s d).0) cs c

  -- the state and the reply of one more step
  appended : (old mid new : State T) (cs : List Command) (replies : List (Reply T)) (c : Command) (reply : Reply T) → Runs ops old mid cs replies → Steps ops mid new c (Some reply) → Runs ops old new (cs ++ c ∷ []) (replies ++ reply ∷ [])
  appended old mid new cs replies c reply runs steps =
      let now : (new, reply) ≡ step ops (state_after ops old cs) c = steps ∙ ap (λ s. step ops s c) runs.1 in
      (rw (runs.0, ap (λ p. p.1) now) (sym (replies_of-more old cs c)), ap (λ p. p.0) now ∙ sym (state_after-more old cs c))

  pub runs_more : (old mid new : State T) (cs : List Command) (replies : List (Reply T)) (i : ℕ) (c : Command) (reply : Reply T) → i < length cs → c ≡ get_or cs i c → Runs ops old mid (take i cs) replies → Steps ops mid new c (Some reply) → Runs ops old new (take (i + 1) cs) (replies ++ reply ∷ [])
  runs_more old mid new cs replies i c reply within is runs steps =
      let e : take (i + 1) cs ≡ take i cs ++ c ∷ [] = take_more cs i c within ∙ ap (λ d. take i cs ++ d ∷ []) (sym is) in
      subst (λ ds. Runs ops old new ds (replies ++ reply ∷ [])) (sym e) (appended old mid new (take i cs) replies c reply runs steps)

  -- ---- one more event

  -- the state that the events' commands give
  abbrev pub after_from : State T → List (Event T) → State T
  after_from s events = state_after ops s (map (λ e. e.command) events)

  pub past_more : (s : State T) (events : List (Event T)) (e : Event T) → after_from s (events ++ e ∷ []) ≡ (step ops (after_from s events) e.command).0
  past_more s [] e = refl
  past_more s (x ∷ events) e = past_more ((step ops s x.command).0) events e

  pub replays_more : (s : State T) (events : List (Event T)) (e : Event T) → replays_from ops s events → e.reply ≡ (step ops (after_from s events) e.command).1 → replays_from ops s (events ++ e ∷ [])
  replays_more s [] e h same = (same, tt)
  replays_more s (x ∷ events) e h same = (h.0, replays_more ((step ops s x.command).0) events e h.1 same)

  pub replays_parted : (s : State T) (events : List (Event T)) (e : Event T) → replays_from ops s (events ++ e ∷ []) → replays_from ops s events × (e.reply ≡ (step ops (after_from s events) e.command).1)
  replays_parted s [] e h = (tt, h.0)
  replays_parted s (x ∷ events) e h = let rest = replays_parted ((step ops s x.command).0) events e h.1 in ((h.0, rest.0), rest.1)
