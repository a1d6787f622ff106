-- One event more.
use Rattle.std.proofs.Common.{◌≡◌, ◌∙◌, ◌+◌, ◌++◌, ◌∷◌, [], ap, append_assoc, sym, take, arith, List, Some, None}
use Rattle.std.specs.Prelude.{slice_get}
use Rattle.dmc_tag.specs.declared.event.Event.{Event}
use Rattle.dmc_check.specs.Replaying.{ReplayerState}
use Rattle.dmc_check.proofs.VerdictLemmas.{none_within, taken_next}
use Rattle.dmc_check.proofs.replayer.Replayer.add_all.Goals.{in-Some+in_ok-add, in_default}
use Rattle.dmc_check.proofs.replayer.Replayer.add_all.Goals as goal

one_more : {T : Type 0} (old now new after : ReplayerState T) (before more : List (Event T)) (e : Event T) → now ≡ record old { events = old.events ++ before }
    → new ≡ record now { events = now.events ++ e ∷ [] } → after ≡ new → more ≡ before ++ e ∷ [] → after ≡ record old { events = old.events ++ more }
one_more {T} old now new after before more e so_far added same longer =
    let with_events : List (Event T) → ReplayerState T = λ es. record old { events = es } in
    same ∙ added ∙ ap (λ (r : ReplayerState T). record r { events = r.events ++ e ∷ [] }) so_far
    ∙ ap with_events (append_assoc old.events before (e ∷ []) ∙ ap (λ es. old.events ++ es) (sym longer))

pub loop-index-preserved : goal.loop-index-preserved
loop-index-preserved g c =
    let all = g.L.EventList.events c.args.events.now in
    let i = c.loop-index.index in
    elim c.match-event_at.branch [
      | in-Some+in_ok-add w ↦
          let at : slice_get all i ≡ Some w.in-Some.event = sym w.in-Some.ensures in
          one_more c.args.self.now c.loop-index.self w.add.new.self c.match-event_at.self (take i all) (take (i + 1) all) w.in-Some.event c.loop-index.invariant w.in_ok-add.ensures.added w.self-is (taken_next all i w.in-Some.event at)
      | in_default w ↦
          let at : None ≡ slice_get all i = w.in_default.ensures in
          absurd (none_within all i (omega arith) (sym at))
    ]
