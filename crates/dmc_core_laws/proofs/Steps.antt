-- What a cluster core returns is what the rules give in a run.
use Rattle.std.proofs.Common.{◌≡◌, ◌++◌, true, false, List, [], ◌∷◌, map, inl, inr, ◌⊎◌, Err, refl, sym, ap, ◌∙◌, subst}
use Rattle.std.specs.Cmp.{IsTotalOrder}
use Rattle.dmc_types.specs.declared.ids.ServerId.{ServerId}
use Rattle.dmc_tag.specs.Tag.{Tagging, Fraction, IsExact}
use Rattle.dmc_tag.specs.State.{State, opening}
use Rattle.dmc_history_laws.specs.Bounds.{KeepsToReservations, KeepsToReservationsWithCancels}
use Rattle.dmc_scene.specs.SceneValue.{SceneValue}
use Rattle.dmc_core.specs.declared.event.CoreEvent.{CoreEvent}
use Rattle.dmc_core.specs.declared.event.CoreFault.TheVariants.{Memory}
use Rattle.dmc_core.specs.Run.{Run}
use Rattle.dmc_core.specs.Events.{answers_of, cluster_step}
use Rattle.dmc_core.specs.Core.{CoreValue, RepresentsRun, Follows}
use Rattle.dmc_core.specs.Opening.{named_rates, opening_of}
use Rattle.dmc_core_laws.specs.Histories.{Answer, history, history_from, is_server, queue_command, recorded_events, registrations, server_named}
use Rattle.dmc_core_laws.specs.Bounds.{GivesNothingBack, KeepsToLimitAt, KeepsToLimitWithCancelsAt, run_of, tracker_list}
use Rattle.dmc_core_laws.specs.Steps.{Steps, wants_memory, heard, IsRunOf, StepsAreRuns, replied_events, replied_from, replied_history, LimitOfCores, LimitOfCoresWithCancels, NothingGivenBackInCores, ReservationOfCores, ReservationOfCoresWithCancels}
use Rattle.dmc_core_laws.proofs.Bounds.{limit_over_runs, limit_over_runs_with_cancels, reservation_over_runs, reservation_over_runs_with_cancels}
use Rattle.dmc_core_laws.proofs.InForm.{nothing_given_back}

module _ {T Q : Type 0} (ops : Tagging T) (state : Q → State T) where
  -- nothing happened, or what the rules say
  one : (e : CoreEvent) (answer : Answer T) (old middle : CoreValue Q) → Follows ops state e old middle answer → (run : Run T) → RepresentsRun state old run
      → ((wants_memory answer ≡ true) × RepresentsRun state middle run) ⊎ ((wants_memory answer ≡ false) × (answer ≡ (cluster_step ops run e).1) × RepresentsRun state middle ((cluster_step ops run e).0))
  one e (Err Memory) old middle f run r = inl (refl, (f.1 run r).1)
  one e answer old middle f run r = let g = f run r in inr (refl, g.0, g.1)

  stay : (run : Run T) (old new : CoreValue Q) (steps : List (CoreEvent × Answer T)) → RepresentsRun state old run → Steps ops state old steps new → IsRunOf ops state run steps new
  stay run old new [] r h = record { answers = refl; represents = subst (λ c. RepresentsRun state c run) (sym h) r }
  stay run old new (x ∷ xs) r h = by (one x.0 x.1 old h.0 h.1 run r) (λ r'. stay run h.0 new xs r' h.2) (λ r'. stay ((cluster_step ops run x.0).0) h.0 new xs r' h.2)
    where
      by : ((wants_memory x.1 ≡ true) × RepresentsRun state h.0 run) ⊎ ((wants_memory x.1 ≡ false) × (x.1 ≡ (cluster_step ops run x.0).1) × RepresentsRun state h.0 ((cluster_step ops run x.0).0))
          → (RepresentsRun state h.0 run → IsRunOf ops state run xs new) → (RepresentsRun state h.0 ((cluster_step ops run x.0).0) → IsRunOf ops state ((cluster_step ops run x.0).0) xs new) → IsRunOf ops state run (x ∷ xs) new
      by (inl w) same next =
          let rest = same w.1 in
          record { answers = rw w.0 rest.answers; represents = rw w.0 rest.represents }
      by (inr w) same next =
          let rest = next w.2 in
          record {
            answers = rw w.0 (ap (λ (a : Answer T). a ∷ map (λ (y : CoreEvent × Answer T). y.1) (heard xs)) w.1 ∙ ap (λ zs. (cluster_step ops run x.0).1 ∷ zs) rest.answers);
            represents = rw w.0 rest.represents;
          }

  pub steps_are_runs : StepsAreRuns ops state
  steps_are_runs = stay

  -- ---- the history with the core's replies

  replied_is : (s : ServerId) (run : Run T) (xs : List (CoreEvent × Answer T)) → map (λ x. x.1) xs ≡ answers_of ops run (map (λ x. x.0) xs) → replied_from ops s run xs ≡ history_from ops s run (map (λ x. x.0) xs)
  replied_is s run [] e = refl
  replied_is s run (x ∷ xs) e =
      let next = (cluster_step ops run x.0).0 in
      let same : x.1 ≡ (cluster_step ops run x.0).1 = cc in
      let rest : map (λ (y : CoreEvent × Answer T). y.1) xs ≡ answers_of ops next (map (λ (y : CoreEvent × Answer T). y.0) xs) = cc in
      ap (λ a. recorded_events (is_server s (server_named x.0)) (queue_command run x.0) a ++ replied_from ops s next xs) same
      ∙ ap (λ es. recorded_events (is_server s (server_named x.0)) (queue_command run x.0) ((cluster_step ops run x.0).1) ++ es) (replied_is s next xs rest)

  history_is : (scene : SceneValue) (opened new : CoreValue Q) (steps : List (CoreEvent × Answer T)) (s : ServerId) → RepresentsRun state opened (opening_of ops scene) → Steps ops state opened steps new
      → replied_history ops scene s steps ≡ history ops scene s (replied_events steps)
  history_is scene opened new steps s opens h =
      ap (λ es. registrations ops (opening ops scene.config) (map named_rates scene.clients) ++ es) (replied_is s (opening_of ops scene) (heard steps) (stay (opening_of ops scene) opened new steps opens h).answers)

  pub nothing_given_back_in_cores : NothingGivenBackInCores ops state
  nothing_given_back_in_cores = λ scene opened new steps s opens h.
      subst (GivesNothingBack scene.counting) (sym (history_is scene opened new steps s opens h)) (nothing_given_back ops scene (replied_events steps) s)

-- ---- the bounds

module _ {T Q : Type 0} (ops : Tagging T) (state : Q → State T) (fraction : T → Fraction) (is_value : Fraction → Type 0) (exact : IsExact ops fraction is_value) (order : IsTotalOrder ops.compare) where
  pub limit_of_cores : LimitOfCores ops state
  limit_of_cores = λ scene opened new steps id s some within opens h.
      subst (KeepsToLimitAt ops scene.config scene.counting id s (tracker_list (run_of ops scene (replied_events steps)) id)) (sym (history_is ops state scene opened new steps s opens h))
      (limit_over_runs ops fraction is_value exact order scene (replied_events steps) id s some within)

  pub reservation_of_cores : ReservationOfCores ops state
  reservation_of_cores = λ scene opened new steps s some within opens h.
      subst (KeepsToReservations ops scene.config) (sym (history_is ops state scene opened new steps s opens h))
      (reservation_over_runs ops fraction is_value exact order scene (replied_events steps) s some within)

  pub limit_of_cores_with_cancels : LimitOfCoresWithCancels ops state
  limit_of_cores_with_cancels = λ scene opened new steps id s some within opens h.
      subst (KeepsToLimitWithCancelsAt ops scene.config scene.counting id s (tracker_list (run_of ops scene (replied_events steps)) id)) (sym (history_is ops state scene opened new steps s opens h))
      (limit_over_runs_with_cancels ops fraction is_value exact order scene (replied_events steps) id s some within)

  pub reservation_of_cores_with_cancels : ReservationOfCoresWithCancels ops state
  reservation_of_cores_with_cancels = λ scene opened new steps s some within opens h.
      subst (KeepsToReservationsWithCancels ops scene.config) (sym (history_is ops state scene opened new steps s opens h))
      (reservation_over_runs_with_cancels ops fraction is_value exact order scene (replied_events steps) s some within)
