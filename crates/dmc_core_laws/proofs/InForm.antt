-- Each Cancel of a run's history is in the run's form of counting: so in the form All nothing is given back.
use Rattle.std.proofs.Common.{◌≡◌, ℕ, suc, ◌+◌, Bool, true, false, List, [], ◌∷◌, ◌++◌, drop, length, map, take, Option, Some, None, refl, sym, ap, ◌∙◌, subst}
use Rattle.std.specs.Prelude.{Ok, Err, option_map, ⊤}
use Rattle.std.specs.List.{AllByRecursion}
use Rattle.std.proofs.lemmas.List.{take-append-drop}
use Rattle.dmc_types.specs.Values.{Rates}
use Rattle.dmc_types.specs.declared.command.Command.{Command}
use Rattle.dmc_types.specs.declared.command.Command.TheVariants as commands
use Rattle.dmc_types.specs.declared.config.Counting.{Counting}
use Rattle.dmc_types.specs.declared.config.Counting.TheVariants.{All, Others}
use Rattle.dmc_types.specs.declared.ids.ClientId.{ClientId}
use Rattle.dmc_types.specs.declared.ids.ServerId.{ServerId}
use Rattle.dmc_tag.specs.State.{State, opening}
use Rattle.dmc_tag.specs.Step.{step}
use Rattle.dmc_tag.specs.Tag.{Tagging}
use Rattle.dmc_tag.specs.declared.event.Event.{Event}
use Rattle.dmc_tag.specs.declared.reply.Reply.{Reply}
use Rattle.dmc_tag.specs.declared.reply.Reply.TheVariants as replies
use Rattle.dmc_lemmas.proofs.Lists.{all_append, all_first}
use Rattle.dmc_history_laws.specs.Bounds.{Numbered, arrival_of, cost_between, given_back, given_back_from, given_back_of, numbered_from, still_waiting}
use Rattle.dmc_scene.specs.SceneValue.{SceneValue}
use Rattle.dmc_core.specs.declared.event.CoreEvent.{CoreEvent}
use Rattle.dmc_core.specs.declared.event.CoreEvent.TheVariants as events
use Rattle.dmc_core.specs.declared.event.CoreReply.{CoreReply}
use Rattle.dmc_core.specs.declared.event.CoreReply.TheVariants as core_replies
use Rattle.dmc_core.specs.declared.event.Message.{Message}
use Rattle.dmc_core.specs.Run.{Run}
use Rattle.dmc_core.specs.Events.{after_pull, cluster_step, registration}
use Rattle.dmc_core.specs.Opening.{named_rates, opening_of}
use Rattle.dmc_core_laws.specs.Histories.{Answer, oldest, server_named, queue_command, is_server, recorded_events, registrations, history_from, history}
use Rattle.dmc_core_laws.specs.Bounds.{GivesNothingBack}
use Rattle.dmc_core_laws.proofs.Given.{Gives, gives, step_goes}

-- ---- no event changes the form

pull_leaves_form : {T : Type 0} (s : ServerId) (reply : Reply T) (run : Run T) → (after_pull s reply run).counting ≡ run.counting
pull_leaves_form s (replies.Granted client token phase beyond cost) run = refl
pull_leaves_form s reply run = refl

module _ {T : Type 0} (ops : Tagging T) (run : Run T) where
  abbrev form_of : Run T × CoreReply T → Counting
  form_of x = x.0.counting

  form_given : (e : CoreEvent) (x : Run T × CoreReply T) → Gives ops run e x → x.0.counting ≡ run.counting
  form_given (events.Stamp client server token cost) x g = ap form_of g.is
  form_given (events.Arrive client server at) x g = ap form_of g.is
  form_given (events.Pull server at) x g = ap form_of g.is ∙ pull_leaves_form server _ _
  form_given (events.Respond client server phase cost) x g = ap form_of g.is
  form_given (events.Update server client info at) x g = ap form_of g.is
  form_given (events.Remove server client) x g = ap form_of g.is
  form_given (events.Cancel server client token) x g = ap form_of g.is
  form_given (events.Clean server at) x g = ap form_of g.is

  form_kept : (e : CoreEvent) → ((cluster_step ops run e).0).counting ≡ run.counting
  form_kept e = step_goes ops run e (λ p. p.0.counting ≡ run.counting) (λ fault. refl) (λ x given. form_given e x (gives ops run e x given))

-- ---- each Cancel of a history

module _ (counting : Counting) where
  abbrev IsInForm : Command → Type 0
  IsInForm (commands.Cancel client token form) = form ≡ counting
  IsInForm command = ⊤

  abbrev AreInForm : {T : Type 0} → List (Event T) → Type 0
  AreInForm events = AllByRecursion (λ e. IsInForm e.command) events

  module _ {T : Type 0} (ops : Tagging T) (s : ServerId) where
    of_registrations : (u : State T) (clients : List (ClientId × Rates)) → AreInForm (registrations ops u clients)
    of_registrations u [] = tt
    of_registrations u (c ∷ cs) = (tt, of_registrations ((step ops u (registration c)).0) cs)

    recorded : (command : Command) → IsInForm command → (here : Bool) (answer : Answer T) → AreInForm (recorded_events here (Some command) answer)
    recorded command is true (Ok (core_replies.Served reply)) = (is, tt)
    recorded command is true (Ok (core_replies.Stamped params)) = tt
    recorded command is true (Ok core_replies.Counted) = tt
    recorded command is true (Err fault) = tt
    recorded command is false answer = tt

    nothing : (here : Bool) (answer : Answer T) → AreInForm (recorded_events here None answer)
    nothing true answer = tt
    nothing false answer = tt

    arrival : (client : ClientId) (at : ℕ) (message : Option Message) (here : Bool) (answer : Answer T) → AreInForm (recorded_events here (option_map (λ m. commands.Add client m.token m.params at) message) answer)
    arrival client at None here answer = nothing here answer
    arrival client at (Some m) here answer = recorded (commands.Add client m.token m.params at) tt here answer

    of_event : (run : Run T) → run.counting ≡ counting → (e : CoreEvent) (here : Bool) (answer : Answer T) → AreInForm (recorded_events here (queue_command run e) answer)
    of_event run form (events.Stamp client server token cost) here answer = nothing here answer
    of_event run form (events.Arrive client server at) here answer = arrival client at (oldest run client server) here answer
    of_event run form (events.Pull server at) here answer = recorded (commands.Pull at) tt here answer
    of_event run form (events.Respond client server phase cost) here answer = nothing here answer
    of_event run form (events.Update server client info at) here answer = recorded (commands.Update client info at) tt here answer
    of_event run form (events.Remove server client) here answer = recorded (commands.Remove client) tt here answer
    of_event run form (events.Cancel server client token) here answer = recorded (commands.Cancel client token run.counting) form here answer
    of_event run form (events.Clean server at) here answer = recorded (commands.Clean at) tt here answer

    of_events : (run : Run T) → run.counting ≡ counting → (es : List CoreEvent) → AreInForm (history_from ops s run es)
    of_events run form [] = tt
    of_events run form (e ∷ es) = all_append (λ (x : Event T). IsInForm x.command) _ _ (of_event run form e (is_server s (server_named e)) ((cluster_step ops run e).1))
        (of_events ((cluster_step ops run e).0) (form_kept ops run e ∙ form) es)

    in_form : (scene : SceneValue) → scene.counting ≡ counting → (es : List CoreEvent) → AreInForm (history ops scene s es)
    in_form scene form es = all_append (λ (x : Event T). IsInForm x.command) _ _ (of_registrations (opening ops scene.config) (map named_rates scene.clients)) (of_events (opening_of ops scene) form es)

-- ---- what is given back

module _ {T : Type 0} (id : ClientId) where
  none_by : (command : Command) (reply : Reply T) (those : List Numbered) → IsInForm All command → given_back_of id command reply those ≡ []
  none_by (commands.Cancel client token Others) (replies.Removed count) those form = cc
  none_by command reply those form = refl

  none_from : (arrived : ℕ) (those : List Numbered) (es : List (Event T)) → AreInForm All es → given_back_from id arrived those es ≡ []
  none_from arrived those [] h = refl
  none_from arrived those (e ∷ es) h =
      let came = arrival_of id e.command e.reply in
      let left = still_waiting id e.command e.reply those ++ numbered_from (suc arrived) came in
      ap (λ ns. ns ++ given_back_from id (arrived + length came) left es) (none_by e.command e.reply those h.0) ∙ none_from (arrived + length came) left es h.1

  none_given : (history : List (Event T)) → AreInForm All history → (i k n : ℕ) → given_back id i k (take n history) ≡ 0
  none_given history h i k n =
      let front : AreInForm All (take n history) = all_first (λ (e : Event T). IsInForm All e.command) (take n history) (drop n history) (subst (AreInForm All) (sym (take-append-drop n history)) h) in
      ap (cost_between i k) (none_from 0 [] (take n history) front)

pub nothing_given_back : {T : Type 0} (ops : Tagging T) (scene : SceneValue) (es : List CoreEvent) (s : ServerId) → GivesNothingBack scene.counting (history ops scene s es)
nothing_given_back ops scene es s = by scene.counting refl where
  by : (counting : Counting) → scene.counting ≡ counting → GivesNothingBack counting (history ops scene s es)
  by All form = λ id i k n. none_given id (history ops scene s es) (in_form All ops s scene form es) i k n
  by Others form = tt
