-- What an event of a cluster run gives if it is not refused.
use Rattle.std.proofs.Common.{◌≡◌, ℕ, ◌+◌, Bool, true, false, nat_le, nat_lt, ◌==◌, length, slice_get, Some, Ok, Err, refl, sym, ap, ◌∙◌}
use Rattle.std.specs.Prelude.{not}
use Rattle.std.specs.List.{list_any}
use Rattle.dmc_types.specs.declared.ids.ClientId.{ClientId}
use Rattle.dmc_types.specs.declared.ids.ServerId.{ServerId}
use Rattle.dmc_types.specs.declared.ids.Token.{Token}
use Rattle.dmc_types.specs.declared.config.Counting.{Counting}
use Rattle.dmc_types.specs.declared.config.PhaseType.{PhaseType}
use Rattle.dmc_types.specs.declared.command.Command.{Command}
use Rattle.dmc_types.specs.declared.command.Command.TheVariants as commands
use Rattle.dmc_tag.specs.Tag.{Tagging}
use Rattle.dmc_tag.specs.State.{State}
use Rattle.dmc_tag.specs.Outcome.{◌>>=◌, refuse_if}
use Rattle.dmc_tag.specs.Step.{step}
use Rattle.dmc_tag.proofs.TagOrder.{bound, from_option}
use Rattle.dmc_tracker.specs.TrackerList.{demanded, completions}
use Rattle.dmc_core.specs.declared.event.Message.{Message}
use Rattle.dmc_core.specs.declared.event.CoreEvent.{CoreEvent}
use Rattle.dmc_core.specs.declared.event.CoreEvent.TheVariants.{Stamp, Arrive, Pull, Respond, Update, Remove, Cancel, Clean}
use Rattle.dmc_core.specs.declared.event.CoreReply.{CoreReply}
use Rattle.dmc_core.specs.declared.event.CoreReply.TheVariants.{Stamped, Served, Counted}
use Rattle.dmc_core.specs.declared.event.CoreFault.{CoreFault}
use Rattle.dmc_core.specs.declared.event.CoreFault.TheVariants.{FlightFull, TrackFull, GrantsFull, NoGrant}
use Rattle.dmc_core.specs.Run.{Client, Run, pair_at, grants, max_in_flight, max_completions, with_client, with_server, client_of, server_of, are_grants_full}
use Rattle.dmc_core.specs.Events.{Outcome, outcome, conclusion, cluster_step, is_stamp_full, stamp, after_stamp, client_after_arrival, after_pull, response, after_response}
use Rattle.dmc_core_laws.specs.Histories.{Answer, client_in}

-- ---- an event is refused, or it is accepted

module _ {T : Type 0} (ops : Tagging T) (run : Run T) (e : CoreEvent) where
  pub step_goes : (P : Run T × Answer T → Type 0) → ((fault : CoreFault) → P (run, Err fault)) → ((x : Run T × CoreReply T) → outcome ops run e ≡ Ok x → P (x.0, Ok x.1)) → P (cluster_step ops run e)
  step_goes P refused accepted = by (outcome ops run e) refl where
    by : (o : Outcome T) → outcome ops run e ≡ o → P (conclusion run o)
    by (Ok x) is = accepted x is
    by (Err fault) is = refused fault

-- ---- what it gives

module _ {T : Type 0} where
  stamp_gives : (counting : Counting) (s : ServerId) (token : Token) (cost : ℕ) (c : Client) (x : Client × CoreReply T) → stamp counting s token cost c ≡ Ok x
      → x ≡ (after_stamp s (record { token = token; params = demanded counting s cost c.list }) c, Stamped (demanded counting s cost c.list))
  stamp_gives counting s token cost c x e = by (nat_le max_in_flight (length (pair_at s c.pairs).flight)) (is_stamp_full counting s cost c.list) e where
    given : Client × CoreReply T
    given = (after_stamp s (record { token = token; params = demanded counting s cost c.list }) c, Stamped (demanded counting s cost c.list))

    by : (a b : Bool) → (refuse_if a FlightFull >>= λ _. refuse_if b TrackFull >>= λ _. Ok given) ≡ Ok x → x ≡ given
    by true b e = cc
    by false true e = cc
    by false false e = cc

  response_gives : (s : ServerId) (phase : PhaseType) (cost : ℕ) (c : Client) (x : Client × CoreReply T) → response s phase cost c ≡ Ok x → x ≡ (after_response s phase cost c, Counted)
  response_gives s phase cost c x e = by (not (list_any (λ n. n == cost) (grants phase (pair_at s c.pairs)))) (nat_lt max_completions ((completions c.list).delta + cost)) e where
    given : Client × CoreReply T
    given = (after_response s phase cost c, Counted)

    by : (a b : Bool) → (refuse_if a NoGrant >>= λ _. refuse_if b TrackFull >>= λ _. Ok given) ≡ Ok x → x ≡ given
    by true b e = cc
    by false true e = cc
    by false false e = cc

  pub record IsStamped (run : Run T) (id : ClientId) (s : ServerId) (token : Token) (cost : ℕ) (x : Run T × CoreReply T) : Type 0 where
    pub client : Client
    pub found : client_in run id ≡ Some client
    pub is : x ≡ (with_client id (after_stamp s (record { token = token; params = demanded run.counting s cost client.list }) client) run, Stamped (demanded run.counting s cost client.list))

  pub record IsCounted (run : Run T) (id : ClientId) (s : ServerId) (phase : PhaseType) (cost : ℕ) (x : Run T × CoreReply T) : Type 0 where
    pub client : Client
    pub found : client_in run id ≡ Some client
    pub is : x ≡ (with_client id (after_response s phase cost client) run, Counted)

module _ {T : Type 0} (ops : Tagging T) where
  pub record IsArrived (run : Run T) (id : ClientId) (s : ServerId) (at : ℕ) (x : Run T × CoreReply T) : Type 0 where
    pub client : Client
    pub found : client_in run id ≡ Some client
    pub state : State T
    pub state_is : slice_get run.servers s.0 ≡ Some state
    pub message : Message
    pub first : slice_get (pair_at s client.pairs).flight 0 ≡ Some message
    pub is : x ≡ (with_client id (client_after_arrival s ((step ops state (commands.Add id message.token message.params at)).1) client) (with_server s ((step ops state (commands.Add id message.token message.params at)).0) run), Served ((step ops state (commands.Add id message.token message.params at)).1))

  pub record IsPulled (run : Run T) (s : ServerId) (at : ℕ) (x : Run T × CoreReply T) : Type 0 where
    pub state : State T
    pub state_is : slice_get run.servers s.0 ≡ Some state
    pub is : x ≡ (after_pull s ((step ops state (commands.Pull at)).1) (with_server s ((step ops state (commands.Pull at)).0) run), Served ((step ops state (commands.Pull at)).1))

  pub record IsServed (run : Run T) (s : ServerId) (command : Command) (x : Run T × CoreReply T) : Type 0 where
    pub state : State T
    pub state_is : slice_get run.servers s.0 ≡ Some state
    pub is : x ≡ (with_server s ((step ops state command).0) run, Served ((step ops state command).1))

  abbrev pub Gives : Run T → CoreEvent → Run T × CoreReply T → Type 0
  Gives run (Stamp id s token cost) x = IsStamped run id s token cost x
  Gives run (Arrive id s at) x = IsArrived run id s at x
  Gives run (Pull s at) x = IsPulled run s at x
  Gives run (Respond id s phase cost) x = IsCounted run id s phase cost x
  Gives run (Update s id info at) x = IsServed run s (commands.Update id info at) x
  Gives run (Remove s id) x = IsServed run s (commands.Remove id) x
  Gives run (Cancel s id token) x = IsServed run s (commands.Cancel id token run.counting) x
  Gives run (Clean s at) x = IsServed run s (commands.Clean at) x

  served : (run : Run T) (s : ServerId) (command : Command) (x : Run T × CoreReply T)
      → (server_of run s >>= λ state. Ok (with_server s ((step ops state command).0) run, Served ((step ops state command).1))) ≡ Ok x → IsServed run s command x
  served run s command x e =
      let u = bound (server_of run s) _ x e in
      record { state = u.0; state_is = from_option _ _ _ u.1; is = cc (u.2) }

  pub gives : (run : Run T) (e : CoreEvent) (x : Run T × CoreReply T) → outcome ops run e ≡ Ok x → Gives run e x
  gives run (Stamp id s token cost) x e =
      let c = bound (client_of run id) _ x e in
      let u = bound (server_of run s) _ x c.2 in
      let r = bound (stamp run.counting s token cost c.0) _ x u.2 in
      let made = stamp_gives run.counting s token cost c.0 r.0 r.1 in
      let whole : (with_client id r.0.0 run, r.0.1) ≡ x = cc (r.2) in
      record { client = c.0; found = from_option _ _ _ c.1; is = sym whole ∙ ap (λ (y : Client × CoreReply T). (with_client id y.0 run, y.1)) made }
  gives run (Respond id s phase cost) x e =
      let c = bound (client_of run id) _ x e in
      let u = bound (server_of run s) _ x c.2 in
      let r = bound (response s phase cost c.0) _ x u.2 in
      let made = response_gives s phase cost c.0 r.0 r.1 in
      let whole : (with_client id r.0.0 run, r.0.1) ≡ x = cc (r.2) in
      record { client = c.0; found = from_option _ _ _ c.1; is = sym whole ∙ ap (λ (y : Client × CoreReply T). (with_client id y.0 run, y.1)) made }
  gives run (Arrive id s at) x e =
      let c = bound (client_of run id) _ x e in
      let u = bound (server_of run s) _ x c.2 in
      let m = bound _ _ x u.2 in
      record { client = c.0; found = from_option _ _ _ c.1; state = u.0; state_is = from_option _ _ _ u.1; message = m.0; first = from_option _ _ _ m.1; is = cc (m.2) }
  gives run (Pull s at) x e =
      let u = bound (server_of run s) _ x e in
      let room = bound (refuse_if (are_grants_full s run.clients) GrantsFull) _ x u.2 in
      record { state = u.0; state_is = from_option _ _ _ u.1; is = cc (room.2) }
  gives run (Update s id info at) x e = served run s (commands.Update id info at) x e
  gives run (Remove s id) x e = served run s (commands.Remove id) x e
  gives run (Cancel s id token) x e = let c = bound (client_of run id) _ x e in served run s (commands.Cancel id token run.counting) x c.2
  gives run (Clean s at) x e = served run s (commands.Clean at) x e
