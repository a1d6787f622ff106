-- No credit: over a history the virtual time never falls, a grant by weight takes it to its P, and no P is given out below it.
use Rattle.std.proofs.Common.{◌≡◌, ℕ, suc, ◌<◌, ◌≤◌, Bool, true, false, List, [], ◌∷◌, take, drop, Option, Some, refl, sym, ap, ◌∙◌, subst, arith}
use Rattle.std.specs.Prelude.{slice_get}
use Rattle.std.specs.Option.{option_map_or}
use Rattle.std.specs.Ordering.{ord_max}
use Rattle.std.specs.Cmp.{IsTotalOrder}
use Rattle.std.proofs.lemmas.Cmp.{upto}
use Rattle.dmc_types.specs.Values.{Setting}
use Rattle.dmc_types.specs.declared.ids.ClientId.{ClientId}
use Rattle.dmc_types.specs.declared.ids.Token.{Token}
use Rattle.dmc_types.specs.declared.config.PhaseType.{PhaseType}
use Rattle.dmc_types.specs.declared.config.PhaseType.TheVariants.{Priority}
use Rattle.dmc_types.specs.declared.config.Shares.TheVariants.{Virtual}
use Rattle.dmc_types.specs.declared.command.Command.{Command}
use Rattle.dmc_types.specs.declared.command.Command.TheVariants.{Pull}
use Rattle.dmc_tag.specs.Tag.{Fraction, Tagging, IsExact}
use Rattle.dmc_tag.specs.Order.{AtMost}
use Rattle.dmc_tag.specs.State.{State, PlainClient, client_named, requests_of, effective, is_nothing_queued, opening}
use Rattle.dmc_tag.specs.Best.{Found}
use Rattle.dmc_tag.specs.Replay.{replays}
use Rattle.dmc_tag.specs.Rules.{virtual_at}
use Rattle.dmc_tag.specs.Step.{step}
use Rattle.dmc_tag.specs.declared.event.Event.{Event}
use Rattle.dmc_tag.specs.declared.plain.QueuedRequest.{QueuedRequest}
use Rattle.dmc_tag.specs.declared.reply.Reply.TheVariants.{Tagged, Granted}
use Rattle.dmc_tag.specs.declared.reply.Tags.{Tags}
use Rattle.dmc_tag.proofs.Ids.{itself_id}
use Rattle.dmc_tag.proofs.Upto.{at_most_itself}
use Rattle.dmc_history_laws.specs.Shares.{before, IsWeightGrant, NoCredit}
use Rattle.dmc_history_laws.proofs.Histories.{IsSound, after_from, after-append, replays_split, sound_step, sound_after, sound_opening}
use Rattle.dmc_history_laws.proofs.InTurn.{IsGrant}
use Rattle.dmc_history_laws.proofs.Named.{named_at}
use Rattle.dmc_history_laws.proofs.Pairs.{AreDistinct}
use Rattle.dmc_history_laws.proofs.Parts.{cut_at, take_one, take_both}
use Rattle.dmc_history_laws.proofs.VirtualTime.{step_goes_on, goes_on, not_under_first, not_under_second, not_under_floor}

module _ {T : Type 0} (ops : Tagging T) (fraction : T → Fraction) (is_value : Fraction → Type 0) (exact : IsExact ops fraction is_value) (order : IsTotalOrder ops.compare) (config : Setting) (some : 0 < config.hz) where
  abbrev pub Sound : State T → Type 0
  Sound s = IsSound ops fraction is_value exact order config some s

  -- ---- an event by its number

  -- the event's reply is that of the step, which leads to the next state
  pub record IsStep (history : List (Event T)) (number : ℕ) (e : Event T) : Type 0 where
    pub reply_is : e.reply ≡ (step ops (before ops config history number) e.command).1
    pub next : before ops config history (suc number) ≡ (step ops (before ops config history number) e.command).0

  pub sound_before : (history : List (Event T)) (number : ℕ) → Sound (before ops config history number)
  sound_before history number = sound_after ops fraction is_value exact order config some _ (take number history) (sound_opening ops fraction is_value exact order config some)

  pub step_at : (history : List (Event T)) (number : ℕ) (e : Event T) → replays ops config history → slice_get history number ≡ Some e → IsStep history number e
  step_at history number e replay here = record {
    reply_is = (replays_split ops _ (take number history) (e ∷ drop (suc number) history) (subst (replays ops config) (cut_at number history e here) replay)).1.0;
    next = ap (after_from ops (opening ops config)) (take_one number history e here) ∙ after-append ops _ (take number history) (e ∷ []);
  }

  -- ---- the virtual time

  abbrev pub time : State T → T
  time s = s.progress.virtual_time

  -- a grant by weight of the client's first request, and how far it takes the virtual time
  pub record Weighed (id : ClientId) (at : ℕ) (beyond : Bool) (request : QueuedRequest T) (s new : State T) : Type 0 where
    pub found : Found T
    pub amount : Option T
    pub grant : IsGrant ops s (effective s at) found amount Priority beyond
    pub request_is : found.request ≡ request
    pub time_is : time new ≡ ord_max ops.compare (time s) request.tags.p

  module _ (virtual : config.shares ≡ Virtual) where
    pub shares_are : (s : State T) → Sound s → s.config.shares ≡ Virtual
    shares_are s is = ap (λ k. k.shares) is.same ∙ virtual

    goes_further : (progress : _) (b : Bool) → AtMost ops progress.virtual_time (virtual_at ops b progress)
    goes_further progress true = not_under_first ops order progress.virtual_time progress.furthest
    goes_further progress false = at_most_itself ops order progress.virtual_time

    no_earlier : (s : State T) (c : Command) → Sound s → AtMost ops (time s) (time ((step ops s c).0))
    no_earlier s c is = step_goes_on ops order s (shares_are s is) is.turn (λ c reply new. AtMost ops (time s) (time new))
        (λ c reply new no same. subst (AtMost ops (time s)) (sym same) (at_most_itself ops order (time s)))
        (λ client token params at c tags new named given now. subst (AtMost ops (time s)) (sym now) (goes_further s.progress (is_nothing_queued s.clients)))
        (λ at found amount beyond new g now. subst (AtMost ops (time s)) (sym now) (not_under_first ops order (time s) found.request.tags.p))
        c

    never_falls : (s : State T) (es : List (Event T)) → Sound s → AtMost ops (time s) (time (after_from ops s es))
    never_falls s [] is = at_most_itself ops order (time s)
    never_falls s (e ∷ es) is =
        let next = (step ops s e.command).0 in
        upto order (time s) (time next) (time (after_from ops next es)) (no_earlier s e.command is) (never_falls next es (sound_step ops fraction is_value exact order config some s e.command is))

    not_before : (history : List (Event T)) (n m : ℕ) → n ≤ m → AtMost ops (time (before ops config history n)) (time (before ops config history m))
    not_before history n m h =
        let parted = ap (after_from ops (opening ops config)) (sym (take_both n m history h)) ∙ after-append ops _ (take n history) (drop n (take m history)) in
        subst (λ s. AtMost ops (time (before ops config history n)) (time s)) (sym parted) (never_falls _ (drop n (take m history)) (sound_before history n))

    -- the P of an accepted add is not below it
    pub arrives_later : (s : State T) (c : Command) (tags : Tags T) → Sound s → (step ops s c).1 ≡ Tagged tags → AtMost ops (time ((step ops s c).0)) tags.p
    arrives_later s c tags is = step_goes_on ops order s (shares_are s is) is.turn (λ c reply new. reply ≡ Tagged tags → AtMost ops (time new) tags.p)
        (λ c reply new no same e. let on = ap goes_on e in cc)
        (λ client token params at c given new named assigned now e. let same : given ≡ tags = cc in subst (λ (x : Tags T). AtMost ops (time new) x.p) same (not_under_floor ops s.config.hz c params _ _ given order assigned))
        (λ at found amount beyond new g now e. cc)
        c

    -- the granted request is the first of its client
    pub granted_first : (s : State T) → Sound s → {t : ℕ} {found : Found T} {amount : Option T} {phase : PhaseType} {beyond : Bool} → IsGrant ops s t found amount phase beyond → slice_get (requests_of found.client.id s.clients) 0 ≡ Some found.request
    granted_first s is {found = found} g =
        let named : client_named found.client.id s.clients ≡ Some found.client = ap (client_named found.client.id) g.whole ∙ named_at found.client.id g.front found.client g.back (subst AreDistinct g.whole is.turn.distinct) (itself_id found.client.id) in
        ap (λ o. slice_get (option_map_or (λ (c : PlainClient T). c.requests) o []) 0) named ∙ ap (λ xs. slice_get xs 0) g.first

    pub weighed : (s : State T) (id : ClientId) (at : ℕ) (token : Token) (beyond : Bool) (cost : ℕ) (request : QueuedRequest T) → Sound s → (step ops s (Pull at)).1 ≡ Granted id token Priority beyond cost → slice_get (requests_of id s.clients) 0 ≡ Some request → Weighed id at beyond request s ((step ops s (Pull at)).0)
    weighed s id at token beyond cost request is e first = step_goes_on ops order s (shares_are s is) is.turn (λ c reply new. c ≡ Pull at → reply ≡ Granted id token Priority beyond cost → Weighed id at beyond request s new)
        (λ c reply new no same p e. let on = ap goes_on e in cc)
        (λ client token params at c given new named assigned now p e. cc)
        (λ now_at found amount past new g now p e.
        let at_is : now_at ≡ at = cc in
        let past_is : past ≡ beyond = cc in
        let id_is : found.client.id ≡ id = cc in
        let same : found.request ≡ request = cc (subst (λ i. slice_get (requests_of i s.clients) 0 ≡ Some found.request) id_is (granted_first s is g)) in
        record {
          found = found;
          amount = amount;
          grant = subst (λ b. IsGrant ops s (effective s at) found amount Priority b) past_is (subst (λ t. IsGrant ops s (effective s t) found amount Priority past) at_is g);
          request_is = same;
          time_is = now ∙ ap (λ (r : QueuedRequest T). ord_max ops.compare (time s) r.tags.p) same;
        })
        (Pull at) refl e

    -- the event's answer, as a pull of the state before it
    pub weighed_at : (history : List (Event T)) (number : ℕ) (id : ClientId) (request : QueuedRequest T) → replays ops config history → (w : IsWeightGrant ops config history number id request) → Weighed id w.moment w.beyond request (before ops config history number) (before ops config history (suc number))
    weighed_at history number id request replay w =
        let s = before ops config history number in
        let here = step_at history number w.event replay w.here in
        let answer : (step ops s (Pull w.moment)).1 ≡ Granted id request.token Priority w.beyond request.cost = sym (here.reply_is ∙ ap (λ c. (step ops s c).1) w.pulls) ∙ w.grants in
        subst (Weighed id w.moment w.beyond request s) (sym (here.next ∙ ap (λ c. (step ops s c).0) w.pulls)) (weighed s id w.moment request.token w.beyond request.cost request (sound_before history number) answer w.first)

    pub no_credit : NoCredit ops config
    no_credit = λ history replay granted arrived client other request tags w arrival later.
        let reached = (weighed_at history granted client request replay w).time_is in
        let here = step_at history arrived arrival.event replay arrival.here in
        let at_grant : AtMost ops request.tags.p (time (before ops config history (suc granted))) = subst (AtMost ops request.tags.p) (sym reached) (not_under_second ops order _ request.tags.p) in
        let s = before ops config history arrived in
        let later_p = upto order (time s) _ tags.p (no_earlier s arrival.event.command (sound_before history arrived)) (arrives_later s arrival.event.command tags (sound_before history arrived) (sym here.reply_is ∙ arrival.tags_are)) in
        upto order _ _ tags.p at_grant (upto order _ _ tags.p (not_before history (suc granted) arrived (omega arith)) later_p)
