-- How the virtual time goes on, command by command: it never falls, and nobody's P is given out below it.
use Rattle.std.proofs.Common.{◌≡◌, ℕ, Bool, true, false, cond, Option, Some, Ok, Err, refl, sym, ap, ◌∙◌, subst}
use Rattle.std.specs.Ordering.{is_gt, is_lt, ord_max}
use Rattle.std.specs.Cmp.{IsTotalOrder}
use Rattle.std.specs.Result.{result_ok}
use Rattle.dmc_types.specs.Values.{Params}
use Rattle.dmc_types.specs.declared.ids.ClientId.{ClientId}
use Rattle.dmc_types.specs.declared.ids.Token.{Token}
use Rattle.dmc_types.specs.declared.config.PhaseType.{PhaseType}
use Rattle.dmc_types.specs.declared.config.PhaseType.TheVariants.{Reservation, Priority}
use Rattle.dmc_types.specs.declared.config.Shares.TheVariants.{Virtual}
use Rattle.dmc_types.specs.declared.command.Command.{Command}
use Rattle.dmc_types.specs.declared.command.Command.TheVariants.{Register, Update, Add, Pull, Remove, Cancel, Clean}
use Rattle.dmc_types.specs.declared.refusal.Field.TheVariants as fields
use Rattle.dmc_types.specs.declared.refusal.Refusal.{Refusal}
use Rattle.dmc_tag.specs.Tag.{Tagging}
use Rattle.dmc_tag.specs.Order.{AtMost}
use Rattle.dmc_tag.specs.Outcome.{in_range}
use Rattle.dmc_tag.specs.Spacing.{spacing_of, optional_spacing, spacings_of}
use Rattle.dmc_tag.specs.State.{State, PlainClient, client_named, effective, is_nothing_queued}
use Rattle.dmc_tag.specs.Best.{Found}
use Rattle.dmc_tag.specs.Rules as rules_of
use Rattle.dmc_tag.specs.Rules.{Outcome, next_tag, next_reservation}
use Rattle.dmc_tag.specs.Step.{answer_of, step}
use Rattle.dmc_tag.specs.declared.reply.Reply.{Reply}
use Rattle.dmc_tag.specs.declared.reply.Reply.TheVariants.{Tagged, Granted, Refused}
use Rattle.dmc_tag.specs.declared.reply.Tags.{Tags}
use Rattle.dmc_tag.proofs.TagOrder.{bound, from_option, from_range}
use Rattle.dmc_tag.proofs.Upto.{at_most_itself}
use Rattle.dmc_lemmas.proofs.Orderings.{less_if_lt}
use Rattle.dmc_history_laws.proofs.Basics.{bind_goes, add_gives, from_ok}
use Rattle.dmc_history_laws.proofs.InTurn.{IsGrant, AreInTurn, pull_is, turned_round}

-- ---- the greater of two tags

module _ {T : Type 0} (ops : Tagging T) (order : IsTotalOrder ops.compare) where
  pub not_under_first : (a b : T) → AtMost ops a (ord_max ops.compare a b)
  not_under_first a b = at (is_lt (ops.compare b a)) refl where
    at : (l : Bool) → is_lt (ops.compare b a) ≡ l → AtMost ops a (cond l a b)
    at true e = at_most_itself ops order a
    at false e = turned_round _ _ (order.antisymm a b) e

  pub not_under_second : (a b : T) → AtMost ops b (ord_max ops.compare a b)
  not_under_second a b = at (is_lt (ops.compare b a)) refl where
    at : (l : Bool) → is_lt (ops.compare b a) ≡ l → AtMost ops b (cond l a b)
    at true e = ap is_gt (less_if_lt _ e)
    at false e = at_most_itself ops order b

-- ---- the P of a request that arrives

pub record WeightStep {T : Type 0} (ops : Tagging T) (hz : ℕ) (c : PlainClient T) (params : Params) (floor p : T) : Type 0 where
  pub spacing : T
  pub spaced : ops.spacing hz c.info.weight ≡ Some spacing
  pub next : next_tag ops c.previous.p params.delta spacing floor ≡ Ok p

module _ {T : Type 0} (ops : Tagging T) (hz : ℕ) (c : PlainClient T) (params : Params) (t floor : T) (tags : Tags T) where
  -- an assignment steps P by the spacing of the weight
  pub steps_by_weight : rules_of.assigned ops hz c params t floor ≡ Ok tags → WeightStep ops hz c params floor tags.p
  steps_by_weight e =
      let sp = bound (in_range (result_ok (spacings_of ops hz c.info))) _ tags e in
      let r = bound (next_reservation ops c.previous.r params.rho sp.0.r t) _ tags sp.2 in
      let l = bound (next_tag ops c.previous.l params.delta sp.0.l t) _ tags r.2 in
      let p = bound (next_tag ops c.previous.p params.delta sp.0.p floor) _ tags l.2 in
      let rs = bound (optional_spacing ops hz fields.Reservation c.info.reservation) _ sp.0 (from_ok _ _ (from_range _ _ sp.1)) in
      let ps = bound (spacing_of ops hz fields.Weight c.info.weight) _ sp.0 rs.2 in
      let ls = bound (optional_spacing ops hz fields.Limit c.info.limit) _ sp.0 ps.2 in
      let p_is : p.0 ≡ tags.p = cc (p.2) in
      let spacing_is : ps.0 ≡ sp.0.p = cc (ls.2) in
      record { spacing = sp.0.p; spaced = from_option _ _ _ ps.1 ∙ ap Some spacing_is; next = p.1 ∙ ap Ok p_is }

  -- it is not below the floor
  pub not_under_floor : IsTotalOrder ops.compare → rules_of.assigned ops hz c params t floor ≡ Ok tags → AtMost ops floor tags.p
  not_under_floor order e =
      let by = steps_by_weight e in
      let d = bound (in_range (ops.steps by.spacing params.delta)) _ tags.p by.next in
      let sum = bound (in_range (ops.plus c.previous.p d.0)) _ tags.p d.2 in
      let tag_is : ord_max ops.compare sum.0 floor ≡ tags.p = cc (sum.2) in
      subst (AtMost ops floor) tag_is (not_under_second ops order sum.0 floor)

-- ---- what a command makes of the virtual time

-- after every other reply it is as it was
abbrev pub goes_on : {T : Type 0} → Reply T → Bool
goes_on (Tagged tags) = true
goes_on (Granted client token Priority beyond cost) = true
goes_on reply = false

-- What holds of each of these cases holds of every command, under Shares::Virtual.
module _ {T : Type 0} (ops : Tagging T) (order : IsTotalOrder ops.compare) (s : State T) (virtual : s.config.shares ≡ Virtual) (is : AreInTurn ops order s) (P : Command → Reply T → State T → Type 0) (stays : (c : Command) (reply : Reply T) (new : State T) → goes_on reply ≡ false → new.progress.virtual_time ≡ s.progress.virtual_time → P c reply new) (arrives : (client : ClientId) (token : Token) (params : Params) (at : ℕ) (c : PlainClient T) (tags : Tags T) (new : State T) → client_named client s.clients ≡ Some c → rules_of.assigned ops s.config.hz c params (ops.of_moment (effective s at)) new.progress.virtual_time ≡ Ok tags → new.progress.virtual_time ≡ rules_of.virtual_at ops (is_nothing_queued s.clients) s.progress → P (Add client token params at) (Tagged tags) new) (weighs : (at : ℕ) (found : Found T) (amount : Option T) (beyond : Bool) (new : State T) → IsGrant ops s (effective s at) found amount Priority beyond → new.progress.virtual_time ≡ ord_max ops.compare s.progress.virtual_time found.request.tags.p → P (Pull at) (rules_of.granted found Priority beyond) new) where
  abbrev Goes : Command → Outcome T → Type 0
  Goes c o = P c ((answer_of s o).1) ((answer_of s o).0)

  refused : (c : Command) (e : Refusal) → Goes c (Err e)
  refused c e = stays c (Refused e) s refl refl

  add_goes : (client : ClientId) (token : Token) (params : Params) (at : ℕ) → Goes (Add client token params at) (rules_of.added ops s client token params (effective s at))
  add_goes client token params at = bind_goes (Goes (Add client token params at)) (rules_of.can_add ops s client params (effective s at)) _ (refused _) (λ x e.
      let c = add_gives ops s client params (effective s at) x e in
      let floor : rules_of.share_floor ops s (ops.of_moment (effective s at)) ≡ rules_of.virtual_at ops (is_nothing_queued s.clients) s.progress = ap (λ k. rules_of.floor_by ops k (is_nothing_queued s.clients) s.progress (ops.of_moment (effective s at))) virtual in
      let now : (rules_of.progress_added ops s.config.shares (is_nothing_queued s.clients) x.tags.p s.progress).virtual_time ≡ rules_of.virtual_at ops (is_nothing_queued s.clients) s.progress = ap (λ k. (rules_of.progress_added ops k (is_nothing_queued s.clients) x.tags.p s.progress).virtual_time) virtual in
      arrives client token params at c.client x.tags _ c.named (subst (λ f. rules_of.assigned ops s.config.hz c.client params (ops.of_moment (effective s at)) f ≡ Ok x.tags) (floor ∙ sym now) c.tags) now)

  grant_goes : (at : ℕ) (found : Found T) (amount : Option T) (phase : PhaseType) (beyond : Bool) → IsGrant ops s (effective s at) found amount phase beyond → P (Pull at) (rules_of.granted found phase beyond) (rules_of.taken_out ops s (effective s at) found phase amount)
  grant_goes at found amount Reservation beyond g = stays (Pull at) _ _ refl refl
  grant_goes at found amount Priority beyond g = weighs at found amount beyond _ g (ap (λ k. (rules_of.progress_granted ops Priority k found.request.tags.p s.progress).virtual_time) virtual)

  pub step_goes_on : (c : Command) → P c ((step ops s c).1) ((step ops s c).0)
  step_goes_on (Register client info at) = bind_goes (Goes (Register client info at)) (rules_of.can_register ops s client info) _ (refused _) (λ u e. stays _ _ _ refl refl)
  step_goes_on (Update client info at) = bind_goes (Goes (Update client info at)) (rules_of.can_update ops s client info) _ (refused _) (λ u e. stays _ _ _ refl refl)
  step_goes_on (Add client token params at) = add_goes client token params at
  step_goes_on (Pull at) = pull_is ops order s (effective s at) is.clients (Goes (Pull at)) (refused (Pull at)) (λ m. stays _ _ _ refl refl) (stays _ _ _ refl refl) (grant_goes at)
  step_goes_on (Remove client) = bind_goes (Goes (Remove client)) (rules_of.can_remove s client) _ (refused _) (λ c e. stays _ _ _ refl refl)
  step_goes_on (Cancel client token counting) = bind_goes (Goes (Cancel client token counting)) (rules_of.can_remove s client) _ (refused _) (λ c e. stays _ _ _ refl refl)
  step_goes_on (Clean at) = stays _ _ _ refl refl
