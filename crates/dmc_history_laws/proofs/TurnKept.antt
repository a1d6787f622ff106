-- What keeps the requests of a client in order of their tags.
use Rattle.std.proofs.Common.{◌≡◌, ℕ, Bool, true, false, ◌&&◌, ◌||◌, List, [], ◌∷◌, Option, Some, None, refl, sym, ap, ◌∙◌, subst, inl, inr}
use Rattle.std.specs.Prelude.{◌⊎◌, if◌then◌else◌, is_some, IfSome, ⊤}
use Rattle.std.specs.Option.{unwrap_or, option_map, option_map_or}
use Rattle.std.specs.List.{AllByRecursion}
use Rattle.std.specs.Ordering.{is_gt}
use Rattle.std.specs.Cmp.{IsTotalOrder}
use Rattle.std.proofs.lemmas.Bool.{and_parts}
use Rattle.std.proofs.lemmas.Cmp.{upto}
use Rattle.dmc_types.specs.Values.{Rates}
use Rattle.dmc_types.specs.declared.ids.Token.{Token}
use Rattle.dmc_tag.specs.Cancel as cancels
use Rattle.dmc_tag.specs.Tag.{Fraction, Tagging, IsExact}
use Rattle.dmc_tag.specs.Order.{AtMost, AreNext}
use Rattle.dmc_tag.specs.State.{PlainClient, is_busy}
use Rattle.dmc_tag.specs.Rules as rules_of
use Rattle.dmc_tag.specs.declared.plain.QueuedRequest.{QueuedRequest}
use Rattle.dmc_tag.specs.declared.plain.Slack.{Slack}
use Rattle.dmc_tag.specs.declared.reply.Tags.{Tags}
use Rattle.dmc_tag.proofs.Active.{is_busy_with}
use Rattle.dmc_lemmas.proofs.Lists.{all_as, all_both, all_mapped, all_next, each_passes}
use Rattle.dmc_tag.proofs.Upto.{IsUpto, at_most_itself}
use Rattle.dmc_lemmas.proofs.Options.{is_some_mapped, same_presence}
use Rattle.dmc_tag.proofs.TagOrder.{minus_keeps_order}
use Rattle.dmc_history_laws.proofs.Falling.{Kind, reservation, limit, share, IsSlack, Are, Stay, all_stay, last_of, stay}
use Rattle.dmc_history_laws.proofs.InTurn.{NotAbove, InOrder, Follows, IsInTurn}
use Rattle.dmc_history_laws.proofs.Pairs.{Pairwise, every, pairs_as, pairs_both, pairs_more, pairs_mapped}

and_first : (b c : Bool) → (b && c) ≡ false → c ≡ true → b ≡ false
and_first true c e f = cc
and_first false c e f = refl

module _ {T : Type 0} (ops : Tagging T) (order : IsTotalOrder ops.compare) where
  abbrev Turn : PlainClient T → Type 0
  Turn = IsInTurn ops order

  -- nothing is queued
  pub turn_empty : (c : PlainClient T) → c.requests ≡ [] → IsSlack ops c.previous.slack → Turn c
  turn_empty c e left = record {
    pairs = subst (Pairwise (InOrder ops order)) (sym e) tt;
    follows = subst (AllByRecursion (λ x. Follows ops order c.idle c.info c.previous x.tags)) (sym e) tt;
    slacks = subst (AllByRecursion (λ x. IsSlack ops x.slack)) (sym e) tt;
    left = left;
  }

  -- the first request leaves
  pub turn_without_first : (c : PlainClient T) (r : QueuedRequest T) (others : List (QueuedRequest T)) → c.requests ≡ r ∷ others → Turn c → Turn (rules_of.with_requests others c)
  turn_without_first c r others e is = record {
    pairs = (subst (Pairwise (InOrder ops order)) e is.pairs).1;
    follows = (subst (AllByRecursion (λ x. Follows ops order c.idle c.info c.previous x.tags)) e is.follows).1;
    slacks = (subst (AllByRecursion (λ x. IsSlack ops x.slack)) e is.slacks).1;
    left = is.left;
  }

  -- ---- an update

  -- a client that gains or loses its reservation has nothing queued
  pub turn_updated : (c : PlainClient T) (info : Rates) → (rules_of.changes_reservation c.info info && is_busy c) ≡ false → Turn c → Turn (rules_of.with_info info c)
  turn_updated c info kept is = record { pairs = is.pairs; follows = at c.requests refl is.follows; slacks = is.slacks; left = is.left } where
    at : (xs : List (QueuedRequest T)) → c.requests ≡ xs → AllByRecursion (λ x. Follows ops order c.idle c.info c.previous x.tags) xs → AllByRecursion (λ x. Follows ops order c.idle info c.previous x.tags) xs
    at [] e h = tt
    at (x ∷ xs) e h =
        let there = same_presence c.info.reservation info.reservation (and_first _ _ kept (is_busy_with c [] x xs e)) in
        all_as _ (λ x. Follows ops order c.idle info c.previous x.tags) (λ z k. record { busy = k.busy; reserved = k.reserved ∙ there; r = k.r; l = k.l; p = k.p }) (x ∷ xs) h

  -- ---- an idle mark

  -- a client with a queued request is not marked
  pub turn_marked : (c : PlainClient T) (idle : Bool) → (is_busy c ≡ true → idle ≡ c.idle) → Turn c → Turn (record c { idle = idle })
  turn_marked c idle same is = record { pairs = is.pairs; follows = at c.requests refl is.follows; slacks = is.slacks; left = is.left } where
    at : (xs : List (QueuedRequest T)) → c.requests ≡ xs → AllByRecursion (λ x. Follows ops order c.idle c.info c.previous x.tags) xs → AllByRecursion (λ x. Follows ops order idle c.info c.previous x.tags) xs
    at [] e h = tt
    at (x ∷ xs) e h = subst (λ i. AllByRecursion (λ z. Follows ops order i c.info c.previous z.tags) (x ∷ xs)) (sym (same (is_busy_with c [] x xs e))) h

  module _ (fraction : T → Fraction) (is_value : Fraction → Type 0) (exact : IsExact ops fraction is_value) where
    -- ---- an amount is taken off

    less_at_most : (amount a b : T) (o p : Option T) → ops.minus a amount ≡ o → ops.minus b amount ≡ p → is_some o ≡ true → is_some p ≡ true → AtMost ops a b → AtMost ops (unwrap_or o a) (unwrap_or p b)
    less_at_most amount a b None p e f h k m = cc
    less_at_most amount a b (Some x) None e f h k m = cc
    less_at_most amount a b (Some x) (Some y) e f h k m = ap is_gt (minus_keeps_order ops fraction is_value exact a b amount x y e f) ∙ m

    less_upto_less : (amount : T) (a b : Option T) → option_map_or (rules_of.has_less ops amount) a true ≡ true → option_map_or (rules_of.has_less ops amount) b true ≡ true → IsUpto ops a b → IsUpto ops (option_map (rules_of.less ops amount) a) (option_map (rules_of.less ops amount) b)
    less_upto_less amount None None h k m = refl
    less_upto_less amount None (Some b) h k m = m
    less_upto_less amount (Some a) None h k m = refl
    less_upto_less amount (Some a) (Some b) h k m = less_at_most amount a b _ _ refl refl h k m

    less_previous : (amount : T) (o : Option T) (prev : T) → option_map_or (rules_of.has_less ops amount) o true ≡ true → rules_of.has_less ops amount prev ≡ true → IfSome o (λ a. AtMost ops a prev) → IfSome (option_map (rules_of.less ops amount) o) (λ a. AtMost ops a (rules_of.less ops amount prev))
    less_previous amount None prev h k m = tt
    less_previous amount (Some a) prev h k m = less_at_most amount a prev _ _ refl refl h k m

    pub turn_reduced : (c : PlainClient T) (amount : Option T) → rules_of.can_reduce_by ops amount c ≡ true → Turn c → Turn (rules_of.reduced_by ops amount c)
    turn_reduced c None can is = is
    turn_reduced c (Some amount) can is =
        let Has : QueuedRequest T → Type 0 = λ x. option_map_or (rules_of.has_less ops amount) x.tags.r true ≡ true in
        let parts = and_parts _ _ can in
        let each : AllByRecursion Has c.requests = each_passes (λ (x : QueuedRequest T). option_map_or (rules_of.has_less ops amount) x.tags.r true) c.requests parts.0 in
        record {
          pairs = pairs_mapped (InOrder ops order) (InOrder ops order) Has (rules_of.less_reservation ops amount) (λ x z h k o. record { r = less_upto_less amount x.tags.r z.tags.r h k o.r; l = o.l; p = o.p }) c.requests each is.pairs;
          follows = all_mapped (λ x. Has x × Follows ops order c.idle c.info c.previous x.tags) _ (rules_of.less_reservation ops amount) (λ x h. record { busy = h.1.busy; reserved = is_some_mapped (rules_of.less ops amount) x.tags.r ∙ h.1.reserved; r = less_previous amount x.tags.r c.previous.r h.0 parts.1 h.1.r; l = h.1.l; p = h.1.p }) c.requests (all_both _ _ c.requests each is.follows);
          slacks = all_mapped (λ x. IsSlack ops x.slack) (λ x. IsSlack ops x.slack) (rules_of.less_reservation ops amount) (λ x h. h) c.requests is.slacks;
          left = is.left;
        }

    -- ---- the adjustment

    turn_less_shares : (c : PlainClient T) (amount : T) → rules_of.has_less_shares ops amount c ≡ true → Turn c → Turn (rules_of.less_shares ops amount c)
    turn_less_shares c amount can is =
        let Has : QueuedRequest T → Type 0 = λ x. rules_of.has_less ops amount x.tags.p ≡ true in
        let parts = and_parts _ _ can in
        let each : AllByRecursion Has c.requests = each_passes (λ (x : QueuedRequest T). rules_of.has_less ops amount x.tags.p) c.requests parts.0 in
        record {
          pairs = pairs_mapped (InOrder ops order) (InOrder ops order) Has (rules_of.less_share ops amount) (λ x z h k o. record { r = o.r; l = o.l; p = less_at_most amount x.tags.p z.tags.p _ _ refl refl h k o.p }) c.requests each is.pairs;
          follows = all_mapped (λ x. Has x × Follows ops order c.idle c.info c.previous x.tags) _ (rules_of.less_share ops amount) (λ x h. record { busy = h.1.busy; reserved = h.1.reserved; r = h.1.r; l = h.1.l; p = less_at_most amount x.tags.p c.previous.p _ _ refl refl h.0 parts.1 h.1.p }) c.requests (all_both _ _ c.requests each is.follows);
          slacks = all_mapped (λ x. IsSlack ops x.slack) (λ x. IsSlack ops x.slack) (rules_of.less_share ops amount) (λ x h. h) c.requests is.slacks;
          left = is.left;
        }

    pub turn_shifted : (c : PlainClient T) (amount : T) → rules_of.client_can_shift ops amount c ≡ true → Turn c → Turn (rules_of.shifted_client ops amount c)
    turn_shifted c amount can is = at c.idle refl can where
      at : (b : Bool) → c.idle ≡ b → (b || rules_of.has_less_shares ops amount c) ≡ true → Turn (if b then c else rules_of.less_shares ops amount c)
      at true e h = is
      at false e h = turn_less_shares c amount h is

    -- ---- a request arrives

    upto_chain : (a b : Option T) (prev : T) → is_some a ≡ is_some b → IfSome a (λ x. AtMost ops x prev) → IfSome b (AtMost ops prev) → IsUpto ops a b
    upto_chain None None prev e h k = refl
    upto_chain None (Some b) prev e h k = cc
    upto_chain (Some a) None prev e h k = cc
    upto_chain (Some a) (Some b) prev e h k = upto order a prev b h k

    -- what is queued before it is not above, and has an R exactly if it has one
    abbrev IsUnder : Tags T → Tags T → Type 0
    IsUnder tags x = NotAbove ops order x tags × (is_some x.r ≡ is_some tags.r)

    under : (c : PlainClient T) (tags : Tags T) → (c.idle ≡ true) ⊎ AreNext ops c.info c.previous tags → (x : QueuedRequest T) → Follows ops order c.idle c.info c.previous x.tags → IsUnder tags x.tags
    under c tags (inl idle) x k = let busy = k.busy in cc
    under c tags (inr next) x k =
        let reserved : is_some x.tags.r ≡ is_some tags.r = k.reserved ∙ sym next.reserved in (
          record {
            r = upto_chain x.tags.r tags.r c.previous.r reserved k.r next.r;
            l = upto order x.tags.l c.previous.l tags.l k.l next.l;
            p = upto order x.tags.p c.previous.p tags.p k.p next.p;
          },
          reserved,
        )

    reservation_after : (a b : Option T) (prev : T) → IsUpto ops a b → is_some a ≡ is_some b → IfSome a (λ x. AtMost ops x (unwrap_or b prev))
    reservation_after None b prev h e = tt
    reservation_after (Some a) None prev h e = cc
    reservation_after (Some a) (Some b) prev h e = h

    upto_itself : (a : Option T) → IsUpto ops a a
    upto_itself None = refl
    upto_itself (Some a) = at_most_itself ops order a

    pub turn_arrived : (c : PlainClient T) (r : QueuedRequest T) (t : ℕ) → is_some r.tags.r ≡ is_some c.info.reservation → (c.idle ≡ true) ⊎ AreNext ops c.info c.previous r.tags → IsSlack ops r.slack → Turn c → Turn (rules_of.after_arrival r t c)
    turn_arrived c r t reserved next slack is =
        let below : AllByRecursion (λ x. IsUnder r.tags x.tags) c.requests = all_as _ (λ x. IsUnder r.tags x.tags) (under c r.tags next) c.requests is.follows in
        let Kept : QueuedRequest T → Type 0 = λ x. Follows ops order false c.info (rules_of.previous_after r.tags r.slack c.previous) x.tags in
        record {
          pairs = pairs_more (InOrder ops order) c.requests r is.pairs (all_as _ (λ x. InOrder ops order x r) (λ x h. h.0) c.requests below);
          follows = all_next Kept c.requests r
              (all_as (λ x. IsUnder r.tags x.tags × Follows ops order c.idle c.info c.previous x.tags) Kept (λ x h. record { busy = refl; reserved = h.1.reserved; r = reservation_after x.tags.r r.tags.r c.previous.r h.0.0.r h.0.1; l = h.0.0.l; p = h.0.0.p }) c.requests (all_both _ _ c.requests below is.follows))
              (record { busy = refl; reserved = reserved; r = reservation_after r.tags.r r.tags.r c.previous.r (upto_itself r.tags.r) refl; l = upto_itself (Some r.tags.l); p = upto_itself (Some r.tags.p) });
          slacks = all_next (λ x. IsSlack ops x.slack) c.requests r is.slacks slack;
          left = slack;
        }

    -- ---- a cancel

    of_any : (o : Option T) → IfSome o (λ _. ⊤)
    of_any None = tt
    of_any (Some t) = tt

    each_kind : (slack : Slack T) → AtMost ops (ops.of_moment 0) slack.r → AtMost ops (ops.of_moment 0) slack.l → AtMost ops (ops.of_moment 0) slack.p → IsSlack ops slack
    each_kind slack r l p reservation = r
    each_kind slack r l p limit = l
    each_kind slack r l p share = p

    module _ (c : PlainClient T) (token : Token) (charged : ℕ → Slack T) (paid : (cost : ℕ) → IsSlack ops (charged cost)) (is : Turn c) where
      -- what each kind of tags was before
      pub were_in_turn : (k : Kind) → Are ops fraction is_value exact order k token charged (λ cost. paid cost k) cancels.no_befores c.requests c.previous
      were_in_turn reservation = record {
        fallen = tt;
        follow = all_as _ _ (λ x _. of_any x.tags.r) c.requests (every c.requests);
        last = tt;
        pairs = pairs_as _ _ (λ x z h. h.r) c.requests is.pairs;
        under = all_as _ _ (λ x h. h.r) c.requests is.follows;
        slacks = all_as _ _ (λ x h. h reservation) c.requests is.slacks;
        left = is.left reservation;
      }
      were_in_turn limit = record {
        fallen = tt;
        follow = every c.requests;
        last = tt;
        pairs = pairs_as _ _ (λ x z h. h.l) c.requests is.pairs;
        under = all_as _ _ (λ x h. h.l) c.requests is.follows;
        slacks = all_as _ _ (λ x h. h limit) c.requests is.slacks;
        left = is.left limit;
      }
      were_in_turn share = record {
        fallen = tt;
        follow = every c.requests;
        last = tt;
        pairs = pairs_as _ _ (λ x z h. h.p) c.requests is.pairs;
        under = all_as _ _ (λ x h. h.p) c.requests is.follows;
        slacks = all_as _ _ (λ x h. h share) c.requests is.slacks;
        left = is.left share;
      }

      abbrev staying : List (QueuedRequest T)
      staying = cancels.staying ops token charged cancels.no_befores c.requests

      abbrev Stays : Kind → Type 0
      Stays k = Stay ops fraction is_value exact order k token charged (λ cost. paid cost k) cancels.no_befores staying (last_of ops k (cancels.befores_after ops token charged cancels.no_befores c.requests) c.previous)

      stays : (k : Kind) → Stays k
      stays k = stay ops fraction is_value exact order k token charged (λ cost. paid cost k) cancels.no_befores c.requests c.previous (were_in_turn k)

      waits : AllByRecursion (λ x. (c.idle ≡ false) × (is_some x.tags.r ≡ is_some c.info.reservation)) staying
      waits = all_stay ops token charged (λ x. (c.idle ≡ false) × (is_some x.tags.r ≡ is_some c.info.reservation)) (λ befores x h. (h.0, is_some_mapped _ x.tags.r ∙ h.1)) cancels.no_befores c.requests (all_as _ _ (λ x h. (h.busy, h.reserved)) c.requests is.follows)

      by_kind : Stays reservation → Stays limit → Stays share → Turn (cancels.without_token ops token charged c)
      by_kind r l p = record {
        pairs = pairs_as _ (InOrder ops order) (λ x z h. record { r = h.0; l = h.1.0; p = h.1.1 }) staying (pairs_both _ _ staying r.pairs (pairs_both _ _ staying l.pairs p.pairs));
        follows = all_as _ _ (λ x h. record { busy = h.0.0; reserved = h.0.1; r = h.1.0; l = h.1.1.0; p = h.1.1.1 }) staying (all_both _ _ staying waits (all_both _ _ staying r.under (all_both _ _ staying l.under p.under)));
        slacks = all_as _ _ (λ x h. each_kind x.slack h.0 h.1.0 h.1.1) staying (all_both _ _ staying r.slacks (all_both _ _ staying l.slacks p.slacks));
        left = each_kind (cancels.without_token ops token charged c).previous.slack r.left l.left p.left;
      }

      pub turn_cancelled : Turn (cancels.without_token ops token charged c)
      turn_cancelled = by_kind (stays reservation) (stays limit) (stays share)
