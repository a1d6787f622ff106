-- Each call leaves a record a record.
use Rattle.std.proofs.Common.{◌≡◌, ℕ, Bool, true, false, ◌&&◌, List, [], ◌∷◌, ◌++◌, map, drop, Option, Some, None, refl, sym, ap, ◌∙◌, subst}
use Rattle.std.specs.Prelude.{filter_map, is_some, IfSome, is_err, Result, Ok, Err, OnOk, OnErr}
use Rattle.std.specs.Option.{option_map, option_map_or, unwrap_or}
use Rattle.std.specs.List.{AllByRecursion, list_all, cons_option}
use Rattle.std.specs.Cmp.{IsTotalOrder}
use Rattle.std.proofs.lemmas.List.Elements.{filter_map-append}
use Rattle.std.proofs.lemmas.List.Folds.{list_all-append, list_all-map}
use Rattle.std.proofs.lemmas.List.{map-append, append-nil}
use Rattle.dmc_types.specs.Values.{Rates}
use Rattle.dmc_tag.specs.Tag.{Tagging}
use Rattle.dmc_tag.specs.Order.{AtMost, AreSpacings, AreNext, NotBelow}
use Rattle.dmc_tag.proofs.Upto.{at_most_itself}
use Rattle.dmc_tag.specs.Rules.{no_previous, less, has_less, previous_after, changes_reservation, less_share, less_reservation}
use Rattle.dmc_tag.specs.declared.plain.Previous.{Previous}
use Rattle.dmc_tag.specs.declared.spacing.Spacings.{Spacings}
use Rattle.dmc_tag.specs.declared.plain.QueuedRequest.{QueuedRequest}
use Rattle.dmc_client.specs.Order.{InOrder}
use Rattle.dmc_client.specs.Record.{Rec, IsRecord, reservation_tags, share_tags, pushed, less_shares, less_reservations, has_less_shares, has_less_reservations}
use Rattle.dmc_client.proofs.Order.{in_order-next, in_order-less, KeepsOrder}
use Rattle.dmc_lemmas.proofs.Options.{is_some_mapped, same_presence}
use Rattle.std.proofs.Math.Bool.{and-true, and-false}
use Rattle.dmc_lemmas.proofs.Lists.{all_mapped, all_next}

-- ---- what holds of each request

pub all_rest : {X : Type 0} (P : X → Type 0) (xs : List X) → AllByRecursion P xs → AllByRecursion P (drop 1 xs)
all_rest P [] h = tt
all_rest P (x ∷ xs) h = h.1

-- ---- before the first request

module _ {T : Type 0} (ops : Tagging T) (order : IsTotalOrder ops.compare) where
  pub nothing_not_below : NotBelow ops (no_previous ops).slack
  nothing_not_below = let zero = at_most_itself ops order (ops.of_moment 0) in record { r = zero; l = zero; p = zero }

-- ---- a request is queued

module _ {T : Type 0} (ops : Tagging T) (order : IsTotalOrder ops.compare) where
  next_reservations : (tags : List T) (r : Option T) (previous : T) → IfSome r (AtMost ops previous) → InOrder ops (tags ++ previous ∷ []) → InOrder ops ((tags ++ cons_option r []) ++ unwrap_or r previous ∷ [])
  next_reservations tags None previous k h = subst (λ xs. InOrder ops (xs ++ previous ∷ [])) (sym (append-nil tags)) h
  next_reservations tags (Some r) previous k h = in_order-next ops order tags previous r h k

  pub pushed_record : (rec : Rec T) (request : QueuedRequest T) (at : ℕ) → IsRecord ops rec → AreNext ops rec.info rec.previous request.tags → NotBelow ops request.slack → IsRecord ops (pushed request at rec)
  pushed_record rec request at is next slack = record {
    spacings = is.spacings;
    reserved = all_next _ rec.requests request is.reserved next.reserved;
    reservations =
        let kept = next_reservations (filter_map (λ r. r.tags.r) rec.requests) request.tags.r rec.previous.r next.r is.reservations in
        subst (λ xs. InOrder ops (xs ++ unwrap_or request.tags.r rec.previous.r ∷ [])) (sym (filter_map-append (λ r. r.tags.r) rec.requests (request ∷ []))) kept;
    limits =
        let kept = in_order-next ops order (map (λ r. r.tags.l) rec.requests) rec.previous.l request.tags.l is.limits next.l in
        subst (λ xs. InOrder ops (xs ++ request.tags.l ∷ [])) (sym (map-append (λ r. r.tags.l) rec.requests (request ∷ []))) kept;
    shares =
        let kept = in_order-next ops order (map (λ r. r.tags.p) rec.requests) rec.previous.p request.tags.p is.shares next.p in
        subst (λ xs. InOrder ops (xs ++ request.tags.p ∷ [])) (sym (map-append (λ r. r.tags.p) rec.requests (request ∷ []))) kept;
    idle = λ e. cc (e);
    slacks = all_next _ rec.requests request is.slacks slack;
    slack = slack;
  }

-- ---- the queue changes alone

pub with_requests : {T : Type 0} (rec view : Rec T) (xs ys : List (QueuedRequest T)) → rec ≡ view → xs ≡ ys → record rec { requests = xs } ≡ record view { requests = ys }
with_requests {T} rec view xs ys v e = ap (λ (r : Rec T). record r { requests = xs }) v ∙ ap (λ zs. record view { requests = zs }) e

-- a queue that did not take a request is as it was
refused : {X A E : Type 0} (result : Result A E) (old new : X) → OnErr result (new ≡ old) → true ≡ is_err result → new ≡ old
refused (Ok a) old new h e = cc
refused (Err b) old new h e = h

pub refused_view : {T A E : Type 0} (result : Result A E) (rec view : Rec T) (requests : List (QueuedRequest T)) → rec ≡ view → OnErr result (requests ≡ rec.requests) →
    true ≡ is_err result → record rec { requests = requests } ≡ view
refused_view result rec view requests v h e = ap (λ xs. record rec { requests = xs }) (refused result rec.requests requests h e) ∙ v

taken : {X A E : Type 0} (result : Result A E) (old new : X) → OnOk result (new ≡ old) → false ≡ is_err result → new ≡ old
taken (Ok a) old new h e = h
taken (Err b) old new h e = cc

pub pushed_view : {T A E : Type 0} (result : Result A E) (rec view : Rec T) (request : QueuedRequest T) (at : ℕ) (requests : List (QueuedRequest T)) (previous : Previous T) →
    rec ≡ view → OnOk result (requests ≡ rec.requests ++ request ∷ []) → false ≡ is_err result → previous ≡ previous_after request.tags request.slack rec.previous →
    record rec { previous = previous; idle = false; last_arrival = at; requests = requests } ≡ pushed request at view
pushed_view result rec view request at requests previous v h e p =
    ap (λ xs. record rec { previous = previous; idle = false; last_arrival = at; requests = xs }) (taken result (rec.requests ++ request ∷ []) requests h e)
    ∙ ap (λ q. record rec { previous = q; idle = false; last_arrival = at; requests = rec.requests ++ request ∷ [] }) p
    ∙ ap (pushed request at) v

module _ {T : Type 0} (ops : Tagging T) where
  pub empty_record : (rec : Rec T) → AreSpacings ops rec.info rec.spacings → NotBelow ops rec.previous.slack → rec.requests ≡ [] → IsRecord ops rec
  empty_record rec are slack none = record {
    spacings = are;
    reserved = subst (AllByRecursion (λ r. is_some r.tags.r ≡ is_some rec.info.reservation)) (sym none) tt;
    reservations = subst (λ xs. InOrder ops (filter_map (λ r. r.tags.r) xs ++ rec.previous.r ∷ [])) (sym none) (tt, tt);
    limits = subst (λ xs. InOrder ops (map (λ r. r.tags.l) xs ++ rec.previous.l ∷ [])) (sym none) (tt, tt);
    shares = subst (λ xs. InOrder ops (map (λ r. r.tags.p) xs ++ rec.previous.p ∷ [])) (sym none) (tt, tt);
    idle = λ e. none;
    slacks = subst (AllByRecursion (λ r. NotBelow ops r.slack)) (sym none) tt;
    slack = slack;
  }

  pub refused_record : {A E : Type 0} (result : Result A E) (rec : Rec T) (requests : List (QueuedRequest T)) → IsRecord ops rec → OnErr result (requests ≡ rec.requests) →
      true ≡ is_err result → IsRecord ops (record rec { requests = requests })
  refused_record result rec requests is h e = subst (λ xs. IsRecord ops (record rec { requests = xs })) (sym (refused result rec.requests requests h e)) is

  pub same_record : (rec : Rec T) (requests : List (QueuedRequest T)) → IsRecord ops rec → requests ≡ rec.requests → IsRecord ops (record rec { requests = requests })
  same_record rec requests is e = subst (λ xs. IsRecord ops (record rec { requests = xs })) (sym e) is

-- ---- the first request is taken out, or the rates change

module _ {T : Type 0} (ops : Tagging T) where
  pub rest_reservations : (r : Option T) (tags : List T) (previous : T) → InOrder ops (cons_option r tags ++ previous ∷ []) → InOrder ops (tags ++ previous ∷ [])
  rest_reservations None tags previous h = h
  rest_reservations (Some r) tags previous h = h.1

  pub popped_record : (rec : Rec T) → IsRecord ops rec → IsRecord ops (record rec { requests = drop 1 rec.requests })
  popped_record rec is = record {
    spacings = is.spacings;
    reserved = all_rest _ rec.requests is.reserved;
    reservations = reservations rec.requests is.reservations;
    limits = by_map (λ r. r.tags.l) rec.previous.l rec.requests is.limits;
    shares = by_map (λ r. r.tags.p) rec.previous.p rec.requests is.shares;
    idle = λ e. ap (drop 1) (is.idle e);
    slacks = all_rest _ rec.requests is.slacks;
    slack = is.slack;
  } where
    reservations : (requests : List (QueuedRequest T)) → InOrder ops (filter_map (λ r. r.tags.r) requests ++ rec.previous.r ∷ []) → InOrder ops (filter_map (λ r. r.tags.r) (drop 1 requests) ++ rec.previous.r ∷ [])
    reservations [] h = h
    reservations (r ∷ requests) h = rest_reservations r.tags.r _ rec.previous.r h

    by_map : (tag : QueuedRequest T → T) (previous : T) (requests : List (QueuedRequest T)) → InOrder ops (map tag requests ++ previous ∷ []) → InOrder ops (map tag (drop 1 requests) ++ previous ∷ [])
    by_map tag previous [] h = h
    by_map tag previous (r ∷ requests) h = h.1

  all_reserved : (requests : List (QueuedRequest T)) (old new : Rates) (changes : Bool) → changes_reservation old new ≡ changes → (changes ≡ true → requests ≡ []) → AllByRecursion (λ r. is_some r.tags.r ≡ is_some old.reservation) requests → AllByRecursion (λ r. is_some r.tags.r ≡ is_some new.reservation) requests
  all_reserved requests old new true e none h = subst (AllByRecursion (λ r. is_some r.tags.r ≡ is_some new.reservation)) (sym (none refl)) tt
  all_reserved requests old new false e none h = subst (λ b. AllByRecursion (λ r. is_some r.tags.r ≡ b) requests) (same_presence old.reservation new.reservation e) h

  pub record_with_info : (rec : Rec T) (info : Rates) (spacings : Spacings T) → IsRecord ops rec → AreSpacings ops info spacings → (changes_reservation rec.info info ≡ true → rec.requests ≡ []) → IsRecord ops (record rec { info = info; spacings = spacings })
  record_with_info rec info spacings is are none = record {
    spacings = are;
    reserved = all_reserved rec.requests rec.info info _ refl none is.reserved;
    reservations = is.reservations;
    limits = is.limits;
    shares = is.shares;
    idle = is.idle;
    slacks = is.slacks;
    slack = is.slack;
  }

-- ---- an amount is taken off

map_map : {X Y Z : Type 0} (f : Y → Z) (g : X → Y) (h : X → Z) → ((x : X) → f (g x) ≡ h x) → (xs : List X) → map f (map g xs) ≡ map h xs
map_map f g h e [] = refl
map_map f g h e (x ∷ xs) = ap (λ z. z ∷ map f (map g xs)) (e x) ∙ ap (λ zs. h x ∷ zs) (map_map f g h e xs)

filter_map_map : {X Y Z : Type 0} (f : Y → Option Z) (g : X → Y) (h : X → Option Z) → ((x : X) → f (g x) ≡ h x) → (xs : List X) → filter_map f (map g xs) ≡ filter_map h xs
filter_map_map f g h e [] = refl
filter_map_map f g h e (x ∷ xs) = ap (λ z. cons_option z (filter_map f (map g xs))) (e x) ∙ ap (cons_option (h x)) (filter_map_map f g h e xs)

map_cons_option : {X Y : Type 0} (f : X → Y) (o : Option X) (xs : List X) → cons_option (option_map f o) (map f xs) ≡ map f (cons_option o xs)
map_cons_option f None xs = refl
map_cons_option f (Some x) xs = refl

module _ {T : Type 0} (ops : Tagging T) (amount : T) where
  filter_map_less : (requests : List (QueuedRequest T)) → filter_map (λ r. r.tags.r) (map (less_reservation ops amount) requests) ≡ map (less ops amount) (filter_map (λ r. r.tags.r) requests)
  filter_map_less [] = refl
  filter_map_less (r ∷ requests) = ap (cons_option (option_map (less ops amount) r.tags.r)) (filter_map_less requests) ∙ map_cons_option (less ops amount) r.tags.r (filter_map (λ r. r.tags.r) requests)

  all_cons_option : (o : Option T) (xs : List T) → list_all (has_less ops amount) (cons_option o xs) ≡ (option_map_or (has_less ops amount) o true && list_all (has_less ops amount) xs)
  all_cons_option None xs = refl
  all_cons_option (Some x) xs = refl

  pub all_filter_map : (requests : List (QueuedRequest T)) → list_all (has_less ops amount) (filter_map (λ r. r.tags.r) requests) ≡ list_all (λ r. option_map_or (has_less ops amount) r.tags.r true) requests
  all_filter_map [] = refl
  all_filter_map (r ∷ requests) = all_cons_option r.tags.r (filter_map (λ r. r.tags.r) requests) ∙ ap (λ b. option_map_or (has_less ops amount) r.tags.r true && b) (all_filter_map requests)

  shares_have_less : (rec : Rec T) → list_all (has_less ops amount) (share_tags rec) ≡ has_less_shares ops amount rec
  shares_have_less rec =
      list_all-append (has_less ops amount) (map (λ r. r.tags.p) rec.requests) (rec.previous.p ∷ [])
      ∙ ap (λ b. b && (has_less ops amount rec.previous.p && true)) (list_all-map (has_less ops amount) (λ r. r.tags.p) rec.requests)
      ∙ ap (λ b. list_all (λ r. has_less ops amount r.tags.p) rec.requests && b) (and-true (has_less ops amount rec.previous.p))

  reservations_have_less : (rec : Rec T) → list_all (has_less ops amount) (reservation_tags rec) ≡ has_less_reservations ops amount rec
  reservations_have_less rec =
      list_all-append (has_less ops amount) (filter_map (λ r. r.tags.r) rec.requests) (rec.previous.r ∷ [])
      ∙ ap (λ b. b && (has_less ops amount rec.previous.r && true)) (all_filter_map rec.requests)
      ∙ ap (λ b. list_all (λ r. option_map_or (has_less ops amount) r.tags.r true) rec.requests && b) (and-true (has_less ops amount rec.previous.r))

  shares_are : (rec : Rec T) → share_tags (less_shares ops amount rec) ≡ map (less ops amount) (share_tags rec)
  shares_are rec =
      ap (λ xs. xs ++ less ops amount rec.previous.p ∷ []) (map_map (λ r. r.tags.p) (less_share ops amount) (λ r. less ops amount r.tags.p) (λ r. refl) rec.requests ∙ sym (map_map (less ops amount) (λ r. r.tags.p) (λ r. less ops amount r.tags.p) (λ r. refl) rec.requests))
      ∙ sym (map-append (less ops amount) (map (λ r. r.tags.p) rec.requests) (rec.previous.p ∷ []))

  reservations_are : (rec : Rec T) → reservation_tags (less_reservations ops amount rec) ≡ map (less ops amount) (reservation_tags rec)
  reservations_are rec =
      ap (λ xs. xs ++ less ops amount rec.previous.r ∷ []) (filter_map_less rec.requests)
      ∙ sym (map-append (less ops amount) (filter_map (λ r. r.tags.r) rec.requests) (rec.previous.r ∷ []))

  -- whether each share less the amount is a value

  pub previous_lacks : (rec view : Rec T) → rec ≡ view → None ≡ ops.minus rec.previous.p amount → false ≡ has_less_shares ops amount view
  previous_lacks rec view v e =
      let queued = list_all (λ r. has_less ops amount r.tags.p) rec.requests in
      sym (and-false queued) ∙ ap (λ o. queued && is_some o) e ∙ ap (has_less_shares ops amount) v

  pub queued_lack : (rec view : Rec T) → rec ≡ view → false ≡ list_all (λ r. has_less ops amount r.tags.p) rec.requests → false ≡ has_less_shares ops amount view
  queued_lack rec view v e = ap (λ b. b && has_less ops amount rec.previous.p) e ∙ ap (has_less_shares ops amount) v

  pub all_have : (rec view : Rec T) (p : T) → rec ≡ view → Some p ≡ ops.minus rec.previous.p amount → true ≡ list_all (λ r. has_less ops amount r.tags.p) rec.requests →
      true ≡ has_less_shares ops amount view
  all_have rec view p v e k = ap is_some e ∙ ap (λ b. b && has_less ops amount rec.previous.p) k ∙ ap (has_less_shares ops amount) v

  pub less_shares_view : (rec view : Rec T) (p : T) (requests : List (QueuedRequest T)) → rec ≡ view → Some p ≡ ops.minus rec.previous.p amount →
      requests ≡ map (less_share ops amount) rec.requests → record rec { previous = record (rec.previous) { p = p }; requests = requests } ≡ less_shares ops amount view
  less_shares_view rec view p requests v e k =
      ap (λ xs. record rec { previous = record (rec.previous) { p = p }; requests = xs }) k
      ∙ ap (λ o. record rec { previous = record (rec.previous) { p = unwrap_or o rec.previous.p }; requests = map (less_share ops amount) rec.requests }) e
      ∙ ap (less_shares ops amount) v

  module _ (keeps : KeepsOrder ops) where
    pub record_less_shares : (rec : Rec T) → IsRecord ops rec → has_less_shares ops amount rec ≡ true → IsRecord ops (less_shares ops amount rec)
    record_less_shares rec is e = record {
      spacings = is.spacings;
      reserved = all_mapped _ _ (less_share ops amount) (λ r h. h) rec.requests is.reserved;
      reservations = subst (λ xs. InOrder ops (xs ++ rec.previous.r ∷ [])) (sym (filter_map_map (λ r. r.tags.r) (less_share ops amount) (λ r. r.tags.r) (λ r. refl) rec.requests)) is.reservations;
      limits = subst (λ xs. InOrder ops (xs ++ rec.previous.l ∷ [])) (sym (map_map (λ r. r.tags.l) (less_share ops amount) (λ r. r.tags.l) (λ r. refl) rec.requests)) is.limits;
      shares = subst (InOrder ops) (sym (shares_are rec)) (in_order-less ops keeps amount (share_tags rec) (shares_have_less rec ∙ e) is.shares);
      idle = λ h. ap (map (less_share ops amount)) (is.idle h);
      slacks = all_mapped _ _ (less_share ops amount) (λ r h. h) rec.requests is.slacks;
      slack = is.slack;
    }

    -- if the previous one less the amount is this
    pub record_with_shares : (rec : Rec T) (p : T) → IsRecord ops rec → list_all (λ r. has_less ops amount r.tags.p) rec.requests ≡ true → ops.minus rec.previous.p amount ≡ Some p → IsRecord ops (record rec { previous = record (rec.previous) { p = p }; requests = map (less_share ops amount) rec.requests })
    record_with_shares rec p is all previous =
        let values : has_less_shares ops amount rec ≡ true = ap (λ b. b && has_less ops amount rec.previous.p) all ∙ ap is_some previous in
        let once : less ops amount rec.previous.p ≡ p = ap (λ o. unwrap_or o rec.previous.p) previous in
        subst (λ q. IsRecord ops (record rec { previous = record (rec.previous) { p = q }; requests = map (less_share ops amount) rec.requests })) once (record_less_shares rec is values)

    pub record_less_reservations : (rec : Rec T) → IsRecord ops rec → has_less_reservations ops amount rec ≡ true → IsRecord ops (less_reservations ops amount rec)
    record_less_reservations rec is e = record {
      spacings = is.spacings;
      reserved = all_mapped _ _ (less_reservation ops amount) (λ r h. is_some_mapped (less ops amount) r.tags.r ∙ h) rec.requests is.reserved;
      reservations = subst (InOrder ops) (sym (reservations_are rec)) (in_order-less ops keeps amount (reservation_tags rec) (reservations_have_less rec ∙ e) is.reservations);
      limits = subst (λ xs. InOrder ops (xs ++ rec.previous.l ∷ [])) (sym (map_map (λ r. r.tags.l) (less_reservation ops amount) (λ r. r.tags.l) (λ r. refl) rec.requests)) is.limits;
      shares = subst (λ xs. InOrder ops (xs ++ rec.previous.p ∷ [])) (sym (map_map (λ r. r.tags.p) (less_reservation ops amount) (λ r. r.tags.p) (λ r. refl) rec.requests)) is.shares;
      idle = λ h. ap (map (less_reservation ops amount)) (is.idle h);
      slacks = all_mapped _ _ (less_reservation ops amount) (λ r h. h) rec.requests is.slacks;
      slack = is.slack;
    }
