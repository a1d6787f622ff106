-- Tags stay in order, and slacks at least 0, if requests are taken back.
use Rattle.std.proofs.Common.{◌≡◌, ℕ, Bool, true, false, List, [], ◌∷◌, ◌++◌, map, Option, Some, None, refl, sym, ap, ◌∙◌, subst}
use Rattle.std.specs.Prelude.{filter_map, if◌then◌else◌, is_some, IfSome, ⊤}
use Rattle.std.specs.Cmp.{IsTotalOrder}
use Rattle.std.specs.List.{AllByRecursion, cons_option}
use Rattle.std.specs.Option.{option_map, option_map_or}
use Rattle.std.proofs.lemmas.Cmp.{upto}
use Rattle.dmc_types.specs.declared.ids.Token.{Token}
use Rattle.dmc_tag.specs.Cancel.{has_token, staying, befores_after, befores_next, before_next, fallen, fallen_request, no_befores, level}
use Rattle.dmc_tag.specs.Order.{AtMost, NotBelow}
use Rattle.dmc_tag.specs.Tag.{Fraction, Tagging, IsExact}
use Rattle.dmc_tag.specs.declared.cancel.Before.{Before}
use Rattle.dmc_tag.specs.declared.cancel.Befores.{Befores}
use Rattle.dmc_tag.specs.declared.cancel.Level.{Level}
use Rattle.dmc_tag.specs.declared.plain.Previous.{Previous}
use Rattle.dmc_tag.specs.declared.plain.QueuedRequest.{QueuedRequest}
use Rattle.dmc_tag.specs.declared.plain.Slack.{Slack}
use Rattle.dmc_tag.proofs.Cancels.{Fell, IsBefore, IsAbove, fallen_value, fallen_slack, fallen_above, next_fell, next_above}
use Rattle.dmc_client.specs.Order.{InOrder}
use Rattle.dmc_client.specs.Record.{Rec, IsRecord, share_tags, without_token}
use Rattle.dmc_lemmas.proofs.Options.{is_some_mapped}

-- a request's part in one kind of tag: whether it is taken back, what it was charged, its tag and its slack
record Part (T : Type 0) : Type 0 where
  cancelled : Bool
  charged : T
  tag : Option T
  slack : T

module _ {T : Type 0} (ops : Tagging T) where
  -- what becomes of one kind of tag
  abbrev next : Option (Before T) → Part T → Option (Before T)
  next before x = option_map_or (λ tag. Some (before_next ops x.cancelled x.charged before (level tag x.slack))) x.tag before

  abbrev tags : Option (Before T) → List (Part T) → List T
  tags before [] = []
  tags before (x ∷ xs) = if x.cancelled then tags (next before x) xs else cons_option (option_map (λ tag. (fallen ops before (level tag x.slack)).tag) x.tag) (tags (next before x) xs)

  abbrev slacks : Option (Before T) → List (Part T) → List T
  slacks before [] = []
  slacks before (x ∷ xs) = if x.cancelled then slacks (next before x) xs else option_map_or (λ tag. (fallen ops before (level tag x.slack)).slack) x.tag x.slack ∷ slacks (next before x) xs

  abbrev last : Option (Before T) → List (Part T) → Option (Before T)
  last before [] = before
  last before (x ∷ xs) = last (next before x) xs

  abbrev tags_before : List (Part T) → List T
  tags_before [] = []
  tags_before (x ∷ xs) = cons_option x.tag (tags_before xs)

  -- nothing is below 0
  abbrev AreParts : List (Part T) → Type 0
  AreParts xs = AllByRecursion (λ x. AtMost ops (ops.of_moment 0) x.charged × AtMost ops (ops.of_moment 0) x.slack) xs

  abbrev was : Option (Before T) → List T → List T
  was None xs = xs
  was (Some before) xs = before.was ∷ xs

  abbrev is_now : Option (Before T) → List T → List T
  is_now None xs = xs
  is_now (Some before) xs = before.level.tag ∷ xs

module _ {T : Type 0} (ops : Tagging T) (fraction : T → Fraction) (is_value : Fraction → Type 0) (exact : IsExact ops fraction is_value) (order : IsTotalOrder ops.compare) where
  abbrev Falls : Before T → Type 0
  Falls before = Fell ops fraction is_value exact order before

  abbrev Goes : Option (Before T) → T → Type 0
  Goes before tag = IsBefore ops fraction is_value exact order before tag

  abbrev zero : T
  zero = ops.of_moment 0

  -- what one kind of tag becomes: in order, with no slack below 0
  record Stays (before : Option (Before T)) (xs : List (Part T)) (previous : Level T) : Type 0 where
    in_order : InOrder ops (is_now ops before (tags ops before xs ++ (fallen ops (last ops before xs) previous).tag ∷ []))
    slacks_kept : AllByRecursion (AtMost ops zero) (slacks ops before xs)
    slack_kept : AtMost ops zero (fallen ops (last ops before xs) previous).slack

  all_above : (a b : T) (xs : List T) → AtMost ops a b → AllByRecursion (AtMost ops b) xs → AllByRecursion (AtMost ops a) xs
  all_above a b [] h k = tt
  all_above a b (x ∷ xs) h k = (upto order a b x h k.0, all_above a b xs h k.1)

  before_first : (before : Option (Before T)) (tag : T) (xs : List T) → IfSome before Falls → InOrder ops (was ops before (tag ∷ xs)) → Goes before tag
  before_first None tag xs fell h = tt
  before_first (Some b) tag xs fell h = (fell, h.0.0)

  tag_first : (before : Option (Before T)) (tag : T) (xs : List T) → InOrder ops (was ops before (tag ∷ xs)) → InOrder ops (tag ∷ xs)
  tag_first None tag xs h = h
  tag_first (Some b) tag xs h = h.1

  -- a tag that is not below the one before goes first
  with_before : (before : Option (Before T)) (tag : T) (xs : List T) → IsAbove ops fraction is_value exact order before tag → InOrder ops (tag ∷ xs) → InOrder ops (is_now ops before (tag ∷ xs))
  with_before None tag xs h k = k
  with_before (Some b) tag xs h k = ((h, all_above b.level.tag tag xs h k.0), k)

  without : (before : Option (Before T)) (tag : T) (xs : List T) → IsAbove ops fraction is_value exact order before tag → InOrder ops (tag ∷ xs) → InOrder ops (is_now ops before xs)
  without None tag xs h k = k.1
  without (Some b) tag xs h k = (all_above b.level.tag tag xs h k.0, k.1)

  -- a request more in front
  module _ (before : Option (Before T)) (xs : List (Part T)) (previous : Level T) (fell : IfSome before Falls)
      (rest : (b : Option (Before T)) → IfSome b Falls → InOrder ops (was ops b (tags_before ops xs ++ previous.tag ∷ [])) → Stays b xs previous)
      (charged s : T) (some : AtMost ops zero charged) (slack : AtMost ops zero s) where
    in_front : (cancelled : Bool) (tag : Option T) → InOrder ops (was ops before (cons_option tag (tags_before ops xs) ++ previous.tag ∷ [])) →
        Stays before (record { cancelled = cancelled; charged = charged; tag = tag; slack = s } ∷ xs) previous
    in_front true None h = let r = rest before fell h in record { in_order = r.in_order; slacks_kept = r.slacks_kept; slack_kept = r.slack_kept }
    in_front false None h = let r = rest before fell h in record { in_order = r.in_order; slacks_kept = (slack, r.slacks_kept); slack_kept = r.slack_kept }
    in_front true (Some tag) h =
        let is = before_first before tag (tags_before ops xs ++ previous.tag ∷ []) fell h in
        let r = rest (Some (before_next ops true charged before (level tag s))) (next_fell ops fraction is_value exact order before (level tag s) is slack charged some true) (tag_first before tag _ h) in
        record {
          in_order = without before _ _ (next_above ops fraction is_value exact order before (level tag s) is slack charged some true) r.in_order;
          slacks_kept = r.slacks_kept;
          slack_kept = r.slack_kept;
        }
    in_front false (Some tag) h =
        let is = before_first before tag (tags_before ops xs ++ previous.tag ∷ []) fell h in
        let r = rest (Some (before_next ops false charged before (level tag s))) (next_fell ops fraction is_value exact order before (level tag s) is slack charged some false) (tag_first before tag _ h) in
        record {
          in_order = with_before before _ _ (next_above ops fraction is_value exact order before (level tag s) is slack charged some false) r.in_order;
          slacks_kept = (fallen_slack ops fraction is_value exact order before (level tag s) is slack, r.slacks_kept);
          slack_kept = r.slack_kept;
        }

  stays : (before : Option (Before T)) (xs : List (Part T)) (previous : Level T) → IfSome before Falls → InOrder ops (was ops before (tags_before ops xs ++ previous.tag ∷ [])) → AreParts ops xs → AtMost ops zero previous.slack → Stays before xs previous
  stays before [] previous fell h parts slack =
      let is = before_first before previous.tag [] fell h in
      record {
        in_order = with_before before _ [] (fallen_above ops fraction is_value exact order before previous is slack) (tt, tt);
        slacks_kept = tt;
        slack_kept = fallen_slack ops fraction is_value exact order before previous is slack;
      }
  stays before (x ∷ xs) previous fell h parts slack =
      in_front before xs previous fell (λ b falls k. stays b xs previous falls k parts.1 slack) x.charged x.slack parts.0.0 parts.0.1 x.cancelled x.tag h

-- ---- the parts of requests

mapped_either : {X Y : Type 0} (f : X → Y) (c : Bool) (x : X) (xs : List X) (ys : List Y) → map f xs ≡ ys → map f (if c then xs else x ∷ xs) ≡ (if c then ys else f x ∷ ys)
mapped_either f true x xs ys e = e
mapped_either f false x xs ys e = ap (λ zs. f x ∷ zs) e

found_either : {X Y : Type 0} (f : X → Option Y) (c : Bool) (x : X) (xs : List X) (ys : List Y) → filter_map f xs ≡ ys → filter_map f (if c then xs else x ∷ xs) ≡ (if c then ys else cons_option (f x) ys)
found_either f true x xs ys e = e
found_either f false x xs ys e = ap (cons_option (f x)) e

all_either : {X : Type 0} (P : X → Type 0) (c : Bool) (x : X) (xs : List X) → P x → AllByRecursion P xs → AllByRecursion P (if c then xs else x ∷ xs)
all_either P true x xs h k = k
all_either P false x xs h k = (h, k)

module _ {T : Type 0} (ops : Tagging T) (token : Token) (charged : ℕ → Slack T) where
  abbrev reservation_part : QueuedRequest T → Part T
  reservation_part r = record { cancelled = has_token token r; charged = (charged r.cost).r; tag = r.tags.r; slack = r.slack.r }

  abbrev limit_part : QueuedRequest T → Part T
  limit_part r = record { cancelled = has_token token r; charged = (charged r.cost).l; tag = Some r.tags.l; slack = r.slack.l }

  abbrev share_part : QueuedRequest T → Part T
  share_part r = record { cancelled = has_token token r; charged = (charged r.cost).p; tag = Some r.tags.p; slack = r.slack.p }

  abbrev stay : Befores T → List (QueuedRequest T) → List (QueuedRequest T)
  stay befores rs = staying ops token charged befores rs

  abbrev after_first : Befores T → QueuedRequest T → Befores T
  after_first befores r = befores_next ops (has_token token r) (charged r.cost) befores r

  reservations : (b : Befores T) (rs : List (QueuedRequest T)) → filter_map (λ r. r.tags.r) (stay b rs) ≡ tags ops b.r (map reservation_part rs)
  reservations b [] = refl
  reservations b (r ∷ rs) = found_either (λ r. r.tags.r) (has_token token r) (fallen_request ops b r) _ _ (reservations (after_first b r) rs)

  limits : (b : Befores T) (rs : List (QueuedRequest T)) → map (λ r. r.tags.l) (stay b rs) ≡ tags ops b.l (map limit_part rs)
  limits b [] = refl
  limits b (r ∷ rs) = mapped_either (λ r. r.tags.l) (has_token token r) (fallen_request ops b r) _ _ (limits (after_first b r) rs)

  shares : (b : Befores T) (rs : List (QueuedRequest T)) → map (λ r. r.tags.p) (stay b rs) ≡ tags ops b.p (map share_part rs)
  shares b [] = refl
  shares b (r ∷ rs) = mapped_either (λ r. r.tags.p) (has_token token r) (fallen_request ops b r) _ _ (shares (after_first b r) rs)

  reservation_slacks : (b : Befores T) (rs : List (QueuedRequest T)) → map (λ r. r.slack.r) (stay b rs) ≡ slacks ops b.r (map reservation_part rs)
  reservation_slacks b [] = refl
  reservation_slacks b (r ∷ rs) = mapped_either (λ r. r.slack.r) (has_token token r) (fallen_request ops b r) _ _ (reservation_slacks (after_first b r) rs)

  limit_slacks : (b : Befores T) (rs : List (QueuedRequest T)) → map (λ r. r.slack.l) (stay b rs) ≡ slacks ops b.l (map limit_part rs)
  limit_slacks b [] = refl
  limit_slacks b (r ∷ rs) = mapped_either (λ r. r.slack.l) (has_token token r) (fallen_request ops b r) _ _ (limit_slacks (after_first b r) rs)

  share_slacks : (b : Befores T) (rs : List (QueuedRequest T)) → map (λ r. r.slack.p) (stay b rs) ≡ slacks ops b.p (map share_part rs)
  share_slacks b [] = refl
  share_slacks b (r ∷ rs) = mapped_either (λ r. r.slack.p) (has_token token r) (fallen_request ops b r) _ _ (share_slacks (after_first b r) rs)

  last_reservation : (b : Befores T) (rs : List (QueuedRequest T)) → (befores_after ops token charged b rs).r ≡ last ops b.r (map reservation_part rs)
  last_reservation b [] = refl
  last_reservation b (r ∷ rs) = last_reservation (after_first b r) rs

  last_limit : (b : Befores T) (rs : List (QueuedRequest T)) → (befores_after ops token charged b rs).l ≡ last ops b.l (map limit_part rs)
  last_limit b [] = refl
  last_limit b (r ∷ rs) = last_limit (after_first b r) rs

  last_share : (b : Befores T) (rs : List (QueuedRequest T)) → (befores_after ops token charged b rs).p ≡ last ops b.p (map share_part rs)
  last_share b [] = refl
  last_share b (r ∷ rs) = last_share (after_first b r) rs

  reservations_before : (rs : List (QueuedRequest T)) → tags_before ops (map reservation_part rs) ≡ filter_map (λ r. r.tags.r) rs
  reservations_before [] = refl
  reservations_before (r ∷ rs) = ap (cons_option r.tags.r) (reservations_before rs)

  limits_before : (rs : List (QueuedRequest T)) → tags_before ops (map limit_part rs) ≡ map (λ r. r.tags.l) rs
  limits_before [] = refl
  limits_before (r ∷ rs) = ap (λ xs. r.tags.l ∷ xs) (limits_before rs)

  shares_before : (rs : List (QueuedRequest T)) → tags_before ops (map share_part rs) ≡ map (λ r. r.tags.p) rs
  shares_before [] = refl
  shares_before (r ∷ rs) = ap (λ xs. r.tags.p ∷ xs) (shares_before rs)

  -- what holds of each of three lists holds of each request
  not_below : (rs : List (QueuedRequest T)) → AllByRecursion (AtMost ops (ops.of_moment 0)) (map (λ r. r.slack.r) rs) → AllByRecursion (AtMost ops (ops.of_moment 0)) (map (λ r. r.slack.l) rs) → AllByRecursion (AtMost ops (ops.of_moment 0)) (map (λ r. r.slack.p) rs)
      → AllByRecursion (λ r. NotBelow ops r.slack) rs
  not_below [] h k m = tt
  not_below (r ∷ rs) h k m = (record { r = h.0; l = k.0; p = m.0 }, not_below rs h.1 k.1 m.1)

  reserved_stay : (reserved : Bool) (b : Befores T) (rs : List (QueuedRequest T)) → AllByRecursion (λ r. is_some r.tags.r ≡ reserved) rs → AllByRecursion (λ r. is_some r.tags.r ≡ reserved) (stay b rs)
  reserved_stay reserved b [] h = tt
  reserved_stay reserved b (r ∷ rs) h =
      all_either (λ r. is_some r.tags.r ≡ reserved) (has_token token r) (fallen_request ops b r) _ (is_some_mapped (λ tag. (fallen ops b.r (level tag r.slack.r)).tag) r.tags.r ∙ h.0) (reserved_stay reserved (after_first b r) rs h.1)

  module _ (some : (cost : ℕ) → NotBelow ops (charged cost)) where
    reservation_parts : (rs : List (QueuedRequest T)) → AllByRecursion (λ r. NotBelow ops r.slack) rs → AreParts ops (map reservation_part rs)
    reservation_parts [] h = tt
    reservation_parts (r ∷ rs) h = (((some r.cost).r, h.0.r), reservation_parts rs h.1)

    limit_parts : (rs : List (QueuedRequest T)) → AllByRecursion (λ r. NotBelow ops r.slack) rs → AreParts ops (map limit_part rs)
    limit_parts [] h = tt
    limit_parts (r ∷ rs) h = (((some r.cost).l, h.0.l), limit_parts rs h.1)

    share_parts : (rs : List (QueuedRequest T)) → AllByRecursion (λ r. NotBelow ops r.slack) rs → AreParts ops (map share_part rs)
    share_parts [] h = tt
    share_parts (r ∷ rs) h = (((some r.cost).p, h.0.p), share_parts rs h.1)

    module _ (fraction : T → Fraction) (is_value : Fraction → Type 0) (exact : IsExact ops fraction is_value) (order : IsTotalOrder ops.compare) where
      abbrev one : List (Part T) → Level T → Type 0
      one parts previous = Stays ops fraction is_value exact order None parts previous

      -- a record without its requests with a token is a record
      pub record_without_token : (rec : Rec T) → IsRecord ops rec → IsRecord ops (without_token ops token charged rec)
      record_without_token rec is =
          let rs = rec.requests in
          let r : one (map reservation_part rs) (level rec.previous.r rec.previous.slack.r) = stays ops fraction is_value exact order None (map reservation_part rs) _ tt (subst (λ xs. InOrder ops (xs ++ rec.previous.r ∷ [])) (sym (reservations_before rs)) is.reservations) (reservation_parts rs is.slacks) is.slack.r in
          let l : one (map limit_part rs) (level rec.previous.l rec.previous.slack.l) = stays ops fraction is_value exact order None (map limit_part rs) _ tt (subst (λ xs. InOrder ops (xs ++ rec.previous.l ∷ [])) (sym (limits_before rs)) is.limits) (limit_parts rs is.slacks) is.slack.l in
          let p : one (map share_part rs) (level rec.previous.p rec.previous.slack.p) = stays ops fraction is_value exact order None (map share_part rs) _ tt (subst (λ xs. InOrder ops (xs ++ rec.previous.p ∷ [])) (sym (shares_before rs)) is.shares) (share_parts rs is.slacks) is.slack.p in
          record {
            spacings = is.spacings;
            reserved = reserved_stay (is_some rec.info.reservation) no_befores rs is.reserved;
            reservations = rw (reservations no_befores rs, last_reservation no_befores rs) r.in_order;
            limits = rw (limits no_befores rs, last_limit no_befores rs) l.in_order;
            shares = rw (shares no_befores rs, last_share no_befores rs) p.in_order;
            idle = λ e. ap (stay no_befores) (is.idle e);
            slacks = not_below (stay no_befores rs) (rw (reservation_slacks no_befores rs) r.slacks_kept) (rw (limit_slacks no_befores rs) l.slacks_kept) (rw (share_slacks no_befores rs) p.slacks_kept);
            slack = record {
              r = rw (last_reservation no_befores rs) r.slack_kept;
              l = rw (last_limit no_befores rs) l.slack_kept;
              p = rw (last_share no_befores rs) p.slack_kept;
            };
          }

-- the record without its requests with a token, if the previous tags and the requests are these
pub taken_back_view : {T : Type 0} (ops : Tagging T) (token : Token) (charged : Rec T → ℕ → Slack T) (rec view : Rec T) (previous : Previous T) (requests : List (QueuedRequest T)) → rec ≡ view →
    previous ≡ (without_token ops token (charged rec) rec).previous → requests ≡ staying ops token (charged rec) no_befores rec.requests → record rec { previous = previous; requests = requests } ≡ without_token ops token (charged view) view
taken_back_view ops token charged rec view previous requests v p q =
    ap (λ x. record rec { previous = x; requests = requests }) p
    ∙ ap (λ xs. record rec { previous = (without_token ops token (charged rec) rec).previous; requests = xs }) q
    ∙ ap (λ r. without_token ops token (charged r) r) v

-- the P tags that stay are values
module _ {T : Type 0} (ops : Tagging T) (fraction : T → Fraction) (is_value : Fraction → Type 0) (exact : IsExact ops fraction is_value) (order : IsTotalOrder ops.compare) (token : Token) (charged : ℕ → Slack T) where
  abbrev IsTagValue : T → Type 0
  IsTagValue tag = is_value (fraction tag)

  shares_stay : (b : Befores T) (rs : List (QueuedRequest T)) (previous : Previous T) → AllByRecursion IsTagValue (map (λ r. r.tags.p) rs ++ previous.p ∷ []) →
      AllByRecursion IsTagValue (map (λ r. r.tags.p) (staying ops token charged b rs) ++ (fallen ops (befores_after ops token charged b rs).p (level previous.p previous.slack.p)).tag ∷ [])
  shares_stay b [] previous h = (fallen_value ops fraction is_value exact order b.p (level previous.p previous.slack.p) h.0, tt)
  shares_stay b (r ∷ rs) previous h = either (has_token token r) (shares_stay (befores_next ops (has_token token r) (charged r.cost) b r) rs previous h.1) where
    either : (c : Bool) → AllByRecursion IsTagValue (map (λ r. r.tags.p) (staying ops token charged (befores_next ops (has_token token r) (charged r.cost) b r) rs) ++ (fallen ops (befores_after ops token charged (befores_next ops (has_token token r) (charged r.cost) b r) rs).p (level previous.p previous.slack.p)).tag ∷ []) →
        AllByRecursion IsTagValue (map (λ r. r.tags.p) (if c then staying ops token charged (befores_next ops (has_token token r) (charged r.cost) b r) rs else fallen_request ops b r ∷ staying ops token charged (befores_next ops (has_token token r) (charged r.cost) b r) rs)
        ++ (fallen ops (befores_after ops token charged (befores_next ops (has_token token r) (charged r.cost) b r) rs).p (level previous.p previous.slack.p)).tag ∷ [])
    either true k = k
    either false k = (fallen_value ops fraction is_value exact order b.p (level r.tags.p r.slack.p) h.0, k)

  pub shares_are_values : (rec : Rec T) → AllByRecursion IsTagValue (share_tags rec) → AllByRecursion IsTagValue (share_tags (without_token ops token charged rec))
  shares_are_values rec h = shares_stay no_befores rec.requests rec.previous h
