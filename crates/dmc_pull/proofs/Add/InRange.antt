-- The P tags stay in their range if a request comes and all others are shifted; and a shift is tested at the range.
use Rattle.std.proofs.Common.{◌≡◌, ℕ, Bool, true, false, not, ◌&&◌, ◌||◌, List, [], ◌∷◌, ◌++◌, map, Option, Some, None, Result, refl, sym, ap, ◌∙◌, subst}
use Rattle.std.specs.Prelude.{◌==◌, if◌then◌else◌, OnOk}
use Rattle.std.specs.Option.{option_map, option_and_then, unwrap_or}
use Rattle.std.specs.Ordering.{is_gt}
use Rattle.std.specs.List.{list_all, AllByRecursion}
use Rattle.std.specs.Result.{is_err}
use Rattle.std.specs.Cmp.{IsTotalOrder}
use Rattle.std.proofs.lemmas.Cmp.{upto}
use Rattle.dmc_types.specs.declared.ids.ClientId.{ClientId}
use Rattle.dmc_tag.specs.Tag.{Fraction, Tagging, IsExact, IsWhole}
use Rattle.dmc_tag.specs.Order.{AtMost}
use Rattle.dmc_tag.specs.Rules.{less, has_less, less_share}
use Rattle.dmc_tag.proofs.ForCallers.{minus_keeps_order, between_has_less}
use Rattle.dmc_tag.proofs.Upto.{at_most_itself, at_most_turned}
use Rattle.dmc_tag.specs.declared.plain.QueuedRequest.{QueuedRequest}
use Rattle.dmc_client.specs.Record.{Rec, pushed, less_shares}
use Rattle.dmc_adjust.specs.Changes.{shifted, is_shiftable}
use Rattle.dmc_roster.specs.Entries.{Entry, record_at, with_rec, with_record, with_record_at}
use Rattle.dmc_head_index.specs.Least.{lesser}
use Rattle.dmc_pull.specs.internal.Adding.{shifted_but, others_shifted}
use Rattle.dmc_pull.specs.Queue.{Queue}
use Rattle.dmc_pull.specs.internal.ShareRange.{IsWithin, HasSharesIn, AreWithin}
use Rattle.dmc_pull.specs.internal.Range.{greater, with_share, with_less, after_shift, range_after, all_have_less}
use Rattle.dmc_pull.specs.declared.range.ShareRange.{ShareRange}
use Rattle.dmc_pull.proofs.Common.Lent.{changed_as}
use Rattle.dmc_pull.proofs.Common.Parts.{all_as, all_mapped, all_pass, found_holds}
use Rattle.dmc_pull.proofs.Common.Entries.{split, all_changed}
use Rattle.dmc_pull.proofs.Common.Moved.{pushed_values}
use Rattle.dmc_pull.proofs.Add.Shifted.{shares_have_less}
use Rattle.std.proofs.Math.Bool.{or-true}
use Rattle.dmc_pull.proofs.Add.Arrived.{IsOf}

module _ {T : Type 0} (ops : Tagging T) (order : IsTotalOrder ops.compare) where
  below_both : (a b : T) → AtMost ops (lesser ops a b) a × AtMost ops (lesser ops a b) b
  below_both a b = at (is_gt (ops.compare a b)) refl where
    at : (r : Bool) → is_gt (ops.compare a b) ≡ r → AtMost ops (if r then b else a) a × AtMost ops (if r then b else a) b
    at true e = (at_most_turned ops order a b e, at_most_itself ops order b)
    at false e = (at_most_itself ops order a, e)

  above_both : (a b : T) → AtMost ops a (greater ops a b) × AtMost ops b (greater ops a b)
  above_both a b = at (is_gt (ops.compare a b)) refl where
    at : (r : Bool) → is_gt (ops.compare a b) ≡ r → AtMost ops a (if r then a else b) × AtMost ops b (if r then a else b)
    at true e = (at_most_itself ops order a, at_most_turned ops order a b e)
    at false e = (e, at_most_itself ops order b)

  -- ---- a wider range

  pub wider : (share : T) (range : ShareRange T) (tag : T) → IsWithin ops (Some range) tag → IsWithin ops (Some (with_share ops share range)) tag
  wider share range tag h = (
    upto order (lesser ops range.least share) range.least tag (below_both range.least share).0 h.0,
    upto order tag range.greatest (greater ops range.greatest share) h.1 (above_both range.greatest share).0,
  )

  pub has_share : (share : T) (range : ShareRange T) → IsWithin ops (Some (with_share ops share range)) share
  has_share share range = ((below_both range.least share).1, (above_both range.greatest share).1)

  module _ (fraction : T → Fraction) (is_value : Fraction → Type 0) (exact : IsExact ops fraction is_value) (amount : T) where
    -- what was in the range, and that less the amount, is in the new one
    module _ (range : ShareRange T) (tag : T) (h : IsWithin ops (Some range) tag) where
      by_bounds : (low high : Option T) → ops.minus range.least amount ≡ low → ops.minus range.greatest amount ≡ high → (o : Option T) → ops.minus tag amount ≡ o → IsWithin ops (option_and_then (λ least. option_map (λ greatest. with_share ops greatest (with_share ops least range)) high) low) (unwrap_or o tag)
      by_bounds None high p q o r = tt
      by_bounds (Some least) None p q o r = tt
      by_bounds (Some least) (Some greatest) p q None r = wider greatest (with_share ops least range) tag (wider least range tag h)
      by_bounds (Some least) (Some greatest) p q (Some lowered) r =
          let low : AtMost ops least lowered = ap is_gt (minus_keeps_order ops fraction is_value exact range.least tag amount least lowered p r) ∙ h.0 in
          let high : AtMost ops lowered greatest = ap is_gt (minus_keeps_order ops fraction is_value exact tag range.greatest amount lowered greatest r q) ∙ h.1 in
          let first = below_both range.least least in
          let last = above_both (greater ops range.greatest least) greatest in (
            upto order _ least lowered (upto order _ (lesser ops range.least least) least (below_both (lesser ops range.least least) greatest).0 first.1) low,
            upto order lowered greatest _ high last.1,
          )

      same_by : (low high : Option T) → IsWithin ops (option_and_then (λ least. option_map (λ greatest. with_share ops greatest (with_share ops least range)) high) low) tag
      same_by None high = tt
      same_by (Some least) None = tt
      same_by (Some least) (Some greatest) = wider greatest (with_share ops least range) tag (wider least range tag h)

    lowered_within : (range : Option (ShareRange T)) (tag : T) → IsWithin ops range tag → IsWithin ops (option_and_then (with_less ops amount) range) (less ops amount tag)
    lowered_within None tag h = tt
    lowered_within (Some range) tag h = by_bounds range tag h _ _ refl refl _ refl

    same_within : (range : Option (ShareRange T)) (tag : T) → IsWithin ops range tag → IsWithin ops (option_and_then (with_less ops amount) range) tag
    same_within None tag h = tt
    same_within (Some range) tag h = same_by range tag h (ops.minus range.least amount) (ops.minus range.greatest amount)

    module _ (range : Option (ShareRange T)) where
      abbrev after : Option (ShareRange T)
      after = option_and_then (with_less ops amount) range

      lowered_shares : (qs : List (QueuedRequest T)) (last : T) → AllByRecursion (IsWithin ops range) (map (λ r. r.tags.p) qs ++ last ∷ []) → AllByRecursion (IsWithin ops after) (map (λ r. r.tags.p) (map (less_share ops amount) qs) ++ less ops amount last ∷ [])
      lowered_shares [] last h = (lowered_within range last h.0, tt)
      lowered_shares (q ∷ qs) last h = (lowered_within range q.tags.p h.0, lowered_shares qs last h.1)

      same_shares : (tags : List T) → AllByRecursion (IsWithin ops range) tags → AllByRecursion (IsWithin ops after) tags
      same_shares tags h = all_as (IsWithin ops range) (IsWithin ops after) (same_within range) tags h

      record_within : (newcomer : ℕ) (e : Entry T) → HasSharesIn ops range e.rec → HasSharesIn ops after (shifted_but ops amount newcomer e.key e.rec)
      record_within newcomer e h = at (not (e.key == newcomer) && is_shiftable ops amount e.rec) where
        by : (idle : Bool) → HasSharesIn ops after (if idle then e.rec else less_shares ops amount e.rec)
        by true = same_shares _ h
        by false = lowered_shares e.rec.requests e.rec.previous.p h

        at : (b : Bool) → HasSharesIn ops after (if b then shifted ops amount e.rec else e.rec)
        at true = by e.rec.idle
        at false = same_shares _ h

      others_within : (newcomer : ℕ) (es : List (Entry T)) → AreWithin ops range es → AreWithin ops after (others_shifted ops (Some amount) newcomer es)
      others_within newcomer es are = record {
        zero = same_within range (ops.of_moment 0) are.zero;
        shares =
            all_mapped (λ e. HasSharesIn ops range e.rec) (λ f. HasSharesIn ops after f.rec) (λ e. with_rec (shifted_but ops amount newcomer e.key) e)
            (record_within newcomer) es are.shares;
      }

  -- ---- a request comes

  module _ (share : T) where
    wider_within : (range : Option (ShareRange T)) (tag : T) → IsWithin ops range tag → IsWithin ops (option_map (with_share ops share) range) tag
    wider_within None tag h = tt
    wider_within (Some range) tag h = wider share range tag h

    has_within : (range : Option (ShareRange T)) → IsWithin ops (option_map (with_share ops share) range) share
    has_within None = tt
    has_within (Some range) = has_share share range

  shifted_range : (share : T) (shift : Option T) (range : Option (ShareRange T)) → range_after ops range share shift ≡ option_and_then (after_shift ops shift) (option_map (with_share ops share) range)
  shifted_range share shift None = refl
  shifted_range share shift (Some range) = refl

  module _ {fraction : T → Fraction} {is_value : Fraction → Type 0} (exact : IsExact ops fraction is_value) {q : Queue T} {n key : ℕ} {client : ClientId} (of : IsOf ops fraction is_value q n key client) (request : QueuedRequest T) (at : ℕ) (range : Option (ShareRange T)) (are : AreWithin ops range q.roster.entries) where
    abbrev came : Option (ShareRange T)
    came = option_map (with_share ops request.tags.p) range

    pushed_within : (es : List (Entry T)) → es ≡ (with_record_at q.roster key (pushed request at of.entry.rec)).entries → AreWithin ops came es
    pushed_within es same =
        let now = all_as (λ e. HasSharesIn ops range e.rec) (λ e. HasSharesIn ops came e.rec) (λ e h. all_as (IsWithin ops range) (IsWithin ops came) (wider_within request.tags.p range) _ h) q.roster.entries are.shares in
        let own = found_holds (λ e. HasSharesIn ops came e.rec) (λ e. e.key == key) q.roster.entries of.entry now of.found in
        let rec = of.entry.rec in
        record {
          zero = wider_within request.tags.p range (ops.of_moment 0) are.zero;
          shares =
              subst (AllByRecursion (λ e. HasSharesIn ops came e.rec)) (sym same)
              (all_changed (split key q.roster.entries of.entry of.found of.distinct) (λ e. HasSharesIn ops came e.rec) (pushed request at rec) now (pushed_values ops (IsWithin ops came) rec.requests rec.previous.p request own (has_within request.tags.p range)));
        }

    after_by : (shift : Option T) (es : List (Entry T)) → AreWithin ops came es → AreWithin ops (option_and_then (after_shift ops shift) came) (others_shifted ops shift key es)
    after_by None es h = subst (λ r. AreWithin ops r es) (unshifted range) h where
      unshifted : (r : Option (ShareRange T)) → option_map (with_share ops request.tags.p) r ≡ option_and_then (after_shift ops None) (option_map (with_share ops request.tags.p) r)
      unshifted None = refl
      unshifted (Some known) = refl
    after_by (Some amount) es h = others_within fraction is_value exact amount came key es h

    -- after a push that did not fail, and the shift of the others
    pub arrived_within : {A E : Type 0} (result : Result A E) → is_err result ≡ false → (lent new : Rec T) → record_at key q.roster.entries ≡ Some lent → OnOk result (new ≡ pushed request at lent)
        → (shift : Option T) (now : List (Entry T)) → now ≡ others_shifted ops shift key (with_record key new q.roster.entries) → AreWithin ops (range_after ops range request.tags.p shift) now
    arrived_within result ok lent new found came_to shift now same =
        let entries = with_record key new q.roster.entries in
        let is = changed_as result (pushed request at) key q.roster.entries of.entry lent new ok of.found found came_to in
        let here = pushed_within entries (ap (λ rec. with_record key rec q.roster.entries) is) in
        subst (AreWithin ops (range_after ops range request.tags.p shift)) (sym same)
        (subst (λ r. AreWithin ops r (others_shifted ops shift key entries)) (sym (shifted_range request.tags.p shift range)) (after_by shift entries here))

-- ---- a shift is tested

both_hold : (a b c : Bool) → (a && (b && c)) ≡ true → (a ≡ true) × (b ≡ true) × (c ≡ true)
both_hold true true true e = (refl, refl, refl)
both_hold true true false e = cc
both_hold true false c e = cc
both_hold false b c e = cc

module _ {T : Type 0} (ops : Tagging T) (fraction : T → Fraction) (is_value : Fraction → Type 0) (exact : IsExact ops fraction is_value) (whole : Bool) (interval : whole ≡ true → IsWhole fraction is_value) (amount : T) where
  tag_has_less : (range : Option (ShareRange T)) → all_have_less whole ops amount range ≡ true → (tag : T) → IsWithin ops range tag → has_less ops amount tag ≡ true
  tag_has_less None e tag h = cc
  tag_has_less (Some range) e tag h =
      let all = both_hold whole (has_less ops amount range.least) (has_less ops amount range.greatest) e in
      between_has_less ops fraction is_value exact (interval all.0) range.least tag range.greatest amount h.0 h.1 all.1 all.2

  module _ (range : Option (ShareRange T)) (e : all_have_less whole ops amount range ≡ true) where
    record_is_shiftable : (rec : Rec T) → HasSharesIn ops range rec → is_shiftable ops amount rec ≡ true
    record_is_shiftable rec h = ap (λ b. rec.idle || b) (shares_have_less ops amount (IsWithin ops range) (tag_has_less range e) rec.requests rec.previous.p h) ∙ or-true rec.idle

    -- if it follows from the range, each record can be shifted
    pub all_can_shift : (es : List (Entry T)) → AreWithin ops range es → list_all (λ f. is_shiftable ops amount f.rec) es ≡ true
    all_can_shift es are = all_pass (λ f. is_shiftable ops amount f.rec) es (all_as (λ f. HasSharesIn ops range f.rec) (λ f. is_shiftable ops amount f.rec ≡ true) (λ f h. record_is_shiftable f.rec h) es are.shares)
