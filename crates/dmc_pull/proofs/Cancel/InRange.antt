-- The P tags stay in their range if requests are taken back.
use Rattle.std.proofs.Common.{◌≡◌, ℕ, List, [], ◌∷◌, ◌++◌, map, Option, Some, None, sym, subst}
use Rattle.std.specs.Prelude.{slice_get}
use Rattle.std.specs.Cmp.{IsTotalOrder}
use Rattle.std.specs.List.{AllByRecursion}
use Rattle.std.specs.Option.{option_map}
use Rattle.std.proofs.lemmas.Cmp.{upto}
use Rattle.dmc_tag.specs.Order.{AtMost}
use Rattle.dmc_tag.specs.Tag.{Tagging}
use Rattle.dmc_tag.specs.declared.plain.QueuedRequest.{QueuedRequest}
use Rattle.dmc_tag.specs.declared.reply.Tags.{Tags}
use Rattle.dmc_client.specs.Order.{InOrder}
use Rattle.dmc_client.specs.Record.{Rec, IsRecord}
use Rattle.dmc_roster.specs.Entries.{Entry, with_record}
use Rattle.dmc_pull.specs.internal.Range.{with_share, with_shares_between}
use Rattle.dmc_pull.specs.internal.ShareRange.{IsWithin, HasSharesIn, AreWithin}
use Rattle.dmc_pull.specs.declared.range.ShareRange.{ShareRange}
use Rattle.dmc_pull.proofs.Add.InRange.{wider, has_share}
use Rattle.dmc_pull.proofs.Common.Entries.{Split, all_changed}
use Rattle.dmc_pull.proofs.Common.Parts.{all_as}

module _ {T : Type 0} (ops : Tagging T) (order : IsTotalOrder ops.compare) where
  last_of : (P : T → Type 0) (xs : List T) (last : T) → AllByRecursion P (xs ++ last ∷ []) → P last
  last_of P [] last h = h.0
  last_of P (x ∷ xs) last h = last_of P xs last h.1

  -- what is in order, from a least tag up to one in the range, is in the range
  upto_last : (range : ShareRange T) (xs : List T) (last : T) → InOrder ops (xs ++ last ∷ []) → AllByRecursion (AtMost ops range.least) xs → IsWithin ops (Some range) last → AllByRecursion (IsWithin ops (Some range)) (xs ++ last ∷ [])
  upto_last range [] last h low high = (high, tt)
  upto_last range (x ∷ xs) last h low high = ((low.0, upto order x last range.greatest (last_of (AtMost ops x) xs last h.0) high.1), upto_last range xs last h.1 low.1 high)

  all_from : (a b : T) (xs : List T) (last : T) → AtMost ops a b → AllByRecursion (AtMost ops b) (xs ++ last ∷ []) → AllByRecursion (AtMost ops a) xs
  all_from a b [] last h k = tt
  all_from a b (x ∷ xs) last h k = (upto order a b x h k.0, all_from a b xs last h k.1)

  -- each P of a client, from that of its first request to the previous one
  between : (range : ShareRange T) (rs : List (QueuedRequest T)) (last : T) → InOrder ops (map (λ r. r.tags.p) rs ++ last ∷ []) →
      AllByRecursion (IsWithin ops (Some (with_shares_between ops (option_map (λ r. r.tags) (slice_get rs 0)) last range))) (map (λ r. r.tags.p) rs ++ last ∷ [])
  between range [] last h = (has_share ops order last range, tt)
  between range (r ∷ rs) last h =
      let with_last = with_share ops last range in
      let first = has_share ops order r.tags.p with_last in
      upto_last (with_share ops r.tags.p with_last) (r.tags.p ∷ map (λ r. r.tags.p) rs) last h (first.0, all_from (with_share ops r.tags.p with_last).least r.tags.p (map (λ r. r.tags.p) rs) last first.0 h.0)
      (wider ops order r.tags.p with_last last (has_share ops order last range))

  still : (first : Option (Tags T)) (last : T) (range : ShareRange T) (tag : T) → IsWithin ops (Some range) tag → IsWithin ops (Some (with_shares_between ops first last range)) tag
  still None last range tag h = wider ops order last range tag h
  still (Some first) last range tag h = wider ops order first.p (with_share ops last range) tag (wider ops order last range tag h)

  still_all : (first : Option (Tags T)) (last : T) (range : ShareRange T) (tags : List T) → AllByRecursion (IsWithin ops (Some range)) tags → AllByRecursion (IsWithin ops (Some (with_shares_between ops first last range))) tags
  still_all first last range tags h = all_as (IsWithin ops (Some range)) (IsWithin ops (Some (with_shares_between ops first last range))) (still first last range) tags h

  any : (tags : List T) → AllByRecursion (IsWithin ops None) tags
  any [] = tt
  any (tag ∷ tags) = (tt, any tags)

  widened : {key : ℕ} {e : Entry T} {es : List (Entry T)} → Split key e es → (range : Option (ShareRange T)) → AreWithin ops range es → (rec : Rec T) → IsRecord ops rec → (first : Option (Tags T)) → first ≡ option_map (λ r. r.tags) (slice_get rec.requests 0) →
      (previous : T) → previous ≡ rec.previous.p → AreWithin ops (option_map (with_shares_between ops first previous) range) (with_record key rec es)
  widened {key} {e} {es} s None are rec is first f previous p = record {
    zero = tt;
    shares = all_changed s (λ x. HasSharesIn ops None x.rec) rec are.shares (any _);
  }
  widened {key} {e} {es} s (Some range) are rec is first f previous p =
      let own = between range rec.requests rec.previous.p is.shares in
      let here : HasSharesIn ops (Some (with_shares_between ops first previous range)) rec = rw (f, p) own in
      record {
        zero = still first previous range (ops.of_moment 0) are.zero;
        shares = all_changed s (λ x. HasSharesIn ops (Some (with_shares_between ops first previous range)) x.rec) rec
            (all_as (λ (x : Entry T). HasSharesIn ops (Some range) x.rec) (λ x. HasSharesIn ops (Some (with_shares_between ops first previous range)) x.rec) (λ x h. still_all first previous range _ h) es are.shares) here;
      }

  pub taken_back_within : {key : ℕ} {e : Entry T} {es : List (Entry T)} → Split key e es → (range : Option (ShareRange T)) → AreWithin ops range es → (rec : Rec T) → IsRecord ops rec → (first : Option (Tags T)) → first ≡ option_map (λ r. r.tags) (slice_get rec.requests 0) →
      (previous : T) → previous ≡ rec.previous.p → (now_is : Option (ShareRange T)) → now_is ≡ option_map (with_shares_between ops first previous) range → AreWithin ops now_is (with_record key rec es)
  taken_back_within {key} {e} {es} s range are rec is first f previous p now_is same = subst (λ o. AreWithin ops o (with_record key rec es)) (sym same) (widened s range are rec is first f previous p)
