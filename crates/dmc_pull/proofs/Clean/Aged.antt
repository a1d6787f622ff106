-- The queue after a clean.
use Rattle.std.proofs.Common.{◌≡◌, ℕ, ◌<◌, ◌≤◌, Bool, true, false, not, List, length, filter, Option, None, Ok, refl, sym, ap, ◌∙◌, subst}
use Rattle.std.specs.Option.{option_map, option_and_then}
use Rattle.std.specs.Prelude.{slice_get}
use Rattle.std.specs.List.{AllByRecursion}
use Rattle.dmc_types.specs.declared.command.Command.TheVariants.{Clean}
use Rattle.dmc_tag.specs.Tag.{Fraction, Tagging}
use Rattle.dmc_tag.specs.State.{effective, queued_requests}
use Rattle.dmc_tag.specs.Spacing.{spacings_of}
use Rattle.dmc_tag.specs.Rules.{cleaned}
use Rattle.dmc_tag.specs.Step.{answer_of, step}
use Rattle.dmc_tag.specs.Answers.{clean_reply}
use Rattle.dmc_tag.specs.declared.plain.QueuedRequest.{QueuedRequest}
use Rattle.dmc_client.specs.Record.{IsRecord, share_tags}
use Rattle.dmc_roster.specs.Entries.{Entry, Listing, entry_keyed, with_rec, AreDistinct}
use Rattle.dmc_pull.specs.internal.Cleaning.{is_stale, is_idled, with_idle_mark}
use Rattle.dmc_pull.specs.internal.ShareRange.{HasSharesIn, AreWithin}
use Rattle.dmc_pull.specs.Represented.{clients_in}
use Rattle.dmc_pull.specs.declared.range.ShareRange.{ShareRange}
use Rattle.dmc_pull.specs.Queue.{Queue, state_of, IsQueue, IsKept, AreHeads, head_of, unready_head}
use Rattle.dmc_pull.proofs.Common.Parts.{all_as, all_both, all_filtered, all_mapped}
use Rattle.dmc_pull.proofs.Clean.Cleaned.{kept_entries, stale_empty, kept_requests, cleaned_clients, count_idled, count_erased}
use Rattle.dmc_pull.proofs.Common.Keyed.{distinct_with, distinct_filtered, read_retained}
use Rattle.dmc_pull.proofs.Clean.Aging.{DueFromCeil, heads_later, all_true}

module _ {T : Type 0} (t idle_age erase_age : ℕ) where
  -- what holds of each, whatever its idle mark, holds of those that stay
  pub all_kept : (P : Entry T → Type 0) → ((e : Entry T) → P e → P (with_rec (with_idle_mark t idle_age) e)) → (es : List (Entry T)) → AllByRecursion P es → AllByRecursion P (kept_entries t idle_age erase_age es)
  all_kept P gives es h =
      let stay = λ (e : Entry T). not (is_stale t erase_age e.rec) in
      all_mapped P P (λ e. with_rec (with_idle_mark t idle_age) e) gives (filter stay es) (all_filtered P stay es h)

  not_kept : (e : Entry T) → not (is_stale t erase_age e.rec) ≡ false → head_of e ≡ None
  not_kept e gone = at (is_stale t erase_age e.rec) refl gone where
    at : (b : Bool) → is_stale t erase_age e.rec ≡ b → not b ≡ false → head_of e ≡ None
    at true stale h = ap (λ (rs : List (QueuedRequest T)). option_map (λ (r : QueuedRequest T). unready_head e.id r.tags) (slice_get rs 0)) (stale_empty t erase_age e.rec stale)
    at false stale h = cc

  pub heads_kept : (es : List (Entry T)) → AreDistinct es → (key : ℕ) → option_and_then head_of (entry_keyed key (kept_entries t idle_age erase_age es)) ≡ option_and_then head_of (entry_keyed key es)
  heads_kept es distinct key =
      read_retained head_of (λ e. with_idle_mark t idle_age) (λ e. not (is_stale t erase_age e.rec)) es distinct
      (all_true (λ e. not (is_stale t erase_age e.rec) ≡ false → head_of e ≡ None) not_kept es)
      (all_true (λ e. head_of (with_rec (with_idle_mark t idle_age) e) ≡ head_of e) (λ e. refl) es)
      key

  -- the P tags stay in their range
  pub cleaned_within : {ops : Tagging T} {range : Option (ShareRange T)} {es : List (Entry T)} → AreWithin ops range es → (now : List (Entry T)) → now ≡ kept_entries t idle_age erase_age es → AreWithin ops range now
  cleaned_within {ops} {range} {es} are now same = record {
    zero = are.zero;
    shares = subst (AllByRecursion (λ f. HasSharesIn ops range f.rec)) (sym same) (all_kept (λ f. HasSharesIn ops range f.rec) (λ f h. h) es are.shares);
  }

module _ {T : Type 0} (ops : Tagging T) (fraction : T → Fraction) (is_value : Fraction → Type 0) where
  -- what is kept besides the record's own
  abbrev Besides : ℕ → Entry T → Type 0
  Besides hz e = (spacings_of ops hz e.rec.info ≡ Ok e.rec.spacings) × AllByRecursion (λ tag. is_value (fraction tag)) (share_tags e.rec)

  pub cleaned_is : DueFromCeil ops → {q : Queue T} {queued : ℕ} → IsQueue ops fraction is_value q queued → AreDistinct q.roster.entries → (roster : Listing T) (at : ℕ) → roster.entries ≡ kept_entries at q.config.idle_age q.config.erase_age q.roster.entries → AllByRecursion (λ e. IsRecord ops e.rec) roster.entries → q.last_moment ≤ at → IsQueue ops fraction is_value (record { config = q.config; roster = roster; heads = q.heads; last_moment = at; progress = q.progress }) queued
  cleaned_is due_from {q} {queued} is distinct roster at e records later =
      let es = q.roster.entries in
      let stay = kept_entries at q.config.idle_age q.config.erase_age es in
      let hz = q.config.hz in
      let before = all_as (λ f. IsKept ops fraction is_value hz f.rec) (Besides hz) (λ f k. (k.spacings, k.values)) es is.kept in
      let after = all_kept at q.config.idle_age q.config.erase_age (Besides hz) (λ f k. k) es before in
      let both = all_both (λ f. IsRecord ops f.rec) (Besides hz) stay (subst (AllByRecursion (λ f. IsRecord ops f.rec)) e records) after in
      let keepers = all_as (λ f. IsRecord ops f.rec × Besides hz f) (λ f. IsKept ops fraction is_value hz f.rec) (λ f k. record { is_record = k.0; spacings = k.1.0; values = k.1.1 }) stay both in
      let inside = all_kept at q.config.idle_age q.config.erase_age (λ f. f.key < length q.heads) (λ f k. k) es is.in_room in
      let heads = heads_later ops due_from q.last_moment at later es stay (heads_kept at q.config.idle_age q.config.erase_age es distinct) q.heads q.heads (λ key. refl) is.heads in
      record {
        kept = subst (AllByRecursion (λ f. IsKept ops fraction is_value hz f.rec)) (sym e) keepers;
        distinct = subst AreDistinct (sym e) (distinct_with (λ f. with_idle_mark at q.config.idle_age) (filter (λ f. not (is_stale at q.config.erase_age f.rec)) es) (distinct_filtered (λ f. not (is_stale at q.config.erase_age f.rec)) es is.distinct));
        heads = subst (λ fs. AreHeads ops at fs q.heads) (sym e) heads;
        in_room = subst (AllByRecursion (λ f. f.key < length q.heads)) (sym e) inside;
        counted = is.counted ∙ ap length (sym (kept_requests at q.config.idle_age q.config.erase_age es) ∙ ap (λ fs. queued_requests (clients_in fs)) (sym e));
        bound = is.bound;
        progress = is.progress;
      }

  pub cleaned_step : (q : Queue T) (roster : Listing T) (at t idled erased : ℕ) → t ≡ effective (state_of q) at → roster.entries ≡ kept_entries t q.config.idle_age q.config.erase_age q.roster.entries → idled ≡ length (filter (λ e. is_idled t q.config.idle_age q.config.erase_age e.rec) q.roster.entries) → erased ≡ length (filter (λ e. is_stale t q.config.erase_age e.rec) q.roster.entries) → (state_of (record { config = q.config; roster = roster; heads = q.heads; last_moment = t; progress = q.progress }), clean_reply (idled, erased)) ≡ step ops (state_of q) (Clean at)
  cleaned_step q roster at t idled erased moment e i j =
      let s = state_of q in
      let es = q.roster.entries in
      let here : (state_of (record { config = q.config; roster = roster; heads = q.heads; last_moment = t; progress = q.progress }), clean_reply (idled, erased)) ≡ answer_of s (cleaned s t) =
      rw (e, i, j, cleaned_clients s t es, count_idled s t es, count_erased s t es) refl in
      here ∙ ap (λ n. answer_of s (cleaned s n)) moment
