-- The P tags stay in their range if records change.
use Rattle.std.proofs.Common.{◌≡◌, ℕ, List, [], ◌∷◌, ◌++◌, map, Option, Some, sym, subst}
use Rattle.std.specs.Prelude.{◌==◌}
use Rattle.std.specs.List.{AllByRecursion}
use Rattle.dmc_tag.specs.Tag.{Tagging}
use Rattle.dmc_types.specs.declared.ids.ClientId.{ClientId}
use Rattle.dmc_client.specs.Record.{Rec}
use Rattle.dmc_roster.specs.Entries.{Entry, entry_keyed, with_record, AreDistinct}
use Rattle.dmc_pull.specs.internal.Choice.{after_grant}
use Rattle.dmc_pull.specs.internal.ShareRange.{IsWithin, HasSharesIn, AreWithin}
use Rattle.dmc_pull.specs.declared.range.ShareRange.{ShareRange}
use Rattle.dmc_pull.proofs.Common.Parts.{all_back, all_next, found_holds}
use Rattle.dmc_pull.proofs.Common.Entries.{Split, split, all_changed}
use Rattle.dmc_pull.proofs.Common.Replaced.{Waits, popped_values, grant_shares}

-- without clients
pub none_within : {T : Type 0} {ops : Tagging T} (range : Option (ShareRange T)) → IsWithin ops range (ops.of_moment 0) → (es : List (Entry T)) → es ≡ [] → AreWithin ops range es
none_within {T} {ops} range zero es none = subst (AreWithin ops range) (sym none) (record { zero = zero; shares = tt })

module _ {T : Type 0} {ops : Tagging T} {range : Option (ShareRange T)} {es : List (Entry T)} (are : AreWithin ops range es) where
  -- a client comes last, with the P 0 and nothing queued
  pub last_within : (e : Entry T) → e.rec.requests ≡ [] → e.rec.previous.p ≡ ops.of_moment 0 → (now : List (Entry T)) → now ≡ es ++ e ∷ [] → AreWithin ops range now
  last_within e none first now same =
      let zero = subst (IsWithin ops range) (sym first) are.zero in
      let here : HasSharesIn ops range e.rec = subst (λ qs. AllByRecursion (IsWithin ops range) (map (λ r. r.tags.p) qs ++ e.rec.previous.p ∷ [])) (sym none) (zero, tt) in
      record {
        zero = are.zero;
        shares = subst (AllByRecursion (λ f. HasSharesIn ops range f.rec)) (sym same) (all_next (λ f. HasSharesIn ops range f.rec) es e are.shares here);
      }

  module _ {key : ℕ} {e : Entry T} (s : Split key e es) (found : entry_keyed key es ≡ Some e) where
    -- one record is another, whose P tags are in the range too
    pub changed_within : (rec : Rec T) → (HasSharesIn ops range e.rec → HasSharesIn ops range rec) → (now : List (Entry T)) → now ≡ with_record key rec es → AreWithin ops range now
    changed_within rec gives now same =
        let own = found_holds (λ f. HasSharesIn ops range f.rec) (λ f. f.key == key) es e are.shares found in
        record {
          zero = are.zero;
          shares = subst (AllByRecursion (λ f. HasSharesIn ops range f.rec)) (sym same) (all_changed s (λ f. HasSharesIn ops range f.rec) rec are.shares (gives own));
        }

    -- a client has nothing queued any more
    pub emptied_within : (now : List (Entry T)) → now ≡ with_record key (record (e.rec) { requests = [] }) es → AreWithin ops range now
    emptied_within = changed_within (record (e.rec) { requests = [] }) (all_back (IsWithin ops range) (map (λ r. r.tags.p) e.rec.requests) (e.rec.previous.p ∷ []))

  -- a client's first request is granted
  pub granted_within : {key : ℕ} {client : ClientId} (distinct : AreDistinct es) (waiting : Waits es key client) (amount : Option T) (now : List (Entry T)) → now ≡ with_record key (after_grant ops amount waiting.entry.rec) es → AreWithin ops range now
  granted_within {key} distinct waiting amount =
      let rec = waiting.entry.rec in
      changed_within (split key es waiting.entry waiting.found distinct) waiting.found (after_grant ops amount rec)
      (λ h. subst (AllByRecursion (IsWithin ops range)) (sym (grant_shares ops amount rec)) (popped_values (IsWithin ops range) rec.previous.p rec.requests h))
