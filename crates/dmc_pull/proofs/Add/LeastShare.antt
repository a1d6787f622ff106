-- The least P of all heads is that of the best request by shares.
use Rattle.std.proofs.Common.{◌≡◌, ℕ, Bool, true, false, not, List, [], ◌∷◌, Option, Some, None, refl, sym, ap, ◌∙◌, subst}
use Rattle.std.specs.Prelude.{◌==◌, if◌then◌else◌, MatchOption}
use Rattle.std.specs.Option.{option_map}
use Rattle.std.specs.List.{AllByRecursion}
use Rattle.std.specs.declared.cmp.Ordering.{Ordering}
use Rattle.std.specs.declared.cmp.Ordering.TheVariants.{Less, Equal, Greater}
use Rattle.std.specs.Cmp.{IsTotalOrder}
use Rattle.std.specs.Ordering.{is_gt, is_lt, ordering_then, ordering_reverse}
use Rattle.std.proofs.lemmas.Cmp.{upto}
use Rattle.dmc_tag.specs.Tag.{Tagging}
use Rattle.dmc_tag.specs.Order.{AtMost}
use Rattle.dmc_tag.specs.State.{PlainClient}
use Rattle.dmc_tag.specs.Best.{Found, found_in, best, better, best_of_one, best_of_all, better_found, is_any, is_below, is_before, by_weight}
use Rattle.dmc_tag.specs.Rank.{client_cmp}
use Rattle.dmc_tag.specs.declared.plain.QueuedRequest.{QueuedRequest}
use Rattle.dmc_client.specs.Record.{IsRecord, client_of}
use Rattle.dmc_roster.specs.Entries.{Entry, entry_keyed, AreDistinct}
use Rattle.dmc_head_index.specs.declared.head.Head.{Head}
use Rattle.dmc_head_index.specs.Heads.{IsLeastShare}
use Rattle.dmc_pull.specs.Represented.{clients_in}
use Rattle.dmc_pull.specs.Queue.{AreHeads}
use Rattle.dmc_pull.proofs.Common.Parts.{all_as, all_mapped, found_holds}
use Rattle.dmc_tag.proofs.ForCallers.{all_found_has}
use Rattle.dmc_pull.proofs.Common.Ordered.{share_first, FirstIsLeast}
use Rattle.dmc_pull.proofs.Common.Keyed.{all_found}
use Rattle.dmc_pull.proofs.Pull.Choices.{head_at, entry_at}
use Rattle.dmc_pull.proofs.Pull.Pulls.{all_are}
use Rattle.dmc_tag.proofs.Upto.{at_most_itself}

below_upto : (r : Ordering) → is_lt r ≡ true → is_gt r ≡ false
below_upto Less h = refl
below_upto Equal h = cc
below_upto Greater h = cc

turned_gt : (r : Ordering) → is_lt r ≡ false → is_gt (ordering_reverse r) ≡ false
turned_gt Less h = cc
turned_gt Equal h = refl
turned_gt Greater h = refl

then_below : (r s : Ordering) → is_lt (ordering_then r s) ≡ true → is_gt r ≡ false
then_below Less s h = refl
then_below Equal s h = refl
then_below Greater s h = cc

then_not_below : (r s : Ordering) → is_lt (ordering_then r s) ≡ false → is_lt r ≡ false
then_not_below Less s h = cc
then_not_below Equal s h = refl
then_not_below Greater s h = refl

module _ {T : Type 0} (ops : Tagging T) (order : IsTotalOrder ops.compare) where
  -- ---- the best has the least P

  -- a request is found, and its P is not above this one's
  abbrev IsLow : Option (QueuedRequest T × List (QueuedRequest T)) → QueuedRequest T → Type 0
  IsLow o x = MatchOption o ⊥ (λ p. AtMost ops p.0.tags.p x.tags.p)

  abbrev IsFoundLow : Option (Found T) → QueuedRequest T → Type 0
  IsFoundLow o x = MatchOption o ⊥ (λ found. AtMost ops found.request.tags.p x.tags.p)

  turned_low : (a b : T) → is_lt (ops.compare a b) ≡ false → AtMost ops b a
  turned_low a b h = ap is_gt (order.antisymm b a) ∙ turned_gt (ops.compare a b) h

  one_low : (xs : List (QueuedRequest T)) → AllByRecursion (IsLow (best (is_below ops by_weight) is_any xs)) xs
  one_low [] = tt
  one_low (x ∷ xs) = by (best (is_below ops by_weight) is_any xs) (one_low xs) where
    by : (o : Option (QueuedRequest T × List (QueuedRequest T))) → AllByRecursion (IsLow o) xs → AllByRecursion (IsLow (better (is_below ops by_weight) true x xs o)) (x ∷ xs)
    by None h = (at_most_itself ops order x.tags.p, all_as _ _ (λ y no. absurd no) xs h)
    by (Some (y, ys)) h = at (is_lt (ops.compare y.tags.p x.tags.p)) refl where
      at : (b : Bool) → is_lt (ops.compare y.tags.p x.tags.p) ≡ b → AllByRecursion (IsLow (if not b then Some (x, xs) else Some (y, x ∷ ys))) (x ∷ xs)
      at true e = (below_upto _ e, h)
      at false e = (at_most_itself ops order x.tags.p, all_as _ _ (λ z low. upto order x.tags.p y.tags.p z.tags.p (turned_low y.tags.p x.tags.p e) low) xs h)

  found_low : (c : PlainClient T) (o : Option (QueuedRequest T × List (QueuedRequest T))) (x : QueuedRequest T) → IsLow o x → IsFoundLow (option_map (found_in c) o) x
  found_low c None x h = h
  found_low c (Some p) x h = h

  lower : (o p : Option (Found T)) (x : QueuedRequest T) → IsFoundLow o x → IsFoundLow (better_found ops by_weight o p) x
  lower None p x h = absurd h
  lower (Some f) None x h = h
  lower (Some f) (Some g) x h = at (is_before ops by_weight g.client.id g.request f.client.id f.request) refl where
    at : (b : Bool) → is_before ops by_weight g.client.id g.request f.client.id f.request ≡ b → IsFoundLow (if b then Some g else Some f) x
    at true e = upto order g.request.tags.p f.request.tags.p x.tags.p (then_below (ops.compare g.request.tags.p f.request.tags.p) (client_cmp g.client.id f.client.id) e) h
    at false e = h

  lower_later : (o p : Option (Found T)) (x : QueuedRequest T) → IsFoundLow p x → IsFoundLow (better_found ops by_weight o p) x
  lower_later None p x h = h
  lower_later (Some f) None x h = absurd h
  lower_later (Some f) (Some g) x h = at (is_before ops by_weight g.client.id g.request f.client.id f.request) refl where
    at : (b : Bool) → is_before ops by_weight g.client.id g.request f.client.id f.request ≡ b → IsFoundLow (if b then Some g else Some f) x
    at true e = h
    at false e = upto order f.request.tags.p g.request.tags.p x.tags.p (turned_low g.request.tags.p f.request.tags.p (then_not_below (ops.compare g.request.tags.p f.request.tags.p) (client_cmp g.client.id f.client.id) e)) h

  all_low : (clients : List (PlainClient T)) → AllByRecursion (λ c. AllByRecursion (IsFoundLow (best_of_all ops by_weight is_any clients)) c.requests) clients
  all_low [] = tt
  all_low (c ∷ clients) =
      let own = best_of_one ops by_weight is_any c in
      let rest = best_of_all ops by_weight is_any clients in (
        all_as _ _ (λ x low. lower own rest x (found_low c (best (is_below ops by_weight) is_any c.requests) x low)) c.requests (one_low c.requests),
        all_as _ _ (λ d h. all_as _ _ (lower_later own rest) d.requests h) clients (all_low clients),
      )

  -- ---- the least P of the heads

  module _ (same : (a b : T) → ops.compare a b ≡ Equal → a ≡ b) where
    both_upto : (a b : T) (r : Ordering) → ops.compare a b ≡ r → is_gt r ≡ false → AtMost ops b a → a ≡ b
    both_upto a b Less e h k = let back : ops.compare b a ≡ Greater = order.antisymm b a ∙ ap ordering_reverse e in let gt : is_gt (ops.compare b a) ≡ true = ap is_gt back in cc
    both_upto a b Equal e h k = same a b e
    both_upto a b Greater e h k = cc

    module _ (t : ℕ) (es : List (Entry T)) (heads : List (Option (Head T))) (are : AreHeads ops t es heads) (d : AreDistinct es) (records : AllByRecursion (λ e. IsRecord ops e.rec) es) (least : T) (is : IsLeastShare ops heads least) where
      above_at : (e : Entry T) → entry_keyed e.key es ≡ Some e → FirstIsLeast ops (λ g. Some g.p) e.rec.requests → (l : List (QueuedRequest T)) → e.rec.requests ≡ l → AllByRecursion (λ x. is_any x ≡ true → AtMost ops least x.tags.p) l
      above_at e f first [] q = tt
      above_at e f first (r ∷ rest) q =
          let h = head_at ops t es heads are e.key e r rest f q in
          let up : AtMost ops least r.tags.p = subst (λ g. AtMost ops least g.p) h.of.tags (is.below e.key h.head h.here) in
          let own = subst (FirstIsLeast ops (λ g. Some g.p)) q first in
          ((λ m. up), all_as _ _ (λ x low m. upto order least r.tags.p x.tags.p up low) rest own)

      -- no request has a lesser one
      above : AllByRecursion (λ c. AllByRecursion (λ x. is_any x ≡ true → AtMost ops least x.tags.p) c.requests) (clients_in es)
      above =
          let firsts = all_are ops order t es heads (λ rec. FirstIsLeast ops (λ g. Some g.p) rec.requests) (share_first ops) es records in
          all_mapped _ _ (λ e. client_of e.id e.rec) (λ e h. h) es
          (all_found (λ e. AllByRecursion (λ x. is_any x ≡ true → AtMost ops least x.tags.p) e.rec.requests) es d
          (λ e f. above_at e f (found_holds (λ e. FirstIsLeast ops (λ g. Some g.p) e.rec.requests) (λ y. y.key == e.key) es e firsts f) e.rec.requests refl))

      -- the request of the head that has it
      low_at : IsFoundLow (best_of_all ops by_weight is_any (clients_in es)) (entry_at ops t es heads are is.key is.head is.here).request
      low_at =
          let x = entry_at ops t es heads are is.key is.head is.here in
          let o = best_of_all ops by_weight is_any (clients_in es) in
          let own = found_holds (λ e. AllByRecursion (IsFoundLow o) e.rec.requests) (λ e. e.key == is.key) es x.entry (all_unmapped (λ c. AllByRecursion (IsFoundLow o) c.requests) es (all_low (clients_in es))) x.found in
          (subst (AllByRecursion (IsFoundLow o)) x.requests own).0 where
            all_unmapped : (P : PlainClient T → Type 0) (es : List (Entry T)) → AllByRecursion P (clients_in es) → AllByRecursion (λ e. P (client_of e.id e.rec)) es
            all_unmapped P [] h = tt
            all_unmapped P (e ∷ es) h = (h.0, all_unmapped P es h.1)

      -- the request that is found has it too
      pub best_share : MatchOption (best_of_all ops by_weight is_any (clients_in es)) ⊥ (λ found. found.request.tags.p ≡ least)
      best_share = by (best_of_all ops by_weight is_any (clients_in es)) refl low_at where
        by : (o : Option (Found T)) → best_of_all ops by_weight is_any (clients_in es) ≡ o → IsFoundLow o (entry_at ops t es heads are is.key is.head is.here).request → MatchOption o ⊥ (λ found. found.request.tags.p ≡ least)
        by None e low = low
        by (Some found) e low =
            let x = entry_at ops t es heads are is.key is.head is.here in
            let share : x.request.tags.p ≡ least = sym (ap (λ g. g.p) x.of.tags) ∙ is.share in
            let up : AtMost ops least found.request.tags.p = all_found_has ops by_weight is_any (λ id x. AtMost ops least x.tags.p) (clients_in es) found above e in
            both_upto found.request.tags.p least _ refl (subst (AtMost ops found.request.tags.p) share low) up
