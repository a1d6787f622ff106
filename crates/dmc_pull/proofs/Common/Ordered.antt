-- The first request of a client has the least tags of its requests, and is due where one of them is.
use Rattle.std.proofs.Common.{◌≡◌, ℕ, Bool, true, false, List, [], ◌∷◌, ◌++◌, map, Option, Some, None, refl, sym, ap, ◌∙◌, subst}
use Rattle.std.specs.Prelude.{is_some, filter_map, ⊤}
use Rattle.std.specs.List.{AllByRecursion, cons_option}
use Rattle.std.specs.declared.cmp.Ordering.{Ordering}
use Rattle.std.specs.declared.cmp.Ordering.TheVariants.{Less, Equal, Greater}
use Rattle.std.specs.Ordering.{is_gt, is_lt, ordering_reverse}
use Rattle.std.specs.Cmp.{IsTotalOrder}
use Rattle.dmc_tag.specs.Tag.{Tagging}
use Rattle.dmc_tag.specs.Order.{AtMost}
use Rattle.dmc_tag.specs.Best.{is_due}
use Rattle.dmc_tag.specs.Rank.{last_if_absent}
use Rattle.dmc_tag.specs.declared.reply.Tags.{Tags}
use Rattle.dmc_tag.proofs.Upto.{IsUpto, due_before}
use Rattle.dmc_client.specs.Order.{InOrder}
use Rattle.dmc_client.specs.Record.{Rec, IsRecord}
use Rattle.dmc_tag.specs.declared.plain.QueuedRequest.{QueuedRequest}

-- ---- total orders

module _ {R : Type 0} (C : R → R → Ordering) (o : IsTotalOrder C) where
  pub less_upto : (a b c : R) (s : Ordering) → C b c ≡ s → C a b ≡ Less → is_gt s ≡ false → C a c ≡ Less
  less_upto a b c Less e p h = o.trans a b c p e
  less_upto a b c Equal e p h = o.antisymm a c ∙ ap ordering_reverse (sym (o.congr b c a e)) ∙ sym (o.antisymm a b) ∙ p
  less_upto a b c Greater e p h = cc

  turned_lt : (r : Ordering) → is_lt (ordering_reverse r) ≡ is_gt r
  turned_lt Less = refl
  turned_lt Equal = refl
  turned_lt Greater = refl

  pub not_behind : (a b : R) → is_gt (C a b) ≡ false → is_lt (C b a) ≡ false
  not_behind a b h = ap is_lt (o.antisymm b a) ∙ turned_lt (C a b) ∙ h

-- ---- one client's requests

-- the first has the least tag
abbrev pub FirstIsLeast : {T : Type 0} → Tagging T → (Tags T → Option T) → List (QueuedRequest T) → Type 0
FirstIsLeast ops tag [] = ⊤
FirstIsLeast ops tag (r ∷ rest) = AllByRecursion (λ x. IsUpto ops (tag r.tags) (tag x.tags)) rest

-- the first is a member where one is
abbrev pub FirstIsMember : {T : Type 0} → (Tags T → Bool) → List (QueuedRequest T) → Type 0
FirstIsMember member [] = ⊤
FirstIsMember member (r ∷ rest) = AllByRecursion (λ x. member x.tags ≡ true → member r.tags ≡ true) rest

module _ {T : Type 0} (ops : Tagging T) where
  -- ---- R

  absent_upto : (b : Option T) → is_some b ≡ false → IsUpto ops None b
  absent_upto None h = refl
  absent_upto (Some b) h = cc

  reservations_at : (a : T) (prev : T) (rest : List (QueuedRequest T)) → AllByRecursion (AtMost ops a) (filter_map (λ r. r.tags.r) rest ++ prev ∷ []) → AllByRecursion (λ x. IsUpto ops (Some a) x.tags.r) rest
  reservations_at a prev [] h = tt
  reservations_at a prev (x ∷ rest) h = at x.tags.r refl h (reservations_at a prev rest) where
    at : (o : Option T) → x.tags.r ≡ o → AllByRecursion (AtMost ops a) (cons_option o (filter_map (λ r. r.tags.r) rest) ++ prev ∷ []) → (AllByRecursion (AtMost ops a) (filter_map (λ r. r.tags.r) rest ++ prev ∷ []) → AllByRecursion (λ x. IsUpto ops (Some a) x.tags.r) rest) → IsUpto ops (Some a) x.tags.r × AllByRecursion (λ x. IsUpto ops (Some a) x.tags.r) rest
    at None e h more = (ap (λ o. is_gt (last_if_absent ops.compare (Some a) o)) e, more h)
    at (Some b) e h more = (ap (λ o. is_gt (last_if_absent ops.compare (Some a) o)) e ∙ h.0, more h.1)

  all_absent : (rest : List (QueuedRequest T)) → AllByRecursion (λ r. is_some r.tags.r ≡ false) rest → AllByRecursion (λ x. IsUpto ops None x.tags.r) rest
  all_absent [] h = tt
  all_absent (x ∷ rest) h = (absent_upto x.tags.r h.0, all_absent rest h.1)

  reservations_first : (has : Bool) (prev : T) (requests : List (QueuedRequest T)) → AllByRecursion (λ r. is_some r.tags.r ≡ has) requests → InOrder ops (filter_map (λ r. r.tags.r) requests ++ prev ∷ []) → FirstIsLeast ops (λ t. t.r) requests
  reservations_first has prev [] s h = tt
  reservations_first has prev (r ∷ rest) s h = at r.tags.r refl h where
    at : (o : Option T) → r.tags.r ≡ o → InOrder ops (cons_option o (filter_map (λ r. r.tags.r) rest) ++ prev ∷ []) → AllByRecursion (λ x. IsUpto ops r.tags.r x.tags.r) rest
    at None e h = subst (λ o. AllByRecursion (λ x. IsUpto ops o x.tags.r) rest) (sym e) (all_absent rest (subst (λ b. AllByRecursion (λ x. is_some x.tags.r ≡ b) rest) (sym s.0 ∙ ap is_some e) s.1))
    at (Some a) e h = subst (λ o. AllByRecursion (λ x. IsUpto ops o x.tags.r) rest) (sym e) (reservations_at a prev rest h.0)

  pub reservation_first : (rec : Rec T) → IsRecord ops rec → FirstIsLeast ops (λ t. t.r) rec.requests
  reservation_first rec is = reservations_first (is_some rec.info.reservation) rec.previous.r rec.requests is.reserved is.reservations

  -- ---- L and P

  all_upto : (tag : QueuedRequest T → T) (a prev : T) (rest : List (QueuedRequest T)) → AllByRecursion (AtMost ops a) (map tag rest ++ prev ∷ []) → AllByRecursion (λ x. AtMost ops a (tag x)) rest
  all_upto tag a prev [] h = tt
  all_upto tag a prev (x ∷ rest) h = (h.0, all_upto tag a prev rest h.1)

  limits_first : (prev : T) (requests : List (QueuedRequest T)) → InOrder ops (map (λ r. r.tags.l) requests ++ prev ∷ []) → FirstIsLeast ops (λ t. Some t.l) requests
  limits_first prev [] h = tt
  limits_first prev (r ∷ rest) h = all_upto (λ r. r.tags.l) r.tags.l prev rest h.0

  shares_first : (prev : T) (requests : List (QueuedRequest T)) → InOrder ops (map (λ r. r.tags.p) requests ++ prev ∷ []) → FirstIsLeast ops (λ t. Some t.p) requests
  shares_first prev [] h = tt
  shares_first prev (r ∷ rest) h = all_upto (λ r. r.tags.p) r.tags.p prev rest h.0

  pub limit_first : (rec : Rec T) → IsRecord ops rec → FirstIsLeast ops (λ t. Some t.l) rec.requests
  limit_first rec is = limits_first rec.previous.l rec.requests is.limits

  pub share_first : (rec : Rec T) → IsRecord ops rec → FirstIsLeast ops (λ t. Some t.p) rec.requests
  share_first rec is = shares_first rec.previous.p rec.requests is.shares

  -- ---- what is due

  module _ (order : IsTotalOrder ops.compare) (t : ℕ) where
    due_first : (tag : Tags T → Option T) (r : QueuedRequest T) (rest : List (QueuedRequest T)) → AllByRecursion (λ x. IsUpto ops (tag r.tags) (tag x.tags)) rest → AllByRecursion (λ x. is_due ops t (tag x.tags) ≡ true → is_due ops t (tag r.tags) ≡ true) rest
    due_first tag r [] h = tt
    due_first tag r (x ∷ rest) h = (due_before ops order t (tag r.tags) (tag x.tags) h.0, due_first tag r rest h.1)

    pub due_members : (tag : Tags T → Option T) (requests : List (QueuedRequest T)) → FirstIsLeast ops tag requests → FirstIsMember (λ tags. is_due ops t (tag tags)) requests
    due_members tag [] h = tt
    due_members tag (r ∷ rest) h = due_first tag r rest h

any_rest : {T : Type 0} (rest : List (QueuedRequest T)) → AllByRecursion (λ x. true ≡ true → true ≡ true) rest
any_rest [] = tt
any_rest (x ∷ rest) = ((λ e. e), any_rest rest)

pub any_members : {T : Type 0} (requests : List (QueuedRequest T)) → FirstIsMember (λ (tags : Tags T). true) requests
any_members [] = tt
any_members (r ∷ rest) = any_rest rest
