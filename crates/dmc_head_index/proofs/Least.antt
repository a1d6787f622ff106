-- The least P, as heads come, change and leave.
use Rattle.std.proofs.Common.{◌≡◌, ◌≢◌, ℕ, ◌+◌, ◌<◌, List, Option, Some, None, length, set, refl, sym, ap, ◌∙◌, subst, inl, inr, Bool, true, false, is_some, arith}
use Rattle.std.specs.Prelude.{if◌then◌else◌}
use Rattle.std.specs.Option.{option_map, MatchOption, IfSome}
use Rattle.std.specs.declared.cmp.Ordering.{Ordering}
use Rattle.std.specs.declared.cmp.Ordering.TheVariants.{Equal}
use Rattle.std.specs.Ordering.{is_gt, is_eq}
use Rattle.std.specs.Cmp.{IsTotalOrder}
use Rattle.std.proofs.lemmas.Cmp.{upto, tied_itself}
use Rattle.std.proofs.lemmas.Bool.{cases_eq}
use Rattle.dmc_tag.specs.Tag.{Tagging}
use Rattle.dmc_tag.specs.Order.{AtMost}
use Rattle.dmc_tag.proofs.Upto.{at_most_itself, at_most_turned}
use Rattle.dmc_tag.specs.declared.rank.ReadyRank.{ReadyRank}
use Rattle.dmc_index.specs.Index.{slot_of_key, IsEmpty}
use Rattle.dmc_head_index.specs.declared.head.Head.{Head}
use Rattle.dmc_head_index.specs.Heads.{ready_rank, Ranks, IsLeastShare}
use Rattle.dmc_head_index.specs.internal.Least.{least_of_two, least_with, least_without, least_after, IsLeastTag, FindsLeast}
use Rattle.dmc_head_index.proofs.Slots.{some_if_mapped, none_if_mapped, within, slot_of_key-set_same, slot_of_key-set_other}

not_equal : (r : Ordering) → is_eq r ≡ false → r ≢ Equal
not_equal r e q = let yes : is_eq r ≡ true = ap is_eq q in cc

module _ {T : Type 0} (ops : Tagging T) (heads : List (Option (Head T))) where
  pub if_found : (found : Option T) → MatchOption found (IsEmpty heads) (IsLeastShare ops heads) → IfSome found (IsLeastShare ops heads)
  if_found None h = tt
  if_found (Some p) h = h

  pub if_known : (least : Option T) → is_some least ≡ true → IfSome least (IsLeastShare ops heads) → MatchOption least (IsEmpty heads) (IsLeastShare ops heads)
  if_known None e h = cc
  if_known (Some p) e h = h

module _ {T : Type 0} (ops : Tagging T) (order : IsTotalOrder ops.compare) where
  at_most_equal : (a b : T) → a ≡ b → AtMost ops a b
  at_most_equal a b e = subst (AtMost ops a) e (at_most_itself ops order a)

  module _ (heads : List (Option (Head T))) (key : ℕ) (o : Option (Head T)) (in' : key < length heads) where
    -- a head after a write was written, or was there
    below_set : (least : T) → ((h : Head T) → o ≡ Some h → AtMost ops least h.tags.p) → ((k : ℕ) (other : Head T) → slot_of_key heads k ≡ Some other → AtMost ops least other.tags.p) → (k : ℕ) (other : Head T) → slot_of_key (set heads key o) k ≡ Some other → AtMost ops least other.tags.p
    below_set least new old k other q =
        elim (cases_eq k key) [
          | inl e ↦ new other (sym (slot_of_key-set_same heads key o in') ∙ ap (slot_of_key (set heads key o)) (sym e) ∙ q)
          | inr ne ↦ old k other (sym (slot_of_key-set_other heads key k o ne) ∙ q)
        ]

    -- another key has the least P
    stays : (least : T) (was : IsLeastShare ops heads least) → was.key ≢ key → ((h : Head T) → o ≡ Some h → AtMost ops least h.tags.p) → IsLeastShare ops (set heads key o) least
    stays least was ne new = record {
      key = was.key;
      head = was.head;
      here = slot_of_key-set_other heads key was.key o ne ∙ was.here;
      share = was.share;
      below = below_set least new was.below;
    }

    -- what is written has the least P
    comes : (h : Head T) → o ≡ Some h → ((k : ℕ) (other : Head T) → slot_of_key heads k ≡ Some other → AtMost ops h.tags.p other.tags.p) → IsLeastShare ops (set heads key o) h.tags.p
    comes h e old = record {
      key = key;
      head = h;
      here = slot_of_key-set_same heads key o in' ∙ e;
      share = refl;
      below = below_set h.tags.p (λ h' e'. let same : h ≡ h' = cc in at_most_equal h.tags.p h'.tags.p (ap (λ (x : Head T). x.tags.p) same)) old;
    }

    comes_below : (h : Head T) → o ≡ Some h → (least : T) → IsLeastShare ops heads least → AtMost ops h.tags.p least → IsLeastShare ops (set heads key o) h.tags.p
    comes_below h e least was l = comes h e (λ k other q. upto order h.tags.p least other.tags.p l (was.below k other q))

    -- the head that leaves hasn't the least P
    elsewhere : (old : Head T) → slot_of_key heads key ≡ Some old → (least : T) (was : IsLeastShare ops heads least) → is_eq (ops.compare old.tags.p least) ≡ false → was.key ≢ key
    elsewhere old here least was e same =
        let both : Some old ≡ Some was.head = sym here ∙ ap (slot_of_key heads) (sym same) ∙ was.here in
        let one : old ≡ was.head = cc in
        not_equal (ops.compare old.tags.p least) e (ap (λ p. ops.compare p least) (ap (λ (x : Head T). x.tags.p) one ∙ was.share) ∙ tied_itself order least)

    -- ---- a head comes

    pub with_is : slot_of_key heads key ≡ None → (h : Head T) → o ≡ Some h → (first : Bool) → (first ≡ true → IsEmpty heads) → (least : Option T) → IfSome least (IsLeastShare ops heads) → IfSome (least_with ops first least h.tags.p) (IsLeastShare ops (set heads key o))
    with_is vacant h e true empty least was = comes h e (λ k other q. let no : slot_of_key heads k ≡ None = empty refl k in cc)
    with_is vacant h e false empty None was = tt
    with_is vacant h e false empty (Some p) was = at (is_gt (ops.compare h.tags.p p)) refl where
      at : (b : Bool) → is_gt (ops.compare h.tags.p p) ≡ b → IsLeastShare ops (set heads key o) (if b then p else h.tags.p)
      at true g = stays p was (λ same. let no : slot_of_key heads key ≡ Some was.head = ap (slot_of_key heads) (sym same) ∙ was.here in cc) (λ h' e'. let one : h ≡ h' = cc in subst (λ (x : Head T). AtMost ops p x.tags.p) one (at_most_turned ops order h.tags.p p g))
      at false g = comes_below h e p was g

    -- ---- a head leaves

    without : (old : Head T) → slot_of_key heads key ≡ Some old → (p : T) → IsLeastShare ops heads p → ((h : Head T) → o ≡ Some h → AtMost ops p h.tags.p) → IfSome (least_without ops (Some p) old.tags.p) (IsLeastShare ops (set heads key o))
    without old here p was new = at (is_eq (ops.compare old.tags.p p)) refl where
      at : (b : Bool) → is_eq (ops.compare old.tags.p p) ≡ b → IfSome (if b then None else Some p) (IsLeastShare ops (set heads key o))
      at true e = tt
      at false e = stays p was (elsewhere old here p was e) new

    pub without_is : (old : Head T) → slot_of_key heads key ≡ Some old → o ≡ None → (least : Option T) → IfSome least (IsLeastShare ops heads) → IfSome (least_without ops least old.tags.p) (IsLeastShare ops (set heads key o))
    without_is old here none None was = tt
    without_is old here none (Some p) was = without old here p was (λ h e. cc)

    -- ---- a head changes

    pub after_is : (old : Head T) → slot_of_key heads key ≡ Some old → (h : Head T) → o ≡ Some h → (least : Option T) → IfSome least (IsLeastShare ops heads) → IfSome (least_after ops least old.tags.p h.tags.p) (IsLeastShare ops (set heads key o))
    after_is old here h e None was = tt
    after_is old here h e (Some p) was = at (is_gt (ops.compare h.tags.p p)) refl where
      at : (b : Bool) → is_gt (ops.compare h.tags.p p) ≡ b → IfSome (if b then least_without ops (Some p) old.tags.p else Some h.tags.p) (IsLeastShare ops (set heads key o))
      at true g = without old here p was (λ h' e'. let one : h ≡ h' = cc in subst (λ (x : Head T). AtMost ops p x.tags.p) one (at_most_turned ops order h.tags.p p g))
      at false g = comes_below h e p was g

    -- a head changes, and its P stays
    pub unmoved_is : (old : Head T) → slot_of_key heads key ≡ Some old → (h : Head T) → o ≡ Some h → h.tags.p ≡ old.tags.p → (least : Option T) → IfSome least (IsLeastShare ops heads) → IfSome least (IsLeastShare ops (set heads key o))
    unmoved_is old here h e same None was = tt
    unmoved_is old here h e same (Some p) was =
        let new : (h' : Head T) → o ≡ Some h' → AtMost ops p h'.tags.p = λ h' e'. let one : h ≡ h' = cc in subst (λ (x : Head T). AtMost ops p x.tags.p) one (subst (AtMost ops p) (sym same) (was.below key old here)) in
        elim (cases_eq was.key key) [
          | inl k ↦
              let both : Some old ≡ Some was.head = sym here ∙ ap (slot_of_key heads) (sym k) ∙ was.here in
              let one : old ≡ was.head = cc in
              record { key = key; head = h; here = slot_of_key-set_same heads key o in' ∙ e; share = same ∙ ap (λ (x : Head T). x.tags.p) one ∙ was.share; below = below_set p new was.below }
          | inr ne ↦ stays p was ne new
        ]

  -- ---- the least is found

  module _ (heads : List (Option (Head T))) (ready : List (Option (ReadyRank T))) (ranks : Ranks ready_rank heads ready) where
    found_share : (p : T) → IsLeastTag ops ready (length ready) p → IsLeastShare ops heads p
    found_share p at =
        let h = some_if_mapped ready_rank (slot_of_key heads at.key) at.rank (sym (ranks at.key) ∙ at.here) in record {
          key = at.key;
          head = h.0;
          here = h.1;
          share = ap (λ (r : ReadyRank T). r.tag) h.2 ∙ at.tag;
          below = λ k other q. let r : slot_of_key ready k ≡ Some (ready_rank other) = ranks k ∙ ap (option_map ready_rank) q in at.below k (ready_rank other) (within ready k (ready_rank other) r) r;
        }

    pub found_is : (room : ℕ) → length ready ≡ room → (found : Option T) → FindsLeast ops ready room found → MatchOption found (IsEmpty heads) (IsLeastShare ops heads)
    found_is room e None h =
        λ key. none_if_mapped ready_rank (slot_of_key heads key) (sym (ranks key) ∙ empty key (slot_of_key ready key) refl) where
          empty : (key : ℕ) → (o : Option (ReadyRank T)) → slot_of_key ready key ≡ o → slot_of_key ready key ≡ None
          empty key None q = q
          empty key (Some r) q = h key (omega (arith, within ready key r q))
    found_is room e (Some p) h = found_share p (subst (λ n. IsLeastTag ops ready n p) (sym e) h)

  -- ---- the pass over the keys

  module _ (slots : List (Option (ReadyRank T))) where
    -- one more key
    pub found_more : (n : ℕ) (found : Option T) → FindsLeast ops slots n found → FindsLeast ops slots (n + 1) (least_of_two ops found (option_map (λ (r : ReadyRank T). r.tag) (slot_of_key slots n)))
    found_more n found h = at found (slot_of_key slots n) refl h where
      first : (k : ℕ) → k < n + 1 → (k ≢ n → k < n)
      first k l ne = omega arith

      single : (r : ReadyRank T) → slot_of_key slots n ≡ Some r → ((key : ℕ) → key < n → slot_of_key slots key ≡ None) → IsLeastTag ops slots (n + 1) r.tag
      single r q none = record {
        key = n;
        rank = r;
        within = omega arith;
        here = q;
        tag = refl;
        below = λ k other l q'. elim (cases_eq k n) [
          | inl e ↦ let both : Some r ≡ Some other = sym q ∙ ap (slot_of_key slots) (sym e) ∙ q' in let one : r ≡ other = cc in at_most_equal r.tag other.tag (ap (λ (x : ReadyRank T). x.tag) one)
          | inr ne ↦ let no : slot_of_key slots k ≡ None = none k (first k l ne) in cc
        ];
      }

      more : (p : T) → IsLeastTag ops slots n p → ((r : ReadyRank T) → slot_of_key slots n ≡ Some r → AtMost ops p r.tag) → IsLeastTag ops slots (n + 1) p
      more p was new = record {
        key = was.key;
        rank = was.rank;
        within = omega (arith, was.within);
        here = was.here;
        tag = was.tag;
        below = λ k other l q. elim (cases_eq k n) [
          | inl e ↦ new other (ap (slot_of_key slots) (sym e) ∙ q)
          | inr ne ↦ was.below k other (first k l ne) q
        ];
      }

      less' : (p : T) (r : ReadyRank T) → slot_of_key slots n ≡ Some r → IsLeastTag ops slots n p → AtMost ops r.tag p → IsLeastTag ops slots (n + 1) r.tag
      less' p r q was l = record {
        key = n;
        rank = r;
        within = omega arith;
        here = q;
        tag = refl;
        below = λ k other l' q'. elim (cases_eq k n) [
          | inl e ↦ let both : Some r ≡ Some other = sym q ∙ ap (slot_of_key slots) (sym e) ∙ q' in let one : r ≡ other = cc in at_most_equal r.tag other.tag (ap (λ (x : ReadyRank T). x.tag) one)
          | inr ne ↦ upto order r.tag p other.tag l (was.below k other (first k l' ne) q')
        ];
      }

      both : (p : T) (r : ReadyRank T) → slot_of_key slots n ≡ Some r → IsLeastTag ops slots n p → (b : Bool) → is_gt (ops.compare p r.tag) ≡ b → IsLeastTag ops slots (n + 1) (if b then r.tag else p)
      both p r q was true g = less' p r q was (at_most_turned ops order p r.tag g)
      both p r q was false g = more p was (λ r' q'. let one' : Some r ≡ Some r' = sym q ∙ q' in let one : r ≡ r' = cc in subst (λ (x : ReadyRank T). AtMost ops p x.tag) one g)

      at : (found : Option T) (o : Option (ReadyRank T)) → slot_of_key slots n ≡ o → FindsLeast ops slots n found → FindsLeast ops slots (n + 1) (least_of_two ops found (option_map (λ (r : ReadyRank T). r.tag) o))
      at None None q was = λ key l. elim (cases_eq key n) [ inl e ↦ ap (slot_of_key slots) e ∙ q | inr ne ↦ was key (first key l ne) ]
      at None (Some r) q was = single r q was
      at (Some p) None q was = more p was (λ r q'. cc)
      at (Some p) (Some r) q was = both p r q was (is_gt (ops.compare p r.tag)) refl
