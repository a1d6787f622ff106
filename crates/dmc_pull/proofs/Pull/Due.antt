-- The next due moment, from the least of the indexes by R and by L.
use Rattle.std.proofs.Common.{◌≡◌, ℕ, ◌≤◌, min, Bool, true, false, List, [], ◌∷◌, Option, Some, None, refl, sym, ap, ◌∙◌, subst, arith}
use Rattle.std.specs.Prelude.{◌==◌, nat_le, fold}
use Rattle.std.specs.Option.{option_map}
use Rattle.std.specs.List.{AllByRecursion}
use Rattle.std.specs.declared.cmp.Ordering.TheVariants.{Less}
use Rattle.std.specs.Cmp.{IsTotalOrder}
use Rattle.std.proofs.lemmas.Bool.{leb-true, le-leb}
use Rattle.std.proofs.lemmas.Cmp.{upto}
use Rattle.dmc_types.specs.declared.ids.ClientId.{ClientId}
use Rattle.dmc_tag.specs.Tag.{Tagging}
use Rattle.dmc_tag.specs.Order.{AtMost}
use Rattle.dmc_tag.specs.State.{queued_requests}
use Rattle.dmc_tag.specs.Best.{is_due, is_free, HasNone}
use Rattle.dmc_tag.specs.Rank.{absent_total, tag_rank_cmp, limit_rank_cmp}
use Rattle.dmc_tag.specs.Rules.{moment_of, earlier, due_moment, least_due}
use Rattle.dmc_tag.specs.declared.plain.QueuedRequest.{QueuedRequest}
use Rattle.dmc_tag.specs.declared.rank.TagRank.{TagRank}
use Rattle.dmc_tag.specs.declared.rank.LimitRank.{LimitRank}
use Rattle.dmc_client.specs.Record.{IsRecord, client_of}
use Rattle.dmc_roster.specs.Entries.{Entry, entry_keyed, AreDistinct}
use Rattle.dmc_index.specs.Index.{slot_of_key}
use Rattle.dmc_head_index.specs.declared.head.Head.{Head}
use Rattle.dmc_head_index.specs.Heads.{IsFirst, tag_rank, limit_rank}
use Rattle.dmc_tag.proofs.Upto.{IsUpto, at_most_itself, due_before}
use Rattle.dmc_pull.specs.Represented.{clients_in}
use Rattle.dmc_pull.specs.Queue.{AreHeads}
use Rattle.dmc_pull.proofs.Common.Parts.{true_not_false, all_mapped, found_holds}
use Rattle.dmc_pull.proofs.Common.Ordered.{reservation_first, limit_first, FirstIsLeast}
use Rattle.dmc_pull.proofs.Common.Keyed.{all_found}
use Rattle.dmc_pull.proofs.Common.Firsts.{all_queued, of_queued}
use Rattle.dmc_pull.proofs.Pull.Choices.{head_at, entry_at}
use Rattle.dmc_pull.proofs.Pull.Pulls.{all_heads, head_under, then_less, all_are}

-- ---- the least due moment is the greatest that is not above any

module _ {T : Type 0} (ops : Tagging T) where
  abbrev AreFrom : ℕ → List (QueuedRequest T) → Type 0
  AreFrom m requests = AllByRecursion (λ r. m ≤ due_moment ops r) requests

  abbrev least_from : ℕ → List (QueuedRequest T) → ℕ
  least_from a requests = fold (λ m r. min m (due_moment ops r)) a requests

  least_low : (a : ℕ) (requests : List (QueuedRequest T)) → (least_from a requests ≤ a) × AreFrom (least_from a requests) requests
  least_low a [] = (omega arith, tt)
  least_low a (r ∷ requests) = let more = least_low (min a (due_moment ops r)) requests in (omega (arith, more.0), (omega (arith, more.0), more.1))

  least_high : (m a : ℕ) (requests : List (QueuedRequest T)) → m ≤ a → AreFrom m requests → m ≤ least_from a requests
  least_high m a [] h k = h
  least_high m a (r ∷ requests) h k = least_high m (min a (due_moment ops r)) requests (omega (arith, k.0)) k.1

  least_is : (m : ℕ) (first : QueuedRequest T) (rest : List (QueuedRequest T)) → AreFrom m (first ∷ rest) → ((n : ℕ) → AreFrom n (first ∷ rest) → n ≤ m) → m ≡ least_due ops first rest
  least_is m first rest low high =
      let up = least_high m (due_moment ops first) rest low.0 low.1 in
      let down = high (least_due ops first rest) (least_low (due_moment ops first) rest) in
      omega arith

-- ---- the moments that the indexes say

module _ {T : Type 0} (ops : Tagging T) (order : IsTotalOrder ops.compare) (due_from : (tag : T) (n : ℕ) → is_due ops n (Some tag) ≡ nat_le (moment_of (ops.ceil tag)) n) where
  abbrev moment : T → ℕ
  moment tag = moment_of (ops.ceil tag)

  moments_upto : (a b : T) → AtMost ops a b → moment a ≤ moment b
  moments_upto a b h =
      let due = due_before ops order (moment b) (Some a) (Some b) h (due_from b (moment b) ∙ le-leb (moment b) (moment b) (omega arith)) in
      leb-true (moment a) (moment b) (sym (due_from a (moment b)) ∙ due)

  earlier_upto : (a b : T) (r s : Option T) → AtMost ops a b → IsUpto ops r s → earlier (moment a) (option_map moment r) ≤ earlier (moment b) (option_map moment s)
  earlier_upto a b None None h k = moments_upto a b h
  earlier_upto a b None (Some s) h k = cc
  earlier_upto a b (Some r) None h k = omega (arith, moments_upto a b h)
  earlier_upto a b (Some r) (Some s) h k = omega (arith, moments_upto a b h, moments_upto r s k)

  earlier_both : (n m : ℕ) (o : Option T) → n ≤ m → ((tag : T) → o ≡ Some tag → n ≤ moment tag) → n ≤ earlier m (option_map moment o)
  earlier_both n m None h k = h
  earlier_both n m (Some tag) h k = omega (arith, k tag refl)

  earlier_left : (m : ℕ) (o : Option T) → earlier m (option_map moment o) ≤ m
  earlier_left m None = omega arith
  earlier_left m (Some tag) = omega arith

  module _ (t : ℕ) (es : List (Entry T)) (heads : List (Option (Head T))) (are : AreHeads ops t es heads) (d : AreDistinct es) (records : AllByRecursion (λ e. IsRecord ops e.rec) es) (unready : (k : ℕ) (head : Head T) → slot_of_key heads k ≡ Some head → head.ready ≡ false)
      (kr : ℕ) (r : TagRank T) (first_r : IsFirst tag_rank (tag_rank_cmp ops.compare) heads kr r) (kl : ℕ) (l : LimitRank T) (first_l : IsFirst limit_rank (limit_rank_cmp ops.compare) heads kl l) where
    -- no head has a lesser R, nor a lesser L

    reservation_upto : (k : ℕ) (head : Head T) → slot_of_key heads k ≡ Some head → IsUpto ops r.tag head.tags.r
    reservation_upto =
        all_heads tag_rank (tag_rank_cmp ops.compare) heads kr r first_r (λ head. IsUpto ops r.tag head.tags.r)
        (λ head is. subst (λ x. IsUpto ops x.tag head.tags.r) is (upto_itself head.tags.r)) (λ k head here less. then_less _ _ less) where
          upto_itself : (o : Option T) → IsUpto ops o o
          upto_itself None = refl
          upto_itself (Some tag) = at_most_itself ops order tag

    limit_order : (a b : Bool) (p q : T) (c e : ClientId) → a ≡ false → b ≡ false → limit_rank_cmp ops.compare (record { ready = a; tag = p; client = c }) (record { ready = b; tag = q; client = e }) ≡ Less → AtMost ops p q
    limit_order false false p q c e g h s = then_less _ _ s
    limit_order true b p q c e g h s = cc
    limit_order false true p q c e g h s = cc

    limit_upto : (k : ℕ) (head : Head T) → slot_of_key heads k ≡ Some head → AtMost ops l.tag head.tags.l
    limit_upto =
        let u = head_under limit_rank heads kl l first_l.here in
        let own : l.ready ≡ false = sym (ap (λ g. g.ready) u.ranked) ∙ unready kl u.head u.here in
        all_heads limit_rank (limit_rank_cmp ops.compare) heads kl l first_l (λ head. AtMost ops l.tag head.tags.l)
        (λ head is. subst (λ x. AtMost ops x.tag head.tags.l) is (at_most_itself ops order head.tags.l))
        (λ k head here less. limit_order l.ready head.ready l.tag head.tags.l l.client head.client own (unready k head here) less)

    abbrev m : ℕ
    m = earlier (moment l.tag) (option_map moment r.tag)

    -- nor has any request
    due_at : (e : Entry T) → entry_keyed e.key es ≡ Some e → FirstIsLeast ops (λ g. g.r) e.rec.requests → FirstIsLeast ops (λ g. Some g.l) e.rec.requests → (qs : List (QueuedRequest T)) → e.rec.requests ≡ qs → AreFrom ops m qs
    due_at e f least_r least_l [] q = tt
    due_at e f least_r least_l (x ∷ rest) q =
        let h = head_at ops t es heads are e.key e x rest f q in
        let up_r : IsUpto ops r.tag x.tags.r = subst (λ g. IsUpto ops r.tag g.r) h.of.tags (reservation_upto e.key h.head h.here) in
        let up_l : AtMost ops l.tag x.tags.l = subst (λ g. AtMost ops l.tag g.l) h.of.tags (limit_upto e.key h.head h.here) in
        (earlier_upto l.tag x.tags.l r.tag x.tags.r up_l up_r, behind rest (subst (FirstIsLeast ops (λ g. g.r)) q least_r) (subst (FirstIsLeast ops (λ g. Some g.l)) q least_l) up_r up_l) where
          behind : (rest : List (QueuedRequest T)) → AllByRecursion (λ y. IsUpto ops x.tags.r y.tags.r) rest → AllByRecursion (λ y. AtMost ops x.tags.l y.tags.l) rest → IsUpto ops r.tag x.tags.r → AtMost ops l.tag x.tags.l → AreFrom ops m rest
          behind [] h k up_r up_l = tt
          behind (y ∷ rest) h k up_r up_l = (
            earlier_upto l.tag y.tags.l r.tag y.tags.r (upto order l.tag x.tags.l y.tags.l up_l k.0) (upto (absent_total order) r.tag x.tags.r y.tags.r up_r h.0),
            behind rest h.1 k.1 up_r up_l,
          )

    all_due : AreFrom ops m (queued_requests (clients_in es))
    all_due =
        let least_r = all_are ops order t es heads (λ rec. FirstIsLeast ops (λ g. g.r) rec.requests) (reservation_first ops) es records in
        let least_l = all_are ops order t es heads (λ rec. FirstIsLeast ops (λ g. Some g.l) rec.requests) (limit_first ops) es records in
        all_queued _ (clients_in es) (all_mapped _ _ (λ e. client_of e.id e.rec) (λ e h. h) es
        (all_found (λ e. AreFrom ops m e.rec.requests) es d
        (λ e f. due_at e f (found_holds (λ e. FirstIsLeast ops (λ g. g.r) e.rec.requests) (λ y. y.key == e.key) es e least_r f) (found_holds (λ e. FirstIsLeast ops (λ g. Some g.l) e.rec.requests) (λ y. y.key == e.key) es e least_l f) e.rec.requests refl)))

    -- the first requests of the two heads have that R and that L
    greatest : (n : ℕ) → AreFrom ops n (queued_requests (clients_in es)) → n ≤ m
    greatest n h = earlier_both n (moment l.tag) r.tag at_l at_r where
      each : AllByRecursion (λ e. AreFrom ops n e.rec.requests) es
      each = of_queued _ es h

      at_l : n ≤ moment l.tag
      at_l =
          let u = head_under limit_rank heads kl l first_l.here in
          let x = entry_at ops t es heads are kl u.head u.here in
          let tag : x.request.tags.l ≡ l.tag = sym (ap (λ g. g.l) x.of.tags) ∙ ap (λ g. g.tag) u.ranked in
          let own = (subst (AreFrom ops n) x.requests (found_holds (λ e. AreFrom ops n e.rec.requests) (λ e. e.key == kl) es x.entry each x.found)).0 in
          subst (λ g. n ≤ moment g) tag (omega (arith, own, earlier_left (moment x.request.tags.l) x.request.tags.r))

      at_r : (tag : T) → r.tag ≡ Some tag → n ≤ moment tag
      at_r tag e =
          let u = head_under tag_rank heads kr r first_r.here in
          let x = entry_at ops t es heads are kr u.head u.here in
          let same : x.request.tags.r ≡ Some tag = sym (ap (λ g. g.r) x.of.tags) ∙ ap (λ g. g.tag) u.ranked ∙ e in
          let own = (subst (AreFrom ops n) x.requests (found_holds (λ e. AreFrom ops n e.rec.requests) (λ e. e.key == kr) es x.entry each x.found)).0 in
          early (moment x.request.tags.l) (subst (λ o. n ≤ earlier (moment x.request.tags.l) (option_map moment o)) same own) where
            early : (a : ℕ) → n ≤ min a (moment tag) → n ≤ moment tag
            early a h = omega arith

    -- what the indexes say is what the rules name
    pub next_due : (first : QueuedRequest T) (rest : List (QueuedRequest T)) → queued_requests (clients_in es) ≡ first ∷ rest → m ≡ least_due ops first rest
    next_due first rest whole = least_is ops m first rest (subst (AreFrom ops m) whole all_due) (λ n h. greatest n (subst (AreFrom ops n) (sym whole) h))

-- if nothing is free no head is marked
pub all_unmarked : {T : Type 0} (ops : Tagging T) (t : ℕ) (es : List (Entry T)) (heads : List (Option (Head T))) → AreHeads ops t es heads → HasNone (is_free ops t) (queued_requests (clients_in es)) → (k : ℕ) (head : Head T) → slot_of_key heads k ≡ Some head → head.ready ≡ false
all_unmarked ops t es heads are none k head here = at head.ready refl where
  at : (b : Bool) → head.ready ≡ b → head.ready ≡ false
  at false e = e
  at true e =
      let x = entry_at ops t es heads are k head here in
      let due : is_free ops t x.request ≡ true = subst (λ g. is_due ops t (Some g.l) ≡ true) x.of.tags (are.marks k head here e) in
      let own = found_holds (λ e. HasNone (is_free ops t) e.rec.requests) (λ e. e.key == k) es x.entry (of_queued _ es none) x.found in
      absurd (true_not_false _ due (subst (HasNone (is_free ops t)) x.requests own).0)

pub not_nothing : {X : Type 0} {P : Type 0} (xs : List X) (first : X) (rest : List X) → xs ≡ [] → xs ≡ first ∷ rest → P
not_nothing xs first rest e f = cc
