-- What the least of each index says of a pull.
use Rattle.std.proofs.Common.{◌≡◌, ℕ, Bool, true, false, List, [], ◌∷◌, Option, Some, None, refl, sym, ap, ◌∙◌, subst, ⊎_elim}
use Rattle.std.specs.Option.{option_map}
use Rattle.std.specs.List.{AllByRecursion}
use Rattle.std.specs.declared.cmp.Ordering.{Ordering}
use Rattle.std.specs.declared.cmp.Ordering.TheVariants.{Less}
use Rattle.std.specs.Cmp.{IsTotalOrder}
use Rattle.std.proofs.lemmas.Bool.{cases_eq}
use Rattle.std.proofs.lemmas.Option.{none-some}
use Rattle.dmc_types.specs.declared.ids.ClientId.{ClientId}
use Rattle.dmc_tag.specs.Tag.{Tagging}
use Rattle.dmc_tag.specs.State.{queued_requests}
use Rattle.dmc_tag.specs.Best.{is_due, is_early, is_free, HasNone}
use Rattle.dmc_tag.specs.Rank.{tag_rank_cmp, ready_rank_cmp}
use Rattle.dmc_tag.specs.declared.rank.TagRank.{TagRank}
use Rattle.dmc_tag.specs.declared.rank.ReadyRank.{ReadyRank}
use Rattle.dmc_client.specs.Record.{Rec, IsRecord}
use Rattle.dmc_roster.specs.Entries.{Entry, AreDistinct}
use Rattle.dmc_index.specs.Index.{slot_of_key, IsEmpty}
use Rattle.dmc_head_index.specs.declared.head.Head.{Head}
use Rattle.dmc_head_index.specs.Heads.{IsFirst, tag_rank, ready_rank}
use Rattle.dmc_pull.specs.Represented.{clients_in}
use Rattle.dmc_pull.specs.Queue.{AreHeads}
use Rattle.dmc_pull.proofs.Common.Parts.{true_not_false}
use Rattle.dmc_pull.proofs.Common.Ordered.{due_members, reservation_first, limit_first, share_first, any_members, FirstIsLeast, FirstIsMember}
use Rattle.dmc_pull.proofs.Pull.Choices.{IsChosen, chosen, none_chosen}
pub use Rattle.dmc_lemmas.proofs.Orderings.{then_less}
use Rattle.dmc_tag.proofs.Upto.{IsUpto, due_before}

-- ---- the head under a key

pub record HeadUnder {T R : Type 0} (rank : Head T → R) (heads : List (Option (Head T))) (key : ℕ) (r : R) : Type 0 where
  pub head : Head T
  pub here : slot_of_key heads key ≡ Some head
  pub ranked : rank head ≡ r

pub head_under : {T R : Type 0} (rank : Head T → R) (heads : List (Option (Head T))) (key : ℕ) (r : R) → option_map rank (slot_of_key heads key) ≡ Some r → HeadUnder rank heads key r
head_under {T} rank heads key r e = at (slot_of_key heads key) refl e where
  at : (o : Option (Head T)) → slot_of_key heads key ≡ o → option_map rank o ≡ Some r → HeadUnder rank heads key r
  at None h e = cc
  at (Some head) h e = record { head = head; here = h; ranked = cc (e) }

pub same_some : {X : Type 0} {o : Option X} {x y : X} → o ≡ Some x → o ≡ Some y → x ≡ y
same_some p q = cc

-- what holds of the first of an order and of what is behind it holds of each head
pub all_heads : {T R : Type 0} (rank : Head T → R) (compare : R → R → Ordering) (heads : List (Option (Head T))) (key : ℕ) (least : R) → IsFirst rank compare heads key least → (P : Head T → Type 0) → ((head : Head T) → rank head ≡ least → P head) → ((k : ℕ) (head : Head T) → slot_of_key heads k ≡ Some head → compare least (rank head) ≡ Less → P head)
    → (k : ℕ) (head : Head T) → slot_of_key heads k ≡ Some head → P head
all_heads rank compare heads key least f P own behind k head here = ⊎_elim
    (λ e. let h = head_under rank heads key least f.here in own head (ap rank (same_some here (ap (slot_of_key heads) e ∙ h.here)) ∙ h.ranked))
    (λ ne. behind k head here (f.below k head ne here)) (cases_eq k key)

module _ {T : Type 0} (ops : Tagging T) (order : IsTotalOrder ops.compare) (t : ℕ) (es : List (Entry T)) (heads : List (Option (Head T))) where
  pub all_are : (P : Rec T → Type 0) → ((rec : Rec T) → IsRecord ops rec → P rec) → (xs : List (Entry T)) → AllByRecursion (λ e. IsRecord ops e.rec) xs → AllByRecursion (λ e. P e.rec) xs
  all_are P k [] h = tt
  all_are P k (x ∷ xs) h = (k x.rec h.0, all_are P k xs h.1)

  -- ---- by R: the constraint phase

  module _ (t0 : ℕ) (are : AreHeads ops t0 es heads) (d : AreDistinct es) (records : AllByRecursion (λ e. IsRecord ops e.rec) es) where
    reservations : AllByRecursion (λ e. FirstIsLeast ops (λ g. g.r) e.rec.requests) es
    reservations = all_are (λ rec. FirstIsLeast ops (λ g. g.r) rec.requests) (reservation_first ops) es records

    early_members : AllByRecursion (λ e. FirstIsMember (λ g. is_due ops t g.r) e.rec.requests) es
    early_members = all_are (λ rec. FirstIsMember (λ g. is_due ops t g.r) rec.requests) (λ rec is. due_members ops order t (λ g. g.r) rec.requests (reservation_first ops rec is)) es records

    pub early_chosen : (key : ℕ) (rank : TagRank T) → IsFirst tag_rank (tag_rank_cmp ops.compare) heads key rank → is_due ops t rank.tag ≡ true → IsChosen ops (λ g. g.r) (λ g. is_due ops t g.r) es key rank.client
    early_chosen key rank f due =
        let h = head_under tag_rank heads key rank f.here in
        subst (IsChosen ops (λ g. g.r) (λ g. is_due ops t g.r) es key) (ap (λ r. r.client) h.ranked) (chosen ops t0 es heads are order d (λ g. g.r) (λ g. is_due ops t g.r) reservations early_members key h.head h.here (subst (λ r. is_due ops t r.tag ≡ true) (sym h.ranked) due)
        (λ k other ne here m. subst (λ r. tag_rank_cmp ops.compare r (tag_rank other) ≡ Less) (sym h.ranked) (f.below k other ne here)))

    none_due_at : (key : ℕ) (rank : TagRank T) → IsFirst tag_rank (tag_rank_cmp ops.compare) heads key rank → is_due ops t rank.tag ≡ false → (k : ℕ) (head : Head T) → slot_of_key heads k ≡ Some head → is_due ops t head.tags.r ≡ false
    none_due_at key rank f late =
        all_heads tag_rank (tag_rank_cmp ops.compare) heads key rank f (λ head. is_due ops t head.tags.r ≡ false)
        (λ head is. ap (λ x. is_due ops t x.tag) is ∙ late)
        (λ k head here less. at head (is_due ops t head.tags.r) refl (then_less _ _ less)) where
          at : (head : Head T) (b : Bool) → is_due ops t head.tags.r ≡ b → IsUpto ops rank.tag head.tags.r → is_due ops t head.tags.r ≡ false
          at head true e upto = absurd (true_not_false (is_due ops t rank.tag) (due_before ops order t rank.tag head.tags.r upto e) late)
          at head false e upto = e

    pub early_none : (key : ℕ) (rank : TagRank T) → IsFirst tag_rank (tag_rank_cmp ops.compare) heads key rank → is_due ops t rank.tag ≡ false → HasNone (is_early ops t) (queued_requests (clients_in es))
    early_none key rank f late = none_chosen ops t0 es heads are order d (λ g. g.r) (λ g. is_due ops t g.r) reservations early_members (none_due_at key rank f late)

    pub early_empty : IsEmpty heads → HasNone (is_early ops t) (queued_requests (clients_in es))
    early_empty none = none_chosen ops t0 es heads are order d (λ g. g.r) (λ g. is_due ops t g.r) reservations early_members (λ k head here. absurd (none-some _ (sym (none k) ∙ here)))

  -- ---- by P: the weight phase, if each head is marked that is free

  module _ (are : AreHeads ops t es heads) (marked : (k : ℕ) (head : Head T) → slot_of_key heads k ≡ Some head → head.ready ≡ false → is_due ops t (Some head.tags.l) ≡ false) (d : AreDistinct es) (records : AllByRecursion (λ e. IsRecord ops e.rec) es) where
    shares : AllByRecursion (λ e. FirstIsLeast ops (λ g. Some g.p) e.rec.requests) es
    shares = all_are (λ rec. FirstIsLeast ops (λ g. Some g.p) rec.requests) (share_first ops) es records

    limits : AllByRecursion (λ e. FirstIsLeast ops (λ g. Some g.l) e.rec.requests) es
    limits = all_are (λ rec. FirstIsLeast ops (λ g. Some g.l) rec.requests) (limit_first ops) es records

    free_members : AllByRecursion (λ e. FirstIsMember (λ g. is_due ops t (Some g.l)) e.rec.requests) es
    free_members = all_are (λ rec. FirstIsMember (λ g. is_due ops t (Some g.l)) rec.requests) (λ rec is. due_members ops order t (λ g. Some g.l) rec.requests (limit_first ops rec is)) es records

    ready_of : (k : ℕ) (head : Head T) → slot_of_key heads k ≡ Some head → is_due ops t (Some head.tags.l) ≡ true → head.ready ≡ true
    ready_of k head here due = at head.ready refl where
      at : (b : Bool) → head.ready ≡ b → head.ready ≡ true
      at true e = e
      at false e = absurd (true_not_false (is_due ops t (Some head.tags.l)) due (marked k head here e))

    -- of two heads with one mark the order is that of P and client
    same_mark : (a b : Bool) (p q : T) (c e : ClientId) → a ≡ b → ready_rank_cmp ops.compare (record { ready = a; tag = p; client = c }) (record { ready = b; tag = q; client = e }) ≡ Less → tag_rank_cmp ops.compare (record { tag = Some p; client = c }) (record { tag = Some q; client = e }) ≡ Less
    same_mark true true p q c e s h = h
    same_mark false false p q c e s h = h
    same_mark true false p q c e s h = cc
    same_mark false true p q c e s h = cc

    pub free_chosen : (key : ℕ) (rank : ReadyRank T) → IsFirst ready_rank (ready_rank_cmp ops.compare) heads key rank → rank.ready ≡ true → IsChosen ops (λ g. Some g.p) (λ g. is_due ops t (Some g.l)) es key rank.client
    free_chosen key rank f ready =
        let h = head_under ready_rank heads key rank f.here in
        let is_ready : h.head.ready ≡ true = ap (λ r. r.ready) h.ranked ∙ ready in
        subst (IsChosen ops (λ g. Some g.p) (λ g. is_due ops t (Some g.l)) es key) (ap (λ r. r.client) h.ranked) (chosen ops t es heads are order d (λ g. Some g.p) (λ g. is_due ops t (Some g.l)) shares free_members key h.head h.here (are.marks key h.head h.here is_ready)
        (λ k other ne here m. same_mark h.head.ready other.ready h.head.tags.p other.tags.p h.head.client other.client (is_ready ∙ sym (ready_of k other here m)) (subst (λ r. ready_rank_cmp ops.compare r (ready_rank other) ≡ Less) (sym h.ranked) (f.below k other ne here))))

    -- with the first unready all are
    unready_first : (b : Bool) (p q : T) (c e : ClientId) → ready_rank_cmp ops.compare (record { ready = false; tag = p; client = c }) (record { ready = b; tag = q; client = e }) ≡ Less → b ≡ false
    unready_first true p q c e h = cc
    unready_first false p q c e h = refl

    all_unready : (key : ℕ) (rank : ReadyRank T) → IsFirst ready_rank (ready_rank_cmp ops.compare) heads key rank → rank.ready ≡ false → (k : ℕ) (head : Head T) → slot_of_key heads k ≡ Some head → head.ready ≡ false
    all_unready key rank f unready =
        all_heads ready_rank (ready_rank_cmp ops.compare) heads key rank f (λ head. head.ready ≡ false) (λ head is. ap (λ r. r.ready) is ∙ unready)
        (λ k head here less. unready_first head.ready rank.tag head.tags.p rank.client head.client (subst (λ b. ready_rank_cmp ops.compare (record { ready = b; tag = rank.tag; client = rank.client }) (ready_rank head) ≡ Less) unready less))

    pub free_none : (key : ℕ) (rank : ReadyRank T) → IsFirst ready_rank (ready_rank_cmp ops.compare) heads key rank → rank.ready ≡ false → HasNone (is_free ops t) (queued_requests (clients_in es))
    free_none key rank f unready = none_chosen ops t es heads are order d (λ g. Some g.p) (λ g. is_due ops t (Some g.l)) shares free_members (λ k head here. marked k head here (all_unready key rank f unready k head here))

    pub any_chosen : (key : ℕ) (rank : ReadyRank T) → IsFirst ready_rank (ready_rank_cmp ops.compare) heads key rank → rank.ready ≡ false → IsChosen ops (λ g. Some g.p) (λ g. true) es key rank.client
    any_chosen key rank f unready =
        let h = head_under ready_rank heads key rank f.here in
        subst (IsChosen ops (λ g. Some g.p) (λ g. true) es key) (ap (λ r. r.client) h.ranked) (chosen ops t es heads are order d (λ g. Some g.p) (λ g. true) shares (all_are (λ rec. FirstIsMember (λ g. true) rec.requests) (λ rec is. any_members rec.requests) es records) key h.head h.here refl
        (λ k other ne here m. same_mark h.head.ready other.ready h.head.tags.p other.tags.p h.head.client other.client (all_unready key rank f unready key h.head h.here ∙ sym (all_unready key rank f unready k other here)) (subst (λ r. ready_rank_cmp ops.compare r (ready_rank other) ≡ Less) (sym h.ranked) (f.below k other ne here))))
