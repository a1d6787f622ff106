-- An amount off each P.
use Rattle.std.proofs.Common.{◌≡◌, ℕ, List, [], ◌∷◌, map, Option, Some, None, refl, sym, ap, ◌∙◌, subst, true, false, is_some, IsSomeAnd}
use Rattle.std.specs.Option.{option_map, MatchOption, IfSome, unwrap_or}
use Rattle.std.specs.declared.cmp.Ordering.TheVariants.{Less}
use Rattle.std.specs.Ordering.{is_gt, ordering_then, bool_cmp}
use Rattle.std.proofs.lemmas.List.{length-map}
use Rattle.dmc_tag.specs.Tag.{Tagging}
use Rattle.dmc_tag.specs.Rules.{less, has_less}
use Rattle.dmc_tag.specs.Rank.{ready_rank_cmp, client_cmp}
use Rattle.dmc_tag.specs.declared.rank.TagRank.{TagRank}
use Rattle.dmc_tag.specs.declared.rank.LimitRank.{LimitRank}
use Rattle.dmc_tag.specs.declared.rank.ReadyRank.{ReadyRank}
use Rattle.dmc_index.specs.Index.{slot_of_key, IsMapped}
use Rattle.dmc_head_index.specs.declared.head.Head.{Head}
use Rattle.dmc_head_index.specs.Heads.{tag_rank, limit_rank, ready_rank, Ranks, head_from, heads_from, AreApart, IsLeastShare, IsSound, CanShift, shifted}
use Rattle.dmc_head_index.specs.internal.Heads.{less_rank}
use Rattle.dmc_head_index.proofs.Slots.{some_if_mapped, same_slots, slot_of_key-map}

-- an amount off each of two tags keeps their order
abbrev pub SubtractionKeeps : {T : Type 0} → Tagging T → Type 0
SubtractionKeeps {T} ops = (a b amount x y : T) → ops.minus a amount ≡ Some x → ops.minus b amount ≡ Some y → ops.compare x y ≡ ops.compare a b

module _ {T : Type 0} (ops : Tagging T) (keeps : SubtractionKeeps ops) (amount : T) where
  less_value : (a : T) (o : Option T) → ops.minus a amount ≡ o → is_some o ≡ true → ops.minus a amount ≡ Some (less ops amount a)
  less_value a None e h = cc
  less_value a (Some x) e h = e ∙ ap Some (sym (ap (λ o. unwrap_or o a) e))

  compare_less : (a b : T) → has_less ops amount a ≡ true → has_less ops amount b ≡ true → ops.compare (less ops amount a) (less ops amount b) ≡ ops.compare a b
  compare_less a b h k =
      keeps a b amount (less ops amount a) (less ops amount b) (less_value a _ refl h) (less_value b _ refl k)

  module _ (heads : List (Option (Head T))) (can : CanShift ops amount heads) where
    -- the order of the ready index is kept
    pub keeps_order : (ready : List (Option (ReadyRank T))) → Ranks ready_rank heads ready → (a b : ℕ) (r s : ReadyRank T) → slot_of_key ready a ≡ Some r → slot_of_key ready b ≡ Some s → ready_rank_cmp ops.compare r s ≡ Less → ready_rank_cmp ops.compare (less_rank ops amount r) (less_rank ops amount s) ≡ Less
    keeps_order ready ranks a b r s p q l =
        let x = some_if_mapped ready_rank (slot_of_key heads a) r (sym (ranks a) ∙ p) in
        let y = some_if_mapped ready_rank (slot_of_key heads b) s (sym (ranks b) ∙ q) in
        let has_r = ap (λ (z : ReadyRank T). has_less ops amount z.tag) (sym x.2) ∙ can a x.0 x.1 in
        let has_s = ap (λ (z : ReadyRank T). has_less ops amount z.tag) (sym y.2) ∙ can b y.0 y.1 in
        ap (λ c. ordering_then (bool_cmp s.ready r.ready) (ordering_then c (client_cmp r.client s.client))) (compare_less r.tag s.tag has_r has_s) ∙ l

    shifted_least : (p : T) → IsLeastShare ops heads p → IsLeastShare ops (map (option_map (shifted ops amount)) heads) (less ops amount p)
    shifted_least p was = record {
      key = was.key;
      head = shifted ops amount was.head;
      here = slot_of_key-map (shifted ops amount) heads was.key ∙ ap (option_map (shifted ops amount)) was.here;
      share = ap (less ops amount) was.share;
      below = λ k other q.
          let x = some_if_mapped (shifted ops amount) (slot_of_key heads k) other (sym (slot_of_key-map (shifted ops amount) heads k) ∙ q) in
          let has_p = ap (has_less ops amount) (sym was.share) ∙ can was.key was.head was.here in
          let same = compare_less p x.0.tags.p has_p (can k x.0 x.1) in
          subst (λ (h : Head T). is_gt (ops.compare (less ops amount p) h.tags.p) ≡ false) x.2 (ap is_gt same ∙ was.below k x.0 x.1);
    }

    pub shifted_is : (least : Option T) → IfSome least (IsLeastShare ops heads) → IfSome (option_map (less ops amount) least) (IsLeastShare ops (map (option_map (shifted ops amount)) heads))
    shifted_is None was = tt
    shifted_is (Some p) was = shifted_least p was

  -- what the index holds after
  pub mapped_slots : (gives : ReadyRank T → ReadyRank T → Type 0) → ((r x : ReadyRank T) → gives r x → x ≡ less_rank ops amount r) → (old new : List (Option (ReadyRank T))) → IsMapped gives old new → new ≡ map (option_map (less_rank ops amount)) old
  mapped_slots gives is old new h =
      same_slots new (map (option_map (less_rank ops amount)) old) (h.room ∙ sym (length-map old (option_map (less_rank ops amount)))) (λ key. at (slot_of_key old key) (slot_of_key new key) (h.ranks key) ∙ sym (slot_of_key-map (less_rank ops amount) old key)) where
        at : (o n : Option (ReadyRank T)) → MatchOption o (n ≡ None) (λ rank. IsSomeAnd n (gives rank)) → n ≡ option_map (less_rank ops amount) o
        at None n e = e
        at (Some r) None e = absurd e
        at (Some r) (Some x) e = ap Some (is r x e)

  head_shifted : (a : Option (TagRank T)) (b : Option (LimitRank T)) (c : Option (ReadyRank T)) → head_from a b (option_map (less_rank ops amount) c) ≡ option_map (shifted ops amount) (head_from a b c)
  head_shifted None b c = refl
  head_shifted (Some a) None c = refl
  head_shifted (Some a) (Some b) None = refl
  head_shifted (Some a) (Some b) (Some c) = refl

  pub heads_shifted : (reservation : List (Option (TagRank T))) (limits : List (Option (LimitRank T))) (ready : List (Option (ReadyRank T))) → heads_from reservation limits (map (option_map (less_rank ops amount)) ready) ≡ map (option_map (shifted ops amount)) (heads_from reservation limits ready)
  heads_shifted [] limits ready = refl
  heads_shifted (a ∷ reservation) [] ready = refl
  heads_shifted (a ∷ reservation) (b ∷ limits) [] = refl
  heads_shifted (a ∷ reservation) (b ∷ limits) (c ∷ ready) =
      ap (λ h. h ∷ heads_from reservation limits (map (option_map (less_rank ops amount)) ready)) (head_shifted a b c) ∙ ap (λ hs. option_map (shifted ops amount) (head_from a b c) ∷ hs) (heads_shifted reservation limits ready)

  same_rank : {R : Type 0} (rank : Head T → R) → ((h : Head T) → rank (shifted ops amount h) ≡ rank h) → (heads : List (Option (Head T))) (slots : List (Option R)) → Ranks rank heads slots → Ranks rank (map (option_map (shifted ops amount)) heads) slots
  same_rank rank same heads slots ranks key =
      ranks key ∙ at (slot_of_key heads key) ∙ ap (option_map rank) (sym (slot_of_key-map (shifted ops amount) heads key)) where
        at : (o : Option (Head T)) → option_map rank o ≡ option_map rank (option_map (shifted ops amount) o)
        at None = refl
        at (Some h) = ap Some (sym (same h))

  less_ranks : (heads : List (Option (Head T))) (ready : List (Option (ReadyRank T))) → Ranks ready_rank heads ready → Ranks ready_rank (map (option_map (shifted ops amount)) heads) (map (option_map (less_rank ops amount)) ready)
  less_ranks heads ready ranks key =
      slot_of_key-map (less_rank ops amount) ready key ∙ ap (option_map (less_rank ops amount)) (ranks key) ∙ at (slot_of_key heads key) ∙ ap (option_map ready_rank) (sym (slot_of_key-map (shifted ops amount) heads key)) where
        at : (o : Option (Head T)) → option_map (less_rank ops amount) (option_map ready_rank o) ≡ option_map ready_rank (option_map (shifted ops amount) o)
        at None = refl
        at (Some h) = refl

  still_apart : (heads : List (Option (Head T))) → AreApart heads → AreApart (map (option_map (shifted ops amount)) heads)
  still_apart heads apart key h q k other ne q' =
      let x = some_if_mapped (shifted ops amount) (slot_of_key heads key) h (sym (slot_of_key-map (shifted ops amount) heads key) ∙ q) in
      let y = some_if_mapped (shifted ops amount) (slot_of_key heads k) other (sym (slot_of_key-map (shifted ops amount) heads k) ∙ q') in
      let was = apart key x.0 x.1 k y.0 ne y.1 in
      cc (was, ap (λ (z : Head T). z.client) x.2, ap (λ (z : Head T). z.client) y.2)

  pub shifted_sound : (reservation : List (Option (TagRank T))) (limits : List (Option (LimitRank T))) (ready : List (Option (ReadyRank T))) (least : Option T) (room : ℕ) → IsSound ops reservation limits ready least room → CanShift ops amount (heads_from reservation limits ready) → IsSound ops reservation limits (map (option_map (less_rank ops amount)) ready) (option_map (less ops amount) least) room
  shifted_sound reservation limits ready least room sound can =
      let heads = heads_from reservation limits ready in
      let same = sym (heads_shifted reservation limits ready) in
      record {
        reservation_is = subst (λ hs. Ranks tag_rank hs reservation) same (same_rank tag_rank (λ h. refl) heads reservation sound.reservation_is);
        limit_is = subst (λ hs. Ranks limit_rank hs limits) same (same_rank limit_rank (λ h. refl) heads limits sound.limit_is);
        weight_is = subst (λ hs. Ranks ready_rank hs (map (option_map (less_rank ops amount)) ready)) same (less_ranks heads ready sound.weight_is);
        apart = subst AreApart same (still_apart heads sound.apart);
        least_is = subst (λ hs. IfSome (option_map (less ops amount) least) (IsLeastShare ops hs)) same (shifted_is heads can least sound.least_is);
        room_is = length-map ready (option_map (less_rank ops amount)) ∙ sound.room_is;
      }
