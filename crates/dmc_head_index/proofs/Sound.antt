-- The three indexes stay those of one map through each call.
use Rattle.std.proofs.Common.{◌≡◌, ℕ, ◌<◌, List, Option, Some, None, length, set, refl, sym, ap, ◌∙◌, subst, Bool, true, is_some, count_by, arith, ◌==◌, eqb-true}
use Rattle.std.specs.Option.{option_map, IfSome}
use Rattle.std.specs.Cmp.{IsTotalOrder}
use Rattle.std.proofs.lemmas.List.{length-set}
use Rattle.dmc_tag.specs.Tag.{Tagging}
use Rattle.dmc_tag.specs.declared.rank.TagRank.{TagRank}
use Rattle.dmc_tag.specs.declared.rank.LimitRank.{LimitRank}
use Rattle.dmc_tag.specs.declared.rank.ReadyRank.{ReadyRank}
use Rattle.dmc_index.specs.Index.{slot_of_key, IsEmpty}
use Rattle.dmc_head_index.specs.declared.head.Head.{Head}
use Rattle.dmc_head_index.specs.Heads.{tag_rank, limit_rank, ready_rank, Ranks, heads_from, IsOthers, AreApart, IsLeastShare, IsSound}
use Rattle.dmc_head_index.specs.internal.Marks.{with_ready}
use Rattle.dmc_head_index.specs.internal.Least.{least_with, least_without, least_after}
use Rattle.dmc_head_index.proofs.Slots.{none_if_count_zero, set-slot_of_key}
use Rattle.dmc_head_index.proofs.HeadsFrom.{head_from_ranks, heads_from-set, length-heads_from, ranks_set}
use Rattle.dmc_head_index.proofs.Clients.{apart_set, is_empty, rank_held}
use Rattle.dmc_head_index.proofs.Least.{with_is, without_is, after_is, unmoved_is}

module _ {T : Type 0} (reservation : List (Option (TagRank T))) (limits : List (Option (LimitRank T))) (ready : List (Option (ReadyRank T))) where
  pub room_of : (key : ℕ) → key < length (heads_from reservation limits ready) → (key < length reservation) × (key < length limits) × (key < length ready)
  room_of key l =
      let size = length-heads_from reservation limits ready in (omega (arith, size.0), omega (arith, size.1), omega (arith, size.2))

  -- a head written in all three
  pub heads_set : (key : ℕ) (o : Option (Head T)) → heads_from (set reservation key (option_map tag_rank o)) (set limits key (option_map limit_rank o)) (set ready key (option_map ready_rank o)) ≡ set (heads_from reservation limits ready) key o
  heads_set key o =
      heads_from-set reservation limits ready key (option_map tag_rank o) (option_map limit_rank o) (option_map ready_rank o) ∙ ap (set (heads_from reservation limits ready) key) (head_from_ranks o)

-- the same indexes and the same least, by other names
module _ {T : Type 0} {reservation reservation' : List (Option (TagRank T))} {limits limits' : List (Option (LimitRank T))} {ready ready' : List (Option (ReadyRank T))} (e : reservation' ≡ reservation) (l : limits' ≡ limits) (r : ready' ≡ ready) where
  pub same_heads_from : heads_from reservation' limits' ready' ≡ heads_from reservation limits ready
  same_heads_from = cc

  pub same_sound : (ops : Tagging T) (room : ℕ) {least least' : Option T} → least' ≡ least → IsSound ops reservation limits ready least room → IsSound ops reservation' limits' ready' least' room
  same_sound ops room n sound = rw (e, l, r, n) sound

module _ {T : Type 0} (ops : Tagging T) (reservation : List (Option (TagRank T))) (limits : List (Option (LimitRank T))) (ready : List (Option (ReadyRank T))) (least : Option T) (room : ℕ) (sound : IsSound ops reservation limits ready least room) where
  sound_set : (key : ℕ) (o : Option (Head T)) → key < length (heads_from reservation limits ready) → ((h : Head T) → o ≡ Some h → IsOthers (heads_from reservation limits ready) key h.client) → (least' : Option T) → IfSome least' (IsLeastShare ops (set (heads_from reservation limits ready) key o)) → IsSound ops (set reservation key (option_map tag_rank o)) (set limits key (option_map limit_rank o)) (set ready key (option_map ready_rank o)) least' room
  sound_set key o l others least' is =
      let heads = heads_from reservation limits ready in
      let size = length-heads_from reservation limits ready in
      let same = sym (heads_set reservation limits ready key o) in
      record {
        reservation_is = subst (λ hs. Ranks tag_rank hs (set reservation key (option_map tag_rank o))) same (ranks_set tag_rank heads reservation sound.reservation_is key o l size.0);
        limit_is = subst (λ hs. Ranks limit_rank hs (set limits key (option_map limit_rank o))) same (ranks_set limit_rank heads limits sound.limit_is key o l size.1);
        weight_is = subst (λ hs. Ranks ready_rank hs (set ready key (option_map ready_rank o))) same (ranks_set ready_rank heads ready sound.weight_is key o l size.2);
        apart = subst AreApart same (apart_set heads key o l sound.apart others);
        least_is = subst (λ hs. IfSome least' (IsLeastShare ops hs)) same is;
        room_is = length-set ready key (option_map ready_rank o) ∙ sound.room_is;
      }

  -- the head of this client
  own : (key : ℕ) (o : Option (Head T)) (h : Head T) → o ≡ Some h → IsOthers (heads_from reservation limits ready) key h.client → (h' : Head T) → o ≡ Some h' → IsOthers (heads_from reservation limits ready) key h'.client
  own key o h e others h' e' =
      let one' : Some h ≡ Some h' = sym e ∙ e' in
      let one : h ≡ h' = cc in
      subst (λ (x : Head T). IsOthers (heads_from reservation limits ready) key x.client) one others

  own_key : (key : ℕ) (old h : Head T) → slot_of_key (heads_from reservation limits ready) key ≡ Some old → old.client ≡ h.client → IsOthers (heads_from reservation limits ready) key h.client
  own_key key old h here e = subst (IsOthers (heads_from reservation limits ready) key) e (sound.apart key old here)

  -- all keys are vacant if an index holds none
  pub empty_if : (first : Bool) → first ≡ (count_by is_some ready == 0) → first ≡ true → IsEmpty (heads_from reservation limits ready)
  empty_if first e f =
      is_empty ready_rank (heads_from reservation limits ready) ready sound.weight_is (none_if_count_zero ready (eqb-true (count_by is_some ready) 0 (sym e ∙ f)))

  module _ (order : IsTotalOrder ops.compare) (key : ℕ) (l : key < length (heads_from reservation limits ready)) where
    pub inserted : (h : Head T) → slot_of_key (heads_from reservation limits ready) key ≡ None → IsOthers (heads_from reservation limits ready) key h.client → (first : Bool) → (first ≡ true → IsEmpty (heads_from reservation limits ready)) → IsSound ops (set reservation key (Some (tag_rank h))) (set limits key (Some (limit_rank h))) (set ready key (Some (ready_rank h))) (least_with ops first least h.tags.p) room
    inserted h vacant others first empty =
        sound_set key (Some h) l (own key (Some h) h refl others) (least_with ops first least h.tags.p) (with_is ops order (heads_from reservation limits ready) key (Some h) l vacant h refl first empty least sound.least_is)

    module _ (old : Head T) (here : slot_of_key (heads_from reservation limits ready) key ≡ Some old) where
      pub changed : (h : Head T) → old.client ≡ h.client → IsSound ops (set reservation key (Some (tag_rank h))) (set limits key (Some (limit_rank h))) (set ready key (Some (ready_rank h))) (least_after ops least old.tags.p h.tags.p) room
      changed h e =
          sound_set key (Some h) l (own key (Some h) h refl (own_key key old h here e)) (least_after ops least old.tags.p h.tags.p) (after_is ops order (heads_from reservation limits ready) key (Some h) l old here h refl least sound.least_is)

      pub removed : IsSound ops (set reservation key None) (set limits key None) (set ready key None) (least_without ops least old.tags.p) room
      removed =
          sound_set key None l (λ h e. cc) (least_without ops least old.tags.p) (without_is ops order (heads_from reservation limits ready) key None l old here refl least sound.least_is)

      -- the R of a head doesn't change with its mark
      early_stays : (b : Bool) → set reservation key (Some (tag_rank (with_ready b old))) ≡ reservation
      early_stays b =
          ap (set reservation key) (sym (rank_held tag_rank (heads_from reservation limits ready) reservation sound.reservation_is key old here)) ∙ set-slot_of_key reservation key

      pub marked_heads : (b : Bool) → heads_from reservation (set limits key (Some (limit_rank (with_ready b old)))) (set ready key (Some (ready_rank (with_ready b old)))) ≡ set (heads_from reservation limits ready) key (Some (with_ready b old))
      marked_heads b =
          ap (λ es. heads_from es (set limits key (Some (limit_rank (with_ready b old)))) (set ready key (Some (ready_rank (with_ready b old))))) (sym (early_stays b)) ∙ heads_set reservation limits ready key (Some (with_ready b old))

      pub marked_sound : (b : Bool) → IsSound ops reservation (set limits key (Some (limit_rank (with_ready b old)))) (set ready key (Some (ready_rank (with_ready b old)))) least room
      marked_sound b =
          let h = with_ready b old in
          subst (λ es. IsSound ops es (set limits key (Some (limit_rank h))) (set ready key (Some (ready_rank h))) least room) (early_stays b) (sound_set key (Some h) l (own key (Some h) h refl (own_key key old h here refl)) least (unmoved_is ops order (heads_from reservation limits ready) key (Some h) l old here h refl refl least sound.least_is))
