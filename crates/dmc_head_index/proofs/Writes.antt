-- A call that writes one head into the three indexes: what the calls in it need, and what they make.
use Rattle.std.proofs.Common.{◌≡◌, ℕ, ◌<◌, ◌==◌, Bool, List, Option, Some, None, IsSome, is_some, length, set, count_by, refl, sym, ap, ◌∙◌, subst}
use Rattle.std.specs.Option.{option_map}
use Rattle.std.specs.declared.cmp.Ordering.{Ordering}
use Rattle.std.specs.Cmp.{IsTotalOrder}
use Rattle.std.proofs.lemmas.Option.{same_Some}
use Rattle.dmc_tag.specs.Tag.{Tagging}
use Rattle.dmc_tag.specs.Rank.{tag_rank_cmp, limit_rank_cmp, ready_rank_cmp}
use Rattle.dmc_tag.specs.declared.rank.TagRank.{TagRank}
use Rattle.dmc_tag.specs.declared.rank.LimitRank.{LimitRank}
use Rattle.dmc_tag.specs.declared.rank.ReadyRank.{ReadyRank}
use Rattle.dmc_lemmas.proofs.Orderings.{then_equal}
use Rattle.dmc_index.specs.Index.{slot_of_key, IsApart, IsApartFromOthers}
use Rattle.dmc_head_index.specs.declared.head.Head.{Head}
use Rattle.dmc_head_index.specs.Heads.{tag_rank, limit_rank, ready_rank, Ranks, heads_from, IsOthers, AreApart, IsSound}
use Rattle.dmc_head_index.specs.internal.Marks.{with_ready}
use Rattle.dmc_head_index.specs.internal.Least.{least_with, least_without, least_after}
use Rattle.dmc_head_index.proofs.Slots.{some_of, some_if_mapped, is_some_mapped, within}
use Rattle.dmc_head_index.proofs.Clients.{rank_held, is_held, is_vacant, rank_read, rank_apart, apart_from_all}
use Rattle.dmc_head_index.proofs.Sound.{room_of, heads_set, same_heads_from, same_sound, empty_if, inserted, changed, removed, marked_heads, marked_sound}

module _ {T : Type 0} {ops : Tagging T} {reservation : List (Option (TagRank T))} {limits : List (Option (LimitRank T))} {ready : List (Option (ReadyRank T))} {least : Option T} {room : ℕ} {heads : List (Option (Head T))} (sound : IsSound ops reservation limits ready least room) (view : heads_from reservation limits ready ≡ heads) where
  -- ---- the three indexes hold the heads

  in_reservation : Ranks tag_rank heads reservation
  in_reservation = subst (λ hs. Ranks tag_rank hs reservation) view sound.reservation_is

  in_limit : Ranks limit_rank heads limits
  in_limit = subst (λ hs. Ranks limit_rank hs limits) view sound.limit_is

  in_weight : Ranks ready_rank heads ready
  in_weight = subst (λ hs. Ranks ready_rank hs ready) view sound.weight_is

  pub reservation_held : (key : ℕ) → IsSome (slot_of_key heads key) → IsSome (slot_of_key reservation key)
  reservation_held = is_held tag_rank heads reservation in_reservation

  pub limit_held : (key : ℕ) → IsSome (slot_of_key heads key) → IsSome (slot_of_key limits key)
  limit_held = is_held limit_rank heads limits in_limit

  pub weight_held : (key : ℕ) → IsSome (slot_of_key heads key) → IsSome (slot_of_key ready key)
  weight_held = is_held ready_rank heads ready in_weight

  pub reservation_room : (key : ℕ) → key < length heads → key < length reservation
  reservation_room key l =
      (room_of reservation limits ready key (subst (λ hs. key < length hs) (sym view) l)).0

  pub limit_room : (key : ℕ) → key < length heads → key < length limits
  limit_room key l =
      (room_of reservation limits ready key (subst (λ hs. key < length hs) (sym view) l)).1

  pub weight_room : (key : ℕ) → key < length heads → key < length ready
  weight_room key l =
      (room_of reservation limits ready key (subst (λ hs. key < length hs) (sym view) l)).2

  pub reservation_vacant : (key : ℕ) → slot_of_key heads key ≡ None → slot_of_key reservation key ≡ None
  reservation_vacant = is_vacant tag_rank heads reservation in_reservation

  pub limit_vacant : (key : ℕ) → slot_of_key heads key ≡ None → slot_of_key limits key ≡ None
  limit_vacant = is_vacant limit_rank heads limits in_limit

  pub weight_vacant : (key : ℕ) → slot_of_key heads key ≡ None → slot_of_key ready key ≡ None
  weight_vacant = is_vacant ready_rank heads ready in_weight

  -- ---- the rank of a client that no other key has is apart from the others

  module _ (compare : T → T → Ordering) (key : ℕ) (h : Head T) (others : IsOthers heads key h.client) where
    pub reservation_apart : {x : TagRank T} → x ≡ tag_rank h → IsApartFromOthers (tag_rank_cmp compare) reservation key x
    reservation_apart {x = x} e = rank_apart tag_rank heads reservation in_reservation (tag_rank_cmp compare) (λ r. r.client) (λ h. refl) (λ a b q. then_equal _ _ q) key h.client others x (ap (λ (r : TagRank T). r.client) e)

    pub limit_apart : {x : LimitRank T} → x ≡ limit_rank h → IsApartFromOthers (limit_rank_cmp compare) limits key x
    limit_apart {x = x} e = rank_apart limit_rank heads limits in_limit (limit_rank_cmp compare) (λ r. r.client) (λ h. refl) (λ a b q. then_equal _ _ (then_equal _ _ q)) key h.client others x (ap (λ (r : LimitRank T). r.client) e)

    pub weight_apart : {x : ReadyRank T} → x ≡ ready_rank h → IsApartFromOthers (ready_rank_cmp compare) ready key x
    weight_apart {x = x} e = rank_apart ready_rank heads ready in_weight (ready_rank_cmp compare) (λ r. r.client) (λ h. refl) (λ a b q. then_equal _ _ (then_equal _ _ q)) key h.client others x (ap (λ (r : ReadyRank T). r.client) e)

    -- if the key is vacant, it is apart from all
    module _ (vacant : slot_of_key heads key ≡ None) where
      pub reservation_new : {x : TagRank T} → x ≡ tag_rank h → IsApart (tag_rank_cmp compare) reservation x
      reservation_new {x = x} e = apart_from_all (tag_rank_cmp compare) reservation key x (reservation_vacant key vacant) (reservation_apart e)

      pub limit_new : {x : LimitRank T} → x ≡ limit_rank h → IsApart (limit_rank_cmp compare) limits x
      limit_new {x = x} e = apart_from_all (limit_rank_cmp compare) limits key x (limit_vacant key vacant) (limit_apart e)

      pub weight_new : {x : ReadyRank T} → x ≡ ready_rank h → IsApart (ready_rank_cmp compare) ready x
      weight_new {x = x} e = apart_from_all (ready_rank_cmp compare) ready key x (weight_vacant key vacant) (weight_apart e)

  -- ---- a head of the same client

  module _ (key : ℕ) (h : Head T) (here : option_map (λ (h : Head T). h.client) (slot_of_key heads key) ≡ Some h.client) where
    pub is_there : IsSome (slot_of_key heads key)
    is_there = sym (is_some_mapped (λ (h : Head T). h.client) (slot_of_key heads key)) ∙ ap is_some here

    pub still_others : IsOthers heads key h.client
    still_others =
        let old = some_if_mapped (λ (h : Head T). h.client) (slot_of_key heads key) h.client here in
        subst (IsOthers heads key) old.2 (subst AreApart view sound.apart key old.0 old.1)

  -- ---- what is made

  module _ {reservation' : List (Option (TagRank T))} {limits' : List (Option (LimitRank T))} {ready' : List (Option (ReadyRank T))} (key : ℕ) (h : Head T) {a : TagRank T} {b : LimitRank T} {d : ReadyRank T} (a_is : a ≡ tag_rank h) (b_is : b ≡ limit_rank h) (d_is : d ≡ ready_rank h) (e : reservation' ≡ set reservation key (Some a)) (l : limits' ≡ set limits key (Some b)) (r : ready' ≡ set ready key (Some d)) where
    reservation_set : reservation' ≡ set reservation key (Some (tag_rank h))
    reservation_set = cc

    limits_set : limits' ≡ set limits key (Some (limit_rank h))
    limits_set = cc

    ready_set : ready' ≡ set ready key (Some (ready_rank h))
    ready_set = cc

    pub heads_written : heads_from reservation' limits' ready' ≡ set heads key (Some h)
    heads_written =
        same_heads_from reservation_set limits_set ready_set ∙ heads_set reservation limits ready key (Some h) ∙ ap (λ hs. set hs key (Some h)) view

    pub inserted_sound : IsTotalOrder ops.compare → key < length heads → slot_of_key heads key ≡ None → IsOthers heads key h.client → {first : Bool} → first ≡ (count_by is_some ready == 0) → {least' : Option T} → least' ≡ least_with ops first least h.tags.p → IsSound ops reservation' limits' ready' least' room
    inserted_sound order l vacant others {first = first} count n =
        let was = heads_from reservation limits ready in
        let in_room : key < length was = subst (λ hs. key < length hs) (sym view) l in
        let vacant' : slot_of_key was key ≡ None = subst (λ hs. slot_of_key hs key ≡ None) (sym view) vacant in
        let others' : IsOthers was key h.client = subst (λ hs. IsOthers hs key h.client) (sym view) others in
        same_sound reservation_set limits_set ready_set ops room n
        (inserted ops reservation limits ready least room sound order key in_room h vacant' others' first (empty_if ops reservation limits ready least room sound first count))

    pub changed_sound : IsTotalOrder ops.compare → option_map (λ (h : Head T). h.client) (slot_of_key heads key) ≡ Some h.client → {found : Option (ReadyRank T)} {rank : ReadyRank T} → found ≡ slot_of_key ready key → found ≡ Some rank → {least' : Option T} → least' ≡ least_after ops least rank.tag h.tags.p → IsSound ops reservation' limits' ready' least' room
    changed_sound order here {rank = rank} held some n =
        let was = heads_from reservation limits ready in
        let old = some_if_mapped (λ (h : Head T). h.client) (slot_of_key was key) h.client (subst (λ hs. option_map (λ (h : Head T). h.client) (slot_of_key hs key) ≡ Some h.client) (sym view) here) in
        let rank_is : rank ≡ ready_rank old.0 = rank_read ready_rank was ready sound.weight_is key old.0 old.1 held some in
        same_sound reservation_set limits_set ready_set ops room (n ∙ ap (λ (x : ReadyRank T). least_after ops least x.tag h.tags.p) rank_is)
        (changed ops reservation limits ready least room sound order key (within was key old.0 old.1) old.0 old.1 h old.2)

  module _ {reservation' : List (Option (TagRank T))} {limits' : List (Option (LimitRank T))} {ready' : List (Option (ReadyRank T))} (key : ℕ) (e : reservation' ≡ set reservation key None) (l : limits' ≡ set limits key None) (r : ready' ≡ set ready key None) where
    pub heads_removed : heads_from reservation' limits' ready' ≡ set heads key None
    heads_removed = same_heads_from e l r ∙ heads_set reservation limits ready key None ∙ ap (λ hs. set hs key None) view

    pub removed_sound : IsTotalOrder ops.compare → IsSome (slot_of_key heads key) → {rank : ReadyRank T} → slot_of_key ready key ≡ Some rank → {least' : Option T} → least' ≡ least_without ops least rank.tag → IsSound ops reservation' limits' ready' least' room
    removed_sound order here {rank = rank} held n =
        let was = heads_from reservation limits ready in
        let old = some_of (slot_of_key was key) (subst (λ hs. IsSome (slot_of_key hs key)) (sym view) here) in
        let rank_is : rank ≡ ready_rank old.0 = same_Some rank (ready_rank old.0) (sym held ∙ rank_held ready_rank was ready sound.weight_is key old.0 old.1) in
        same_sound e l r ops room (n ∙ ap (λ (x : ReadyRank T). least_without ops least x.tag) rank_is)
        (removed ops reservation limits ready least room sound order key (within was key old.0 old.1) old.0 old.1)

  -- ---- another ready mark

  module _ (key : ℕ) (here : IsSome (slot_of_key heads key)) (mark : Bool) {found_limit : Option (LimitRank T)} {limit : LimitRank T} (limit_held : found_limit ≡ slot_of_key limits key) (limit_some : found_limit ≡ Some limit) where
    old : (h : Head T) × (slot_of_key heads key ≡ Some h)
    old = some_of (slot_of_key heads key) here

    old_others : IsOthers heads key (old.0).client
    old_others = subst AreApart view sound.apart key old.0 old.1

    limit_marked : record limit { ready = mark } ≡ limit_rank (with_ready mark old.0)
    limit_marked = ap (λ (x : LimitRank T). record x { ready = mark }) (rank_read limit_rank heads limits in_limit key old.0 old.1 limit_held limit_some)

    pub marked_limit_apart : (compare : T → T → Ordering) → IsApartFromOthers (limit_rank_cmp compare) limits key (record limit { ready = mark })
    marked_limit_apart compare = limit_apart compare key (with_ready mark old.0) old_others limit_marked

    module _ {found_share : Option (ReadyRank T)} {share : ReadyRank T} (share_held : found_share ≡ slot_of_key ready key) (share_some : found_share ≡ Some share) where
      share_marked : record share { ready = mark } ≡ ready_rank (with_ready mark old.0)
      share_marked = ap (λ (x : ReadyRank T). record x { ready = mark }) (rank_read ready_rank heads ready in_weight key old.0 old.1 share_held share_some)

      pub marked_share_apart : (compare : T → T → Ordering) → IsApartFromOthers (ready_rank_cmp compare) ready key (record share { ready = mark })
      marked_share_apart compare = weight_apart compare key (with_ready mark old.0) old_others share_marked

      module _ (order : IsTotalOrder ops.compare) {limits' : List (Option (LimitRank T))} {ready' : List (Option (ReadyRank T))} (l : limits' ≡ set limits key (Some (record limit { ready = mark }))) (r : ready' ≡ set ready key (Some (record share { ready = mark }))) where
        was : slot_of_key (heads_from reservation limits ready) key ≡ Some old.0
        was = ap (λ hs. slot_of_key hs key) view ∙ old.1

        l_is : limits' ≡ set limits key (Some (limit_rank (with_ready mark old.0)))
        l_is = l ∙ ap (λ x. set limits key (Some x)) limit_marked

        r_is : ready' ≡ set ready key (Some (ready_rank (with_ready mark old.0)))
        r_is = r ∙ ap (λ x. set ready key (Some x)) share_marked

        pub heads_marked : heads_from reservation limits' ready' ≡ set heads key (option_map (with_ready mark) (slot_of_key heads key))
        heads_marked =
            same_heads_from refl l_is r_is
            ∙ marked_heads ops reservation limits ready least room sound order key (within _ key old.0 was) old.0 was mark
            ∙ ap (λ hs. set hs key (Some (with_ready mark old.0))) view
            ∙ ap (λ o. set heads key (option_map (with_ready mark) o)) (sym old.1)

        pub marked_stays_sound : IsSound ops reservation limits' ready' least room
        marked_stays_sound =
            same_sound refl l_is r_is ops room refl (marked_sound ops reservation limits ready least room sound order key (within _ key old.0 was) old.0 was mark)
