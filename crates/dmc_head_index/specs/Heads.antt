-- The clients' first requests, as a finite map from keys, and what an index over them holds.
use Rattle.std.specs.Prelude.{[], ◌≡◌, ◌≢◌, ℕ, ◌&&◌, ◌||◌, List, ◌∷◌, length, Option, Some, None, true, false, IfSome}
use Rattle.std.specs.Option.{option_map}
use Rattle.std.specs.declared.cmp.Ordering.{Ordering}
use Rattle.std.specs.declared.cmp.Ordering.TheVariants.{Less}
use Rattle.dmc_types.specs.declared.ids.ClientId.{ClientId}
use Rattle.dmc_tag.specs.Tag.{Tagging}
use Rattle.dmc_tag.specs.State.{is_client}
use Rattle.dmc_tag.specs.Order.{AtMost}
use Rattle.dmc_tag.specs.Best.{is_due}
use Rattle.dmc_tag.specs.Rules.{less, has_less}
use Rattle.dmc_tag.specs.declared.rank.TagRank.{TagRank}
use Rattle.dmc_tag.specs.declared.rank.LimitRank.{LimitRank}
use Rattle.dmc_tag.specs.declared.rank.ReadyRank.{ReadyRank}
use Rattle.dmc_index.specs.Index.{slot_of_key}
use Rattle.dmc_head_index.specs.declared.head.Head.{Head}

abbrev pub tag_rank : {T : Type 0} → Head T → TagRank T
tag_rank h = record { tag = h.tags.r; client = h.client }

abbrev pub limit_rank : {T : Type 0} → Head T → LimitRank T
limit_rank h = record { ready = h.ready; tag = h.tags.l; client = h.client }

abbrev pub ready_rank : {T : Type 0} → Head T → ReadyRank T
ready_rank h = record { ready = h.ready; tag = h.tags.p; client = h.client }

-- an index has the keys that the heads have and no other, each under the rank of its head
abbrev pub Ranks : {T R : Type 0} → (Head T → R) → List (Option (Head T)) → List (Option R) → Type 0
Ranks rank heads slots = (key : ℕ) → slot_of_key slots key ≡ option_map rank (slot_of_key heads key)

-- ---- the heads, from what three indexes hold

abbrev pub head_from : {T : Type 0} → Option (TagRank T) → Option (LimitRank T) → Option (ReadyRank T) → Option (Head T)
head_from (Some a) (Some b) (Some c) = Some (record { client = a.client; tags = record { r = a.tag; l = b.tag; p = c.tag }; ready = b.ready })
head_from (Some a) (Some b) None = None
head_from (Some a) None c = None
head_from None b c = None

-- what each key below the least of the three capacities holds
abbrev pub heads_from : {T : Type 0} → List (Option (TagRank T)) → List (Option (LimitRank T)) → List (Option (ReadyRank T)) → List (Option (Head T))
heads_from (a ∷ reservation) (b ∷ limit) (c ∷ weight) = head_from a b c ∷ heads_from reservation limit weight
heads_from (a ∷ reservation) (b ∷ limit) [] = []
heads_from (a ∷ reservation) [] weight = []
heads_from [] limit weight = []

-- ---- their invariant

-- no other key has this client
abbrev pub IsOthers : {T : Type 0} → List (Option (Head T)) → ℕ → ClientId → Type 0
IsOthers {T} heads key client = (k : ℕ) (other : Head T) → k ≢ key → slot_of_key heads k ≡ Some other → is_client client other.client ≡ false

-- no two keys have one client
abbrev pub AreApart : {T : Type 0} → List (Option (Head T)) → Type 0
AreApart {T} heads = (key : ℕ) (head : Head T) → slot_of_key heads key ≡ Some head → IsOthers heads key head.client

-- the least P of all heads
pub record IsLeastShare {T : Type 0} (ops : Tagging T) (heads : List (Option (Head T))) (least : T) : Type 0 where
  pub key : ℕ
  pub head : Head T
  pub here : slot_of_key heads key ≡ Some head
  pub share : head.tags.p ≡ least
  pub below : (k : ℕ) (other : Head T) → slot_of_key heads k ≡ Some other → AtMost ops least other.tags.p

-- The three indexes hold the same clients, each under the rank of its first request. No two keys have one client, the stored
-- least P is the least, and the capacity is that of the last index.
pub record IsSound {T : Type 0} (ops : Tagging T) (reservation : List (Option (TagRank T))) (limit : List (Option (LimitRank T))) (weight : List (Option (ReadyRank T))) (least : Option T) (room : ℕ) : Type 0 where
  pub reservation_is : Ranks tag_rank (heads_from reservation limit weight) reservation
  pub limit_is : Ranks limit_rank (heads_from reservation limit weight) limit
  pub weight_is : Ranks ready_rank (heads_from reservation limit weight) weight
  pub apart : AreApart (heads_from reservation limit weight)
  pub least_is : IfSome least (IsLeastShare ops (heads_from reservation limit weight))
  pub room_is : length weight ≡ room

-- ---- the least of an order

-- the key has a head of this rank, which is below those of all other keys
pub record IsFirst {T R : Type 0} (rank : Head T → R) (compare : R → R → Ordering) (heads : List (Option (Head T))) (key : ℕ) (least : R) : Type 0 where
  pub here : option_map rank (slot_of_key heads key) ≡ Some least
  pub below : (k : ℕ) (other : Head T) → k ≢ key → slot_of_key heads k ≡ Some other → compare least (rank other) ≡ Less

-- ---- what a head becomes by a call

-- its P less an amount
abbrev pub shifted : {T : Type 0} → Tagging T → T → Head T → Head T
shifted ops amount h = record h { tags = record (h.tags) { p = less ops amount h.tags.p } }

-- each of these is a value
abbrev pub CanShift : {T : Type 0} → Tagging T → T → List (Option (Head T)) → Type 0
CanShift {T} ops amount heads = (key : ℕ) (head : Head T) → slot_of_key heads key ≡ Some head → has_less ops amount head.tags.p ≡ true

-- ready if its L is at most t, or if it was ready before
abbrev pub with_ready_mark : {T : Type 0} → Tagging T → ℕ → Head T → Head T
with_ready_mark ops t h = record h { ready = h.ready || is_due ops t (Some h.tags.l) }

-- unready if its L is above t
abbrev pub set_back : {T : Type 0} → Tagging T → ℕ → Head T → Head T
set_back ops t h = record h { ready = h.ready && is_due ops t (Some h.tags.l) }
