-- The orders of ranks. Each compares its fields in turn.
use Rattle.std.specs.Prelude.{◌≡◌, Option, Some, None}
use Rattle.std.specs.declared.cmp.Ordering.{Ordering}
use Rattle.std.specs.declared.cmp.Ordering.TheVariants.{Less, Equal, Greater}
use Rattle.std.specs.Ordering.{ordering_reverse, nat_cmp, bool_cmp, on, then_cmp, flip_args}
use Rattle.std.specs.Cmp.{IsTotalOrder, on_total, then_total, back_total, nat_cmp_total, bool_cmp_total}
use Rattle.std.proofs.Common.{refl}
use Rattle.dmc_types.specs.declared.ids.ClientId.{ClientId}
use Rattle.dmc_tag.specs.declared.rank.TagRank.{TagRank}
use Rattle.dmc_tag.specs.declared.rank.LimitRank.{LimitRank}
use Rattle.dmc_tag.specs.declared.rank.ReadyRank.{ReadyRank}

-- an absent tag is last
abbrev pub last_if_absent : {T : Type 0} → (T → T → Ordering) → Option T → Option T → Ordering
last_if_absent compare None None = Equal
last_if_absent compare None (Some b) = Greater
last_if_absent compare (Some a) None = Less
last_if_absent compare (Some a) (Some b) = compare a b

abbrev pub client_cmp : ClientId → ClientId → Ordering
client_cmp = on (λ c. c.0) nat_cmp

-- by tag, an absent one last, and then by client
abbrev pub tag_rank_cmp : {T : Type 0} → (T → T → Ordering) → TagRank T → TagRank T → Ordering
tag_rank_cmp compare = then_cmp (on (λ r. r.tag) (last_if_absent compare)) (on (λ r. r.client) client_cmp)

-- unready first, then by tag, and then by client
abbrev pub limit_rank_cmp : {T : Type 0} → (T → T → Ordering) → LimitRank T → LimitRank T → Ordering
limit_rank_cmp compare = then_cmp (on (λ r. r.ready) bool_cmp) (then_cmp (on (λ r. r.tag) compare) (on (λ r. r.client) client_cmp))

-- ready first, then by tag, and then by client
abbrev pub ready_rank_cmp : {T : Type 0} → (T → T → Ordering) → ReadyRank T → ReadyRank T → Ordering
ready_rank_cmp compare = then_cmp (on (λ r. r.ready) (flip_args bool_cmp)) (then_cmp (on (λ r. r.tag) compare) (on (λ r. r.client) client_cmp))

-- ---- they are total orders

pub client_total : IsTotalOrder client_cmp
client_total = on_total (λ c. c.0) nat_cmp_total

module _ {T : Type 0} {R : T → T → Ordering} (o : IsTotalOrder R) where
  absent_antisymm : (x y : Option T) → last_if_absent R x y ≡ ordering_reverse (last_if_absent R y x)
  absent_antisymm None None = refl
  absent_antisymm None (Some b) = refl
  absent_antisymm (Some a) None = refl
  absent_antisymm (Some a) (Some b) = o.antisymm a b

  absent_trans : (x y z : Option T) → last_if_absent R x y ≡ Less → last_if_absent R y z ≡ Less → last_if_absent R x z ≡ Less
  absent_trans None None z p q = cc
  absent_trans None (Some b) z p q = cc
  absent_trans (Some a) None None p q = cc
  absent_trans (Some a) None (Some c) p q = cc
  absent_trans (Some a) (Some b) None p q = refl
  absent_trans (Some a) (Some b) (Some c) p q = o.trans a b c p q

  absent_congr : (x y z : Option T) → last_if_absent R x y ≡ Equal → last_if_absent R x z ≡ last_if_absent R y z
  absent_congr None None z p = refl
  absent_congr None (Some b) z p = cc
  absent_congr (Some a) None z p = cc
  absent_congr (Some a) (Some b) None p = refl
  absent_congr (Some a) (Some b) (Some c) p = o.congr a b c p

  pub absent_total : IsTotalOrder (last_if_absent R)
  absent_total = record { antisymm = absent_antisymm; trans = absent_trans; congr = absent_congr }

  pub tag_rank_total : IsTotalOrder (tag_rank_cmp R)
  tag_rank_total = then_total (on_total (λ r. r.tag) absent_total) (on_total (λ r. r.client) client_total)

  pub ready_rank_total : IsTotalOrder (ready_rank_cmp R)
  ready_rank_total = then_total (on_total (λ r. r.ready) (back_total bool_cmp_total)) (then_total (on_total (λ r. r.tag) o) (on_total (λ r. r.client) client_total))

  pub limit_rank_total : IsTotalOrder (limit_rank_cmp R)
  limit_rank_total = then_total (on_total (λ r. r.ready) bool_cmp_total) (then_total (on_total (λ r. r.tag) o) (on_total (λ r. r.client) client_total))
