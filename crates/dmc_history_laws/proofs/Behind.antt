-- What each command keeps of the tags of a client's requests behind one of its adds, whatever is taken back.
use Rattle.std.proofs.Common.{◌≡◌, ℕ, ◌+◌, ◌*◌, true, List, [], ◌∷◌, map, Option, Some, None, refl, sym, ap, ◌∙◌, subst, arith}
use Rattle.std.specs.Prelude.{ℤ, pos, ◌-ℤ◌, ◌≤ℤ◌, is_some}
use Rattle.std.specs.Option.{unwrap_or, option_map, option_map_or}
use Rattle.std.specs.List.{AllByRecursion}
use Rattle.std.specs.Cmp.{IsTotalOrder}
use Rattle.std.proofs.lemmas.Bool.{and_parts}
use Rattle.std.proofs.lemmas.Int.{ints}
use Rattle.dmc_types.specs.declared.config.PhaseType.{PhaseType}
use Rattle.dmc_types.specs.declared.config.PhaseType.TheVariants.{Reservation, Priority}
use Rattle.dmc_types.specs.declared.config.Shares.{Shares}
use Rattle.dmc_tag.specs.Rules as rules_of
use Rattle.dmc_tag.specs.State.{PlainClient}
use Rattle.dmc_tag.specs.Tag.{Fraction, Tagging, IsExact}
use Rattle.dmc_tag.specs.declared.plain.Previous.{Previous}
use Rattle.dmc_tag.specs.declared.plain.QueuedRequest.{QueuedRequest}
use Rattle.dmc_lemmas.proofs.Lists.{each_passes}
use Rattle.dmc_history_laws.proofs.Becomes.{grants_in, IsLike}
use Rattle.dmc_history_laws.proofs.Chain.{level_of}
use Rattle.dmc_history_laws.proofs.Falling.{Kind, reservation, limit, tag_in, slack_in, previous_in}
use Rattle.dmc_history_laws.proofs.Marked.{AreAs, EndsAs, IsAs, Moves}
use Rattle.dmc_history_laws.proofs.Pace.{IsSpacings}
use Rattle.dmc_history_laws.proofs.Past.{IsBy, by_less, by_taken}
use Rattle.dmc_history_laws.proofs.Reducing.{IsOff}
use Rattle.dmc_history_laws.proofs.Side.{Side, limits, reservations, level_taken, taken_in, tag_in as side_tag, previous_in as side_previous}

abbrev pub kind_of : Side → Kind
kind_of limits = limit
kind_of reservations = reservation

module _ {T : Type 0} where
  pub tag_is : (side : Side) (r : QueuedRequest T) → tag_in (kind_of side) r ≡ side_tag side r.tags
  tag_is limits r = refl
  tag_is reservations r = refl

  pub previous_is : (side : Side) (previous : Previous T) → previous_in (kind_of side) previous ≡ side_previous side previous
  previous_is limits previous = refl
  previous_is reservations previous = refl

module _ {T : Type 0} (ops : Tagging T) (fraction : T → Fraction) (is_value : Fraction → Type 0) (exact : IsExact ops fraction is_value) (order : IsTotalOrder ops.compare) (q hz from : ℕ) where
  module _ (k : Kind) where
    abbrev Moved : ℕ → ℕ → T → T → Type 0
    Moved taken other t u = Moves ops fraction is_value exact order q k hz from taken other t u

    abbrev As : ℕ → ℕ → List (QueuedRequest T) → List (QueuedRequest T) → Type 0
    As taken other rs zs = AreAs ops fraction is_value exact order q k hz from taken other rs zs

    abbrev Ended : ℕ → ℕ → Previous T → Previous T → Type 0
    Ended taken other previous last = EndsAs ops fraction is_value exact order q k hz from taken other previous last

    abbrev level_at : ℕ → ℕ → ℕ → ℤ
    level_at taken sent back = level_of ops fraction is_value exact order q k hz from taken sent back

    -- ---- the levels fall

    level_falls : (taken more sent back : ℕ) → level_at (taken + more) sent back ≡ level_at taken sent back -ℤ pos (hz * more)
    level_falls taken more sent back =
        let e : taken + back + more ≡ taken + more + back = omega arith in
        sym (level_taken fraction hz q from (taken + back) sent more ∙ ap (λ n. pos (q * from + hz * sent) -ℤ pos (hz * n)) e)

    pub moves_down : (taken more : ℕ) (t : T) → Moved taken (taken + more) t t
    moves_down taken more t x sent back h = by_less ops fraction is_value exact q x t (level_at taken sent back) (level_at (taken + more) sent back) (subst (λ m. m ≤ℤ level_at taken sent back) (sym (level_falls taken more sent back)) (less _ _)) h where
      less : (m : ℤ) (n : ℕ) → (m -ℤ pos n) ≤ℤ m
      less m n = omega (arith, ints)

    pub stay_as : (taken more : ℕ) (rs : List (QueuedRequest T)) → As taken (taken + more) rs rs
    stay_as taken more [] = tt
    stay_as taken more (r ∷ rs) = ((λ t e. (t, e, moves_down taken more t)), refl, stay_as taken more rs)

    pub ends_so : (taken more : ℕ) (previous : Previous T) → Ended taken (taken + more) previous previous
    ends_so taken more previous = record { moves = moves_down taken more (previous_in k previous); slack = refl; cancelled = refl }

    -- ---- the same tags and slacks

    pub mapped_as : (taken : ℕ) (rs zs : List (QueuedRequest T)) → map (tag_in k) zs ≡ map (tag_in k) rs → map (λ r. r.slack) zs ≡ map (λ r. r.slack) rs → As taken taken rs zs
    mapped_as taken [] [] e f = tt
    mapped_as taken [] (z ∷ zs) e f = cc
    mapped_as taken (r ∷ rs) [] e f = cc
    mapped_as taken (r ∷ rs) (z ∷ zs) e f =
        let tag : tag_in k z ≡ tag_in k r = cc in
        let slack : z.slack ≡ r.slack = cc in
        let tags : map (tag_in k) zs ≡ map (tag_in k) rs = cc in
        let slacks : map (λ (r : QueuedRequest T). r.slack) zs ≡ map (λ (r : QueuedRequest T). r.slack) rs = cc in
        ((λ t at. (t, tag ∙ at, λ x sent back h. h)), ap (slack_in k) slack, mapped_as taken rs zs tags slacks)

  -- a record that differs in P and in its mark alone
  like_tags : (side : Side) {shares : Shares} (c d : PlainClient T) → IsLike shares c d → map (tag_in (kind_of side)) d.requests ≡ map (tag_in (kind_of side)) c.requests
  like_tags limits c d like = some_of d.requests ∙ ap (map Some) like.limits ∙ sym (some_of c.requests) where
    some_of : (xs : List (QueuedRequest T)) → map (tag_in limit) xs ≡ map Some (map (λ (r : QueuedRequest T). r.tags.l) xs)
    some_of [] = refl
    some_of (x ∷ xs) = ap (λ ts. Some x.tags.l ∷ ts) (some_of xs)
  like_tags reservations c d like = like.reservations

  pub like_previous : (side : Side) {shares : Shares} (c d : PlainClient T) → IsLike shares c d → side_previous side d.previous ≡ side_previous side c.previous
  like_previous limits c d like = like.previous_l
  like_previous reservations c d like = like.previous_r

  pub like_as : (side : Side) (taken : ℕ) {shares : Shares} (c d : PlainClient T) → IsLike shares c d → As (kind_of side) taken taken c.requests d.requests
  like_as side taken c d like = mapped_as (kind_of side) taken c.requests d.requests (like_tags side c d like) like.slacks

  pub like_ends : (side : Side) (taken : ℕ) {shares : Shares} (c d : PlainClient T) → IsLike shares c d → Ended (kind_of side) taken taken c.previous d.previous
  like_ends side taken c d like = record {
    moves = λ x sent back h. subst (λ t. IsBy ops fraction is_value exact q t x (level_at (kind_of side) taken sent back)) (previous_is side c.previous ∙ sym (like_previous side c d like) ∙ sym (previous_is side d.previous)) h;
    slack = ap (slack_in (kind_of side)) like.previous_slack;
    cancelled = like.previous_cancelled;
  }

  -- ---- a grant of the client

  module _ (taken cost : ℕ) (amount : T) (spacings : IsSpacings ops hz q cost amount) where
    less_moves : (t : T) → is_some (ops.minus t amount) ≡ true → Moved reservation taken (taken + cost) t (rules_of.less ops amount t)
    less_moves t can = at (ops.minus t amount) refl can where
      at : (o : Option T) → ops.minus t amount ≡ o → is_some o ≡ true → Moved reservation taken (taken + cost) t (unwrap_or o t)
      at None e c = cc
      at (Some u) e c = λ x sent back h. subst (IsBy ops fraction is_value exact q u x) (sym (level_falls reservation taken cost sent back)) (by_taken ops fraction is_value exact q amount t u x (level_at reservation taken sent back) hz cost spacings e h)

    less_all : (rs : List (QueuedRequest T)) → AllByRecursion (λ r. option_map_or (rules_of.has_less ops amount) r.tags.r true ≡ true) rs → As reservation taken (taken + cost) rs (map (rules_of.less_reservation ops amount) rs)
    less_all [] can = tt
    less_all (r ∷ rs) can = (one r.tags.r can.0, refl, less_all rs can.1) where
      one : (o : Option T) → option_map_or (rules_of.has_less ops amount) o true ≡ true → IsAs ops fraction is_value exact order q reservation hz from taken (taken + cost) o (option_map (rules_of.less ops amount) o)
      one None can t e = cc
      one (Some u) can t e =
          let same : u ≡ t = cc in
          subst (λ z. (v : T) × (Some (rules_of.less ops amount u) ≡ Some v) × Moved reservation taken (taken + cost) z v) same (rules_of.less ops amount u, refl, less_moves u can)

  limits_all : (taken : ℕ) (amount : T) (rs : List (QueuedRequest T)) → As limit taken (taken + 0) rs (map (rules_of.less_reservation ops amount) rs)
  limits_all taken amount [] = tt
  limits_all taken amount (r ∷ rs) = ((λ t e. (t, e, moves_down limit taken 0 t)), refl, limits_all taken amount rs)

  abbrev Reduced : Side → PhaseType → ℕ → Option T → PlainClient T → ℕ → Type 0
  Reduced side phase cost amount c taken = As (kind_of side) taken (taken + taken_in side (grants_in phase cost)) c.requests (rules_of.reduced_by ops amount c).requests × Ended (kind_of side) taken (taken + taken_in side (grants_in phase cost)) c.previous (rules_of.reduced_by ops amount c).previous

  pub reduced_as : (side : Side) (phase : PhaseType) (cost : ℕ) (amount : Option T) (c : PlainClient T) (taken : ℕ) → IsOff ops fraction is_value exact hz q side phase cost amount → rules_of.can_reduce_by ops amount c ≡ true → Reduced side phase cost amount c taken
  reduced_as side Reservation cost amount c taken is can = subst (λ o. Reduced side Reservation cost o c taken) (sym is) (stay_as (kind_of side) taken (taken_in side 0) c.requests, ends_so (kind_of side) taken (taken_in side 0) c.previous)
  reduced_as limits Priority cost None c taken is can = (stay_as limit taken 0 c.requests, ends_so limit taken 0 c.previous)
  reduced_as limits Priority cost (Some amount) c taken is can = (limits_all taken amount c.requests, record { moves = moves_down limit taken 0 c.previous.l; slack = refl; cancelled = refl })
  reduced_as reservations Priority cost None c taken is can = (stay_as reservation taken cost c.requests, ends_so reservation taken cost c.previous)
  reduced_as reservations Priority cost (Some amount) c taken is can =
      let parts = and_parts _ _ can in
      let able = each_passes (λ (x : QueuedRequest T). option_map_or (rules_of.has_less ops amount) x.tags.r true) c.requests parts.0 in
      (less_all taken cost amount is c.requests able, record { moves = less_moves taken cost amount is c.previous.r parts.1; slack = refl; cancelled = refl })
