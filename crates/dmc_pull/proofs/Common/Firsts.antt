-- The best request of all is the first one of the client that an index names.
use Rattle.std.proofs.Common.{◌≡◌, Bool, true, false, List, [], ◌∷◌, drop, Option, refl, ap}
use Rattle.std.specs.Prelude.{⊤}
use Rattle.std.specs.List.{AllByRecursion}
use Rattle.std.specs.declared.cmp.Ordering.{Ordering}
use Rattle.std.specs.declared.cmp.Ordering.TheVariants.{Less, Equal, Greater}
use Rattle.std.specs.Ordering.{is_gt, is_lt, ordering_then}
use Rattle.std.specs.Cmp.{IsTotalOrder}
use Rattle.dmc_types.specs.declared.ids.ClientId.{ClientId}
use Rattle.dmc_tag.specs.Tag.{Tagging}
use Rattle.dmc_tag.specs.State.{PlainClient, queued_requests}
use Rattle.dmc_tag.specs.Best.{is_below, is_before, IsBest, IsBestOfAll, HasNone}
use Rattle.dmc_tag.specs.Rank.{last_if_absent, absent_total, client_cmp, tag_rank_cmp, tag_rank_total, client_total}
use Rattle.dmc_tag.specs.declared.plain.QueuedRequest.{QueuedRequest}
use Rattle.dmc_tag.specs.declared.rank.TagRank.{TagRank}
use Rattle.dmc_tag.specs.declared.reply.Tags.{Tags}
use Rattle.dmc_client.specs.Record.{client_of}
use Rattle.dmc_roster.specs.Entries.{Entry}
use Rattle.dmc_pull.specs.Represented.{clients_in}
use Rattle.dmc_pull.proofs.Common.Ordered.{less_upto, not_behind, FirstIsLeast, FirstIsMember}
use Rattle.dmc_pull.proofs.Common.Parts.{all_as, all_front, all_back, all_append, all_mapped}
use Rattle.dmc_pull.proofs.Common.Entries.{Split, clients_whole}
use Rattle.std.proofs.lemmas.Bool.{false_from_ne_true}
use Rattle.std.proofs.lemmas.Cmp.{tied_itself}
use Rattle.dmc_tag.proofs.Upto.{IsUpto}

-- what holds of each client's requests holds of all
pub all_queued : {T : Type 0} (P : QueuedRequest T → Type 0) (clients : List (PlainClient T)) → AllByRecursion (λ c. AllByRecursion P c.requests) clients → AllByRecursion P (queued_requests clients)
all_queued P [] h = tt
all_queued P (c ∷ clients) h = all_append P c.requests (queued_requests clients) h.0 (all_queued P clients h.1)

-- and the other way round, entry by entry
pub of_queued : {T : Type 0} (P : QueuedRequest T → Type 0) (es : List (Entry T)) → AllByRecursion P (queued_requests (clients_in es)) → AllByRecursion (λ e. AllByRecursion P e.rec.requests) es
of_queued P [] h = tt
of_queued P (e ∷ es) h = (all_front P e.rec.requests (queued_requests (clients_in es)) h, of_queued P es (all_back P e.rec.requests (queued_requests (clients_in es)) h))

module _ {T : Type 0} (ops : Tagging T) (order : IsTotalOrder ops.compare) (tag : Tags T → Option T) (member : Tags T → Bool) where
  abbrev rank : Tags T → ClientId → TagRank T
  rank tags id = record { tag = tag tags; client = id }

  -- the first request of a client, if it is a member, is behind
  abbrev pub IsBehind : TagRank T → ClientId → List (QueuedRequest T) → Type 0
  IsBehind first id [] = ⊤
  IsBehind first id (r ∷ rest) = member r.tags ≡ true → tag_rank_cmp ops.compare first (rank r.tags id) ≡ Less

  -- each request of a client is behind that is a member
  abbrev AreBehind : TagRank T → ClientId → List (QueuedRequest T) → Type 0
  AreBehind first id requests = AllByRecursion (λ x. member x.tags ≡ true → tag_rank_cmp ops.compare first (rank x.tags id) ≡ Less) requests

  upto_then : (r s : Ordering) → is_gt r ≡ false → s ≡ Equal → is_gt (ordering_then r s) ≡ false
  upto_then Less s h e = refl
  upto_then Equal s h e = ap is_gt e
  upto_then Greater s h e = cc

  upto_rank : (id : ClientId) (a b : Tags T) → IsUpto ops (tag a) (tag b) → is_gt (tag_rank_cmp ops.compare (rank a id) (rank b id)) ≡ false
  upto_rank id a b h = upto_then (last_if_absent ops.compare (tag a) (tag b)) (client_cmp id id) h (tied_itself client_total id)

  behind_rest : (first : TagRank T) (id : ClientId) (r : QueuedRequest T) (rest : List (QueuedRequest T)) → AllByRecursion (λ x. IsUpto ops (tag r.tags) (tag x.tags)) rest → AllByRecursion (λ x. member x.tags ≡ true → member r.tags ≡ true) rest → (member r.tags ≡ true → tag_rank_cmp ops.compare first (rank r.tags id) ≡ Less) → AreBehind first id rest
  behind_rest first id r [] u m b = tt
  behind_rest first id r (x ∷ rest) u m b =
      ((λ h. less_upto (tag_rank_cmp ops.compare) (tag_rank_total order) first (rank r.tags id) (rank x.tags id) _ refl (b (m.0 h)) (upto_rank id r.tags x.tags u.0)), behind_rest first id r rest u.1 m.1 b)

  behind_all : (first : TagRank T) (id : ClientId) (requests : List (QueuedRequest T)) → FirstIsLeast ops tag requests → FirstIsMember member requests → IsBehind first id requests → AreBehind first id requests
  behind_all first id [] u m b = tt
  behind_all first id (r ∷ rest) u m b = (b, behind_rest first id r rest u m b)

  -- what is known of each other client
  pub record IsOther (first : TagRank T) (e : Entry T) : Type 0 where
    pub least : FirstIsLeast ops tag e.rec.requests
    pub members : FirstIsMember member e.rec.requests
    pub behind : IsBehind first e.id e.rec.requests

  module _ (id : ClientId) (r : QueuedRequest T) where
    ahead_of : (e : Entry T) → IsOther (rank r.tags id) e → AllByRecursion (λ x. member x.tags ≡ true → is_before ops (λ x. tag x.tags) id r e.id x ≡ true) e.rec.requests
    ahead_of e o = all_as _ _ (λ x h m. ap is_lt (h m)) e.rec.requests (behind_all (rank r.tags id) e.id e.rec.requests o.least o.members o.behind)

    behind_of : (e : Entry T) → IsOther (rank r.tags id) e → AllByRecursion (λ x. member x.tags ≡ true → is_before ops (λ x. tag x.tags) e.id x id r ≡ false) e.rec.requests
    behind_of e o =
        all_as _ _ (λ x h m. not_behind (tag_rank_cmp ops.compare) (tag_rank_total order) (rank r.tags id) (rank x.tags e.id) (ap is_gt (h m))) e.rec.requests
        (behind_all (rank r.tags id) e.id e.rec.requests o.least o.members o.behind)

  -- the first of a client's requests is the best of them
  own_best : (r : QueuedRequest T) (rest requests : List (QueuedRequest T)) → requests ≡ r ∷ rest → member r.tags ≡ true → AllByRecursion (λ x. IsUpto ops (tag r.tags) (tag x.tags)) rest → IsBest (is_below ops (λ x. tag x.tags)) (λ x. member x.tags) requests r (drop 1 requests)
  own_best r rest requests q m own = record {
    front = [];
    back = rest;
    whole = q;
    rest = ap (drop 1) q;
    is_member = m;
    ahead = tt;
    behind = all_as _ _ (λ x h k. not_behind (last_if_absent ops.compare) (absent_total order) (tag r.tags) (tag x.tags) h) rest own;
  }

  -- the first request of a client is the best of all, if all others are behind it
  pub first_is_best : {es : List (Entry T)} {key : _} {e : Entry T} (s : Split key e es) (r : QueuedRequest T) (rest : List (QueuedRequest T)) → e.rec.requests ≡ r ∷ rest → member r.tags ≡ true → AllByRecursion (λ x. IsUpto ops (tag r.tags) (tag x.tags)) rest → AllByRecursion (IsOther (rank r.tags e.id)) s.front → AllByRecursion (IsOther (rank r.tags e.id)) s.back
      → IsBestOfAll ops (λ x. tag x.tags) (λ x. member x.tags) (clients_in es) (record { client = client_of e.id e.rec; request = r; others = drop 1 e.rec.requests })
  first_is_best {es} {key} {e} s r rest q m own ahead behind = record {
    front = clients_in s.front;
    back = clients_in s.back;
    whole = clients_whole s;
    own = own_best r rest e.rec.requests q m own;
    ahead = all_mapped _ _ (λ f. client_of f.id f.rec) (ahead_of e.id r) s.front ahead;
    behind = all_mapped _ _ (λ f. client_of f.id f.rec) (behind_of e.id r) s.back behind;
  }

  -- ---- no member

  -- the first request of a client is no member
  abbrev pub FirstIsNone : List (QueuedRequest T) → Type 0
  FirstIsNone [] = ⊤
  FirstIsNone (r ∷ rest) = member r.tags ≡ false

  none_rest : (r : QueuedRequest T) (rest : List (QueuedRequest T)) → AllByRecursion (λ x. member x.tags ≡ true → member r.tags ≡ true) rest → member r.tags ≡ false → AllByRecursion (λ x. member x.tags ≡ false) rest
  none_rest r [] m h = tt
  none_rest r (x ∷ rest) m h = (false_from_ne_true (member x.tags) (λ t. let a : member r.tags ≡ true = m.0 t in cc), none_rest r rest m.1 h)

  none_of : (requests : List (QueuedRequest T)) → FirstIsMember member requests → FirstIsNone requests → AllByRecursion (λ x. member x.tags ≡ false) requests
  none_of [] m h = tt
  none_of (r ∷ rest) m h = (h, none_rest r rest m h)

  pub none_are : (es : List (Entry T)) → AllByRecursion (λ e. FirstIsMember member e.rec.requests × FirstIsNone e.rec.requests) es → HasNone (λ x. member x.tags) (queued_requests (clients_in es))
  none_are es h = all_queued _ (clients_in es) (all_mapped _ _ (λ e. client_of e.id e.rec) (λ e p. none_of e.rec.requests p.0 p.1) es h)
