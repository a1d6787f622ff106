-- The choices of a pull, as what the scan for the best finds.
use Rattle.std.proofs.Common.{◌≡◌, ℕ, Bool, true, false, List, [], ◌∷◌, Option, Some, None, refl, sym, ap, ◌∙◌}
use Rattle.std.specs.Prelude.{slice_get, drop}
use Rattle.std.specs.Option.{option_map, option_and_then}
use Rattle.std.specs.List.{AllByRecursion}
use Rattle.std.specs.Cmp.{IsTotalOrder}
use Rattle.dmc_types.specs.declared.ids.ClientId.{ClientId}
use Rattle.dmc_tag.specs.Tag.{Fraction, Tagging}
use Rattle.dmc_tag.specs.Best.{best_of_all, is_due, is_early, is_free}
use Rattle.dmc_tag.specs.Rank.{tag_rank_cmp, ready_rank_cmp}
use Rattle.dmc_tag.specs.declared.rank.TagRank.{TagRank}
use Rattle.dmc_tag.specs.declared.rank.ReadyRank.{ReadyRank}
use Rattle.dmc_tag.specs.declared.reply.Tags.{Tags}
use Rattle.dmc_client.specs.Record.{IsRecord, client_of}
use Rattle.dmc_tag.specs.declared.plain.QueuedRequest.{QueuedRequest}
use Rattle.dmc_roster.specs.Entries.{Entry, entry_keyed}
use Rattle.dmc_index.specs.Index.{IsEmpty}
use Rattle.dmc_head_index.specs.Heads.{IsFirst, tag_rank, ready_rank}
use Rattle.dmc_pull.specs.Represented.{clients_in}
use Rattle.dmc_pull.specs.Queue.{Queue, IsQueue, IsKept}
use Rattle.dmc_pull.specs.internal.Queue.{IsMarked}
use Rattle.dmc_pull.specs.internal.Choice.{first_of, first_at, IsFirstOf, Early, ByWeight}
use Rattle.dmc_pull.proofs.Pull.Choices.{IsChosen, none_queued}
use Rattle.dmc_pull.proofs.Pull.Pulls.{early_chosen, early_none, early_empty, free_chosen, free_none, any_chosen}
use Rattle.dmc_tag.proofs.ForCallers.{best_of_all_is_found, none_of_all}
pub use Rattle.dmc_lemmas.proofs.Orderings.{tag_order}

pub records_of : {T : Type 0} (ops : Tagging T) (fraction : T → Fraction) (is_value : Fraction → Type 0) (hz : ℕ) (es : List (Entry T)) → AllByRecursion (λ e. IsKept ops fraction is_value hz e.rec) es → AllByRecursion (λ e. IsRecord ops e.rec) es
records_of ops fraction is_value hz [] h = tt
records_of ops fraction is_value hz (e ∷ es) h = (h.0.is_record, records_of ops fraction is_value hz es h.1)

pub first_chosen : {T : Type 0} (es : List (Entry T)) (key : ℕ) (e : Entry T) (r : QueuedRequest T) (rest : List (QueuedRequest T)) → entry_keyed key es ≡ Some e → e.rec.requests ≡ r ∷ rest → first_at key es ≡ Some (record { client = client_of e.id e.rec; request = r; others = drop 1 e.rec.requests })
first_chosen es key e r rest f q = ap (option_and_then first_of) f ∙ ap (λ l. option_map (λ r. record { client = client_of e.id e.rec; request = r; others = drop 1 e.rec.requests }) (slice_get l 0)) q

module _ {T : Type 0} {ops : Tagging T} (order : IsTotalOrder ops.compare) where
  picked : (tag : Tags T → Option T) (member : Tags T → Bool) (es : List (Entry T)) (key : ℕ) (client : ClientId) → IsChosen ops tag member es key client → (best_of_all ops (λ r. tag r.tags) (λ r. member r.tags) (clients_in es) ≡ first_at key es) × IsFirstOf es key client
  picked tag member es key client c =
      let first = first_chosen es key c.entry c.request c.rest c.found c.requests in
      (best_of_all_is_found ops (λ r. tag r.tags) (λ r. member r.tags) (clients_in es) _ c.best ∙ sym first, ap (option_map (λ found. found.client.id)) first ∙ ap Some (sym c.client_is))

  module _ {fraction : T → Fraction} {is_value : Fraction → Type 0} {q : Queue T} {n : ℕ} (is : IsQueue ops fraction is_value q n) where
    abbrev es : List (Entry T)
    es = q.roster.entries

    records : AllByRecursion (λ e. IsRecord ops e.rec) es
    records = records_of ops fraction is_value q.config.hz es is.kept

    module _ (t : ℕ) where
      pub no_head_early : IsEmpty q.heads → Early ops t es None
      no_head_early h = none_of_all ops (λ r. r.tags.r) (is_early ops t) (clients_in es) (early_empty ops order t es q.heads q.last_moment is.heads is.distinct records h)

      pub least_early : (key : ℕ) (rank : TagRank T) → IsFirst tag_rank (tag_rank_cmp ops.compare) q.heads key rank → is_due ops t rank.tag ≡ true → Early ops t es (Some (key, rank.client))
      least_early key rank f due = picked (λ g. g.r) (λ g. is_due ops t g.r) es key rank.client (early_chosen ops order t es q.heads q.last_moment is.heads is.distinct records key rank f due)

      pub least_late : (key : ℕ) (rank : TagRank T) → IsFirst tag_rank (tag_rank_cmp ops.compare) q.heads key rank → is_due ops t rank.tag ≡ false → Early ops t es None
      least_late key rank f late = none_of_all ops (λ r. r.tags.r) (is_early ops t) (clients_in es) (early_none ops order t es q.heads q.last_moment is.heads is.distinct records key rank f late)

    pub no_head_shares : IsEmpty q.heads → ByWeight ops q.last_moment es None
    no_head_shares h = none_queued ops q.last_moment es q.heads is.heads is.distinct h

    module _ (marked : IsMarked ops q) where
      shares_at : (key : ℕ) (rank : ReadyRank T) (ready : Bool) → rank.ready ≡ ready → IsFirst ready_rank (ready_rank_cmp ops.compare) q.heads key rank → ByWeight ops q.last_moment es (Some (key, rank.client, ready))
      shares_at key rank true e f = picked (λ g. Some g.p) (λ g. is_due ops q.last_moment (Some g.l)) es key rank.client (free_chosen ops order q.last_moment es q.heads is.heads marked is.distinct records key rank f e)
      shares_at key rank false e f =
          let any = picked (λ g. Some g.p) (λ g. true) es key rank.client (any_chosen ops order q.last_moment es q.heads is.heads marked is.distinct records key rank f e) in
          (none_of_all ops (λ r. Some r.tags.p) (is_free ops q.last_moment) (clients_in es) (free_none ops order q.last_moment es q.heads is.heads marked is.distinct records key rank f e), any.0, any.1)

      pub least_shares : (key : ℕ) (rank : ReadyRank T) → IsFirst ready_rank (ready_rank_cmp ops.compare) q.heads key rank → ByWeight ops q.last_moment es (Some (key, rank.client, rank.ready))
      least_shares key rank f = shares_at key rank rank.ready refl f
