-- Beyond the limits, the best by weight is granted, and nothing if nothing is queued.
use Rattle.std.proofs.Common.{◌≡◌, ℕ, true, List, [], ◌∷◌, ◌++◌, None, refl, ap, ◌∙◌}
use Rattle.std.specs.Option.{option_map}
use Rattle.dmc_types.specs.declared.config.AtLimit.TheVariants.{Allow}
use Rattle.dmc_tag.specs.Best.{best, best_of_all, best_of_one, better_found, by_weight, found_in, is_any, is_below}
use Rattle.dmc_tag.specs.Rules.{grant_found, nothing_due}
use Rattle.dmc_tag.specs.State.{State, PlainClient, queued_requests}
use Rattle.dmc_tag.specs.Tag.{Tagging}
use Rattle.dmc_tag.specs.declared.plain.QueuedRequest.{QueuedRequest}

module _ {T : Type 0} (ops : Tagging T) where
  none_queued : (clients : List (PlainClient T)) → queued_requests clients ≡ [] → best_of_all ops by_weight is_any clients ≡ None
  none_queued [] e = refl
  none_queued (c ∷ cs) e = by c.requests refl e (none_queued cs) where
    by : (requests : List (QueuedRequest T)) → c.requests ≡ requests → requests ++ queued_requests cs ≡ [] →
        (queued_requests cs ≡ [] → best_of_all ops by_weight is_any cs ≡ None) → best_of_all ops by_weight is_any (c ∷ cs) ≡ None
    by [] own e rest =
        let one : best_of_one ops by_weight is_any c ≡ None = ap (λ rs. option_map (found_in c) (best (is_below ops by_weight) is_any rs)) own in
        ap (λ o. better_found ops by_weight o (best_of_all ops by_weight is_any cs)) one ∙ rest e
    by (r ∷ rs) own e rest = cc

  pub allowed : (old : State T) (t : ℕ) → old.config.at_limit ≡ Allow → grant_found ops old t true (best_of_all ops by_weight is_any old.clients) ≡ nothing_due ops old t (queued_requests old.clients)
  allowed old t is = by (queued_requests old.clients) refl where
    by : (requests : List (QueuedRequest T)) → queued_requests old.clients ≡ requests → grant_found ops old t true (best_of_all ops by_weight is_any old.clients) ≡ nothing_due ops old t requests
    by [] e = ap (grant_found ops old t true) (none_queued old.clients e)
    by (x ∷ xs) e = rw is refl
