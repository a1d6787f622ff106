-- A shift of nothing changes nothing, since each P is a value.
use Rattle.std.proofs.Common.{◌≡◌, Bool, true, false, ◌||◌, List, [], ◌∷◌, ◌++◌, map, Option, Some, None, refl, sym, ap, ◌∙◌}
use Rattle.std.specs.Prelude.{if◌then◌else◌, is_some}
use Rattle.std.specs.Option.{unwrap_or}
use Rattle.std.specs.List.{AllByRecursion}
use Rattle.std.specs.declared.cmp.Ordering.{Ordering}
use Rattle.std.specs.declared.cmp.Ordering.TheVariants.{Less, Equal, Greater}
use Rattle.std.specs.Ordering.{is_eq}
use Rattle.dmc_tag.specs.Tag.{Tagging}
use Rattle.dmc_tag.specs.State.{PlainClient}
use Rattle.dmc_tag.specs.Rules.{less, less_share, less_shares, shifted_client, client_can_shift, can_shift_by, shifted_by}
use Rattle.dmc_tag.specs.declared.plain.QueuedRequest.{QueuedRequest}
use Rattle.dmc_client.specs.Record.{client_of, share_tags}
use Rattle.dmc_roster.specs.Entries.{Entry}
use Rattle.dmc_pull.specs.internal.Adding.{unless_nothing}
use Rattle.dmc_pull.specs.Represented.{clients_in}
use Rattle.dmc_pull.proofs.Common.Parts.{all_as, all_mapped, all_pass, map_unmoved}
use Rattle.dmc_pull.proofs.Add.Shifted.{shares_have_less}
use Rattle.std.proofs.Math.Bool.{or-true}

module _ {T : Type 0} (ops : Tagging T) (P : T → Type 0) where
  -- each P of a client
  abbrev HasShares : PlainClient T → Type 0
  HasShares c = AllByRecursion P (map (λ r. r.tags.p) c.requests ++ c.previous.p ∷ [])

  pub all_clients : (es : List (Entry T)) → AllByRecursion (λ e. AllByRecursion P (share_tags e.rec)) es → AllByRecursion HasShares (clients_in es)
  all_clients es h = all_mapped _ _ (λ e. client_of e.id e.rec) (λ e h. h) es h

  module _ (same : (a b : T) → ops.compare a b ≡ Equal → a ≡ b) (off : (a : T) → P a → ops.minus a (ops.of_moment 0) ≡ Some a) (clients : List (PlainClient T)) (shares : AllByRecursion HasShares clients) where
    abbrev nothing : T
    nothing = ops.of_moment 0

    can_all : can_shift_by ops (Some nothing) clients ≡ true
    can_all =
        all_pass (client_can_shift ops nothing) clients
        (all_as HasShares (λ c. client_can_shift ops nothing c ≡ true) (λ c h. ap (λ b. c.idle || b) (shares_have_less ops nothing P (λ a v. ap is_some (off a v)) c.requests c.previous.p h) ∙ or-true c.idle) clients shares)

    same_less : (a : T) → P a → less ops nothing a ≡ a
    same_less a v = ap (λ o. unwrap_or o a) (off a v)

    same_shares : (c : PlainClient T) → HasShares c → less_shares ops nothing c ≡ c
    same_shares c h =
        let both = at c.requests h in
        ap (λ qs. record c { previous = record (c.previous) { p = less ops nothing c.previous.p }; requests = qs }) both.0
        ∙ ap (λ p. record c { previous = record (c.previous) { p = p } }) both.1 where
          at : (qs : List (QueuedRequest T)) → AllByRecursion P (map (λ r. r.tags.p) qs ++ c.previous.p ∷ []) → (map (less_share ops nothing) qs ≡ qs) × (less ops nothing c.previous.p ≡ c.previous.p)
          at [] h = (refl, same_less c.previous.p h.0)
          at (r ∷ qs) h =
              let more = at qs h.1 in
              (ap (λ p. record r { tags = record (r.tags) { p = p } } ∷ map (less_share ops nothing) qs) (same_less r.tags.p h.0) ∙ ap (λ rs. r ∷ rs) more.0, more.1)

    same_client : (c : PlainClient T) (idle : Bool) → HasShares c → (if idle then c else less_shares ops nothing c) ≡ c
    same_client c true h = refl
    same_client c false h = same_shares c h

    nothing_shifted : shifted_by ops (Some nothing) clients ≡ clients
    nothing_shifted = map_unmoved (shifted_client ops nothing) clients (all_as HasShares (λ c. shifted_client ops nothing c ≡ c) (λ c h. same_client c c.idle h) clients shares)

    -- with the shift left out if it is nothing, the test and the clients are the same
    pub same_test : (full : Option T) → can_shift_by ops (unless_nothing ops full) clients ≡ can_shift_by ops full clients
    same_test None = refl
    same_test (Some amount) = at (ops.compare amount nothing) refl where
      at : (r : Ordering) → ops.compare amount nothing ≡ r → can_shift_by ops (if is_eq r then None else Some amount) clients ≡ can_shift_by ops (Some amount) clients
      at Less e = refl
      at Greater e = refl
      at Equal e = sym can_all ∙ ap (λ a. can_shift_by ops (Some a) clients) (sym (same amount nothing e))

    pub same_shifted : (full : Option T) → shifted_by ops (unless_nothing ops full) clients ≡ shifted_by ops full clients
    same_shifted None = refl
    same_shifted (Some amount) = at (ops.compare amount nothing) refl where
      at : (r : Ordering) → ops.compare amount nothing ≡ r → shifted_by ops (if is_eq r then None else Some amount) clients ≡ shifted_by ops (Some amount) clients
      at Less e = refl
      at Greater e = refl
      at Equal e = sym nothing_shifted ∙ ap (λ a. shifted_by ops (Some a) clients) (sym (same amount nothing e))
