-- The desks' grants of a phase are together the grants of that phase, in number and in cost, if each grant is of a client that has a desk.
use Rattle.std.proofs.Common.{◌≡◌, ℕ, zero, suc, ◌+◌, ◌<◌, ◌&&◌, true, true≢false, List, [], ◌∷◌, length, ap, ◌∙◌, refl, sym, Option, Some, None, slice_index_or, arith}
use Rattle.std.specs.Prelude.{◌==◌, false, if◌then◌else◌, is_some, option_map}
use Rattle.std.specs.List.{AllByRecursion, sum_by}
use Rattle.std.proofs.lemmas.Bool.{eq-eqb}
use Rattle.std.proofs.lemmas.List.Sums.{sum_by-cons}
use Rattle.dmc_types.specs.declared.config.PhaseType.{PhaseType}
use Rattle.dmc_tag.specs.declared.event.Event.{Event}
use Rattle.dmc_ledger.specs.Bundles.{ClientSide}
use Rattle.dmc_book.specs.BookState.{no_desk}
use Rattle.dmc_book.specs.Consistent.{AreClientsApart, HasDesk}
use Rattle.dmc_book.specs.declared.counts.Grant.{Grant}
use Rattle.dmc_book.specs.Counts.{costs_for, costs_in, count, grant_in, is_phase, one_if, units_for, units_in}
use Rattle.dmc_book.specs.Moves.{desk_place}
use Rattle.dmc_book.specs.Settling.{AreGrantsOfDesks}
use Rattle.dmc_book.proofs.DeskLemmas.{placed}
use Rattle.dmc_lemmas.proofs.Booleans.{eqb_turned}

-- ---- sums over the desks

sum_none : (f : ClientSide → ℕ) (ds : List ClientSide) → ((d : ClientSide) → f d ≡ 0) → sum_by f ds ≡ 0
sum_none f [] none = refl
sum_none f (d ∷ ds) none =
    let first = sum_by-cons f d ds in
    let rest = sum_none f ds none in
    let here = none d in
    omega (arith, first, rest, here)

sum_both : (f g : ClientSide → ℕ) (ds : List ClientSide) → sum_by (λ d. f d + g d) ds ≡ sum_by f ds + sum_by g ds
sum_both f g [] = refl
sum_both f g (d ∷ ds) =
    let both = sum_by-cons (λ d. f d + g d) d ds in
    let left = sum_by-cons f d ds in
    let right = sum_by-cons g d ds in
    let rest = sum_both f g ds in
    omega (arith, both, left, right, rest)

-- ---- what a grant adds to its client, and to all: its number, or its cost

-- its client has all of it, and no other client any of it
record IsOfOne (of_client : ℕ → Option Grant → ℕ) (of_all : Option Grant → ℕ) : Type 0 where
  pub nobody : (client : ℕ) → of_client client None ≡ 0
  pub none : of_all None ≡ 0
  pub own : (client : ℕ) (grant : Grant) → (grant.client.0 == client) ≡ true → of_client client (Some grant) ≡ of_all (Some grant)
  pub other : (client : ℕ) (grant : Grant) → (grant.client.0 == client) ≡ false → of_client client (Some grant) ≡ 0

units_of_one : (phase : PhaseType) → IsOfOne (λ client. units_for client phase) (units_in phase)
units_of_one phase = record {
  nobody = λ client. refl;
  none = refl;
  own = λ client grant h. ap (λ b. one_if (b && is_phase phase grant.phase)) h;
  other = λ client grant h. ap (λ b. one_if (b && is_phase phase grant.phase)) h;
}

costs_of_one : (phase : PhaseType) → IsOfOne (λ client. costs_for client phase) (costs_in phase)
costs_of_one phase = record {
  nobody = λ client. refl;
  none = refl;
  own = λ client grant h. ap (λ b. if b && is_phase phase grant.phase then grant.cost else 0) h;
  other = λ client grant h. ap (λ b. if b && is_phase phase grant.phase then grant.cost else 0) h;
}

module _ (of_client : ℕ → Option Grant → ℕ) (of_all : Option Grant → ℕ) (one : IsOfOne of_client of_all) where
  -- ---- one grant

  module _ (grant : Grant) where
    abbrev added : ClientSide → ℕ
    added d = of_client d.client (Some grant)

    none_behind : (d : ClientSide) (ds : List ClientSide) → d.client ≡ grant.client.0 → AllByRecursion (λ other. (other.client == d.client) ≡ false) ds → sum_by added ds ≡ 0
    none_behind d [] same h = refl
    none_behind d (o ∷ ds) same h =
        let first = sum_by-cons added o ds in
        let here = one.other o.client grant (eqb_turned grant.client.0 o.client false (ap (λ (n : ℕ). o.client == n) (sym same) ∙ h.0)) in
        let rest = none_behind d ds same h.1 in
        omega (arith, first, here, rest)

    none_before : (d : ClientSide) (ds : List ClientSide) (i : ℕ) → i < length ds → AllByRecursion (λ other. (other.client == d.client) ≡ false) ds → (slice_index_or ds i no_desk).client ≡ grant.client.0 → (grant.client.0 == d.client) ≡ false
    none_before d [] i w h here = absurd (omega (arith, w))
    none_before d (o ∷ ds) zero w h here = ap (λ (n : ℕ). n == d.client) (sym here) ∙ h.0
    none_before d (o ∷ ds) (suc i) w h here = none_before d ds i (omega (arith, w)) h.1 here

    one_desk : (ds : List ClientSide) (i : ℕ) → i < length ds → (slice_index_or ds i no_desk).client ≡ grant.client.0 → AreClientsApart ds → sum_by added ds ≡ of_all (Some grant)
    one_desk [] i w here apart = absurd (omega (arith, w))
    one_desk (d ∷ ds) zero w here apart =
        let first = sum_by-cons added d ds in
        let its = one.own d.client grant (eq-eqb grant.client.0 d.client (sym here)) in
        let rest = none_behind d ds here apart.0 in
        omega (arith, first, its, rest)
    one_desk (d ∷ ds) (suc i) w here apart =
        let less : i < length ds = omega (arith, w) in
        let first = sum_by-cons added d ds in
        let none = one.other d.client grant (none_before d ds i less apart.0 here) in
        let rest = one_desk ds i less here apart.1 in
        omega (arith, first, none, rest)

    at_place : (ds : List ClientSide) (place : Option ℕ) → desk_place grant.client.0 ds ≡ place → is_some place ≡ true → AreClientsApart ds → sum_by added ds ≡ of_all (Some grant)
    at_place ds None is some apart = absurd (true≢false (sym some))
    at_place ds (Some i) is some apart = (let found = placed grant.client.0 ds i is in one_desk ds i found.0 found.1 apart)

  -- ---- one event, and all

  granted_once : (ds : List ClientSide) → AreClientsApart ds → (o : Option Grant) → HasDesk ds (option_map (λ g. g.client) o) → sum_by (λ d. of_client d.client o) ds ≡ of_all o
  granted_once ds apart None h = sum_none _ ds (λ d. one.nobody d.client) ∙ sym one.none
  granted_once ds apart (Some grant) h = at_place grant ds (desk_place grant.client.0 ds) refl h apart

  module _ {T : Type 0} (ds : List ClientSide) (apart : AreClientsApart ds) where
    sum_of_desks : (es : List (Event T)) → AllByRecursion (λ e. HasDesk ds (option_map (λ g. g.client) (grant_in e.reply))) es
        → sum_by (λ d. count (λ e. of_client d.client (grant_in e.reply)) es) ds ≡ count (λ e. of_all (grant_in e.reply)) es
    sum_of_desks [] h = sum_none _ ds (λ d. refl)
    sum_of_desks (e ∷ es) h =
        let both = sum_both (λ d. of_client d.client (grant_in e.reply)) (λ d. count (λ x. of_client d.client (grant_in x.reply)) es) ds in
        let first = granted_once ds apart (grant_in e.reply) h.0 in
        let rest = sum_of_desks es h.1 in
        omega (arith, both, first, rest)

pub grants_of_desks : {T : Type 0} (ds : List ClientSide) → AreClientsApart ds → (es : List (Event T)) → AllByRecursion (λ e. HasDesk ds (option_map (λ g. g.client) (grant_in e.reply))) es → AreGrantsOfDesks es ds
grants_of_desks ds apart es granted phase = (
  sum_of_desks (λ client. units_for client phase) (units_in phase) (units_of_one phase) ds apart es granted,
  sum_of_desks (λ client. costs_for client phase) (costs_in phase) (costs_of_one phase) ds apart es granted,
)
