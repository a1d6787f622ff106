-- What desks granted, summed.
use Rattle.std.proofs.Common.{◌≡◌, ℕ, ◌+◌, ◌*◌, ◌<◌, ◌≤◌, List, [], ◌∷◌, ◌++◌, length, map, take, get_or, refl, sym, ap, ◌∙◌, arith}
use Rattle.std.proofs.lemmas.List.{map_push, take_more}
use Rattle.std.proofs.lemmas.List.Sums.{sum_by_push}
use Rattle.dmc_ledger.specs.Accounts.{total_of}
use Rattle.dmc_ledger.specs.Bundles.{ClientSide, client_side}
use Rattle.dmc_ledger.specs.declared.desk.ClientDesk.{ClientDesk}
use Rattle.dmc_settle.specs.internal.Filled.{AreFewGrants, AreWithin, granted_at, with_desk}
use Rattle.dmc_settle.specs.declared.servers.Granted.{Granted}

pub granted_more : (ds : List ClientSide) (d : ClientSide) → granted_at (ds ++ d ∷ []) ≡ with_desk (granted_at ds) d
granted_more ds d =
    rw (
      sum_by_push (λ (x : ClientSide). total_of x.books.reservation.grants) ds d,
      sum_by_push (λ (x : ClientSide). total_of x.books.priority.grants) ds d,
      sum_by_push (λ (x : ClientSide). x.books.reservation.grants.gathered) ds d,
      sum_by_push (λ (x : ClientSide). x.books.priority.grants.gathered) ds d,
    ) refl

-- one desk more of a list
pub granted_next : {S : Type 0} (desks : List (ClientDesk S)) (i : ℕ) (d : ClientDesk S) → i < length desks → d ≡ get_or desks i d
    → granted_at (map client_side (take (i + 1) desks)) ≡ with_desk (granted_at (map client_side (take i desks))) (client_side d)
granted_next {S} desks i d within at =
    let f : ClientDesk S → ClientSide = client_side in
    ap (λ xs. granted_at (map f xs)) (take_more desks i d within) ∙ ap granted_at (map_push f (take i desks) (get_or desks i d))
    ∙ granted_more (map f (take i desks)) (f (get_or desks i d)) ∙ ap (λ (x : ClientDesk S). with_desk (granted_at (map f (take i desks))) (f x)) (sym at)

pub within_next : (i : ℕ) (g : Granted) (d : ClientSide) → AreFewGrants d → AreWithin (i * 1073741824) g → AreWithin ((i + 1) * 1073741824) (with_desk g d)
within_next i g d few h = record {
  reservation = omega (arith, few.reservation, h.reservation);
  priority = omega (arith, few.priority, h.priority);
  held_reservation = omega (arith, few.reservation, h.held_reservation);
  held_priority = omega (arith, few.priority, h.held_priority);
}

pub within_far : (i : ℕ) (g : Granted) → i ≤ 256 → AreWithin (i * 1073741824) g → AreWithin 1099511627776 g
within_far i g few h = record {
  reservation = omega (arith, few, h.reservation);
  priority = omega (arith, few, h.priority);
  held_reservation = omega (arith, few, h.held_reservation);
  held_priority = omega (arith, few, h.held_priority);
}
