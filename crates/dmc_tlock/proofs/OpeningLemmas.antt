-- A new tracker book is consistent.
use Rattle.std.proofs.Common.{◌≡◌, ℕ, ◌<◌, ◌≤◌, ◌^◌, List, [], ◌∷◌, None, length, map, set, get_or, zero, suc, refl, sym, ap, ◌∙◌, subst, arith}
use Rattle.std.specs.Prelude.{sum_by}
use Rattle.std.proofs.lemmas.List.Sums.{sum_by-cons}
use Rattle.std.proofs.lemmas.List.{get_or-map, length-map, length-replicate}
use Rattle.dmc_types.specs.Limits.{max_completions}
use Rattle.dmc_types.specs.declared.ids.ServerId.{ServerId}
use Rattle.dmc_types.specs.declared.config.Counting.{Counting}
use Rattle.dmc_tracker.specs.Numbers.{no_numbers, new_numbers, RepresentsEvents}
use Rattle.dmc_tracker.proofs.ForCallers.{IsTracked-nil}
use Rattle.dmc_ledger.specs.Bundles.{ServerSide, new_server_side}
use Rattle.dmc_tlock.specs.BookState.{no_side, desk_at}
use Rattle.dmc_tlock.specs.Consistent.{responded, IsDesk, IsConsistent}
use Rattle.dmc_tlock.specs.Opening.{AreNew, side_after_opening, new_book_state}
use Rattle.dmc_tlock.specs.internal.Opening.{HasList, IsOneTill}
use Rattle.dmc_tlock.proofs.ConsistentLemmas.{balanced}

pub one_till : (client : ℕ) (desks : List ServerSide) → AreNew client desks → (k : ℕ) → k < length desks → IsOneTill (get_or desks k no_side).books
one_till client desks new k within =
    let s : ServerId = record { 0 = k } in
    let made = new s within in
    subst (λ (d : ServerSide). IsOneTill d.books) (sym made.1) (record { stamps = refl; delta = refl; rho = refl })

pub has_list : (client : ℕ) (desks : List ServerSide) → AreNew client desks → 0 < length desks → HasList (get_or desks 0 no_side)
has_list client desks new some = let made = new (record { 0 = 0 }) some in subst HasList (sym made.1) refl

-- the first desk's list is taken: nothing else changes
module _ {D : Type 0} (side : D → ServerSide) where
  pub books_kept : (desks : List D) (d e : D) → side d ≡ record (side (get_or desks 0 e)) { list = None } → (k : ℕ)
      → (get_or (map side (set desks 0 d)) k no_side).books ≡ (get_or (map side desks) k no_side).books
  books_kept [] d e taken k = refl
  books_kept (y ∷ ys) d e taken zero = ap (λ (x : ServerSide). x.books) taken
  books_kept (y ∷ ys) d e taken (suc k) = refl

  pub seen_without : {Y : Type 0} (f : ServerSide → Y) → ((x : ServerSide) → f (record x { list = None }) ≡ f x) → (desks : List D) (d e : D)
      → side d ≡ record (side (get_or desks 0 e)) { list = None } → map f (map side (set desks 0 d)) ≡ map f (map side desks)
  seen_without f blind [] d e taken = refl
  seen_without f blind (y ∷ ys) d e taken = ap (λ z. z ∷ map f (map side ys)) (ap f taken ∙ blind (side y))

opened_desk : (client : ℕ) (s : ServerId) (n : ℕ) → IsDesk client [] s (side_after_opening (new_server_side client s.0 n))
opened_desk client s n = record {
  its_client = refl;
  its_server = refl;
  books = record {
    stamps = record { total = refl; gathered = refl; open_tills = refl };
    delta = record { total = refl; gathered = refl; open_tills = refl };
    rho = record { total = refl; gathered = refl; open_tills = refl };
  };
  held = record { reservation = record { grants = refl; cost = refl }; priority = record { grants = refl; cost = refl } };
}

none_responded : (desks : List ServerSide) → ((k : ℕ) → k < length desks → responded (get_or desks k no_side) ≡ 0) → sum_by responded desks ≡ 0
none_responded [] none = refl
none_responded (d ∷ ds) none =
    let rest = none_responded ds (λ k within. none (suc k) (omega (arith, within))) in
    let first = none zero (omega arith) in
    omega (arith, sum_by-cons responded d ds, first, rest)

pub IsConsistent-new : (client : ℕ) (counting : Counting) (most max_events : ℕ) (desks : List ServerSide) → AreNew client desks
    → RepresentsEvents (new_numbers counting most (length desks)) [] → most ≤ max_completions → 0 < max_events → max_events ≤ 2 ^ 30
    → IsConsistent (new_book_state client counting most max_events desks)
IsConsistent-new client counting most max_events desks new represents countable some limit =
    let opened : List ServerSide = map side_after_opening desks in
    let tracked = IsTracked-nil counting in
    let servers : length opened ≡ length (new_numbers counting most (length desks)).servers =
    length-map desks side_after_opening ∙ sym (length-replicate (length desks) no_numbers) in
    record {
      balanced = balanced (new_book_state client counting most max_events desks) represents tracked servers;
      tracked = tracked;
      represents = represents;
      counted = record { limit = countable; completions = omega arith; sent = λ s within. omega arith };
      desks = λ s within.
          let inside : s.0 < length desks = omega (arith, length-map desks side_after_opening) in
          let made = new s inside in
          let at : desk_at opened s ≡ side_after_opening (desk_at desks s) = get_or-map side_after_opening desks s.0 no_side no_side inside in
          subst (IsDesk client [] s) (sym (at ∙ ap side_after_opening made.1)) (opened_desk client s made.0);
      servers = servers;
      completed = sym (none_responded opened (λ k within.
          let inside : k < length desks = omega (arith, length-map desks side_after_opening) in
          let made = new (record { 0 = k }) inside in
          let at : desk_at opened (record { 0 = k }) ≡ side_after_opening (desk_at desks (record { 0 = k })) = get_or-map side_after_opening desks k no_side no_side inside in
          ap responded (at ∙ ap side_after_opening made.1)));
      released = omega arith;
      few = omega arith;
      within = omega arith;
      some = some;
      limit = limit;
    }
