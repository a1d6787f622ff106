-- Why a submit was refused.
use Rattle.std.proofs.Common.{ℕ, ◌≡◌, ◌<◌, false, length, refl, Some, Err, inr, arith}
use Rattle.std.specs.Prelude.{◌↔◌}
use Rattle.dmc_types.specs.declared.ids.Token.{Token}
use Rattle.dmc_tag.specs.Tag.{Tagging}
use Rattle.dmc_history.specs.declared.ReserveFault.{ReserveFault}
use Rattle.dmc_history.specs.declared.ReserveFault.TheVariants as reserve
use Rattle.dmc_ledger.specs.Bundles.{StampHoldings, StampValue}
use Rattle.dmc_book.specs.BookState.{BookState, PassState}
use Rattle.dmc_book.specs.Calls.{HasNoPlace, IsForDesk, submit_cause}
use Rattle.dmc_book.specs.Moves.{IsEnrolled}
use Rattle.dmc_book.specs.internal.Submits.{FindsDesk, IsAsked, Submits}
use Rattle.dmc_book.proofs.Causes.{memory_is_not_full}

module _ {T : Type 0} (b : BookState T) (p : PassState) (stamp : StampValue) (tills : StampHoldings) where
  abbrev Enrolled : Type 0
  Enrolled = IsEnrolled b.workers p

  abbrev AtDesk : Type 0
  AtDesk = IsForDesk b.server b.desks stamp tills

  pub at_desk : (place : ℕ) → FindsDesk b.server b.workers b.desks p stamp tills (Some place) → Enrolled × AtDesk
  at_desk place found = (found.0, record { its_server = found.1; place = place; here = found.2; its_tills = found.4 })

  pub asked_at : (place : ℕ) → FindsDesk b.server b.workers b.desks p stamp tills (Some place) → b.closed ≡ false → length b.history < b.most → IsAsked b p stamp tills
  asked_at place found is_open fewer = (found.0, (at_desk place found).1, is_open, λ full. omega (arith, fewer, full))

  -- no place was reserved
  pub unreserved : (ops : Tagging T) (token : Token) (at place : ℕ) → FindsDesk b.server b.workers b.desks p stamp tills (Some place) → b.closed ≡ false
      → (x : ReserveFault) → (x ≡ reserve.HistoryFull) ↔ (length b.history ≡ b.most) → (x ≡ reserve.Memory → HasNoPlace b) → Submits ops b b p p stamp tills tills token at (Err (submit_cause x))
  unreserved ops token at place found is_open reserve.HistoryFull full no_place = ((refl, refl), refl, (found.0, (at_desk place found).1, is_open, full.0 refl))
  unreserved ops token at place found is_open reserve.Memory full no_place =
      ((refl, refl), refl, ((found.0, (at_desk place found).1, is_open, λ f. absurd (memory_is_not_full (full.1 f))), inr (no_place refl)))
