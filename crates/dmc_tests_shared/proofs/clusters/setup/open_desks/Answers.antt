-- The desks of a client at two servers are for the servers 0 and 1.
use Rattle.std.proofs.Common.{◌≡◌, ℕ, ◌<◌, zero, suc, [], ◌∷◌, slice_index_or, map, sym, subst, arith}
use Rattle.dmc_ledger.specs.Bundles.{ServerSide, new_server_side, server_side}
use Rattle.dmc_tlock.specs.BookState.{no_side}
use Rattle.dmc_tlock.specs.Opening.{AreNew}
use Rattle.dmc_tests_shared.proofs.clusters.setup.open_desks.Goals as goal

new_at : (client n m : ℕ) (a b : ServerSide) → a ≡ new_server_side client 0 n → b ≡ new_server_side client 1 m
    → (k : ℕ) → k < 2 → (x : ℕ) × (slice_index_or (a ∷ b ∷ []) k no_side ≡ new_server_side client k x)
new_at client n m a b first second zero within = (n, first)
new_at client n m a b first second (suc zero) within = (m, second)
new_at client n m a b first second (suc (suc k)) within = absurd (omega (arith, within))

are_new : (client n m : ℕ) (a b : ServerSide) → a ≡ new_server_side client 0 n → b ≡ new_server_side client 1 m → AreNew client (a ∷ b ∷ [])
are_new client n m a b first second s within = new_at client n m a b first second s.0 within

pub returns-clause-sides : goal.returns-clause-sides
returns-clause-sides g c =
    subst (λ items. AreNew c.args.client.0 (map server_side items)) (sym c.in-Ok.ensures.items)
    (are_new c.args.client.0 _ _ (server_side c.in_ok-here.side) (server_side c.in_ok-there.other) c.in_ok-here.ensures.server_desk c.in_ok-there.ensures.server_desk)
