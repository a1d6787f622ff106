-- The state that a clean leaves.
use Rattle.std.proofs.Common.{◌≡◌, ℕ, not, ◌&&◌, ◌||◌, List, length, map, refl, arith}
use Rattle.std.specs.Prelude.{filter}
use Rattle.dmc_types.specs.declared.command.Command.TheVariants.{Clean}
use Rattle.dmc_tag.specs.Rules.{is_stale}
use Rattle.dmc_tag.specs.State.{State, PlainClient, effective}
use Rattle.dmc_tag.specs.Step.{step}
use Rattle.dmc_tag.specs.Tag.{Tagging}
use Rattle.dmc_tag.specs.declared.reply.Reply.TheVariants.{Cleaned}
use Rattle.dmc_plain.specs.internal.Kept.{IsKept}
use Rattle.dmc_plain.proofs.Kept.{kept_mapped, kept_filtered}

module _ {T : Type 0} where
  abbrev marked : ℕ → ℕ → PlainClient T → PlainClient T
  marked t idle_age c = record c { idle = c.idle || is_stale t idle_age c }

  pub cleaned_as : (ops : Tagging T) (q old : State T) (at t idle_age erase_age idled erased : ℕ) (first second kept clients : List (PlainClient T)) → q ≡ old →
      t ≡ effective old at → idle_age ≡ q.config.idle_age → erase_age ≡ q.config.erase_age → first ≡ q.clients → second ≡ q.clients →
      idled ≡ length (filter (λ c. not (is_stale t erase_age c) && is_stale t idle_age c && not c.idle) first) →
      erased ≡ length (filter (is_stale t erase_age) second) → kept ≡ filter (λ c. not (is_stale t erase_age c)) q.clients → clients ≡ map (marked t idle_age) kept →
      (record q { clients = clients; last_moment = t }, Cleaned idled erased) ≡ step ops old (Clean at)
  cleaned_as ops q old at t idle_age erase_age idled erased first second kept clients view moment idle erase fs ss is es ks cs =
      rw (cs, ks, is, es, fs, ss, idle, erase, moment, view) refl

  pub cleaned_kept : (a b : ℕ) (before : List (PlainClient T)) → IsKept a b before → (t idle_age erase_age : ℕ) (kept clients : List (PlainClient T)) →
      kept ≡ filter (λ c. not (is_stale t erase_age c)) before → clients ≡ map (marked t idle_age) kept → IsKept a b clients
  cleaned_kept a b before h t idle_age erase_age kept clients ks cs =
      rw (cs, ks) (kept_mapped a b _ (kept_filtered a b before h (λ c. not (is_stale t erase_age c))) (marked t idle_age) (λ c. refl) (λ c. omega arith))
