-- The requests of all clients.
use Rattle.std.proofs.Common.{◌≡◌, ℕ, ◌+◌, ◌<◌, ◌≤◌, List, [], ◌∷◌, ◌++◌, length, take, get_or, sym, ap, ◌∙◌, append-nil}
use Rattle.std.proofs.lemmas.List.{take_more}
use Rattle.std.proofs.lemmas.List.Concat.{flat_map-append}
use Rattle.std.proofs.lemmas.List.Folds.{length-flat_map-take}
use Rattle.dmc_tag.specs.State.{PlainClient, queued_requests}

module _ {T : Type 0} (clients : List (PlainClient T)) (i : ℕ) (c : PlainClient T) (within : i < length clients) (is : c ≡ get_or clients i c) where
  -- those of one client more
  pub queued_more : queued_requests (take (i + 1) clients) ≡ queued_requests (take i clients) ++ c.requests
  queued_more =
      ap queued_requests (take_more clients i c within ∙ ap (λ d. take i clients ++ d ∷ []) (sym is))
      ∙ flat_map-append (λ (d : PlainClient T). d.requests) (take i clients) (c ∷ [])
      ∙ ap (λ rs. queued_requests (take i clients) ++ rs) (append-nil c.requests)

  pub queued_bound : length (queued_requests (take i clients)) + length c.requests ≤ length (queued_requests clients)
  queued_bound = rw (← is) at (length-flat_map-take (λ (d : PlainClient T). d.requests) clients i c within)
