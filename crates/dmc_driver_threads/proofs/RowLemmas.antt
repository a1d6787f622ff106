-- The rows of a run.
use Rattle.std.proofs.Common.{◌≡◌, ℕ, ◌+◌, ◌<◌, List, [], ◌∷◌, ◌++◌, length, map, get_or, Some, sym, ap, ◌∙◌, arith}
use Rattle.std.specs.Prelude.{slice_get}
use Rattle.std.specs.List.{range_with_len}
use Rattle.std.proofs.lemmas.List.{get_or-map, length-map, map-id}
use Rattle.std.proofs.lemmas.List.FromFn.{get_or-range_with_len, length-range_with_len, map-range_with_len_more}
use Rattle.std.proofs.lemmas.Option.{get_or_from_slice_get, slice_get-get_or, slice_get_within}
use Rattle.dmc_types.specs.declared.ids.ServerId.{ServerId}
use Rattle.dmc_scene.specs.SceneValue.{SceneValue}
use Rattle.dmc_settle.specs.Reports.{AreRows}
use Rattle.dmc_settle.specs.declared.report.ClientReport.{ClientReport}
use Rattle.dmc_settle.specs.declared.report.ClusterReport.{ClusterReport}
use Rattle.dmc_settle.specs.declared.report.ServerReport.{ServerReport}

-- one number more
pub range_more : (a n j : ℕ) → a + n ≡ j → range_with_len a (n + 1) ≡ range_with_len a n ++ j ∷ []
range_more a n j at =
    sym (map-id (range_with_len a (n + 1))) ∙ map-range_with_len_more (λ (k : ℕ). k) a n j at
    ∙ ap (λ (ks : List ℕ). ks ++ j ∷ []) (map-id (range_with_len a n))

module _ {T : Type 0} where
  abbrev server_of : ServerReport T → ServerId
  server_of r = r.server

  abbrev number_of : ServerReport T → ℕ
  number_of r = r.server.0

  -- the row at a place is what the list has there
  at_place : {Y : Type 0} (f : ServerReport T → Y) (rows : List (ServerReport T)) (k : ℕ) (r : ServerReport T) (d : Y) → slice_get rows k ≡ Some r → f r ≡ get_or (map f rows) k d
  at_place f rows k r d at =
      sym (ap f (get_or_from_slice_get rows k r r at)) ∙ sym (get_or-map f rows k r d (slice_get_within rows k r at))

  -- the rows that a run opens with
  pub rows_opened : (scene : SceneValue) (r : ClusterReport T) → map (λ (c : ClientReport). c.client) r.clients.items ≡ map (λ c. c.id) scene.clients
      → map number_of r.servers.items ≡ range_with_len 0 scene.servers → AreRows scene r
  rows_opened scene r clients servers =
      let rows = r.servers.items in
      let as_many : length rows ≡ scene.servers = sym (length-map rows number_of) ∙ ap length servers ∙ length-range_with_len 0 scene.servers in
      record {
        clients = clients;
        as_many_servers = as_many;
        servers = λ k s at.
            let within : k < scene.servers = omega (arith, as_many, slice_get_within rows k s at) in
            let from_zero : 0 + k ≡ k = omega arith in
            at_place number_of rows k s 0 at ∙ ap (λ (ns : List ℕ). get_or ns k 0) servers ∙ get_or-range_with_len 0 scene.servers k 0 within ∙ from_zero;
      }

  -- rows of the same clients and servers
  pub rows_kept : (scene : SceneValue) (old new : ClusterReport T)
      → map (λ (c : ClientReport). c.client) new.clients.items ≡ map (λ (c : ClientReport). c.client) old.clients.items
      → map server_of new.servers.items ≡ map server_of old.servers.items → AreRows scene old → AreRows scene new
  rows_kept scene old new clients servers h =
      let rows = old.servers.items in
      let as_many : length new.servers.items ≡ length rows = sym (length-map new.servers.items server_of) ∙ ap length servers ∙ length-map rows server_of in
      record {
        clients = clients ∙ h.clients;
        as_many_servers = as_many ∙ h.as_many_servers;
        servers = λ k s at.
            let within : k < length rows = omega (arith, as_many, slice_get_within new.servers.items k s at) in
            let there : ServerReport T = get_or rows k s in
            let same : s.server ≡ there.server = at_place server_of new.servers.items k s s.server at ∙ ap (λ (xs : List ServerId). get_or xs k s.server) servers
            ∙ get_or-map server_of rows k s s.server within in
            ap (λ (x : ServerId). x.0) same ∙ h.servers k there (slice_get-get_or rows k s within);
      }
