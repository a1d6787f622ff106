use Rattle.std.proofs.Common.{◌≡◌, length, map, drop, sym, ap, ◌∙◌}
use Rattle.std.proofs.lemmas.List.{length-map}
use Rattle.dmc_settle.specs.declared.report.ClientReport.{ClientReport}
use Rattle.dmc_settle.specs.declared.report.ServerReport.{ServerReport}
use Rattle.dmc_types.specs.declared.ids.ClientId.{ClientId}
use Rattle.dmc_types.specs.declared.ids.ServerId.{ServerId}
use Rattle.dmc_lemmas.proofs.Lists.{lent_back}
use Rattle.dmc_driver_threads.proofs.gathering.gather.Goals as goal

pub returns-clause-clients : goal.returns-clause-clients
returns-clause-clients g c =
    let of : ClientReport → ClientId = λ r. r.client in
    let old = c.args.remains.now.report.clients in
    let new = c.gather_servers.new.rows in
    let same : map of new ≡ map of old.items = c.gather_servers.ensures ∙ c.gather_clients.ensures ∙ ap (map of) c.deref_mut-rows.ensures.value in
    let as_many : length new ≡ length old.items = sym (length-map new of) ∙ ap length same ∙ length-map old.items of in
    let back = lent_back new (drop (length new) old.items) old.len (as_many ∙ sym old.ok.0) in
    rw back same

pub returns-clause-servers : goal.returns-clause-servers
returns-clause-servers g c =
    let of : ServerReport g.row.T.Denot → ServerId = λ r. r.server in
    let old = c.args.remains.now.report.servers in
    let new = c.add_stops.new.rows in
    let same : map of new ≡ map of old.items = c.add_stops.ensures ∙ ap (map of) c.deref_mut-3.ensures.value in
    let as_many : length new ≡ length old.items = sym (length-map new of) ∙ ap length same ∙ length-map old.items of in
    let back = lent_back new (drop (length new) old.items) old.len (as_many ∙ sym old.ok.0) in
    rw back same
