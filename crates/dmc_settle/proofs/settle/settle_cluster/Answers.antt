use Rattle.std.proofs.Common.{◌≡◌, ℕ, ◌<◌, true, List, [], length, map, drop, get_or, refl, sym, ap, ◌∙◌, subst, arith}
use Rattle.std.specs.Global.{Vec}
use Rattle.std.specs.Vec.{with_items}
use Rattle.std.proofs.lemmas.Bool.{false≢true}
use Rattle.std.proofs.lemmas.List.{length-map}
use Rattle.dmc_ledger.specs.Bundles.{ClientSide}
use Rattle.dmc_ledger.specs.declared.desk.ClientDesk.{ClientDesk}
use Rattle.dmc_book.specs.BookState.{BookState, PassState, pass_state}
use Rattle.dmc_book.specs.declared.pass.WorkerPass.{WorkerPass}
use Rattle.dmc_book.specs.Settling.{AreSettledDesks}
use Rattle.dmc_scene.specs.SceneValue.{ClientValue}
use Rattle.dmc_settle.specs.internal.Filled.{AreServerNumbers, IsReadyServer, no_server_numbers, server_numbers}
use Rattle.dmc_settle.specs.internal.Places.{no_book, pass_states, sides}
use Rattle.dmc_settle.specs.Left.{AreTogether, Left, left_of, stops_of}
use Rattle.dmc_settle.specs.Reports.{AreRows}
use Rattle.dmc_settle.specs.declared.report.ClientReport.{ClientReport}
use Rattle.dmc_settle.specs.declared.report.ServerReport.{ServerReport}
use Rattle.dmc_settle.specs.declared.report.ClusterReport.{ClusterReport}
use Rattle.dmc_settle.proofs.Circles.{IsSettledCluster, circles}
use Rattle.dmc_settle.proofs.Completed.{report}
use Rattle.dmc_settle.proofs.Lists.{alike_long}
use Rattle.dmc_settle.proofs.Ready.{ready_clients, ready_servers}
use Rattle.dmc_settle.proofs.Reported.{report_of, same_stops}
use Rattle.dmc_settle.proofs.Together.{passes_seen}
use Rattle.dmc_settle.proofs.settle.settle_cluster.Given.{Over}
use Rattle.dmc_settle.proofs.settle.settle_cluster.Goals as goal
use Rattle.dmc_settle.proofs.settle.settle_cluster.Goals.{After-are_whole, After-drop-desks}
use Rattle.dmc_lemmas.proofs.Lists.{lent_back}

pub returns-then-not-are_whole-clause-together : goal.returns-then-not-are_whole-clause-together
returns-then-not-are_whole-clause-together g c =
    let r : Left g.row.T.Denot = left_of c.args.books.now c.args.trackers.items c.args.passes (stops_of c.args.report) in (
      (λ e. cc),
      (λ (both : AreTogether c.args.scene.now r × AreRows c.args.scene.now c.args.report). absurd (false≢true (sym c.if-not-are_whole.true ∙ c.are_whole.ensures.whole.1 (rw c.deref.ensures.value both)))),
    )

-- ---- what the paths share

-- whole parts are together, and the report has their rows
whole : (g : Over) (c : After-are_whole g) → c.are_whole.result ≡ true
    → AreTogether c.args.scene.now (left_of c.args.books.now c.args.trackers.items c.args.passes (stops_of c.args.report)) × AreRows c.args.scene.now c.args.report
whole g c is = rw c.deref.ensures.value at (c.are_whole.ensures.whole.0 is)

-- the desks that the servers left, each server's seen as one list
desks_each : {S : Type 0} (desks : List (Vec (ClientDesk S))) (n : ℕ) → length desks ≡ n → length (map sides desks) ≡ n
desks_each {S} desks n h =
    let see : Vec (ClientDesk S) → List ClientSide = sides in
    length-map desks see ∙ h

-- the desks are settled with the passes as they are seen too
settled : {T S : Type 0} (books : List (BookState T)) (workers : List (Vec (WorkerPass S))) (desks : List (List ClientSide))
    → ((s : ℕ) → s < length books → AreSettledDesks (get_or books s no_book).history (get_or (map pass_states workers) s []) (get_or books s no_book).desks (get_or desks s []))
    → (s : ℕ) → s < length books → AreSettledDesks (get_or books s no_book).history (get_or (map (map pass_state) (map (λ v. v.items) workers)) s []) (get_or books s no_book).desks (get_or desks s [])
settled books workers desks h = subst (λ (ps : List (List PassState)). (s : ℕ) → s < length books
    → AreSettledDesks (get_or books s no_book).history (get_or ps s []) (get_or books s no_book).desks (get_or desks s [])) (sym (passes_seen workers)) h

-- ---- the goals

pub settle_servers-requires-clause-passes : goal.settle_servers-requires-clause-passes
settle_servers-requires-clause-passes g c =
    let all = whole g (goal.at.settle_servers-requires-clause-passes g c).After-are_whole c.if-not-are_whole.false in
    omega (arith, all.0.books, all.0.worker_passes, ap length (passes_seen c.args.passes.workers.items), length-map c.args.passes.workers.items (pass_states {S = g.row.S.Denot}))

pub settle_servers-requires-clause-ready : goal.settle_servers-requires-clause-ready
settle_servers-requires-clause-ready g c =
    let all = whole g (goal.at.settle_servers-requires-clause-ready g c).After-are_whole c.if-not-are_whole.false in
    λ s within. subst (λ (ps : List (List PassState)). IsReadyServer (get_or c.args.books.now s no_book) (get_or ps s [])) (passes_seen c.args.passes.workers.items)
    (ready_servers c.args.scene.now (left_of c.args.books.now c.args.trackers.items c.args.passes (stops_of c.args.report)) all.0 (c.are_whole.ensures.clients c.if-not-are_whole.false) s within)

pub returns-clause-together : goal.returns-clause-together
returns-clause-together g c = (λ e. whole g (goal.at.returns-clause-together g c).After-are_whole c.if-not-are_whole.false, λ both. refl)

pub settle_servers-requires-clause-rows : goal.settle_servers-requires-clause-rows
settle_servers-requires-clause-rows g c =
    let all = whole g (goal.at.settle_servers-requires-clause-rows g c).After-are_whole c.if-not-are_whole.false in
    omega (arith, ap length c.deref_mut.ensures.value, all.1.as_many_servers, all.0.books)

pub settle_servers-requires-clause-room : goal.settle_servers-requires-clause-room
settle_servers-requires-clause-room g c =
    let all = whole g (goal.at.settle_servers-requires-clause-room g c).After-are_whole c.if-not-are_whole.false in
    omega (arith, all.0.books, c.requires.room, c.room.view_is)

pub settle_clients-requires-clause-passes : goal.settle_clients-requires-clause-passes
settle_clients-requires-clause-passes g c =
    let all = whole g (goal.at.settle_clients-requires-clause-passes g c).After-are_whole c.if-not-are_whole.false in
    all.0.client_passes ∙ sym all.0.trackers

pub settle_clients-requires-clause-rows : goal.settle_clients-requires-clause-rows
settle_clients-requires-clause-rows g c =
    let all = whole g (goal.at.settle_clients-requires-clause-rows g c).After-are_whole c.if-not-are_whole.false in
    let long = alike_long (λ (x : ClientReport). x.client) (λ (x : ClientValue). x.id) c.args.report.clients.items c.args.scene.now.clients all.1.clients in
    omega (arith, ap length c.deref_mut-2.ensures.value, long, all.0.trackers)

pub settle_clients-requires-clause-few : goal.settle_clients-requires-clause-few
settle_clients-requires-clause-few g c =
    let all = whole g (goal.at.settle_clients-requires-clause-few g c).After-are_whole c.if-not-are_whole.false in
    omega (arith, ap length c.deref-2.ensures.value, c.settle_servers.ensures.desks_each, all.0.books, c.are_whole.ensures.servers c.if-not-are_whole.false)

pub settle_clients-requires-clause-ready : goal.settle_clients-requires-clause-ready
settle_clients-requires-clause-ready g c =
    let all = whole g (goal.at.settle_clients-requires-clause-ready g c).After-are_whole c.if-not-are_whole.false in
    let desks = c.settle_servers.new.desks.items in
    let r : Left g.row.T.Denot = left_of c.args.books.now c.args.trackers.items c.args.passes (stops_of c.args.report) in
    rw c.deref-2.ensures.value (λ k within. ready_clients c.args.scene.now r all.0 (map sides desks) (desks_each desks _ c.settle_servers.ensures.desks_each)
    (settled c.args.books.now c.args.passes.workers.items (map sides desks) c.settle_servers.ensures.desks) k within)

-- the report that is handed back, and what the two walks left of it
abbrev new_report : (g : Over) → After-drop-desks g → ClusterReport g.row.T.Denot
new_report g c = record {
  clients = with_items c.args.report.clients c.settle_clients.new.rows;
  servers = with_items c.args.report.servers c.settle_servers.new.rows;
}

server_rows : (g : Over) (c : After-drop-desks g) → (new_report g c).servers.items ≡ c.settle_servers.new.rows
server_rows g c =
    let new = c.settle_servers.new.rows in
    let same = c.deref_mut.ensures.value in
    let long = alike_long (λ (x : ServerReport g.row.T.Denot). x.server) (λ (x : ServerReport g.row.T.Denot). x.server) new c.deref_mut.result.now c.settle_servers.ensures.servers ∙ ap length same in
    lent_back new (drop (length new) c.args.report.servers.items) c.args.report.servers.len (long ∙ sym c.args.report.servers.ok.0)

client_rows : (g : Over) (c : After-drop-desks g) → (new_report g c).clients.items ≡ c.settle_clients.new.rows
client_rows g c =
    let new = c.settle_clients.new.rows in
    let same = c.deref_mut-2.ensures.value in
    let long = alike_long (λ (x : ClientReport). x.client) (λ (x : ClientReport). x.client) new c.deref_mut-2.result.now c.settle_clients.ensures.clients ∙ ap length same in
    lent_back new (drop (length new) c.args.report.clients.items) c.args.report.clients.len (long ∙ sym c.args.report.clients.ok.0)

settled_cluster : (g : Over) (c : After-drop-desks g) → IsSettledCluster g.T.Tag.ops c.args.scene.now
    (left_of c.args.books.now c.args.trackers.items c.args.passes (stops_of c.args.report))
    (map sides c.settle_servers.new.desks.items) c.args.report (new_report g c)
settled_cluster g c =
    let r : Left g.row.T.Denot = left_of c.args.books.now c.args.trackers.items c.args.passes (stops_of c.args.report) in
    let together : AreTogether c.args.scene.now r = (rw c.deref.ensures.value at (c.are_whole.ensures.whole.0 c.if-not-are_whole.false)).0 in
    let rows : AreRows c.args.scene.now c.args.report = (c.are_whole.ensures.whole.0 c.if-not-are_whole.false).1 in
    let desks = c.settle_servers.new.desks.items in
    let seen = passes_seen c.args.passes.workers.items in
    let of_servers = server_rows g c in
    let of_clients = client_rows g c in
    let lent = c.deref-2.ensures.value in
    record {
      together = together;
      rows = rows;
      desks_each = desks_each desks _ c.settle_servers.ensures.desks_each;
      settled = settled c.args.books.now c.args.passes.workers.items (map sides desks) c.settle_servers.ensures.desks;
      servers = rw of_servers (subst (λ (ps : List (List PassState)). (s : ℕ) → s < length c.args.books.now
          → AreServerNumbers g.T.Tag.ops (get_or c.args.books.now s no_book) (get_or ps s []) (get_or (map server_numbers c.settle_servers.new.rows) s no_server_numbers)) (sym seen) c.settle_servers.ensures.numbers);
      clients = rw of_clients (rw lent at c.settle_clients.ensures.numbers);
      balanced = rw lent at c.settle_clients.ensures.balanced;
      consistent = c.settle_clients.ensures.consistent;
      same_servers = rw of_servers (c.settle_servers.ensures.servers ∙ ap (λ (xs : List (ServerReport g.row.T.Denot)). map (λ (x : ServerReport g.row.T.Denot). x.server) xs) c.deref_mut.ensures.value);
      same_clients = rw of_clients (c.settle_clients.ensures.clients ∙ ap (λ (xs : List ClientReport). map (λ (x : ClientReport). x.client) xs) c.deref_mut-2.ensures.value);
    }

pub returns-clause-circle : goal.returns-clause-circle
returns-clause-circle g c =
    let r : Left g.row.T.Denot = left_of c.args.books.now c.args.trackers.items c.args.passes (stops_of c.args.report) in
    circles g.T.Tag.ops c.args.scene.now r (map sides c.settle_servers.new.desks.items) c.args.report (new_report g c) (settled_cluster g c)

pub returns-clause-report : goal.returns-clause-report
returns-clause-report g c =
    let r : Left g.row.T.Denot = left_of c.args.books.now c.args.trackers.items c.args.passes (stops_of c.args.report) in
    report g.T.Tag.ops c.args.scene.now r (map sides c.settle_servers.new.desks.items) c.args.report (new_report g c) (settled_cluster g c)

-- neither walk writes a stop
stops_kept : (g : Over) (c : After-drop-desks g) → stops_of (new_report g c) ≡ stops_of c.args.report
stops_kept g c =
    let of_servers = server_rows g c in
    let of_clients = client_rows g c in
    same_stops c.args.report (new_report g c)
    (rw of_clients (c.settle_clients.ensures.stops ∙ ap (λ (xs : List ClientReport). map (λ (x : ClientReport). x.stop) xs) c.deref_mut-2.ensures.value))
    (rw of_clients (c.settle_clients.ensures.failed ∙ ap (λ (xs : List ClientReport). map (λ (x : ClientReport). x.failed) xs) c.deref_mut-2.ensures.value))
    (rw of_servers (c.settle_servers.ensures.stops ∙ ap (λ (xs : List (ServerReport g.row.T.Denot)). map (λ (x : ServerReport g.row.T.Denot). x.stops) xs) c.deref_mut.ensures.value))

pub returns-clause-its_report : goal.returns-clause-its_report
returns-clause-its_report g c =
    let r : Left g.row.T.Denot = left_of c.args.books.now c.args.trackers.items c.args.passes (stops_of c.args.report) in
    report_of g.T.Tag.ops c.args.scene.now r (map sides c.settle_servers.new.desks.items) c.args.report (new_report g c) (settled_cluster g c) (stops_kept g c)
