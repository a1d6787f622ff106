use Rattle.std.proofs.Common.{◌≡◌, ℕ, ◌+◌, ◌*◌, ◌≤◌, List, [], length, map, drop, sym, ap, ◌∙◌, subst, arith}
use Rattle.dmc_lemmas.proofs.Lists.{lent_back}
use Rattle.dmc_ledger.specs.Bundles.{books_per_pair}
use Rattle.dmc_settle.specs.declared.report.ClientReport.{ClientReport}
use Rattle.dmc_driver_threads.specs.internal.Desks.{QueueDesksValue, ids_of, queues_of}
use Rattle.dmc_driver_threads.proofs.DeskLemmas.{as_many_queues}
use Rattle.dmc_driver_threads.proofs.RowLemmas.{rows_opened}
use Rattle.dmc_driver_threads.proofs.opening.Opening.open_all.Given.{Over}
use Rattle.dmc_driver_threads.proofs.opening.Opening.open_all.Goals.{After-deref_mut}
use Rattle.dmc_driver_threads.proofs.opening.Opening.open_all.Goals as goal

-- there is a queue for each server
long : (g : Over) (c : After-deref_mut g) → length c.deref_mut.result.now ≡ c.args.self.now.scene.now.servers
long g c =
    let servers = c.args.self.now.scene.now.servers in
    ap (λ (qs : List QueueDesksValue). length qs) (c.deref_mut.ensures.value ∙ c.in_ok-desks.ensures.queues) ∙ as_many_queues servers []

pub open_clients-requires-clause-queues : goal.open_clients-requires-clause-queues
open_clients-requires-clause-queues g c =
    let a = (goal.at.open_clients-requires-clause-queues g c).After-deref_mut in
    c.deref_mut.ensures.value ∙ c.in_ok-desks.ensures.queues ∙ ap (λ (n : ℕ). queues_of n []) (sym (long g a))

pub open_clients-requires-clause-some : goal.open_clients-requires-clause-some
open_clients-requires-clause-some g c = omega (arith, long g (goal.at.open_clients-requires-clause-some g c).After-deref_mut, c.in_ok-desks.ensures.some)

pub open_clients-requires-clause-few : goal.open_clients-requires-clause-few
open_clients-requires-clause-few g c = omega (arith, long g (goal.at.open_clients-requires-clause-few g c).After-deref_mut, c.in_ok-desks.ensures.few)

pub open_clients-requires-clause-left : goal.open_clients-requires-clause-left
open_clients-requires-clause-left g c =
    let scene = c.args.self.now.scene.now in
    let a = (goal.at.open_clients-requires-clause-left g c).After-deref_mut in
    let enough : length scene.clients * (books_per_pair * scene.servers) ≤ c.args.mint.now.left = omega (arith, c.requires.numbers) in
    subst (λ (n : ℕ). length scene.clients * (books_per_pair * n) ≤ c.args.mint.now.left) (sym (long g a)) enough

pub open_servers-requires-clause-desks : goal.open_servers-requires-clause-desks
open_servers-requires-clause-desks g c =
    let scene = c.args.self.now.scene.now in
    let a = (goal.at.open_servers-requires-clause-desks g c).After-deref_mut in
    let new = c.open_clients.new.queues in
    let old = c.in_ok-desks.desks in
    let queues : new ≡ queues_of scene.servers (ids_of scene.clients) =
    c.in_ok-open_clients.ensures.queues ∙ ap (λ (n : ℕ). queues_of n (ids_of scene.clients)) (long g a) in
    let as_many : length new ≡ length old.items =
    ap length queues ∙ as_many_queues scene.servers (ids_of scene.clients) ∙ sym (long g a) ∙ ap (λ (qs : List QueueDesksValue). length qs) c.deref_mut.ensures.value in
    let back = lent_back new (drop (length new) old.items) old.len (as_many ∙ sym old.ok.0) in
    rw back queues

pub open_servers-requires-clause-left : goal.open_servers-requires-clause-left
open_servers-requires-clause-left g c =
    let scene = c.args.self.now.scene.now in
    let a = (goal.at.open_servers-requires-clause-left g c).After-deref_mut in
    let opened : c.open_clients.new.mint.left + length scene.clients * (books_per_pair * scene.servers) ≡ c.args.mint.now.left =
    subst (λ (n : ℕ). c.open_clients.new.mint.left + length scene.clients * (books_per_pair * n) ≡ c.args.mint.now.left) (long g a) c.in_ok-open_clients.ensures.left in
    omega (arith, opened, c.requires.numbers)

pub returns-clause-rows : goal.returns-clause-rows
returns-clause-rows g c =
    let scene = c.args.self.now.scene.now in
    rows_opened scene c.open_servers.new.opened.remains.report
    (ap (λ v. map (λ (r : ClientReport). r.client) v.items) c.in_ok-open_servers.ensures.clients ∙ c.in_ok-add_rows.ensures) c.in_ok-open_servers.ensures.rows
