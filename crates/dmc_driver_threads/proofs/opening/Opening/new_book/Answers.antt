use Rattle.std.proofs.Common.{◌≡◌, ◌+◌, ◌≤◌, List, length, map, sym, ap, ◌∙◌, subst, arith}
use Rattle.std.specs.Prelude.{AllPairs}
use Rattle.dmc_types.specs.declared.ids.WorkerId.{WorkerId}
use Rattle.dmc_ledger.specs.Bundles.{ClientSide, client_side}
use Rattle.dmc_book.specs.Opening as opening
use Rattle.dmc_scene.specs.SceneValue.{AreApart, ClientValue}
use Rattle.dmc_driver_threads.specs.internal.Desks.{QueueDesksValue, ids_of}
use Rattle.dmc_driver_threads.proofs.Numbering.{desks_apart}
use Rattle.dmc_driver_threads.proofs.Registering.{a_pass_each, first_enrolled, new_book_is}
use Rattle.dmc_driver_threads.proofs.opening.Opening.new_book.Given.{Over}
use Rattle.dmc_driver_threads.proofs.opening.Opening.new_book.Goals.{After-deref}
use Rattle.dmc_driver_threads.proofs.opening.Opening.new_book.Goals as goal

-- ---- what the paths share

-- whose the desks are
named : (g : Over) (c : After-deref g) → map (λ (d : ClientSide). d.client) (map (client_side {S = g.row.S.Denot}) c.desks.inside.desks.items) ≡ ids_of c.args.self.now.scene.now.clients
named g c = ap (λ (q : QueueDesksValue). q.clients) c.desks.view_is ∙ c.requires.desks

few : (g : Over) (c : After-deref g) → length c.args.self.now.scene.now.clients ≤ 256
few g c = subst (λ (cs : List ClientValue). length cs ≤ 256) c.clients.ensures.value c.clients.ensures.limit

workers : (g : Over) (c : After-deref g) → length c.deref.result.now ≡ length c.args.self.now.scene.now.clients + c.args.self.now.scene.now.workers
workers g c =
    let same : length c.clients.result.now ≡ length c.args.self.now.scene.now.clients = ap (λ (cs : List ClientValue). length cs) c.clients.ensures.value in
    omega (arith, same, ap (λ (ws : List WorkerId). length ws) c.deref.ensures.value, c.in_ok-workers.ensures.as_many)

-- ---- the goals

pub make_book-requires-clause-once : goal.make_book-requires-clause-once
make_book-requires-clause-once g c =
    let a = (goal.at.make_book-requires-clause-once g c).After-deref in
    record {
      workers_once = subst (opening.AreApart (λ (w : WorkerId). w.0)) (sym c.deref.ensures.value) c.in_ok-workers.ensures.apart;
      clients_once = desks_apart (map (client_side {S = g.row.S.Denot}) c.desks.inside.desks.items) c.args.self.now.scene.now.clients (named g a)
          (subst (AllPairs AreApart) c.clients.ensures.value c.clients.ensures.apart);
    }

pub returns-clause-book : goal.returns-clause-book
returns-clause-book g c =
    let a = (goal.at.returns-clause-book g c).After-deref in
    new_book_is c.args.self.now.scene.now c.args.self.now.limits c.in_ok-made.made.0 c.config-config.result c.desks.inside.server.0 c.events-most.result
    c.args.mint.now.opened c.deref.result.now (map (client_side {S = g.row.S.Denot}) c.desks.inside.desks.items) c.in_ok-made.ensures.book
    c.config-config.ensures c.events-most.ensures.value (named g a) (omega (arith, few g a, c.events-most.ensures.some))

pub returns-clause-passes : goal.returns-clause-passes
returns-clause-passes g c =
    let a = (goal.at.returns-clause-passes g c).After-deref in
    a_pass_each c.in_ok-made.made.0 c.in_ok-made.made.1.items c.config-config.result c.desks.inside.server.0 c.events-most.result c.args.mint.now.opened _
    c.deref.result.now (map (client_side {S = g.row.S.Denot}) c.desks.inside.desks.items) c.in_ok-made.ensures.book c.in_ok-made.ensures.passes ∙ workers g a

pub returns-clause-first : goal.returns-clause-first
returns-clause-first g c =
    first_enrolled c.in_ok-made.made.0 c.in_ok-made.made.1.items c.config-config.result c.desks.inside.server.0 c.events-most.result c.args.mint.now.opened _
    c.deref.result.now (map (client_side {S = g.row.S.Denot}) c.desks.inside.desks.items) c.in_ok-made.ensures.book c.in_ok-made.ensures.passes

pub returns-clause-left : goal.returns-clause-left
returns-clause-left g c =
    let a = (goal.at.returns-clause-left g c).After-deref in
    omega (arith, workers g a, c.in_ok-made.ensures.left)
