use Rattle.std.proofs.Common.{◌≡◌, length, map, ap, ◌∙◌, arith}
use Rattle.std.proofs.lemmas.List.{length-map}
use Rattle.dmc_core.specs.Core.{Held, CoreValue}
use Rattle.dmc_core.proofs.Places.{place_none, place_past, place_found}
use Rattle.dmc_tag.proofs.Ids.{all_there}
use Rattle.dmc_core.proofs.cluster.Cluster.place.Goals as goal

pub returns-in_default-clause-value : goal.returns-in_default-clause-value
returns-in_default-clause-value g c =
    place_none c.args.client c.args.server c.args.self.now c.self.inside.ids (c.self.invariant.named ∙ ap (λ (v : CoreValue g.row.Q.Denot). map (λ h. h.id) v.clients) c.self.view_is)
    c.place.result c.place.ensures.index c.in_default.is

pub returns-then-server-len-clause-value : goal.returns-then-server-len-clause-value
returns-then-server-len-clause-value g c =
    place_past c.args.client c.args.server c.args.self.now c.self.inside.ids (c.self.invariant.named ∙ ap (λ (v : CoreValue g.row.Q.Denot). map (λ h. h.id) v.clients) c.self.view_is)
    c.place.result c.place.ensures.index c.in-Some.place c.in-Some.is (rw (← c.self.view_is) (simp length-map (omega arith)))

pub returns-clause-value : goal.returns-clause-value
returns-clause-value g c =
    place_found c.args.client c.args.server c.args.self.now c.self.inside.ids (c.self.invariant.named ∙ ap (λ (v : CoreValue g.row.Q.Denot). map (λ h. h.id) v.clients) c.self.view_is)
    c.place.result c.place.ensures.index c.in-Some.place c.in-Some.is (rw (← c.self.view_is) (simp length-map (omega arith)))

pub returns-clause-paired : goal.returns-clause-paired
returns-clause-paired g c = rw (← c.self.view_is) (λ h at.
    let here = all_there (λ (h : Held). length h.pairs ≡ length c.self.inside.servers.items) c.self.inside.clients.items c.in-Some.place h c.self.invariant.paired at in
    omega arith)
