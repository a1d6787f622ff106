use Rattle.std.proofs.Common.{rules, ◌≡◌, ◌∙◌, true≢false, sym, subst, Some, None, slice_index_or}
use Rattle.std.specs.Prelude.{◌==◌}
use Rattle.std.specs.List.{position}
use Rattle.dmc_types.specs.declared.ids.ClientId.{ClientId}
use Rattle.dmc_ledger.specs.Bundles.{stamp_holdings}
use Rattle.dmc_book.specs.Calls.{AreAlike}
use Rattle.dmc_book.proofs.DeskLemmas.{no_desk_for, no_till_for, for_desk, places_agree, placed, desk_within}
use Rattle.dmc_book.proofs.desk.find_stamps.Goals as goal

pub returns-in_default-clause-some : goal.returns-in_default-clause-some
returns-in_default-clause-some g c =
    let none : position (λ (k : ClientId). c.args.stamp.now.client == k.0) c.args.clients.now.keys ≡ None = search rules in
    (λ h. absurd (true≢false (sym h)), λ h. absurd (no_desk_for c.args.clients.now.keys c.args.desks.now c.requires.named c.args.server.0 c.args.stamp.now (stamp_holdings c.args.tills.now) none h))

pub returns-then-not-are_alike-clause-some : goal.returns-then-not-are_alike-clause-some
returns-then-not-are_alike-clause-some g c =
    let d = c.index-desks-place.result in
    let d_is : slice_index_or c.args.desks.now c.in-Some.place d ≡ d = search rules in
    let found : position (λ (k : ClientId). c.args.stamp.now.client == k.0) c.args.clients.now.keys ≡ Some c.in-Some.place = search rules in
    let here = sym (places_agree c.args.stamp.now.client c.args.clients.now.keys c.args.desks.now c.requires.named) ∙ found in
    let within = desk_within c.args.desks.now c.in-Some.place (placed c.args.stamp.now.client _ c.in-Some.place here).0 in
    let others : AreAlike (stamp_holdings c.args.tills.now) (stamp_holdings d.held) → ⊥ = search rules in
    (λ h. absurd (true≢false (sym h)), λ h. absurd (no_till_for c.args.clients.now.keys c.args.desks.now c.requires.named c.args.server.0 c.args.stamp.now (stamp_holdings c.args.tills.now) c.in-Some.place d found within (λ a. others (subst (λ x. AreAlike (stamp_holdings c.args.tills.now) (stamp_holdings x.held)) d_is a)) h))

pub returns-clause-some : goal.returns-clause-some
returns-clause-some g c =
    let d = c.index-desks-place.result in
    let d_is : slice_index_or c.args.desks.now c.in-Some.place d ≡ d = search rules in
    let found : position (λ (k : ClientId). c.args.stamp.now.client == k.0) c.args.clients.now.keys ≡ Some c.in-Some.place = search rules in
    let here = sym (places_agree c.args.stamp.now.client c.args.clients.now.keys c.args.desks.now c.requires.named) ∙ found in
    let within = desk_within c.args.desks.now c.in-Some.place (placed c.args.stamp.now.client _ c.in-Some.place here).0 in
    let its : c.args.stamp.now.server ≡ c.args.server.0 = search rules in
    let alike : AreAlike (stamp_holdings c.args.tills.now) (stamp_holdings d.held) = search rules in
    (λ h. for_desk c.args.clients.now.keys c.args.desks.now c.requires.named c.args.server.0 c.args.stamp.now (stamp_holdings c.args.tills.now) c.in-Some.place d its found within (subst (λ x. AreAlike (stamp_holdings c.args.tills.now) (stamp_holdings x.held)) (sym d_is) alike), λ h. search rules)

pub returns-clause-here : goal.returns-clause-here
returns-clause-here g c = sym (places_agree c.args.stamp.now.client c.args.clients.now.keys c.args.desks.now c.requires.named) ∙ search rules
