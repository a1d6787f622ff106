use Rattle.std.proofs.Common.{◌≡◌, ◌∙◌, ℕ, suc, ◌<◌, Bool, true, cond, List, ◌∷◌, length, drop, get_or, Some, refl, sym, ap, drop-cons}
use Rattle.std.proofs.lemmas.Option.{slice_get_read}
use Rattle.dmc_types.specs.declared.ids.ClientId.{ClientId}
use Rattle.dmc_tag.specs.State.{PlainClient, client_named, is_client}
use Rattle.dmc_plain.proofs.clients.index_of.Goals as goal

-- the client at i is tested before those after it
asked : {T : Type 0} (id : ClientId) (clients : List (PlainClient T)) (i : ℕ) (c : PlainClient T) → i < length clients → c ≡ get_or clients i c →
    (own : ClientId) (b : Bool) → own ≡ c.id → b ≡ is_client id own → client_named id (drop i clients) ≡ cond b (Some c) (client_named id (drop (suc i) clients))
asked id clients i c within is own b e f =
    let here = drop-cons clients i c within ∙ ap (λ d. d ∷ drop (suc i) clients) (sym is) in
    ap (client_named id) here ∙ ap (λ b. cond b (Some c) (client_named id (drop (suc i) clients))) (sym (f ∙ ap (is_client id) e))

pub returns-then-eq-clause-client : goal.returns-then-eq-clause-client
returns-then-eq-clause-client g c =
    let here = asked c.args.id c.args.clients.now c.loop-i.i c.index-clients-i.result c.loop-i-test.true c.index-clients-i.is c.id.result true c.id.ensures (sym c.if-eq.true ∙ c.eq.ensures) in
    slice_get_read c.args.clients.now (length c.args.clients.now) c.loop-i.i c.index-clients-i.result refl c.loop-i-test.true c.index-clients-i.is
    ∙ sym here ∙ c.loop-i.invariant
