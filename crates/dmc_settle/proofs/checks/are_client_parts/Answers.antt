use Rattle.std.proofs.Common.{◌≡◌, ℕ, ◌<◌, [], Some, length, get_or, slice_get, refl, ap, ◌∙◌, rules, arith, below_more, subst}
use Rattle.std.proofs.lemmas.List.{get_or_read}
use Rattle.std.proofs.lemmas.Option.{get_or_from_slice_get, slice_get_within}
use Rattle.dmc_scene.specs.SceneValue.{ClientValue}
use Rattle.dmc_settle.specs.internal.Places.{no_tracker}
use Rattle.dmc_settle.specs.Left.{IsClientPart}
use Rattle.dmc_settle.proofs.checks.are_client_parts.Goals as goal

pub loop-c-preserved : goal.loop-c-preserved
loop-c-preserved g c =
    let i = c.loop-c.c in
    let clients = c.args.scene.now.clients in
    let same = c.clients-clients.ensures.value in
    let in_trackers : i < length c.args.trackers.now = search rules in
    let in_passes : i < length c.args.passes.now = search rules in
    let at = get_or_read c.args.trackers.now i c.index-trackers-c.result in_trackers c.index-trackers-c.is no_tracker in
    let at_pass = get_or_read c.args.passes.now i c.index-passes-c.result in_passes c.index-passes-c.is [] in
    let here = c.is_client_part.ensures.0 c.if-not-is_client_part.false in
    below_more (λ (k : ℕ). (client : ClientValue) → slice_get clients k ≡ Some client
    → IsClientPart c.args.scene.now client (get_or c.args.trackers.now k no_tracker) (get_or c.args.passes.now k [])) i c.loop-c.invariant
    (λ client at_client.
    let found = get_or_from_slice_get clients i client c.index-clients-c.result at_client in
    let its : c.index-clients-c.result ≡ client = rw same at c.index-clients-c.is ∙ found in
    subst (λ (x : ClientValue). IsClientPart c.args.scene.now x (get_or c.args.trackers.now i no_tracker) (get_or c.args.passes.now i [])) its (rw (at, at_pass) at here))

pub returns : goal.returns
returns g c =
    let books_each : length c.args.trackers.now ≡ length c.args.scene.now.clients = search rules in
    let passes_each : length c.args.passes.now ≡ length c.args.scene.now.clients = search rules in (
      (λ e. record {
        a_book_each = books_each;
        a_pass_each = passes_each;
        each = λ k client at.
            (let within : k < length c.args.scene.now.clients = slice_get_within c.args.scene.now.clients k client at in
            let same : length c.clients-clients.result.now ≡ length c.args.scene.now.clients = ap length c.clients-clients.ensures.value in
            c.loop-c.invariant k (omega (arith, within, same, c.loop-c-test.false)) client at);
      }),
      (λ all. refl),
    )
