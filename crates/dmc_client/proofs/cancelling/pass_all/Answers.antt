use Rattle.std.proofs.Common.{◌≡◌, ◌<◌, ◌≤◌, Some, length, refl, ap, sym, ◌∙◌, arith}
use Rattle.std.specs.Prelude.{is_some}
use Rattle.std.proofs.lemmas.List.{take_all}
use Rattle.dmc_tag.specs.Cancel.{charges_of, befores_after}
use Rattle.dmc_client.specs.internal.Passed.{all_passed, leaves_next, noted}
use Rattle.dmc_client.proofs.Order.{tag_order}
use Rattle.dmc_client.proofs.TakenBack.{passing_begins, passing_changes_to, passing_over, passing_ends}
use Rattle.dmc_client.proofs.cancelling.pass_all.Goals as goal
use Rattle.dmc_client.proofs.cancelling.pass_all.Goals.{then-may_change, else-may_change, After-note-2}

pub loop-i-init : goal.loop-i-init
loop-i-init g c =
    let ops = g.T.Tag.ops in
    let order = tag_order g.T.Ord.cmp ops.compare g.met.T.Ord.total g.met.T.Tag.compares in
    let charged = charges_of ops c.args.counting (Some c.args.spacings.now) in
    record {
      passes =
          passing_begins ops c.args.token charged g.T.Tag.fraction g.T.Tag.is_value g.met.T.Tag.exact order (is_some c.args.spacings.now.r) c.args.queue.now.items c.args.befores.now c.leaves_next-leaves.result
          c.leaves_next-leaves.ensures c.requires.known c.requires.reserved;
      len = refl;
    }

pub loop-i-preserved : goal.loop-i-preserved
loop-i-preserved g c =
    let ops = g.T.Tag.ops in
    let order = tag_order g.T.Ord.cmp ops.compare g.met.T.Ord.total g.met.T.Tag.compares in
    let charged = charges_of ops c.args.counting (Some c.args.spacings.now) in
    let reserved = is_some c.args.spacings.now.r in
    let old = c.args.queue.now.items in
    let items = c.loop-i.queue.items in
    let in_items : c.loop-i.i < length items = omega arith in
    let in_old : c.loop-i.i < length old = omega arith in
    elim c.if-may_change.branch [
      | then-may_change w ↦ record {
        passes = passing_changes_to ops c.args.token charged g.T.Tag.fraction g.T.Tag.is_value g.met.T.Tag.exact order reserved old items c.args.befores.now c.loop-i.befores c.loop-i.i c.loop-i.leaves
            w.index_mut.result.now in_items in_old w.index_mut.ensures.value c.loop-i.invariant.passes
            c.if-may_change.queue.items w.pass.new.request c.if-may_change.leaves w.note.new.befores c.if-may_change.befores
            (ap (λ q. q.items) w.queue-is) w.pass.ensures.request w.note.ensures (w.befores-is ∙ w.pass.ensures.next)
            (w.leaves-is ∙ w.leaves_next-leaves-then-may_change.ensures ∙ ap (leaves_next ops) (sym w.befores-is));
        len = ap (λ q. q.len) w.queue-is ∙ c.loop-i.invariant.len;
      }
      | else-may_change w ↦ record {
        passes = rw (w.queue-is, w.befores-is, w.leaves-is) (passing_over ops c.args.token charged g.T.Tag.fraction g.T.Tag.is_value g.met.T.Tag.exact order reserved old items c.args.befores.now c.loop-i.befores c.loop-i.i c.loop-i.leaves
            c.index.result.now in_items in_old c.index.ensures c.loop-i.invariant.passes (sym c.may_change.ensures ∙ w.if-may_change.false));
        len = ap (λ q. q.len) w.queue-is ∙ c.loop-i.invariant.len;
      }
    ]

-- what is left when the loop ends
ends : (g : _) (c : After-note-2 g) → (c.loop-i.queue.items ≡ all_passed g.T.Tag.ops c.args.token (charges_of g.T.Tag.ops c.args.counting (Some c.args.spacings.now)) c.args.befores.now c.args.queue.now.items)
    × (c.note-2.new.befores ≡ befores_after g.T.Tag.ops c.args.token (charges_of g.T.Tag.ops c.args.counting (Some c.args.spacings.now)) c.args.befores.now c.args.queue.now.items)
ends g c =
    let ops = g.T.Tag.ops in
    let order = tag_order g.T.Ord.cmp ops.compare g.met.T.Ord.total g.met.T.Tag.compares in
    let charged = charges_of ops c.args.counting (Some c.args.spacings.now) in
    let items = c.loop-i.queue.items in
    let past : length items ≤ c.loop-i.i = omega arith in
    let past_old : length c.args.queue.now.items ≤ c.loop-i.i = omega arith in
    let all : length items ≤ c.len.result = omega arith in
    passing_ends ops c.args.token charged g.T.Tag.fraction g.T.Tag.is_value g.met.T.Tag.exact order (is_some c.args.spacings.now.r) c.args.queue.now.items items c.args.befores.now c.loop-i.befores c.note-2.new.befores c.loop-i.i c.loop-i.leaves
    past past_old (c.note-2.ensures ∙ ap (noted c.loop-i.leaves c.loop-i.befores) (take_all c.len.result items all)) c.loop-i.invariant.passes

pub returns-clause-items : goal.returns-clause-items
returns-clause-items g c = (ends g c).0

pub returns-clause-last : goal.returns-clause-last
returns-clause-last g c = (ends g c).1
