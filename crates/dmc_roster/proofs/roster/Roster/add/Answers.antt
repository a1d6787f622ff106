use Rattle.std.proofs.Common.{◌≡◌, ◌++◌, ◌∷◌, [], ◌≤◌, length, refl, ◌∙◌, ap, sym, not, arith, length-append}
use Rattle.std.specs.Prelude.{◌==◌, is_some, slice_index_or, None}
use Rattle.indexmap.specs.IndexMap.{insert_entry}
use Rattle.dmc_types.specs.Limits.{max_clients}
use Rattle.dmc_roster.specs.Entries.{entry_named}
use Rattle.dmc_roster.proofs.Held.{absent, eqb_turned, length_entries, added, held_added, apart_added, none_named, are_distinct, on_ok, insert_absent}
use Rattle.dmc_roster.proofs.roster.Roster.add.Goals as goal

pub invariant_of-self-2 : goal.invariant_of-self-2
invariant_of-self-2 g c =
    let old = c.self.inside.records.slots in
    let new = c.insert.new.self.slots in
    let ids = c.self.inside.ids.entries in
    let key = c.in-Ok.key in
    let none = absent old c.args.id (λ other. c.args.id.0 == other.0) (λ other. eqb_turned c.args.id.0 other.0 _ refl) ids c.self.invariant.held (ap (λ r. entry_named c.args.id r.entries) c.self.view_is ∙ c.requires.new) in
    let last : c.insert-2.new.self.entries ≡ ids ++ (c.args.id, key) ∷ [] = on_ok _ _ c.insert-2.ensures.entries (c.is_err.ensures.negation ∙ ap not c.if-is_err.false) ∙ ap (λ es. insert_entry (λ a b. a.0 == b.0) es c.args.id key) c.reserve.ensures.entries ∙ insert_absent _ ids c.args.id key none in
    let size : length c.args.self.now.entries ≡ length ids = sym (ap (λ r. length r.entries) c.self.view_is) ∙ length_entries old ids c.self.invariant.held in
    let more : length (ids ++ (c.args.id, key) ∷ []) ≤ max_clients = omega (arith, length-append ids ((c.args.id, key) ∷ []), c.requires.room) in
    rw last (record {
      held = held_added key (λ k. slice_index_or old k None) (λ k. slice_index_or new k None) c.in-Ok.ensures.updates.others c.in-Ok.ensures.was_vacant ids c.args.id c.self.invariant.held (ap is_some c.in-Ok.ensures.updates.changed);
      apart = apart_added key (λ k. slice_index_or old k None) (λ k. slice_index_or new k None) c.in-Ok.ensures.updates.others c.in-Ok.ensures.was_vacant ids c.args.id (none_named c.args.id ids none) c.self.invariant.held c.self.invariant.apart;
      bound = more;
    })

pub returns : goal.returns
returns g c =
    let old = c.self.inside.records.slots in
    let new = c.insert.new.self.slots in
    let ids = c.self.inside.ids.entries in
    let key = c.in-Ok.key in
    let none = absent old c.args.id (λ other. c.args.id.0 == other.0) (λ other. eqb_turned c.args.id.0 other.0 _ refl) ids c.self.invariant.held (ap (λ r. entry_named c.args.id r.entries) c.self.view_is ∙ c.requires.new) in
    let last : c.insert-2.new.self.entries ≡ ids ++ (c.args.id, key) ∷ [] = on_ok _ _ c.insert-2.ensures.entries (c.is_err.ensures.negation ∙ ap not c.if-is_err.false) ∙ ap (λ es. insert_entry (λ a b. a.0 == b.0) es c.args.id key) c.reserve.ensures.entries ∙ insert_absent _ ids c.args.id key none in
    let apart = apart_added key (λ k. slice_index_or old k None) (λ k. slice_index_or new k None) c.in-Ok.ensures.updates.others c.in-Ok.ensures.was_vacant ids c.args.id (none_named c.args.id ids none) c.self.invariant.held c.self.invariant.apart in
    let entries = added key (λ k. slice_index_or old k None) (λ k. slice_index_or new k None) c.in-Ok.ensures.updates.others c.in-Ok.ensures.was_vacant ids c.args.id c.args.rec c.self.invariant.held c.in-Ok.ensures.updates.changed in (
      c.in-Ok.ensures.key ∙ ap (λ r. r.next_key) c.self.view_is,
      rw last entries ∙ ap (λ r. r.entries ++ record { id = c.args.id; key = key; rec = c.args.rec } ∷ []) c.self.view_is,
      are_distinct new _ (rw last apart),
    )
