use Rattle.std.proofs.Common.{rules, ◌≡◌, ◌++◌, ◌∷◌, []}
use Rattle.std.specs.Prelude.{◌==◌}
use Rattle.indexmap.specs.IndexSet.{insert_key}
use Rattle.dmc_types.specs.declared.ids.ClientId.{ClientId}
use Rattle.dmc_book.proofs.JoiningLemmas.{name_added}
use Rattle.dmc_book.proofs.joining.add_desk.Goals as goal

pub returns-clause-named : goal.returns-clause-named
returns-clause-named g c =
    let inserted : c.insert.new.self.keys ≡ insert_key (λ (a b : ClientId). a.0 == b.0) c.args.clients.now.keys c.args.desk.client = search rules in
    let pushed : c.push.new.self.items ≡ c.args.desks.now.items ++ c.args.desk ∷ [] = search rules in
    name_added c.args.clients.now.keys c.insert.new.self.keys c.args.desks.now.items c.push.new.self.items c.args.desk c.requires.named c.requires.unknown inserted pushed
