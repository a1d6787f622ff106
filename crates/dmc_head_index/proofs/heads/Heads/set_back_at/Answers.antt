use Rattle.std.proofs.Common.{sym, ◌∙◌}
use Rattle.dmc_head_index.proofs.MarkLemmas.{not_set_back}
use Rattle.dmc_head_index.proofs.heads.Heads.set_back_at.Goals as goal

pub returns-else-is_past : goal.returns-else-is_past
returns-else-is_past g c =
    sym (not_set_back g.T.Tag.ops c.args.t c.args.self.now c.args.key (sym c.is_past.ensures ∙ c.if-is_past.false))
