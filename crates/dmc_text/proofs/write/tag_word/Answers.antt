-- The parts are those of which the tag is made again.
use Rattle.dmc_text.proofs.ReplyLemmas.{parts_again}
use Rattle.dmc_text.proofs.write.tag_word.Goals as goal

pub returns-clause-again : goal.returns-clause-again
returns-clause-again g c =
    let of = c.parts.ensures in
    parts_again g.T.TagText.made g.T.TagText.numerator g.T.TagText.denominator c.args.tag c.parts.result.0 c.parts.result.1 of.over of.under of.size of.some of.limit of.again
