-- Each tag is read again from its word.
use Rattle.dmc_text.specs.Replies.{tag_text}
use Rattle.dmc_text.proofs.ReplyLemmas.{back_tagged}
use Rattle.dmc_text.proofs.write.write_tags.Goals as goal

pub returns-clause-again : goal.returns-clause-again
returns-clause-again g c =
    back_tagged g.T.TagText.made (tag_text g.T.TagText.numerator g.T.TagText.denominator) c.args.tags c.optional_word-r.ensures.again c.tag_word-l.ensures.again c.tag_word-p.ensures.again
