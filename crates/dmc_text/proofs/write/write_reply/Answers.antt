-- What is written is the reply's text, and each reply is read again from it.
use Rattle.std.proofs.Common.{ℕ, List, arith}
use Rattle.dmc_text.specs.Replies.{tag_text}
use Rattle.dmc_text.proofs.ReplyLemmas.{back_registered, back_updated, back_nothing, back_later, back_removed, back_cleaned, back_refused, back_granted}
use Rattle.dmc_text.proofs.write.write_reply.Given.{Over}
use Rattle.dmc_text.proofs.write.write_reply.Goals as goal

-- the text of a tag
abbrev text : (g : Over) → g.row.T.Denot → List ℕ
text g = tag_text g.T.TagText.numerator g.T.TagText.denominator

pub returns-in-Registered-clause-again : goal.returns-in-Registered-clause-again
returns-in-Registered-clause-again g c = rw c.in-Registered.is (λ reported. back_registered g.T.TagText.made (text g))

pub returns-in-Updated-clause-again : goal.returns-in-Updated-clause-again
returns-in-Updated-clause-again g c = rw c.in-Updated.is (λ reported. back_updated g.T.TagText.made (text g))

pub returns-in-Granted-clause-again : goal.returns-in-Granted-clause-again
returns-in-Granted-clause-again g c =
    rw c.in-Granted.is (λ reported. back_granted g.T.TagText.made (text g) c.in-Granted.client c.in-Granted.token c.in-Granted.phase c.in-Granted.beyond c.in-Granted.cost reported c.write_grant.ensures.ids.0 c.write_grant.ensures.ids.1 c.write_grant.ensures.cost.0 c.write_grant.ensures.cost.1)

pub returns-in-Later-clause-again : goal.returns-in-Later-clause-again
returns-in-Later-clause-again g c = rw c.in-Later.is (λ reported. back_later g.T.TagText.made (text g) c.in-Later.at (omega arith))

pub returns-in-Nothing-clause-again : goal.returns-in-Nothing-clause-again
returns-in-Nothing-clause-again g c = rw c.in-Nothing.is (λ reported. back_nothing g.T.TagText.made (text g))

pub returns-in-Removed-clause-again : goal.returns-in-Removed-clause-again
returns-in-Removed-clause-again g c = rw c.in-Removed.is (λ reported. back_removed g.T.TagText.made (text g) c.in-Removed.removed (omega arith))

pub returns-in-Cleaned-clause-again : goal.returns-in-Cleaned-clause-again
returns-in-Cleaned-clause-again g c =
    rw c.in-Cleaned.is (λ reported. back_cleaned g.T.TagText.made (text g) c.in-Cleaned.idled c.in-Cleaned.erased (omega arith) (omega arith))

pub returns-in-Refused-clause-again : goal.returns-in-Refused-clause-again
returns-in-Refused-clause-again g c = rw c.in-Refused.is (λ reported. back_refused g.T.TagText.made (text g) c.in-Refused.refusal)

pub returns-in-Registered-clause-text : goal.returns-in-Registered-clause-text
returns-in-Registered-clause-text g c = rw c.in-Registered.is c.write_all.ensures.bytes

pub returns-in-Updated-clause-text : goal.returns-in-Updated-clause-text
returns-in-Updated-clause-text g c = rw c.in-Updated.is c.write_all-in-Updated.ensures.bytes

pub returns-in-Tagged-clause-text : goal.returns-in-Tagged-clause-text
returns-in-Tagged-clause-text g c = rw c.in-Tagged.is c.write_tags.ensures.text

pub returns-in-Granted-clause-text : goal.returns-in-Granted-clause-text
returns-in-Granted-clause-text g c = rw c.in-Granted.is c.write_grant.ensures.text

pub returns-in-Later-clause-text : goal.returns-in-Later-clause-text
returns-in-Later-clause-text g c = rw c.in-Later.is c.write_later.ensures

pub returns-in-Nothing-clause-text : goal.returns-in-Nothing-clause-text
returns-in-Nothing-clause-text g c = rw c.in-Nothing.is c.write_all-in-Nothing.ensures.bytes

pub returns-in-Removed-clause-text : goal.returns-in-Removed-clause-text
returns-in-Removed-clause-text g c = rw c.in-Removed.is c.write_removed.ensures

pub returns-in-Cleaned-clause-text : goal.returns-in-Cleaned-clause-text
returns-in-Cleaned-clause-text g c = rw c.in-Cleaned.is c.write_cleaned.ensures

pub returns-in-Refused-clause-text : goal.returns-in-Refused-clause-text
returns-in-Refused-clause-text g c = rw (c.in-Refused.is, ← c.refusal_text.ensures) c.write_all-in-Refused.ensures.bytes

pub returns-in-Tagged-clause-again : goal.returns-in-Tagged-clause-again
returns-in-Tagged-clause-again g c = rw c.in-Tagged.is (λ reported. c.write_tags.ensures.again)
