-- Each kind of words is distinguished, and its numbers and tags are read.
use Rattle.dmc_lemmas.proofs.Options.{err_is}
use Rattle.dmc_text.specs.Replies.{reply_said}
use Rattle.dmc_text.proofs.reply.reply_said.Goals as goal

pub returns-in-Registered : goal.returns-in-Registered
unfolding reply_said
returns-in-Registered g c = rw c.in-Registered.is

pub returns-in-Updated : goal.returns-in-Updated
unfolding reply_said
returns-in-Updated g c = rw c.in-Updated.is

pub returns-in-Tagged : goal.returns-in-Tagged
returns-in-Tagged g c = rw c.in-Tagged.is c.tagged_said.ensures

pub returns-in-Granted : goal.returns-in-Granted
returns-in-Granted g c = rw c.in-Granted.is c.granted_said.ensures

pub returns-in_err-instant-in-Later : goal.returns-in_err-instant-in-Later
unfolding reply_said
returns-in_err-instant-in-Later g c = rw (c.in-Later.is, ← c.in_err-instant-in-Later.ensures) (err_is _ _ c.from_residual.ensures.1)

pub returns-in_ok-instant-in-Later : goal.returns-in_ok-instant-in-Later
unfolding reply_said
returns-in_ok-instant-in-Later g c = rw (c.in-Later.is, ← c.in_ok-instant-in-Later.ensures)

pub returns-in-Nothing : goal.returns-in-Nothing
unfolding reply_said
returns-in-Nothing g c = rw c.in-Nothing.is

pub returns-in_err-count-in-Removed : goal.returns-in_err-count-in-Removed
unfolding reply_said
returns-in_err-count-in-Removed g c = rw (c.in-Removed.is, ← c.in_err-count-in-Removed.ensures) (err_is _ _ c.from_residual-in_err-count-in-Removed.ensures.1)

pub returns-in_ok-count-in-Removed : goal.returns-in_ok-count-in-Removed
unfolding reply_said
returns-in_ok-count-in-Removed g c = rw (c.in-Removed.is, ← c.in_ok-count-in-Removed.ensures)

pub returns-in-Cleaned : goal.returns-in-Cleaned
returns-in-Cleaned g c = rw c.in-Cleaned.is c.cleaned_said.ensures

pub returns-in-Refused : goal.returns-in-Refused
unfolding reply_said
returns-in-Refused g c = rw c.in-Refused.is
