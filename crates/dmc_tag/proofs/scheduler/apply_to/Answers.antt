-- Answered here, so that a wrong body fails here.
use Rattle.dmc_tag.proofs.scheduler.apply_to.Goals as goal

pub returns-in-Register : goal.returns-in-Register
returns-in-Register g c = rw (c.in-Register.is, c.registered.ensures) c.register.ensures

pub returns-in-Add : goal.returns-in-Add
returns-in-Add g c = rw (c.in-Add.is, c.tagged.ensures) c.add_request.ensures
