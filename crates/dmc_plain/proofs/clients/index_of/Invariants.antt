use Rattle.std.proofs.Common.{◌≡◌, drop}
use Rattle.dmc_tag.specs.State.{client_named}
use Rattle.dmc_plain.proofs.clients.index_of.Given as goal

-- none of those before is the client
abbrev pub invariant-loop-i : goal.invariant-loop-i
invariant-loop-i g l = client_named l.id (drop l.i l.clients) ≡ client_named l.id l.clients
