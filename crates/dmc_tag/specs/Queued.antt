-- Which clients have queued requests.
use Rattle.std.specs.Prelude.{◌≡◌, Bool, true, false, List, []}
use Rattle.std.specs.List.{AllByRecursion}
use Rattle.dmc_types.specs.declared.ids.ClientId.{ClientId}
use Rattle.dmc_types.specs.declared.command.Command.{Command}
use Rattle.dmc_types.specs.declared.command.Command.TheVariants.{Register, Update, Add, Pull, Remove, Cancel, Clean}
use Rattle.dmc_tag.specs.State.{PlainClient, is_client}

-- an idle client has nothing queued
abbrev pub AreActive : {T : Type 0} → List (PlainClient T) → Type 0
AreActive clients = AllByRecursion (λ c. c.idle ≡ true → c.requests ≡ []) clients

-- the command is an Add of this client
abbrev pub is_add_of : ClientId → Command → Bool
is_add_of id (Register client info at) = false
is_add_of id (Update client info at) = false
is_add_of id (Add client token params at) = is_client id client
is_add_of id (Pull at) = false
is_add_of id (Remove client) = false
is_add_of id (Cancel client token counting) = false
is_add_of id (Clean at) = false
