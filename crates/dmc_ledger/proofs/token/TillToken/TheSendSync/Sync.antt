use denote.RattleType.{RattleType}
use denote.Param.Send.{IsSync, sendable}
use denote.Struct.Struct.{Struct}
use denote.Struct.Owning.{shape}
use Rattle.dmc_ledger.specs.declared.setup.Setup.{Ghosts}
use Rattle.dmc_ledger.specs.contracts.token.TillToken.{the_row, the_type}
use Rattle.dmc_ledger.proofs.Shared.{till_shown_keyless}

pub sync : (S : RattleType) (g : Ghosts S.Denot) → IsSync (the_row S g)
sync S g = let fields : IsSync (Struct (shape (the_type S g))) = search sendable depth 20 in
    record { shared = λ d b o κ. (fields.shared (tt, tt) b o κ, till_shown_keyless g.name d.number d.rows d.row d.amount κ) }
