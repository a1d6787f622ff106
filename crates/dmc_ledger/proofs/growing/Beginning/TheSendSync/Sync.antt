use denote.RattleType.{RattleType}
use denote.Param.Send.{IsSync, sendable}
use denote.Struct.Struct.{Struct}
use denote.Struct.Owning.{shape}
use Rattle.dmc_ledger.specs.declared.setup.Setup.{Ghosts}
use Rattle.dmc_ledger.specs.contracts.growing.Beginning.{the_row, the_type}
use Rattle.dmc_ledger.proofs.GrowingLists.{beginning_keyless}

pub sync : (H S : RattleType) (g : Ghosts S.Denot) → IsSync (the_row H S g)
sync H S g = let fields : IsSync (Struct (shape (the_type H S g))) = search sendable depth 20 in
    record { shared = λ d b o κ. (fields.shared (tt, tt) b o κ, beginning_keyless H.coded.code g.name d.number d.rows d.list) }
