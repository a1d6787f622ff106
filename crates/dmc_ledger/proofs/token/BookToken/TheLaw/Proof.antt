-- A `&` to a book's token shows what the token knows, and some share of its row.
use denote.RattleType.{RattleType}
use denote.Param.Laws.{Laws}
use denote.Param.Shared.{copy_shared}
use denote.Struct.Laws.{field_copy}
use denote.Struct.Lending.{of_Lends}
use Rattle.core.specs.contracts.marker.PhantomData as marker
use Rattle.dmc_ledger.specs.declared.setup.Setup.{Ghosts}
use Rattle.dmc_ledger.specs.contracts.token.BookToken as C
use Rattle.dmc_ledger.proofs.Shared.{book_laws, book_lends}
use Rattle.dmc_ledger.proofs.token.BookToken.TheLaw.Statement.{statement}

pub shares : (T : RattleType) (g : Ghosts T.Denot) (L : Laws T) → statement T g L
shares T g L = of_Lends (C.struct T g) (C.the_codes T.Denot T.coded (marker.the_row T).coded) (C.the_heap T g) (C.the_lent T g) (λ d p. book_laws g.name d.number d.rows d.tills d.held)
    (copy_shared (marker.the_field T) (field_copy (marker.the_type T) tt), tt) (λ M 𝓤 𝓛 d p. book_lends g.name d.number d.rows d.tills d.held 𝓛 (C.the_row T g).lives)
