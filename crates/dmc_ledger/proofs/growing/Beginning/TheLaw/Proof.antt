-- A `&` to what was seen shows all of it.
use base.Logic.{sep, wand, apply∗, snd∗}
use base.Fml.{Lft, Fml, fbor}
use base.Before.{before}
use seplogic.Ra.Ura.{Ura}
use types.Logic.{Logic, sem, lfts}
use types.Kit.{‵, raw, ◌⊛◌, later, ◌$◌, !, qed, move, drop, split, use1, use2, updating, await, now, done}
use Rattle.std.proofs.Common.{[], ◌∷◌}
use base.Logic.{ent}
use denote.RattleType.{RattleType}
use denote.Param.Laws.{Laws}
use denote.Param.Shared.{copy_shared}
use denote.Sharing.{said}
use denote.Struct.Laws.{field_copy}
use denote.Struct.Lending.{of_Lends, Lends}
use denote.Struct.Tuple.{Tuple}
use Rattle.core.specs.contracts.marker.PhantomData as marker
use Rattle.dmc_ledger.specs.declared.setup.Setup.{Ghosts}
use Rattle.dmc_ledger.specs.Growing.{beginning_owns}
use Rattle.dmc_ledger.specs.contracts.growing.Beginning as C
use Rattle.dmc_ledger.proofs.GrowingLists.{beginning_twice}
use Rattle.dmc_ledger.proofs.growing.Beginning.TheLaw.Statement.{statement}

lends_twice : {M : Type 1} {𝓤 : Ura M} (𝓛 : Logic 𝓤) (P : Fml) → ent 𝓤 (sem 𝓛 P) (sep 𝓤 (sem 𝓛 P) (sem 𝓛 P)) → (l : Lft) → Lends 𝓛 P (said P) l
lends_twice {𝓤 = 𝓤} 𝓛 P twice l κ ts inc sp = let Back = 𝓛.H.⇛ (sep 𝓤 (𝓛.A.bor κ P) (lfts 𝓛 ts)) in
    qed 𝓛 (‵ (fbor κ P) ∷ raw (lfts 𝓛 ts) ∷ []) {P = 𝓛.H.⇛ (sep 𝓤 (sem 𝓛 P) (lfts 𝓛 ts))} (updating ! $ use2 𝓛 (later (‵ P ⊛ raw (wand 𝓤 (sem 𝓛 P) Back))) (𝓛.more.bor_acc_by κ ts P sp) $ await ! tt $ split ! $ use1 𝓛 (‵ P ⊛ ‵ P) twice $ split ! $ move ! (0 ∷ 2 ∷ []) $
    use2 𝓛 (later (‵ (fbor κ P) ⊛ raw (lfts 𝓛 ts))) (apply∗ 𝓤 (sem 𝓛 P) Back) $ await ! tt $ split ! $ drop ! $ move ! (1 ∷ 0 ∷ []) $ now ! $ done !)

pub shares : (T S : RattleType) (g : Ghosts S.Denot) (L : Laws T) (L' : Laws S) → statement T S g L L'
shares T S g L L' = let All = Tuple (T ∷ S ∷ []) in
    of_Lends (C.struct T S g) (C.the_codes T.Denot S.Denot T.coded S.coded (marker.the_row All).coded) (C.the_heap T S g) (C.the_lent T S g)
    (λ d p. record { contraction = λ M 𝓤 𝓛 κ. beginning_twice 𝓛 T.coded g.name d.number d.rows d.list; mono = λ M 𝓤 𝓛 κ' κ. snd∗ 𝓤 (sem 𝓛 (before κ' κ)) (sem 𝓛 (beginning_owns T.coded.code g.name d.number d.rows d.list)) })
    (copy_shared (marker.the_field All) (field_copy (marker.the_type All) tt), tt)
    (λ M 𝓤 𝓛 d p. lends_twice 𝓛 (beginning_owns T.coded.code g.name d.number d.rows d.list) (beginning_twice 𝓛 T.coded g.name d.number d.rows d.list) (C.the_row T S g).lives)
