use Rattle.std.proofs.Common.{Result, Ok, Err, OnOk, length, refl, ap, ◌∙◌}
use Rattle.std.specs.Result.{IsErr}
use Rattle.dmc_lemmas.proofs.Options.{of_err}
use Rattle.dmc_head_index.proofs.Room.{unchanged, with_more, still_sound, still_held, no_less_room, room_for_all, size_for_all}
use Rattle.dmc_head_index.proofs.heads.Heads.reserve.Goals as goal

not_ok : {X E : Type 0} (r : Result X E) (P : Type 0) → IsErr r → OnOk r P
not_ok (Ok x) P h = cc
not_ok (Err e) P h = tt

pub invariant_of-self : goal.invariant_of-self
invariant_of-self g c =
    still_sound c.self.invariant c.self.view_is (unchanged c.in_err-reserve_keys.ensures.err) (unchanged refl) (unchanged refl) c.self.invariant.room_is

pub returns-in_err-reserve_keys-clause-ok : goal.returns-in_err-reserve_keys-clause-ok
returns-in_err-reserve_keys-clause-ok g c =
    not_ok c.from_residual.result _ c.from_residual.ensures.0

pub returns-in_err-reserve_keys-clause-err : goal.returns-in_err-reserve_keys-clause-err
returns-in_err-reserve_keys-clause-err g c =
    of_err c.from_residual.result (still_held c.self.invariant c.self.view_is (unchanged c.in_err-reserve_keys.ensures.err) (unchanged refl) (unchanged refl))

pub returns-in_err-reserve_keys-clause-room : goal.returns-in_err-reserve_keys-clause-room
returns-in_err-reserve_keys-clause-room g c =
    no_less_room c.self.invariant c.self.view_is (unchanged c.in_err-reserve_keys.ensures.err) (unchanged refl) (unchanged refl)

pub invariant_of-self-in_err-reserve_keys-2 : goal.invariant_of-self-in_err-reserve_keys-2
invariant_of-self-in_err-reserve_keys-2 g c =
    still_sound c.self.invariant c.self.view_is (with_more c.args.n c.in_ok-reserve_keys.ensures.ok) (unchanged c.in_err-reserve_keys-2.ensures.err) (unchanged refl) c.self.invariant.room_is

pub returns-in_err-reserve_keys-2-clause-ok : goal.returns-in_err-reserve_keys-2-clause-ok
returns-in_err-reserve_keys-2-clause-ok g c =
    not_ok c.from_residual-in_err-reserve_keys-2.result _ c.from_residual-in_err-reserve_keys-2.ensures.0

pub returns-in_err-reserve_keys-2-clause-err : goal.returns-in_err-reserve_keys-2-clause-err
returns-in_err-reserve_keys-2-clause-err g c =
    of_err c.from_residual-in_err-reserve_keys-2.result (still_held c.self.invariant c.self.view_is (with_more c.args.n c.in_ok-reserve_keys.ensures.ok) (unchanged c.in_err-reserve_keys-2.ensures.err) (unchanged refl))

pub returns-in_err-reserve_keys-2-clause-room : goal.returns-in_err-reserve_keys-2-clause-room
returns-in_err-reserve_keys-2-clause-room g c =
    no_less_room c.self.invariant c.self.view_is (with_more c.args.n c.in_ok-reserve_keys.ensures.ok) (unchanged c.in_err-reserve_keys-2.ensures.err) (unchanged refl)

pub invariant_of-self-in_err-reserve_keys-3 : goal.invariant_of-self-in_err-reserve_keys-3
invariant_of-self-in_err-reserve_keys-3 g c =
    still_sound c.self.invariant c.self.view_is (with_more c.args.n c.in_ok-reserve_keys.ensures.ok) (with_more c.args.n c.in_ok-reserve_keys-2.ensures.ok) (unchanged c.in_err-reserve_keys-3.ensures.err) (ap length c.in_err-reserve_keys-3.ensures.err ∙ c.self.invariant.room_is)

pub returns-in_err-reserve_keys-3-clause-ok : goal.returns-in_err-reserve_keys-3-clause-ok
returns-in_err-reserve_keys-3-clause-ok g c =
    not_ok c.from_residual-in_err-reserve_keys-3.result _ c.from_residual-in_err-reserve_keys-3.ensures.0

pub returns-in_err-reserve_keys-3-clause-err : goal.returns-in_err-reserve_keys-3-clause-err
returns-in_err-reserve_keys-3-clause-err g c =
    of_err c.from_residual-in_err-reserve_keys-3.result (still_held c.self.invariant c.self.view_is (with_more c.args.n c.in_ok-reserve_keys.ensures.ok) (with_more c.args.n c.in_ok-reserve_keys-2.ensures.ok) (unchanged c.in_err-reserve_keys-3.ensures.err))

pub returns-in_err-reserve_keys-3-clause-room : goal.returns-in_err-reserve_keys-3-clause-room
returns-in_err-reserve_keys-3-clause-room g c =
    no_less_room c.self.invariant c.self.view_is (with_more c.args.n c.in_ok-reserve_keys.ensures.ok) (with_more c.args.n c.in_ok-reserve_keys-2.ensures.ok) (unchanged c.in_err-reserve_keys-3.ensures.err)

pub invariant_of-self-2 : goal.invariant_of-self-2
invariant_of-self-2 g c =
    still_sound c.self.invariant c.self.view_is (with_more c.args.n c.in_ok-reserve_keys.ensures.ok) (with_more c.args.n c.in_ok-reserve_keys-2.ensures.ok) (with_more c.args.n c.in_ok-reserve_keys-3.ensures.ok)
    (size_for_all c.self.invariant c.self.view_is c.args.n c.in_ok-reserve_keys.ensures.ok c.in_ok-reserve_keys-2.ensures.ok c.in_ok-reserve_keys-3.ensures.ok c.max-self-inside.ensures)

pub returns-clause-ok : goal.returns-clause-ok
returns-clause-ok g c =
    room_for_all c.self.invariant c.self.view_is c.args.n c.in_ok-reserve_keys.ensures.ok c.in_ok-reserve_keys-2.ensures.ok c.in_ok-reserve_keys-3.ensures.ok

pub returns-clause-room : goal.returns-clause-room
returns-clause-room g c =
    no_less_room c.self.invariant c.self.view_is (with_more c.args.n c.in_ok-reserve_keys.ensures.ok) (with_more c.args.n c.in_ok-reserve_keys-2.ensures.ok) (with_more c.args.n c.in_ok-reserve_keys-3.ensures.ok)
