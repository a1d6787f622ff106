-- What the walks of the tokens' functions cite.
pub use Rattle.std.proofs.Common.{◌≡◌, ◌≢◌, ℕ, zero, suc, ◌+◌, ◌-◌, ◌<◌, ◌≤◌, ◌^◌, List, [], ◌∷◌, refl, sym, w64, arith}
pub use Rattle.std.proofs.raw_atomic.Walks.{proved}
pub use base.Fml.{Share, Fml, ftrue, flft, fex, fshr_bor}
pub use mir.Syntax.{Fn, a_type, dcons, dnil, named}
pub use mir.Val.{Val, vunit, vint, vptr}
pub use mir.MapTy.{inst_fn}
pub use contract.Running.{tables}
pub use types.Kit.{‵, raw, ◌⊛◌, some, given, later, ◌$◌, ◌∵◌, !, qed, by, move, keep, drop, split, join, fsplit, fsplit3, fjoin, fjoin3, pick, learn, suffices, frame, rewrite, use0, use1, use2, use3, await, feq_i, fpick}
pub use types.Run.{unit_lit, of_opd, no_more, and_then, returns, enter}
pub use types.ByLocal.{alloc_all, pass_all, free_all, look_at, get, sets}
pub use types.Part.{agg}
pub use types.Tokens.{shr_bor-open, obor_close}
pub use denote.Exit.{yes, no}
pub use denote.RattleType.{RattleType, owns}
pub use denote.Signature.{types_at, plain}
pub use denote.Builtin.{RefOf, u64, unit}
pub use denote.Opens.{unhide}
pub use denote.Plain.{uint_vals, uint_Tells}
pub use denote.Ref.{mut_vals, mut_Tells, shr_vals, shr_Tells}
pub use denote.Steps.{nothing, opens, closes}
pub use denote.Param.{param, bounded}
pub use denote.Triple.Walked.{Stays, stay_dropped, stay_ref, walk_of, ends_at, Goes-dropped, Goes-ref}
pub use Rattle.core.proofs.ledger.Walks.{token, Mark, told, made, hears, hears_last, tells_last, tells_all}
pub use Rattle.dmc_ledger.specs.Rows.{knows, row, mint_owns, book_owns, till_owns}
pub use Rattle.dmc_ledger.proofs.Sums.{Seen}
