-- The word at a place is that of the texts.
use Rattle.std.proofs.Common.{rules, ◌≡◌, None, Some, refl}
use Rattle.std.specs.Prelude.{slice_get}
use Rattle.std.proofs.lemmas.Option.{slice_get-map, slice_get_past, slice_get_read}
use Rattle.dmc_tool.proofs.explain.word_at.Goals as goal

pub returns-in-Some : goal.returns-in-Some
returns-in-Some g c =
    let words = c.args.words.now in
    let at : slice_get words c.args.place ≡ Some c.in-Some.word.now = slice_get_read words _ c.args.place c.in-Some.word.now refl (search rules) (search rules) in
    rw (slice_get-map g.S.AsStr.text words c.args.place, at, c.as_str.ensures) refl

pub returns-in-None : goal.returns-in-None
returns-in-None g c =
    let words = c.args.words.now in
    let at : slice_get words c.args.place ≡ None = slice_get_past words c.args.place (search rules) in
    rw (slice_get-map g.S.AsStr.text words c.args.place, at) refl
