-- The range of P tags after a new tag and after a shift.
use Rattle.std.specs.Prelude.{Bool, false, ◌&&◌, Option, Some, None, if◌then◌else◌}
use Rattle.std.specs.Option.{option_map, option_and_then}
use Rattle.std.specs.Ordering.{is_gt}
use Rattle.dmc_tag.specs.Tag.{Tagging}
use Rattle.dmc_tag.specs.Rules.{has_less}
use Rattle.dmc_head_index.specs.Least.{lesser}
use Rattle.dmc_tag.specs.declared.reply.Tags.{Tags}
use Rattle.dmc_pull.specs.declared.range.ShareRange.{ShareRange}

abbrev pub greater : {T : Type 0} → Tagging T → T → T → T
greater ops a b = if is_gt (ops.compare a b) then a else b

-- the range with one more tag
abbrev pub with_share : {T : Type 0} → Tagging T → T → ShareRange T → ShareRange T
with_share ops share range = record { least = lesser ops range.least share; greatest = greater ops range.greatest share }

-- the range with the P of a first request, if there is one, and a previous P
abbrev pub with_shares_between : {T : Type 0} → Tagging T → Option (Tags T) → T → ShareRange T → ShareRange T
with_shares_between ops None previous range = with_share ops previous range
with_shares_between ops (Some first) previous range = with_share ops first.p (with_share ops previous range)

-- the range after an amount was taken off each tag
abbrev pub with_less : {T : Type 0} → Tagging T → T → ShareRange T → Option (ShareRange T)
with_less ops amount range = option_and_then (λ least. option_map (λ greatest. with_share ops greatest (with_share ops least range)) (ops.minus range.greatest amount)) (ops.minus range.least amount)

-- after a shift, if there is one
abbrev pub after_shift : {T : Type 0} → Tagging T → Option T → ShareRange T → Option (ShareRange T)
after_shift ops None range = Some range
after_shift ops (Some amount) range = with_less ops amount range

-- after a request arrived with a P, and a shift of the others
abbrev pub range_after : {T : Type 0} → Tagging T → Option (ShareRange T) → T → Option T → Option (ShareRange T)
range_after ops range share shift = option_and_then (λ known. after_shift ops shift (with_share ops share known)) range

-- ---- a test at two tags

abbrev pub all_have_less : {T : Type 0} → Bool → Tagging T → T → Option (ShareRange T) → Bool
all_have_less whole ops amount None = false
all_have_less whole ops amount (Some range) = whole && (has_less ops amount range.least && has_less ops amount range.greatest)
