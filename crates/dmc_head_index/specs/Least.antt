-- What is known of the least P.
use Rattle.std.specs.Prelude.{if◌then◌else◌}
use Rattle.std.specs.Ordering.{is_gt}
use Rattle.dmc_tag.specs.Tag.{Tagging}

-- the lesser of two
abbrev pub lesser : {T : Type 0} → Tagging T → T → T → T
lesser ops a b = if is_gt (ops.compare a b) then b else a
