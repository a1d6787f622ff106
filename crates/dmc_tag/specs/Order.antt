-- Tags in order, and that an assignment keeps them in order.
use Rattle.std.specs.Prelude.{◌≡◌, false, is_some, IfSome}
use Rattle.std.specs.Ordering.{is_gt}
use Rattle.dmc_types.specs.Values.{Rates}
use Rattle.dmc_tag.specs.Tag.{Tagging}
use Rattle.dmc_tag.specs.declared.plain.Previous.{Previous}
use Rattle.dmc_tag.specs.declared.plain.Slack.{Slack}
use Rattle.dmc_tag.specs.declared.spacing.Spacings.{Spacings}
use Rattle.dmc_tag.specs.declared.reply.Tags.{Tags}

-- one tag is not above another
abbrev pub AtMost : {T : Type 0} → Tagging T → T → T → Type 0
AtMost ops a b = is_gt (ops.compare a b) ≡ false

-- The spacings are those of these rates: none is below 0, and there is one for R exactly if there is a reservation.
pub record AreSpacings {T : Type 0} (ops : Tagging T) (info : Rates) (spacings : Spacings T) : Type 0 where
  pub reserved : is_some spacings.r ≡ is_some info.reservation
  pub r : IfSome spacings.r (AtMost ops (ops.of_moment 0))
  pub l : AtMost ops (ops.of_moment 0) spacings.l
  pub p : AtMost ops (ops.of_moment 0) spacings.p

-- The tags of a next request: none is below the previous one, and there is an R exactly if there is a reservation.
pub record AreNext {T : Type 0} (ops : Tagging T) (info : Rates) (previous : Previous T) (tags : Tags T) : Type 0 where
  pub reserved : is_some tags.r ≡ is_some info.reservation
  pub r : IfSome tags.r (AtMost ops previous.r)
  pub l : AtMost ops previous.l tags.l
  pub p : AtMost ops previous.p tags.p

-- no slack is below 0
pub record NotBelow {T : Type 0} (ops : Tagging T) (slack : Slack T) : Type 0 where
  pub r : AtMost ops (ops.of_moment 0) slack.r
  pub l : AtMost ops (ops.of_moment 0) slack.l
  pub p : AtMost ops (ops.of_moment 0) slack.p
