-- The words of worked examples: settings, commands as the lines of a script, and replies.
use Rattle.std.specs.Prelude.{ℕ, true, false, Option}
use Rattle.dmc_types.specs.Limits.{max_moment}
use Rattle.dmc_types.specs.Values.{Setting}
use Rattle.dmc_types.specs.declared.config.AtLimit.{AtLimit}
use Rattle.dmc_types.specs.declared.config.AtLimit.TheVariants.{Wait, Allow, Reject}
use Rattle.dmc_types.specs.declared.config.Counting.{Counting}
use Rattle.dmc_types.specs.declared.config.Shares.TheVariants.{Clock, Virtual}
use Rattle.dmc_types.specs.declared.config.PhaseType.TheVariants as phases
use Rattle.dmc_types.specs.declared.command.Command.{Command}
use Rattle.dmc_types.specs.declared.command.Command.TheVariants.{Register, Update, Add, Pull, Remove, Cancel, Clean}
use Rattle.dmc_tag.specs.declared.reply.Reply.{Reply}
use Rattle.dmc_tag.specs.declared.reply.Reply.TheVariants.{Tagged, Granted}

-- ---- settings

abbrev pub setting : ℕ → ℕ → ℕ → AtLimit → Setting
setting hz idle erase at = record { hz = hz; idle_age = idle; erase_age = erase; at_limit = at; shares = Clock }

-- this many ticks a second, and ages that no client reaches
abbrev pub ticks_a_second : ℕ → AtLimit → Setting
ticks_a_second hz at = setting hz max_moment max_moment at

abbrev pub waiting : Setting
waiting = ticks_a_second 1000 Wait

abbrev pub allowing : Setting
allowing = ticks_a_second 1000 Allow

-- adds are refused that would wait for their limit longer than this
abbrev pub rejecting : ℕ → Setting
rejecting threshold = ticks_a_second 1000 (Reject threshold)

-- shares in virtual time
abbrev pub virtually : Setting
virtually = record waiting { shares = Virtual }

abbrev pub virtually_allowing : Setting
virtually_allowing = record allowing { shares = Virtual }

-- ---- commands

abbrev pub client : ℕ → Option ℕ → ℕ → Option ℕ → ℕ → Command
client c r w l t = Register (record { 0 = c }) (record { reservation = r; weight = w; limit = l }) t

abbrev pub update : ℕ → Option ℕ → ℕ → Option ℕ → ℕ → Command
update c r w l t = Update (record { 0 = c }) (record { reservation = r; weight = w; limit = l }) t

abbrev pub add_of_cost : ℕ → ℕ → ℕ → ℕ → ℕ → ℕ → Command
add_of_cost cost c token delta rho t = Add (record { 0 = c }) (record { 0 = token }) (record { delta = delta; rho = rho; cost = cost }) t

abbrev pub add : ℕ → ℕ → ℕ → ℕ → ℕ → Command
add c token delta rho t = add_of_cost 1 c token delta rho t

abbrev pub pull : ℕ → Command
pull t = Pull t

abbrev pub drop_all : ℕ → Command
drop_all c = Remove (record { 0 = c })

abbrev pub cancel : ℕ → ℕ → Counting → Command
cancel c token counting = Cancel (record { 0 = c }) (record { 0 = token }) counting

abbrev pub clean : ℕ → Command
clean t = Clean t

-- ---- replies

abbrev pub tags : {T : Type 0} → Option T → T → T → Reply T
tags r l p = Tagged (record { r = r; l = l; p = p })

abbrev pub by_reservation_of_cost : {T : Type 0} → ℕ → ℕ → ℕ → Reply T
by_reservation_of_cost cost c token = Granted (record { 0 = c }) (record { 0 = token }) phases.Reservation false cost

abbrev pub by_reservation : {T : Type 0} → ℕ → ℕ → Reply T
by_reservation c token = by_reservation_of_cost 1 c token

abbrev pub by_priority_of_cost : {T : Type 0} → ℕ → ℕ → ℕ → Reply T
by_priority_of_cost cost c token = Granted (record { 0 = c }) (record { 0 = token }) phases.Priority false cost

abbrev pub by_priority : {T : Type 0} → ℕ → ℕ → Reply T
by_priority c token = by_priority_of_cost 1 c token

abbrev pub by_priority_beyond : {T : Type 0} → ℕ → ℕ → Reply T
by_priority_beyond c token = Granted (record { 0 = c }) (record { 0 = token }) phases.Priority true 1
