-- The value if no run was opened.
use Rattle.std.specs.Prelude.{[]}
use Rattle.dmc_types.specs.declared.config.AtLimit.TheVariants.{Wait}
use Rattle.dmc_types.specs.declared.config.Shares.TheVariants.{Clock}
use Rattle.dmc_types.specs.declared.config.Counting.TheVariants.{All}
use Rattle.dmc_types.specs.declared.config.TagKind.TheVariants.{Tick}
use Rattle.dmc_scene.specs.SceneValue.{SceneValue}
use Rattle.dmc_driver_threads.specs.LimitsValue.{LimitsValue}

abbrev pub no_scene : SceneValue
no_scene = record {
  config = record { hz = 0; idle_age = 0; erase_age = 0; at_limit = Wait; shares = Clock };
  tags = Tick;
  servers = 0;
  workers = 0;
  step = 0;
  seed = 0;
  max_pulls = 0;
  counting = All;
  clients = [];
}

abbrev pub no_limits : LimitsValue
no_limits = record { events = 0; completions = 0 }
