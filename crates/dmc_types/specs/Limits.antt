-- The limits, by name.
use Rattle.std.specs.Prelude.{ℕ, ◌-◌, ◌^◌}

-- ---- queues

-- the last moment, and the greatest age in a configuration
abbrev pub max_moment : ℕ
max_moment = 2 ^ 62

-- the most ticks a second
abbrev pub max_hz : ℕ
max_hz = 1000000000

-- the most clients of a queue
abbrev pub max_clients : ℕ
max_clients = 65536

-- the most queued requests of a queue
abbrev pub max_requests : ℕ
max_requests = 2 ^ 20

-- ---- trackers

-- the most servers of a tracker, and of a scene
abbrev pub max_servers : ℕ
max_servers = 64

-- the most completions that a tracker counts
abbrev pub max_completions : ℕ
max_completions = 2 ^ 62

-- the greatest delta and the greatest rho that a stamp carries
abbrev pub max_count : ℕ
max_count = 2 ^ 32 - 1

-- the most completions of a client in a cluster's core and in a run in threads
abbrev pub max_run_completions : ℕ
max_run_completions = 2 ^ 32 - 1

-- ---- histories and books

-- the most events of a history
abbrev pub max_events : ℕ
max_events = 2 ^ 30

-- the most books of a set-up
abbrev pub max_books : ℕ
max_books = 2 ^ 32

-- the most tills of a book that are open at once
abbrev pub max_open_tills : ℕ
max_open_tills = 2 ^ 32 - 1

-- the most workers of a queue's book: each has one till of a desk's book, and the desk holds one more
abbrev pub max_workers : ℕ
max_workers = 2 ^ 32 - 2

-- ---- texts and scenes

-- the most bytes of a line of a script or an event text, without its LF
abbrev pub max_line_bytes : ℕ
max_line_bytes = 256

-- the most bytes of a scene
abbrev pub max_scene_bytes : ℕ
max_scene_bytes = 2 ^ 20

-- the most clients of a scene
abbrev pub max_scene_clients : ℕ
max_scene_clients = 256

-- the most requests that a client of a scene makes
abbrev pub max_client_requests : ℕ
max_client_requests = 1000000

-- the most requests that a client of a scene has outstanding at once
abbrev pub max_window : ℕ
max_window = 1024

-- the most workers of a server of a scene
abbrev pub max_server_workers : ℕ
max_server_workers = 16

-- the most ticks of a step
abbrev pub max_step : ℕ
max_step = 1000000000

-- the most rounds of a simulation, and the most turns of a server's worker
abbrev pub limit_of_pulls : ℕ
limit_of_pulls = 2 ^ 30
