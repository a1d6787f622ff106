-- To which servers a client's requests go: by the words of a generator, one word a request.
use Rattle.std.specs.Prelude.{ℕ, ◌%◌, ◌<◌, List, map}
use Rattle.std.specs.List.{range_with_len}
use Rattle.rand_pcg.specs.Lcg.{Lcg, advance, started, increment_of}
use Rattle.rand_pcg.specs.Pcg.{multiplier_64, pcg32}
use Rattle.dmc_types.specs.declared.ids.ServerId.{ServerId}

-- the generator that `Lcg64Xsh32::new` makes of a state and a stream
abbrev pub generator : ℕ → ℕ → Lcg
generator seed stream = started 64 multiplier_64 seed (increment_of 64 stream)

-- word j of a generator, counted from 0: its output after j steps
abbrev pub word : Lcg → ℕ → ℕ
word start j = (pcg32 (advance 64 multiplier_64 j start)).0

-- the server to which word j of these words sends a request
abbrev pub server_at : (ℕ → ℕ) → ℕ → ℕ → ServerId
server_at words servers j = record { 0 = words j % servers }

-- the servers of n requests: request j goes to the server of word j modulo the number of servers
abbrev pub planned : (ℕ → ℕ) → ℕ → ℕ → List ServerId
planned words servers n = map (server_at words servers) (range_with_len 0 n)

-- it is one of this many servers, which are counted from 0
abbrev pub IsBelow : ℕ → ServerId → Type 0
IsBelow servers server = server.0 < servers
