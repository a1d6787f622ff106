-- What explains a fault: a line behind its own, which names what is wrong and says what was expected.
use Rattle.std.specs.Prelude.{ℕ, List, [], ◌++◌, codes, Option, Some, None}
use Rattle.std.specs.Fmt.{decimal}
use Rattle.dmc_scene.specs.declared.key.Key.{Key}
use Rattle.dmc_scene.specs.declared.key.Key.TheVariants as key
use Rattle.dmc_text.specs.declared.cause.LineCause.{LineCause}
use Rattle.dmc_text.specs.declared.cause.LineCause.TheVariants as cause
use Rattle.dmc_text.specs.Texts.{with_line_end}
use Rattle.dmc_tool.specs.FaultLine.{line_of}
use Rattle.dmc_tool.specs.declared.fault.Fault.{Fault}
use Rattle.dmc_tool.specs.declared.fault.Fault.TheVariants as fault
use Rattle.dmc_tool.specs.declared.fault.FaultText.{FaultText}

-- what is expected of a line
abbrev pub expected_of_line : LineCause → List ℕ
expected_of_line cause.Bytes = codes ": expected bytes from 32 to 126, and at most 256 of them"
expected_of_line cause.Hz = codes ": expected one hz line, before all others and within its limits"
expected_of_line cause.Words = codes ": expected one of the forms that dmclock(1) lists"
expected_of_line cause.Number = codes ": expected a number in digits, without a leading 0, that fits its type"

-- the first words of a line on a key: the program's name, and the place of the client in whose table it is, if it is in one
abbrev pub place_text : Option ℕ → List ℕ
place_text None = codes "dmclock"
place_text (Some place) = codes "dmclock: client " ++ decimal place

-- what is expected of a key of a scene
abbrev pub expected_of_key : Key → List ℕ
expected_of_key key.Hz = codes ": key hz: expected an integer from 1 to 1000000000"
expected_of_key key.IdleAge = codes ": key idle_age: expected an integer from 1 to 2^62"
expected_of_key key.EraseAge = codes ": key erase_age: expected an integer from idle_age to 2^62"
expected_of_key key.Tags = codes ": key tags: expected the text tick or ratio"
expected_of_key key.Servers = codes ": key servers: expected an integer from 1 to 64"
expected_of_key key.Workers = codes ": key workers: expected an integer from 1 to 16"
expected_of_key key.Step = codes ": key step: expected an integer from 1 to 1000000000"
expected_of_key key.Seed = codes ": key seed: expected an integer from 0 to 2^63-1"
expected_of_key key.MaxPulls = codes ": key max_pulls: expected an integer from 1 to 2^30"
expected_of_key key.Counting = codes ": key counting: expected the text all or others"
expected_of_key key.AtLimit = codes ": key at_limit: expected the text wait or allow"
expected_of_key key.Shares = codes ": key shares: expected the text clock or virtual"
expected_of_key key.Client = codes ": key client: expected a list of 1 to 256 tables"
expected_of_key key.Id = codes ": key id: expected an integer from 0 to 2^32-1, another one for each client"
expected_of_key key.Reservation = codes ": key reservation: expected an integer from 1 to 2^32-1, with ticks one that divides hz"
expected_of_key key.Weight = codes ": key weight: expected an integer from 1 to 2^32-1, with ticks one that divides hz"
expected_of_key key.Limit = codes ": key limit: expected an integer from 1 to 2^32-1, with ticks one that divides hz"
expected_of_key key.Requests = codes ": key requests: expected an integer from 0 to 1000000"
expected_of_key key.Window = codes ": key window: expected an integer from 1 to 1024"
expected_of_key key.Costs = codes ": key costs: expected a list of 1 to 16 integers from 1 to 1024"

-- The line that explains a fault, with its LF. A usage fault is explained by its words, and a failed allocation is not.
abbrev pub explanation : Fault → List ℕ
explanation fault.Usage = []
explanation (fault.Line number cause) = with_line_end (codes "dmclock: line " ++ (decimal number ++ expected_of_line cause))
explanation fault.Read = with_line_end (codes "dmclock: input: expected a file or a stream that can be read, of at most 2^32 bytes")
explanation fault.Write = with_line_end (codes "dmclock: output: expected a stream that can be written")
explanation fault.Memory = []
explanation fault.SceneText = with_line_end (codes "dmclock: input: expected a scene in TOML, of at most 2^20 bytes")
explanation (fault.SceneMissing key client) = with_line_end (place_text client ++ expected_of_key key)
explanation (fault.SceneKind key client) = with_line_end (place_text client ++ expected_of_key key)
explanation (fault.SceneValue key client) = with_line_end (place_text client ++ expected_of_key key)
explanation fault.Torn = with_line_end (codes "dmclock: run: expected what was set up to come back")
explanation fault.Range = with_line_end (codes "dmclock: tags: expected each sum to be one of their values")
explanation fault.TurnsOut = with_line_end (codes "dmclock: key max_pulls: expected enough turns for all requests")
explanation fault.Stopped = with_line_end (codes "dmclock: workers: expected none to stop before all requests were completed")

-- the line that explains a usage fault, by the first word that is not as in the usage
abbrev pub word_explanation : Option (List ℕ) → List ℕ
word_explanation None = []
word_explanation (Some word) = with_line_end (codes "dmclock: unlike the usage from the word " ++ word)

-- the line of a text, or nothing
abbrev pub line_if_any : Option FaultText → List ℕ
line_if_any None = []
line_if_any (Some text) = line_of text
