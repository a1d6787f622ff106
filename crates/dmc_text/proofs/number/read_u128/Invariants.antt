-- From the value so far on, the digits that are left read as the whole word does.
use Rattle.std.proofs.Common.{◌≡◌, ◌^◌, drop}
use Rattle.dmc_text.specs.Numbers.{number}
use Rattle.dmc_text.proofs.NumberLemmas.{read_on}
use Rattle.dmc_text.proofs.number.read_u128.Given as goal

abbrev pub invariant-loop-byte : goal.invariant-loop-byte
invariant-loop-byte l = read_on (2 ^ 128) l.value (drop l.byte-index l.word) ≡ number (2 ^ 128) l.word
