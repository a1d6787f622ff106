-- The whole name, or a first part of it.
use Rattle.dmc_tool.proofs.IgnoredLemmas.{short_name}
use Rattle.dmc_tool.proofs.ignored.put_name.Goals as goal

pub returns-then-bytes-le-MAX_SHOWN : goal.returns-then-bytes-le-MAX_SHOWN
returns-then-bytes-le-MAX_SHOWN c =
    rw (short_name c.args.name.now (rw c.as_bytes-bytes.ensures.value at c.if-bytes-le-MAX_SHOWN.true), ← c.as_bytes-bytes.ensures.value) c.put_bytes.ensures
