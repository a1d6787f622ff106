use Rattle.std.proofs.Common.{◌≡◌, drop}
use Rattle.std.specs.Prelude.{IfSome}
use Rattle.dmc_tag.specs.Best.{best_of_all}
use Rattle.dmc_plain.specs.internal.Places.{place_found, IsPlace}
use Rattle.dmc_plain.specs.internal.Sets.{members, tag_of}
use Rattle.dmc_plain.proofs.best.best_place.Given as goal

-- what is found is the best of the clients from i on
abbrev pub invariant-loop-i : goal.invariant-loop-i
invariant-loop-i g l =
    (place_found l.clients l.found ≡ best_of_all g.T.Tag.ops (tag_of l.set) (members g.T.Tag.ops l.set) (drop l.i l.clients)) × IfSome l.found (IsPlace l.clients)
