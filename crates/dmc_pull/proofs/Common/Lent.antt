-- A record that is lent, and changed or not.
use Rattle.std.proofs.Common.{◌≡◌, ℕ, true, false, List, Some, ap, ◌∙◌}
use Rattle.std.specs.Prelude.{Result, Ok, Err, OnOk, OnErr}
use Rattle.std.specs.Result.{is_err}
use Rattle.std.specs.Option.{option_map}
use Rattle.dmc_client.specs.Record.{Rec}
use Rattle.dmc_roster.specs.Entries.{Entry, Listing, entry_keyed, record_at, with_record_at, AreDistinct}
use Rattle.dmc_pull.proofs.Common.Keyed.{same_record}

pub unchanged : {T A E : Type 0} (r : Result A E) (roster : Listing T) (key : ℕ) (lent new : Rec T) → is_err r ≡ true → AreDistinct roster.entries → record_at key roster.entries ≡ Some lent → OnErr r (new ≡ lent) → with_record_at roster key new ≡ roster
unchanged (Ok x) roster key lent new failed d found e = cc
unchanged (Err fault) roster key lent new failed d found e = ap (λ rec. with_record_at roster key rec) e ∙ ap (λ es. record roster { entries = es }) (same_record key lent roster.entries d found)

-- what a call that did not fail makes of the record that was lent, it makes of the client's
pub changed_as : {T A E : Type 0} (r : Result A E) (changed : Rec T → Rec T) (key : ℕ) (es : List (Entry T)) (e : Entry T) (lent new : Rec T) → is_err r ≡ false → entry_keyed key es ≡ Some e → record_at key es ≡ Some lent → OnOk r (new ≡ changed lent) → new ≡ changed e.rec
changed_as {T} (Ok x) changed key es e lent new ok keyed found is =
    let own : record_at key es ≡ Some e.rec = ap (option_map (λ e. e.rec)) keyed in
    let same : lent ≡ e.rec = cc (found, own) in
    is ∙ ap changed same
changed_as (Err fault) changed key es e lent new ok keyed found is = cc
