-- The table that a text is.
use Rattle.std.proofs.Common.{◌≡◌, ℕ, ◌≤◌, Bool, true, false, ◌&&◌, nat_le, if◌then◌else◌, le-leb, List, length, Option, None, refl, IsUtf8}
use Rattle.std.specs.Str.{is_utf8}
use Rattle.std.proofs.lemmas.Str.{is_utf8-from_IsUtf8, IsUtf8-from_is_utf8}
use Rattle.dmc_types.specs.Limits.{max_scene_bytes}
use Rattle.toml.specs.Data.{Members}
use Rattle.toml.specs.Parse.{parse_document}
use Rattle.dmc_scene.specs.Reading.{table_of}

pub table_of-within : (text : List ℕ) → length text ≤ max_scene_bytes → IsUtf8 text → table_of text ≡ parse_document text
table_of-within text within utf8 = rw (le-leb (length text) max_scene_bytes within, is_utf8-from_IsUtf8 text utf8)

unread : (fits utf8 : Bool) (found : Option Members) → (utf8 ≡ true → ⊥) → (if fits && utf8 then found else None) ≡ None
unread true true found other = absurd (other refl)
unread true false found other = refl
unread false utf8 found other = refl

pub table_of-no_utf8 : (text : List ℕ) → ¬ IsUtf8 text → table_of text ≡ None
table_of-no_utf8 text other = unread (nat_le (length text) max_scene_bytes) (is_utf8 text) (parse_document text) (λ yes. other (IsUtf8-from_is_utf8 text yes))
