-- What reading a scene takes from the reader, and its result.
use Rattle.std.specs.Prelude.{◌≡◌, ◌+◌, ◌<◌, ℕ, List, length, Option, Result, Ok, Err}
use Rattle.std.specs.Io.KnownBytes.{IsAtEnd}
use Rattle.dmc_types.specs.Limits.{max_scene_bytes}
use Rattle.dmc_text.specs.Texts.{ReadsWithin}
use Rattle.dmc_scene.specs.declared.fault.SceneFault.{SceneFault}
use Rattle.dmc_scene.specs.declared.fault.SceneFault.TheVariants as scene
use Rattle.dmc_scene.specs.Reading.{scene_in}
use Rattle.dmc_scene.specs.SceneValue.{SceneValue}
use Rattle.dmc_tool.specs.declared.fault.Fault.{Fault}
use Rattle.dmc_tool.specs.declared.fault.Fault.TheVariants.{Read, Memory, SceneText, SceneMissing, SceneKind, SceneValue as SceneValueOf}

-- one more byte than a scene may have
abbrev pub max_bytes : ℕ
max_bytes = max_scene_bytes + 1

-- all of a text is read, or enough to show that it is too long
abbrev pub ReadsText : (before after : Option (List ℕ)) → List ℕ → Type 0
ReadsText before after text = ReadsWithin max_bytes before after text × (length text < max_bytes → IsAtEnd after)

-- the text is read, and this is its scene, or the reason why it is none
abbrev pub ReadsAs : (before after : Option (List ℕ)) → Result SceneValue SceneFault → Type 0
ReadsAs before after result = (text : List ℕ) × ReadsText before after text × (scene_in text ≡ result)

-- no more than that is read
abbrev pub ReadsSome : (before after : Option (List ℕ)) → Type 0
ReadsSome before after = (text : List ℕ) × ReadsWithin max_bytes before after text

-- a scene, or a fault of the text; otherwise the reader failed or an allocation did
abbrev pub ReadsScene : (before after : Option (List ℕ)) → Result SceneValue Fault → Type 0
ReadsScene before after (Ok s) = ReadsAs before after (Ok s)
ReadsScene before after (Err SceneText) = ReadsAs before after (Err scene.Text)
ReadsScene before after (Err (SceneMissing key client)) = ReadsAs before after (Err (scene.Missing key client))
ReadsScene before after (Err (SceneKind key client)) = ReadsAs before after (Err (scene.Kind key client))
ReadsScene before after (Err (SceneValueOf key client)) = ReadsAs before after (Err (scene.Value key client))
ReadsScene before after (Err Read) = ReadsSome before after
ReadsScene before after (Err Memory) = ReadsSome before after
ReadsScene before after (Err fault) = ⊥
