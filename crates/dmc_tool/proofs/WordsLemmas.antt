-- A match is what clap gives if no kind of error is listed.
use Rattle.std.proofs.Common.{◌≡◌, ◌⊎◌, List, Option, Some, None, Result, Err, Ok, [], ◌∷◌, refl, subst, inl, inr, true}
use Rattle.std.specs.Prelude.{IfErr, option_and_then}
use Rattle.clap.specs.Words.{App, IsAmong, Kinds, Row, Text, fault_of, is_simple, is_simple_and_free, matches_of, subcommand_of}
use Rattle.clap.specs.declared.error.kind.ErrorKind.{ErrorKind}
use Rattle.clap.specs.declared.error.kind.ErrorKind.TheVariants.{OutOfMemory}
use Rattle.clap.proofs.OnLiterals.{clap_on_literals}
use Rattle.dmc_tool.specs.Words.{Asked, asked_by_words, asked_in, fault_at, if_no_fault, match_of, program_app}
use Rattle.dmc_tool.specs.declared.words.ToolCommand.{ToolCommand}
use Rattle.dmc_tool.specs.declared.words.WordsFault.{WordsFault}
use Rattle.dmc_tool.specs.declared.words.WordsFault.TheVariants.{Usage}

pub is_simple_program : is_simple_and_free program_app ≡ true
unfolding clap_on_literals program_app
is_simple_program = refl

pub matches_simply : is_simple program_app ≡ true
unfolding clap_on_literals program_app
matches_simply = refl

-- an error that is no allocation failure is returned only if there is no match
pub no_match : {X : Type 0} (kinds : Kinds) (x : Option X) (k : ErrorKind)
    → ((k ≡ OutOfMemory) ⊎ IsAmong k kinds) → fault_at k ≡ Usage → if_no_fault kinds x ≡ None
no_match [] x k (inl memory) usage = cc
no_match [] x k (inr none) usage = absurd none
no_match (first ∷ rest) x k h usage = refl

pub nothing_asked : (written : List ToolCommand) (m : Option (List Row × Option (Text × List Row))) → m ≡ None → option_and_then (asked_in written) m ≡ None
nothing_asked written m none = rw none refl

-- a match that has no fault is the program's
pub asked_is : (written : List ToolCommand) (words : List Text) (app : App) (rows : List Row) (found : Option (Text × List Row)) → app ≡ program_app → fault_of app words ≡ []
    → rows ≡ matches_of app words → found ≡ subcommand_of app words → asked_in written (rows, found) ≡ asked_by_words written words
unfolding match_of
asked_is written words app rows found is none own same =
    by_parts (fault_of program_app words) (matches_of program_app words) (subcommand_of program_app words) (subst (λ (a : App). fault_of a words ≡ []) is none)
    (subst (λ (a : App). rows ≡ matches_of a words) is own) (subst (λ (a : App). found ≡ subcommand_of a words) is same)
  where
    by_parts : (kinds : Kinds) (ys : List Row) (x : Option (Text × List Row)) → kinds ≡ [] → rows ≡ ys → found ≡ x
        → asked_in written (rows, found) ≡ option_and_then (asked_in written) (if_no_fault kinds (Some (ys, x)))
    by_parts kinds ys x no_kind rows_are found_is = rw (no_kind, ← rows_are, ← found_is) refl

-- nothing is asked for if that is reported
pub asks_for_none : {R : Type 0} (asks : Option Asked) (answer : Result R WordsFault) → IfErr answer (λ fault. (fault ≡ Usage) × (asks ≡ None)) → answer ≡ Err Usage → asks ≡ None
asks_for_none asks (Ok r) none usage = absurd (cc)
asks_for_none asks (Err fault) none usage = none.1
