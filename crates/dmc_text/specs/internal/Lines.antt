-- Which fields of a heading were read.
use Rattle.std.specs.Prelude.{ℕ, List, Option}
use Rattle.std.specs.Option.{option_map}
use denote.Ref.{Bor}
use Rattle.dmc_text.specs.declared.line.ConfigWords.{ConfigWords}
use Rattle.dmc_text.specs.Lines.{Heading}

-- what the code's words represent
abbrev pub seen_ages : Option (Bor (List ℕ) × Bor (List ℕ)) → Option (List ℕ × List ℕ)
seen_ages ages = option_map (λ x. (x.0.now, x.1.now)) ages

abbrev pub seen_heading : ConfigWords → Heading
seen_heading c = record { hz = c.hz.now; ages = seen_ages c.ages; at_limit = c.at_limit; shares = c.shares }
