-- Words that ask for nothing, and how they are explained.
use Rattle.std.proofs.Common.{◌≡◌, ◌⊎◌, ◌<◌, ◌≤◌, ◌-◌, ◌++◌, ◌∙◌, ℕ, Bool, true, false, List, codes, length, map, take, ap, sym, subst, arith, Option, Some, None, inl, inr}
use Rattle.std.proofs.lemmas.List.{length-map, take-map}
use Rattle.std.proofs.Math.Nat.{eq-or-lt_of_le}
use Rattle.std.specs.List.{list_any}
use Rattle.std.specs.Prelude.{slice_get}
use Rattle.std.specs.Str.{bytes_eq}
use Rattle.clap.specs.Words.{Text}
use Rattle.clap.proofs.WalkLemmas.{list_any-map}
use Rattle.dmc_text.specs.Texts.{with_line_end}
use Rattle.dmc_text.specs.declared.watched.Watched.{Watched}
use Rattle.dmc_tool.specs.Explanations.{word_explanation}
use Rattle.dmc_tool.specs.FaultLine.{WritesFault, WritesLines, fault_text}
use Rattle.dmc_tool.specs.Runs.{ReportsUsage, ReportsWords}
use Rattle.dmc_tool.specs.Words.{Asked, IsLongestPart, asked_by_words}
use Rattle.dmc_tool.specs.declared.fault.Fault.TheVariants.{Usage}
use Rattle.dmc_tool.specs.declared.words.ToolCommand.{ToolCommand}

module _ {X : Type 0} (text : X → Text) (written : List ToolCommand) (words : List X) where
  -- no part of at least this many words asks for something, but perhaps all words
  abbrev pub AsksNoLonger : ℕ → Type 0
  AsksNoLonger count = (n : ℕ) → count ≤ n → n < length words → asked_by_words written (take n (map text words)) ≡ None

  -- the longest part is found
  pub found_part : (count : ℕ) (asks : Asked) → 1 < count → asked_by_words written (map text (take (count - 1) words)) ≡ Some asks → AsksNoLonger count
      → IsLongestPart written (map text words) (count - 1)
  found_part count asks some found longer = record {
    asks = λ more none.
        let is : Some asks ≡ None = sym found ∙ (ap (asked_by_words written) (sym (take-map text (count - 1) words)) ∙ none) in absurd (cc);
    longest = λ n more below. longer n (omega (arith, more, some)) (subst (λ l. n < l) (length-map words text) below);
  }

  -- one word less
  pub no_part : (count : ℕ) → 1 < count → asked_by_words written (map text (take (count - 1) words)) ≡ None → AsksNoLonger count → AsksNoLonger (count - 1)
  no_part count some none longer n least below = by_place (eq-or-lt_of_le least)
    where
      by_place : (count - 1 ≡ n) ⊎ (count - 1 < n) → asked_by_words written (take n (map text words)) ≡ None
      by_place (inl here) = subst (λ k. asked_by_words written (take k (map text words)) ≡ None) here (ap (asked_by_words written) (take-map text (count - 1) words) ∙ none)
      by_place (inr behind) = longer n (omega (arith, behind, some)) below

  -- no part asks for something
  pub no_part_at_all : (count : ℕ) → count ≤ 1 → AsksNoLonger count → IsLongestPart written (map text words) 0
  no_part_at_all count small longer = record {
    asks = λ more. absurd (omega (arith, more));
    longest = λ n more below. longer n (omega (arith, more, small)) (subst (λ l. n < l) (length-map words text) below);
  }

  module _ {E : Type 0} (heard : E → Option (List ℕ)) (quiet loud : Watched E) where
    has_it : (b : Bool) → list_any (λ word. bytes_eq (text word) (codes "--explain")) words ≡ b → ReportsUsage heard written (map text words) b quiet loud
        → ReportsWords heard written (map text words) Usage quiet loud
    has_it b has h =
        subst (λ x. ReportsUsage heard written (map text words) x quiet loud) (sym has ∙ list_any-map (λ word. bytes_eq word (codes "--explain")) text words) h

    -- no explanation is asked for
    pub unexplained : list_any (λ word. bytes_eq (text word) (codes "--explain")) words ≡ false → WritesFault heard Usage quiet loud → ReportsWords heard written (map text words) Usage quiet loud
    unexplained has h = has_it false has h

    -- the first word that is not as in the usage is named
    pub explained : (count : ℕ) (word : Option Text) → list_any (λ w. bytes_eq (text w) (codes "--explain")) words ≡ true → IsLongestPart written (map text words) count
        → word ≡ slice_get (map text words) count → WritesLines heard (with_line_end (fault_text Usage) ++ word_explanation word) quiet loud
        → ReportsWords heard written (map text words) Usage quiet loud
    explained count word has part is h =
        has_it true has (count, part, subst (λ w. WritesLines heard (with_line_end (fault_text Usage) ++ word_explanation w) quiet loud) is h)
