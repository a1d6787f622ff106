-- The heads stay right while time advances, capacity grows, and records change after their first requests.
use Rattle.std.proofs.Common.{◌≡◌, ℕ, ◌≤◌, List, [], ◌∷◌, ◌++◌, Option, Some, None, length, set, replicate, sym, ap, ◌∙◌, subst, inl, inr, nat_le}
use Rattle.std.specs.Option.{option_map, option_and_then}
use Rattle.std.specs.List.{AllByRecursion}
use Rattle.std.proofs.lemmas.Bool.{cases_lt}
use Rattle.std.proofs.lemmas.List.{length-set, get_or_past, get_or-set_same}
use Rattle.dmc_tag.specs.Tag.{Tagging}
use Rattle.dmc_tag.specs.Best.{is_due}
use Rattle.dmc_tag.specs.Rules.{moment_of}
use Rattle.dmc_roster.specs.Entries.{Entry, entry_keyed}
use Rattle.dmc_index.specs.Index.{slot_of_key}
use Rattle.dmc_head_index.specs.declared.head.Head.{Head}
use Rattle.dmc_pull.specs.Queue.{AreHeads, head_of, unready}
use Rattle.dmc_index.proofs.Slots.{slot_of_key-more}
use Rattle.dmc_pull.proofs.Common.Kept.{due_later}
pub use Rattle.dmc_index.proofs.Slots.{slot_of_key-set_other}

pub all_true : {X : Type 0} (P : X → Type 0) → ((x : X) → P x) → (xs : List X) → AllByRecursion P xs
all_true P h [] = tt
all_true P h (x ∷ xs) = (h x, all_true P h xs)

-- ---- what a key holds

module _ {X : Type 0} where
  pub held_grown : (slots more : List (Option X)) (n : ℕ) → more ≡ slots ++ replicate n None → (key : ℕ) → slot_of_key more key ≡ slot_of_key slots key
  held_grown slots more n e key = ap (λ xs. slot_of_key xs key) e ∙ slot_of_key-more slots n key

  pub held_emptied : (slots : List (Option X)) (key : ℕ) → slot_of_key (set slots key None) key ≡ None
  held_emptied slots key = elim (cases_lt key (length slots)) [
    | inl l ↦ get_or-set_same slots key None None l
    | inr l ↦ get_or_past (set slots key None) key None (subst (λ n. n ≤ key) (sym (length-set slots key None)) l)
  ]

-- ---- time goes on

module _ {T : Type 0} (ops : Tagging T) where
  abbrev pub DueFromCeil : Type 0
  DueFromCeil = (tag : T) (n : ℕ) → is_due ops n (Some tag) ≡ nat_le (moment_of (ops.ceil tag)) n

  -- each key holds what it held, and each client has the first request that it had
  pub heads_later : DueFromCeil → (t u : ℕ) → t ≤ u → (es fs : List (Entry T)) → ((key : ℕ) → option_and_then head_of (entry_keyed key fs) ≡ option_and_then head_of (entry_keyed key es)) → (hs gs : List (Option (Head T))) → ((key : ℕ) → slot_of_key gs key ≡ slot_of_key hs key) → AreHeads ops t es hs → AreHeads ops u fs gs
  heads_later due_from t u later es fs same hs gs holds are = record {
    here = λ key. ap (option_map unready) (holds key) ∙ are.here key ∙ sym (same key);
    marks = λ key head here ready. due_later ops due_from head.tags.l t u later (are.marks key head (sym (holds key) ∙ here) ready);
  }
