-- What three indexes hold, as heads.
use Rattle.std.proofs.Common.{◌≡◌, ℕ, zero, suc, ◌<◌, ◌≤◌, List, [], ◌∷◌, Option, Some, None, length, set, refl, sym, ap, ◌∙◌, inl, inr, arith, is_some, count_by}
use Rattle.std.specs.Option.{option_map}
use Rattle.std.proofs.lemmas.Bool.{cases_eq}
use Rattle.dmc_tag.specs.declared.rank.TagRank.{TagRank}
use Rattle.dmc_tag.specs.declared.rank.LimitRank.{LimitRank}
use Rattle.dmc_tag.specs.declared.rank.ReadyRank.{ReadyRank}
use Rattle.dmc_index.specs.Index.{slot_of_key}
use Rattle.dmc_head_index.specs.declared.head.Head.{Head}
use Rattle.dmc_head_index.specs.Heads.{tag_rank, limit_rank, ready_rank, Ranks, head_from, heads_from}
use Rattle.dmc_head_index.proofs.Slots.{slot_of_key-set_same, slot_of_key-set_other, is_some_mapped, count_same}

module _ {T : Type 0} where
  -- a head is made of its ranks
  pub head_from_ranks : (o : Option (Head T)) → head_from (option_map tag_rank o) (option_map limit_rank o) (option_map ready_rank o) ≡ o
  head_from_ranks None = refl
  head_from_ranks (Some h) = refl

  head_from_none : (a : Option (TagRank T)) (b : Option (LimitRank T)) → head_from a b None ≡ None
  head_from_none None b = refl
  head_from_none (Some a) None = refl
  head_from_none (Some a) (Some b) = refl

  head_from_none_limit : (a : Option (TagRank T)) (c : Option (ReadyRank T)) → head_from a None c ≡ None
  head_from_none_limit None c = refl
  head_from_none_limit (Some a) c = refl

  pub slot_of_key-heads_from : (reservation : List (Option (TagRank T))) (limits : List (Option (LimitRank T))) (ready : List (Option (ReadyRank T))) (key : ℕ) → slot_of_key (heads_from reservation limits ready) key ≡ head_from (slot_of_key reservation key) (slot_of_key limits key) (slot_of_key ready key)
  slot_of_key-heads_from [] limits ready key = refl
  slot_of_key-heads_from (a ∷ reservation) [] ready key = sym (head_from_none_limit (slot_of_key (a ∷ reservation) key) (slot_of_key ready key))
  slot_of_key-heads_from (a ∷ reservation) (b ∷ limits) [] key = sym (head_from_none (slot_of_key (a ∷ reservation) key) (slot_of_key (b ∷ limits) key))
  slot_of_key-heads_from (a ∷ reservation) (b ∷ limits) (c ∷ ready) zero = refl
  slot_of_key-heads_from (a ∷ reservation) (b ∷ limits) (c ∷ ready) (suc key) = slot_of_key-heads_from reservation limits ready key

  pub heads_from-set : (reservation : List (Option (TagRank T))) (limits : List (Option (LimitRank T))) (ready : List (Option (ReadyRank T))) (key : ℕ) (a : Option (TagRank T)) (b : Option (LimitRank T)) (c : Option (ReadyRank T)) → heads_from (set reservation key a) (set limits key b) (set ready key c) ≡ set (heads_from reservation limits ready) key (head_from a b c)
  heads_from-set [] limits ready key a b c = refl
  heads_from-set (x ∷ reservation) [] ready zero a b c = refl
  heads_from-set (x ∷ reservation) [] ready (suc key) a b c = refl
  heads_from-set (x ∷ reservation) (y ∷ limits) [] zero a b c = refl
  heads_from-set (x ∷ reservation) (y ∷ limits) [] (suc key) a b c = refl
  heads_from-set (x ∷ reservation) (y ∷ limits) (z ∷ ready) zero a b c = refl
  heads_from-set (x ∷ reservation) (y ∷ limits) (z ∷ ready) (suc key) a b c =
      ap (λ hs. head_from x y z ∷ hs) (heads_from-set reservation limits ready key a b c)

  -- the heads are those below the least of the rooms
  pub length-heads_from : (reservation : List (Option (TagRank T))) (limits : List (Option (LimitRank T))) (ready : List (Option (ReadyRank T))) → (length (heads_from reservation limits ready) ≤ length reservation) × (length (heads_from reservation limits ready) ≤ length limits) × (length (heads_from reservation limits ready) ≤ length ready)
  length-heads_from [] limits ready = (omega arith, omega arith, omega arith)
  length-heads_from (a ∷ reservation) [] ready = (omega arith, omega arith, omega arith)
  length-heads_from (a ∷ reservation) (b ∷ limits) [] = (omega arith, omega arith, omega arith)
  length-heads_from (a ∷ reservation) (b ∷ limits) (c ∷ ready) =
      let rest = length-heads_from reservation limits ready in (omega arith, omega arith, omega arith)

-- ---- ranks

module _ {T R : Type 0} (rank : Head T → R) (heads : List (Option (Head T))) (slots : List (Option R)) (ranks : Ranks rank heads slots) where
  pub ranks_set : (key : ℕ) (o : Option (Head T)) → key < length heads → length heads ≤ length slots → Ranks rank (set heads key o) (set slots key (option_map rank o))
  ranks_set key o l m k =
      elim (cases_eq k key) [
        | inl e ↦ ap (slot_of_key (set slots key (option_map rank o))) e ∙ slot_of_key-set_same slots key (option_map rank o) (omega arith) ∙ sym (ap (option_map rank) (ap (slot_of_key (set heads key o)) e ∙ slot_of_key-set_same heads key o l))
        | inr ne ↦ slot_of_key-set_other slots key k (option_map rank o) ne ∙ ranks k ∙ sym (ap (option_map rank) (slot_of_key-set_other heads key k o ne))
      ]

  pub count_ranks : count_by is_some slots ≡ count_by is_some heads
  count_ranks = count_same slots heads (λ key. ap is_some (ranks key) ∙ is_some_mapped rank (slot_of_key heads key))
