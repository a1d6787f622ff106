-- A segment that is the next of another.
use Rattle.std.proofs.Common.{◌≡◌, ℕ, ◌+◌, List, [], ◌∷◌, ◌++◌, length, length-append, take, sym, ap, ◌∙◌, inl, inr, arith}
use Rattle.std.specs.Prelude.{◌⊎◌}
use Rattle.std.proofs.lemmas.Grind.{flat_map-append}
use Rattle.std.proofs.lemmas.List.{append-nil, nil_from_length}
use Rattle.std.proofs.Math.Seq.{take-append_seam, take-length}
use mathlib.Core.List.{IsPrefix}
use Rattle.dmc_history.specs.Log.{Log}
use Rattle.dmc_shared.specs.Segmented.{IsLast, events_of}

module _ {L E : Type 0} (log : L → Log E) where
  events_joined : (xs ys : List L) → events_of log (xs ++ ys) ≡ events_of log xs ++ events_of log ys
  events_joined = flat_map-append (λ (l : L). (log l).events)

  -- a segment ends so many events after its first
  ends_at : (list : List L) (kept : L) (first : ℕ) → IsLast log list kept first → length (events_of log list) ≡ first + length (log kept).events
  ends_at list kept first h =
      let whole = ap (events_of log) h.last ∙ events_joined h.before (kept ∷ []) in
      let long = length-append (events_of log h.before) (events_of log (kept ∷ [])) in
      let own : length (events_of log (kept ∷ [])) ≡ length (log kept).events = ap length (append-nil (log kept).events) in
      let number = h.number in
      ap length whole ∙ omega (arith, number, long, own)

  -- If one begins the other and the next begins where this one ends, the part before the next is this one. The next can't
  -- be the shorter of the two, unless both are the same.
  pub is_next : (one two : List L) (kept next : L) (first at : ℕ) → IsLast log one kept first → IsLast log two next at
      → IsPrefix one two ⊎ IsPrefix two one → at ≡ first + length (log kept).events → take at (events_of log two) ≡ events_of log one
  is_next one two kept next first at h i (inl (rest, e)) here =
      let end : at ≡ length (events_of log one) = here ∙ sym (ends_at one kept first h) in
      let joined = sym (ap (events_of log) e) ∙ events_joined one rest in
      ap (λ n. take n (events_of log two)) end ∙ ap (take (length (events_of log one))) joined ∙ take-append_seam (events_of log one) (events_of log rest)
  is_next one two kept next first at h i (inr (rest, e)) here =
      let end : at ≡ length (events_of log one) = here ∙ sym (ends_at one kept first h) in
      let other = ends_at two next at i in
      let whole : events_of log one ≡ events_of log two ++ events_of log rest = sym (ap (events_of log) e) ∙ events_joined two rest in
      let both = ap length whole ∙ length-append (events_of log two) (events_of log rest) in
      let none : events_of log rest ≡ [] = nil_from_length (events_of log rest) (omega (arith, both, other, end)) in
      let same : events_of log one ≡ events_of log two = whole ∙ ap (λ xs. events_of log two ++ xs) none ∙ append-nil (events_of log two) in
      ap (λ n. take n (events_of log two)) (end ∙ ap length same) ∙ take-length (events_of log two) ∙ sym same
