-- Entries that are moved within a vector, of which those from `start` on are there.
use Rattle.std.proofs.Common.{◌≡◌, ◌≢◌, ℕ, ◌+◌, ◌-◌, ◌<◌, ◌≤◌, List, [], ◌∷◌, ◌++◌, length, get_or, take, drop, sym, ap, ◌∙◌, subst, inl, inr, arith}
use Rattle.std.specs.List.{AllWithin, insert, remove}
use Rattle.std.specs.Cmp.{IsTotalOrder}
use Rattle.std.specs.Ordering.{ordering_reverse}
use Rattle.std.specs.declared.cmp.Ordering.{Ordering}
use Rattle.std.specs.declared.cmp.Ordering.TheVariants.{Less}
use Rattle.std.proofs.lemmas.Bool.{cases_lt, cases_eq}
use Rattle.std.proofs.lemmas.List.{get_or-drop, get_or-take, get_or_append_left, length-append, length-drop, length-take-le, same_lists}
use Rattle.std.proofs.lemmas.List.Edits.{length-insert, get_or-insert_below, get_or-insert_at, get_or-insert_above, length-remove, get_or-remove_below, get_or-remove_above}
use Rattle.dmc_index.specs.Index.{IsApart}
use Rattle.dmc_index.specs.Entries.{slots_of, IsSound}
use Rattle.dmc_index.specs.internal.Sliding.{IsPlaced, IsTakenOut, IsMovedToFront}
use Rattle.dmc_index.specs.declared.list_index.Entry.{Entry}
use Rattle.dmc_index.proofs.EntryLemmas.{held_entry, less_from}

module _ {R : Type 0} (start : ℕ) (xs : List (Entry R)) (started : start ≤ length xs) where
  -- an entry from the start on
  there : (k : ℕ) (d : Entry R) → get_or (drop start xs) k d ≡ get_or xs (start + k) d
  there k d = get_or-drop start xs k d

  pub removed : (at : ℕ) (entry : Entry R) (new : List (Entry R)) → start + at < length xs → IsTakenOut start xs (start + at) entry new → drop (start + 1) new ≡ remove (drop start xs) at
  removed at entry new within out =
      let size = out.size in
      let live = length-drop start xs in
      let left = length-drop (start + 1) new in
      let in' : at < length (drop start xs) = omega arith in
      let fewer = length-remove (drop start xs) at in' in
      same_lists (drop (start + 1) new) (remove (drop start xs) at) (omega arith) (λ k d l.
      let read = get_or-drop (start + 1) new k d in
      let next : (start + 1) + k ≡ (start + k) + 1 = omega arith in
      let at_next = read ∙ ap (λ n. get_or new n d) next in
      elim (cases_lt k at) [
        | inl b ↦ at_next ∙ out.before (start + k) d (omega arith) (omega arith) ∙ sym (get_or-remove_below (drop start xs) at d k b in' ∙ there k d)
        | inr b ↦ at_next ∙ out.after ((start + k) + 1) d (omega arith) ∙ sym (get_or-remove_above (drop start xs) at d k b in' ∙ there (k + 1) d ∙ ap (λ n. get_or xs n d) (omega arith))
      ])

  pub moved : (new : List (Entry R)) → IsMovedToFront start xs new → take (length xs - start) new ≡ drop start xs
  moved new m =
      let size = m.size in
      let live = length-drop start xs in
      let kept = length-take-le (length xs - start) new (omega arith) in
      same_lists (take (length xs - start) new) (drop start xs) (omega arith) (λ k d l.
      get_or-take (length xs - start) new k d (omega arith) ∙ m.moved k d (omega arith) ∙ ap (λ n. get_or xs n d) (omega arith) ∙ sym (there k d))

module _ {R : Type 0} {compare : R → R → Ordering} (o : IsTotalOrder compare) (start : ℕ) (xs : List (Entry R)) (entry : Entry R) (at : ℕ) (new : List (Entry R)) (started : start ≤ length xs) (placed : IsPlaced compare start (xs ++ entry ∷ []) entry at new) where
  longer : length (xs ++ entry ∷ []) ≡ length xs + 1
  longer = length-append xs (entry ∷ [])

  -- the index among those that are there
  abbrev pub place : ℕ
  place = at - start

  pub bound : place ≤ length (drop start xs)
  bound = omega (arith, longer, placed.within, placed.started, length-drop start xs)

  was : (k : ℕ) (d : Entry R) → start + k < length xs → get_or (xs ++ entry ∷ []) (start + k) d ≡ get_or (drop start xs) k d
  was k d l = get_or_append_left xs (entry ∷ []) d (start + k) l ∙ sym (get_or-drop start xs k d)

  pub inserted : drop start new ≡ insert (drop start xs) place entry
  inserted =
      let size = placed.size in
      let more = longer in
      let from = placed.started in
      let in' = placed.within in
      let live = length-drop start xs in
      let all = length-drop start new in
      let grown = length-insert (drop start xs) place entry bound in
      same_lists (drop start new) (insert (drop start xs) place entry) (omega arith) (λ k d l.
      elim (cases_lt k place) [
        | inl b ↦ get_or-drop start new k d ∙ placed.before (start + k) d (omega arith) ∙ was k d (omega arith) ∙ sym (get_or-insert_below (drop start xs) place entry d k b bound)
        | inr b ↦ elim (cases_eq k place) [
          | inl e ↦
              let here : start + k ≡ at = omega arith in
              get_or-drop start new k d ∙ ap (λ n. get_or new n d) here ∙ placed.here d ∙ sym (ap (λ n. get_or (insert (drop start xs) place entry) n d) e ∙ get_or-insert_at (drop start xs) place entry d bound)
          | inr ne ↦
              let back : (k - 1) + 1 ≡ k = omega arith in
              let before : (start + k) - 1 ≡ start + (k - 1) = omega arith in
              get_or-drop start new k d ∙ placed.after (start + k) d (omega arith) (omega arith) ∙ ap (λ n. get_or (xs ++ entry ∷ []) n d) before ∙ was (k - 1) d (omega arith)
              ∙ sym (ap (λ n. get_or (insert (drop start xs) place entry) n d) (sym back) ∙ get_or-insert_above (drop start xs) place entry d (k - 1) (omega arith) bound)
        ]
      ])

  module _ (room capacity : ℕ) (sound : IsSound compare room capacity (drop start xs)) (apart : IsApart compare (slots_of room (drop start xs)) entry.rank) where
    -- the one before it is below it
    last_below : (k : ℕ) (d : Entry R) → k + 1 ≡ place → k < length (drop start xs) → compare (get_or (drop start xs) k d).rank entry.rank ≡ Less
    last_below k d e l =
        let e' = get_or (drop start xs) k d in
        let live = length-drop start xs in
        let unequal = apart e'.key e'.rank (held_entry compare o room capacity (drop start xs) sound k d l) in
        let not_above = subst (λ x. compare entry.rank x.rank ≢ Less) (was k d (omega arith)) (placed.below (start + k) d (omega arith) (omega (arith, placed.started))) in
        less_from (compare e'.rank entry.rank) (compare entry.rank e'.rank) (o.antisymm entry.rank e'.rank) (λ q. unequal (o.antisymm entry.rank e'.rank ∙ ap ordering_reverse q)) not_above

    pub below : AllWithin (λ e. compare e.rank entry.rank ≡ Less) (drop start xs) 0 place
    below k d none l =
        let b = bound in
        elim (cases_eq (k + 1) place) [
          | inl e ↦ last_below k d e (omega arith)
          | inr ne ↦ o.trans (get_or (drop start xs) k d).rank (get_or (drop start xs) (place - 1) d).rank entry.rank
              (sound.rising k (place - 1) d (omega arith) (omega arith)) (last_below (place - 1) d (omega arith) (omega arith))
        ]

    pub above : AllWithin (λ e. compare e.rank entry.rank ≢ Less) (drop start xs) place (length (drop start xs))
    above k d from l q =
        let e' = get_or (drop start xs) k d in
        let live = length-drop start xs in
        let higher = subst (λ x. compare entry.rank x.rank ≡ Less) (was k d (omega arith)) (placed.above (start + k) d (omega (arith, placed.started)) (omega (arith, longer))) in
        cc (higher, q, o.antisymm e'.rank entry.rank)
