-- An event more at the end of one of the lists.
use Rattle.std.proofs.Common.{◌≡◌, ℕ, ◌+◌, ◌<◌, ◌≤◌, min, Bool, true, false, List, [], ◌∷◌, ◌++◌, length, Option, Some, refl, ap, sym, ◌∙◌, arith}
use Rattle.std.specs.Prelude.{◌==◌, is_some, slice_get, option_map, if◌then◌else◌}
use Rattle.std.proofs.lemmas.List.{length-append}
use Rattle.dmc_tag.specs.declared.event.Event.{Event}
use Rattle.dmc_tag.specs.Tag.{Tagging}
use Rattle.dmc_lemmas.proofs.Lists.{slice_get-append, slice_get-push}
use Rattle.dmc_lemmas.proofs.Options.{is_some_mapped, option_cases}
use Rattle.dmc_history.specs.Log.{Log}
use Rattle.dmc_queue_history.specs.declared.kept.QueuedByWeight.{QueuedByWeight}
use Rattle.dmc_queue_history.specs.declared.kept.Queued.{Queued}
use Rattle.dmc_queue_history.specs.declared.kept.Granted.{Granted}
use Rattle.dmc_queue_history.specs.declared.lists.Lists.{Lists}
use Rattle.dmc_queue_history.specs.Kept.{Adds, Kept, event_at, event_in, event_of_granted, event_of_queued, event_of_queued_by_weight, index_of, list_of}
use Rattle.dmc_queue_history.specs.internal.Kept.{place_in}

-- what stays where one list is read, and the others as before
stays_then : {E : Type 0} (b : Bool) (old new rest : Option E) → (is_some old ≡ true → new ≡ old)
    → is_some (if b then old else rest) ≡ true → (if b then new else rest) ≡ (if b then old else rest)
stays_then true old new rest stays there = stays there
stays_then false old new rest stays there = refl

stays_else : {E : Type 0} (b : Bool) (first old new : Option E) → (is_some old ≡ true → new ≡ old)
    → is_some (if b then first else old) ≡ true → (if b then first else new) ≡ (if b then first else old)
stays_else true first old new stays there = refl
stays_else false first old new stays there = stays there

-- a push leaves what is at a place before it; so too if the list is read through f
stays_there : {X : Type 0} (before after : List X) (x : X) (i : ℕ) → after ≡ before ++ x ∷ []
    → is_some (slice_get before i) ≡ true → slice_get after i ≡ slice_get before i
stays_there before after x i pushed there = option_cases (slice_get before i)
    (λ none. let no = rw none at there in cc)
    (λ y some. let kept = slice_get-append before (x ∷ []) i y some in rw (pushed, kept, some) refl)

stays : {X E : Type 0} (f : X → E) (before after : List X) (x : X) (i : ℕ) → after ≡ before ++ x ∷ []
    → is_some (option_map f (slice_get before i)) ≡ true → option_map f (slice_get after i) ≡ option_map f (slice_get before i)
stays f before after x i pushed there =
    ap (option_map f) (stays_there before after x i pushed (sym (is_some_mapped f (slice_get before i)) ∙ there))

pushed_last : {X : Type 0} (before after : List X) (x : X) (i : ℕ) → after ≡ before ++ x ∷ [] → i ≡ length before → slice_get after i ≡ Some x
pushed_last before after x i pushed at = rw (pushed, at) (slice_get-push before x)

less_room : (a b c d : ℕ) → a ≤ c + 1 → b ≤ d + 1 → min a b ≤ min c d + 1
less_room a b c d first second = omega arith

module _ {T : Type 0} (ops : Tagging T) where
  read_at : (kept : Kept T) (list index place : ℕ) (e : Event T) → list < 4 → place ≡ place_in list index
      → event_in ops kept list index ≡ Some e → event_at ops kept place ≡ Some e
  read_at kept list index place e few at here =
      let its_list : list_of place ≡ list = omega arith in
      let its_index : index_of place ≡ index = omega arith in
      ap (λ l. event_in ops kept l (index_of place)) its_list ∙ ap (event_in ops kept list) its_index ∙ here

  module _ (old : Lists T) (index place : ℕ) where
    pub adds_by_weight : (after : Log (QueuedByWeight T)) (x : QueuedByWeight T) → after.events ≡ old.by_weight.events ++ x ∷ [] → after.most ≡ old.by_weight.most
        → after.room + 1 ≡ old.by_weight.room → index ≡ length old.by_weight.events → place ≡ place_in 0 index
        → Adds ops old (record old { by_weight = after }) place (event_of_queued_by_weight ops x)
    adds_by_weight after x pushed same used last at =
        let longer : length after.events ≡ length old.by_weight.events + 1 = rw pushed (length-append old.by_weight.events (x ∷ [])) in
        record {
          before = λ other. stays_then (list_of other == 0) _ _ _ (stays (event_of_queued_by_weight ops) _ _ x (index_of other) pushed);
          here = read_at _ 0 index place _ (omega arith) at (ap (option_map (event_of_queued_by_weight ops)) (pushed_last _ _ x index pushed last));
          more = omega (arith, longer);
          most = λ n have. record { by_weight = same ∙ have.by_weight; queued = have.queued; granted = have.granted; others = have.others };
          room = less_room _ _ _ _ (less_room _ _ _ _ (omega arith) (omega arith)) (less_room _ _ _ _ (omega arith) (omega arith));
        }

    pub adds_queued : (after : Log (Queued T)) (x : Queued T) → after.events ≡ old.queued.events ++ x ∷ [] → after.most ≡ old.queued.most
        → after.room + 1 ≡ old.queued.room → index ≡ length old.queued.events → place ≡ place_in 1 index
        → Adds ops old (record old { queued = after }) place (event_of_queued x)
    adds_queued after x pushed same used last at =
        let longer : length after.events ≡ length old.queued.events + 1 = rw pushed (length-append old.queued.events (x ∷ [])) in
        record {
          before = λ other. stays_else (list_of other == 0) _ _ _ (stays_then (list_of other == 1) _ _ _ (stays event_of_queued _ _ x (index_of other) pushed));
          here = read_at _ 1 index place _ (omega arith) at (ap (option_map event_of_queued) (pushed_last _ _ x index pushed last));
          more = omega (arith, longer);
          most = λ n have. record { by_weight = have.by_weight; queued = same ∙ have.queued; granted = have.granted; others = have.others };
          room = less_room _ _ _ _ (less_room _ _ _ _ (omega arith) (omega arith)) (less_room _ _ _ _ (omega arith) (omega arith));
        }

    pub adds_granted : (after : Log Granted) (x : Granted) → after.events ≡ old.granted.events ++ x ∷ [] → after.most ≡ old.granted.most
        → after.room + 1 ≡ old.granted.room → index ≡ length old.granted.events → place ≡ place_in 2 index
        → Adds ops old (record old { granted = after }) place (event_of_granted x)
    adds_granted after x pushed same used last at =
        let longer : length after.events ≡ length old.granted.events + 1 = rw pushed (length-append old.granted.events (x ∷ [])) in
        record {
          before = λ other. stays_else (list_of other == 0) _ _ _ (stays_else (list_of other == 1) _ _ _ (stays_then (list_of other == 2) _ _ _ (stays event_of_granted _ _ x (index_of other) pushed)));
          here = read_at _ 2 index place _ (omega arith) at (ap (option_map event_of_granted) (pushed_last _ _ x index pushed last));
          more = omega (arith, longer);
          most = λ n have. record { by_weight = have.by_weight; queued = have.queued; granted = same ∙ have.granted; others = have.others };
          room = less_room _ _ _ _ (less_room _ _ _ _ (omega arith) (omega arith)) (less_room _ _ _ _ (omega arith) (omega arith));
        }

    pub adds_others : (after : Log (Event T)) (x : Event T) → after.events ≡ old.others.events ++ x ∷ [] → after.most ≡ old.others.most
        → after.room + 1 ≡ old.others.room → index ≡ length old.others.events → place ≡ place_in 3 index
        → Adds ops old (record old { others = after }) place x
    adds_others after x pushed same used last at =
        let longer : length after.events ≡ length old.others.events + 1 = rw pushed (length-append old.others.events (x ∷ [])) in
        record {
          before = λ other. stays_else (list_of other == 0) _ _ _ (stays_else (list_of other == 1) _ _ _ (stays_else (list_of other == 2) _ _ _ (stays_there _ _ x (index_of other) pushed)));
          here = read_at _ 3 index place _ (omega arith) at (pushed_last _ _ x index pushed last);
          more = omega (arith, longer);
          most = λ n have. record { by_weight = have.by_weight; queued = have.queued; granted = have.granted; others = same ∙ have.others };
          room = less_room _ _ _ _ (less_room _ _ _ _ (omega arith) (omega arith)) (less_room _ _ _ _ (omega arith) (omega arith));
        }
