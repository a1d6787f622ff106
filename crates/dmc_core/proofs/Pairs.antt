-- The pairs of a client: what is read and changed in them, and which grants wait.
use Rattle.std.proofs.Common.{◌≡◌, ℕ, zero, suc, ◌+◌, ◌<◌, ◌≤◌, List, [], ◌∷◌, ◌++◌, length, map, set, get_or, refl, sym, ap, ◌∙◌, inl, inr, ◌⊎◌, arith}
use Rattle.std.proofs.Math.Seq.{map-set_same}
use Rattle.std.proofs.lemmas.List.{length-append, length-set, length-map, map-set, get_or-set_same, get_or-set_other}
use Rattle.dmc_types.specs.declared.ids.ServerId.{ServerId}
use Rattle.dmc_types.specs.declared.config.PhaseType.{PhaseType}
use Rattle.dmc_types.specs.declared.config.PhaseType.TheVariants.{Reservation, Priority}
use Rattle.dmc_core.specs.declared.event.Message.{Message}
use Rattle.dmc_core.specs.declared.pair.Pairing.{Pairing}
use Rattle.dmc_core.specs.Run.{Pair, no_pair, pair_at, with_pair, with_flight, grants, with_grants}
use Rattle.dmc_core.specs.internal.Parts.{pair_of, room_of, KeepsGrants, KeepsRoom}
use Rattle.dmc_core.specs.Core.{Room, no_room, room_for, room_at}

-- an element that is read, behind a map
pub seen_map : {A B : Type 0} (f : A → B) (xs : List A) (i : ℕ) (d : B) (x : A) → i < length xs → x ≡ get_or xs i x → get_or (map f xs) i d ≡ f x
seen_map f [] i d x within e = absurd (omega (arith, within))
seen_map f (y ∷ ys) zero d x within e = ap f (sym e)
seen_map f (y ∷ ys) (suc i) d x within e = seen_map f ys i d x (omega (arith, within)) e

module _ (items : List Pairing) (s : ServerId) (x : Pairing) (within : s.0 < length (map pair_of items)) (x_is : x ≡ get_or items s.0 x) where
  inside : s.0 < length items
  inside = rw (← length-map items pair_of) within

  pub pair_seen : pair_at s (map pair_of items) ≡ pair_of x
  pair_seen = seen_map pair_of items s.0 no_pair x inside x_is

  -- it is changed as a rule says
  pub pair_changed : (y : Pairing) (f : Pair → Pair) → pair_of y ≡ f (pair_of x) → map pair_of (set items s.0 y) ≡ with_pair s (f (pair_at s (map pair_of items))) (map pair_of items)
  pair_changed y f y_is = map-set pair_of items s.0 y ∙ ap (set (map pair_of items) s.0) (y_is ∙ ap f (sym pair_seen))

  -- it is as before
  pub pair_same : (y : Pairing) → pair_of y ≡ pair_of x → map pair_of (set items s.0 y) ≡ map pair_of items
  pair_same y y_is = map-set_same pair_of items s.0 y x (y_is ∙ ap pair_of x_is)

-- ---- grants

-- what can't tell two pairs apart reads the same after the one is written for the other
same_at : {X : Type 0} (f : Pair → X) (pairs : List Pair) (i j : ℕ) (y : Pair) → f y ≡ f (get_or pairs i no_pair) → f (get_or (set pairs i y) j no_pair) ≡ f (get_or pairs j no_pair)
same_at f [] i j y e = refl
same_at f (p ∷ pairs) zero zero y e = e
same_at f (p ∷ pairs) zero (suc j) y e = refl
same_at f (p ∷ pairs) (suc i) zero y e = refl
same_at f (p ∷ pairs) (suc i) (suc j) y e = same_at f pairs i j y e

pub flight_apart : (flight : List Message) (pair : Pair) (phase : PhaseType) → grants phase (with_flight flight pair) ≡ grants phase pair
flight_apart flight pair Reservation = refl
flight_apart flight pair Priority = refl

-- another flight leaves the grants
pub flight_keeps_grants : (pairs : List Pair) (s : ServerId) (flight : List Message) → KeepsGrants pairs (with_pair s (with_flight flight (pair_at s pairs)) pairs)
flight_keeps_grants pairs s flight = record {
  as_many = length-set pairs _ _;
  grants = λ other phase. same_at (grants phase) pairs s.0 other.0 (with_flight flight (pair_at s pairs)) (flight_apart flight (pair_at s pairs) phase);
}

pub same_keeps_grants : (old new : List Pair) → new ≡ old → KeepsGrants old new
same_keeps_grants old new e = record {
  as_many = ap length e;
  grants = λ s phase. ap (λ (ps : List Pair). grants phase (pair_at s ps)) e;
}

-- ---- room for grants

same_room : (pair : Pair) (room : Room) → KeepsRoom pair room pair room
same_room pair room = record { waiting = omega arith; room = λ was. was }

rooms_at : (items : List Pairing) (i j : ℕ) (x y : Pairing) → x ≡ get_or items i x → KeepsRoom (pair_of x) (room_of x) (pair_of y) (room_of y)
    → KeepsRoom (get_or (map pair_of items) j no_pair) (get_or (map room_of items) j no_room) (get_or (map pair_of (set items i y)) j no_pair) (get_or (map room_of (set items i y)) j no_room)
rooms_at [] i j x y e k = same_room no_pair no_room
rooms_at (p ∷ items) zero zero x y e k = rw (← e) k
rooms_at (p ∷ items) zero (suc j) x y e k = same_room _ _
rooms_at (p ∷ items) (suc i) zero x y e k = same_room _ _
rooms_at (p ∷ items) (suc i) (suc j) x y e k = rooms_at items i j x y e k

-- one pair is changed, and there is room as before
pub rooms_kept : (items : List Pairing) (s : ServerId) (x y : Pairing) → x ≡ get_or items s.0 x → KeepsRoom (pair_of x) (room_of x) (pair_of y) (room_of y)
    → (other : ServerId) → KeepsRoom (pair_at other (map pair_of items)) (room_at other (map room_of items)) (pair_at other (map pair_of (set items s.0 y))) (room_at other (map room_of (set items s.0 y)))
rooms_kept items s x y e k other = rooms_at items s.0 other.0 x y e k

-- the same pair, and as much room
pub more_room : (old new : Pair) (was is : Room) → new ≡ old → is.waiting ≡ was.waiting → ((phase : PhaseType) → room_for phase was ≤ room_for phase is) → KeepsRoom old was new is
more_room old new was is same waiting as_much = record {
  waiting = rw same (omega arith);
  room = λ fits phase. let a = fits phase in let b = as_much phase in rw same (omega arith);
}

-- room was made for one more message, and it was sent
pub sent_room : (old mid new : Pair) (was made is : Room) (message : Message) → mid ≡ old → made.waiting ≡ was.waiting
    → ((phase : PhaseType) → length (grants phase mid) + made.waiting + 1 ≤ room_for phase made)
    → new ≡ with_flight (mid.flight ++ message ∷ []) mid → is ≡ record made { waiting = made.waiting + 1 } → KeepsRoom old was new is
sent_room old mid new was made is message same waiting fits pair room = record {
  waiting =
      let l = length-append mid.flight (message ∷ []) in
      let f : length mid.flight ≡ length old.flight = ap (λ (p : Pair). length p.flight) same in
      rw (pair, room) (omega arith);
  room = λ before. rw (pair, room) fits_after;
}
  where
    fits_after : (phase : PhaseType) → length (grants phase (with_flight (mid.flight ++ message ∷ []) mid)) + (made.waiting + 1) ≤ room_for phase (record made { waiting = made.waiting + 1 })
    fits_after Reservation = let h = fits Reservation in omega arith
    fits_after Priority = let h = fits Priority in omega arith

-- as much room as before
pub room_same : (items : List Pairing) (s : ServerId) (x : Pairing) → x ≡ get_or items s.0 x → (y : Pairing) → room_of y ≡ room_of x → map room_of (set items s.0 y) ≡ map room_of items
room_same items s x e y is = map-set_same room_of items s.0 y x (is ∙ ap room_of e)

-- no more grants of a phase
pub fewer_grants : (phase : PhaseType) (costs : List ℕ) (old new : Pair) (was is : Room) → new ≡ with_grants phase costs old → length costs ≤ length (grants phase old) → is ≡ was → KeepsRoom old was new is
fewer_grants Reservation costs old new was is pair few same = record {
  waiting = rw (pair, same) (omega arith);
  room = λ fits. rw (pair, same) (fits_after fits);
}
  where
    fits_after : ((phase : PhaseType) → length (grants phase old) + was.waiting ≤ room_for phase was) → (phase : PhaseType) → length (grants phase (with_grants Reservation costs old)) + was.waiting ≤ room_for phase was
    fits_after fits Reservation = let h = fits Reservation in omega arith
    fits_after fits Priority = fits Priority
fewer_grants Priority costs old new was is pair few same = record {
  waiting = rw (pair, same) (omega arith);
  room = λ fits. rw (pair, same) (fits_after fits);
}
  where
    fits_after : ((phase : PhaseType) → length (grants phase old) + was.waiting ≤ room_for phase was) → (phase : PhaseType) → length (grants phase (with_grants Priority costs old)) + was.waiting ≤ room_for phase was
    fits_after fits Reservation = fits Reservation
    fits_after fits Priority = let h = fits Priority in omega arith

module _ (items : List Pairing) (s : ServerId) (x : Pairing) (within : s.0 < length (map pair_of items)) (x_is : x ≡ get_or items s.0 x) where
  there : s.0 < length items
  there = rw (← length-map items pair_of) within

  pub room_seen : room_at s (map room_of items) ≡ room_of x
  room_seen = seen_map room_of items s.0 no_room x there x_is

  pub room_changed : (y : Pairing) → room_at s (map room_of (set items s.0 y)) ≡ room_of y
  room_changed y = ap (λ (rooms : List Room). room_at s rooms) (map-set room_of items s.0 y) ∙ get_or-set_same (map room_of items) s.0 (room_of y) no_room (rw (length-map items room_of) there)

  pub room_elsewhere : (y : Pairing) (other : ServerId) → (other.0 ≡ s.0 → ⊥) → room_at other (map room_of (set items s.0 y)) ≡ room_at other (map room_of items)
  room_elsewhere y other apart = ap (λ (rooms : List Room). room_at other rooms) (map-set room_of items s.0 y) ∙ get_or-set_other (map room_of items) s.0 other.0 (room_of y) no_room apart

  -- one more grant, or none
  pub pair_either : (y : Pairing) (f : Pair → Pair) → (pair_of y ≡ pair_of x) ⊎ (pair_of y ≡ f (pair_of x))
      → (map pair_of (set items s.0 y) ≡ map pair_of items) ⊎ (map pair_of (set items s.0 y) ≡ with_pair s (f (pair_at s (map pair_of items))) (map pair_of items))
  pair_either y f (inl same) = inl (pair_same items s x within x_is y same)
  pair_either y f (inr is) = inr (pair_changed items s x within x_is y f is)
