-- More capacity, which holds nothing.
use Rattle.std.proofs.Common.{◌≡◌, ℕ, ◌+◌, ◌-◌, ◌≤◌, List, [], ◌∷◌, ◌++◌, Option, Some, None, length, replicate, sym, ap, ◌∙◌, arith, length-append, min, max}
use Rattle.std.specs.Option.{option_map, IfSome}
use Rattle.std.proofs.lemmas.List.{length-replicate}
use Rattle.dmc_tag.specs.Tag.{Tagging}
use Rattle.dmc_tag.specs.declared.rank.TagRank.{TagRank}
use Rattle.dmc_tag.specs.declared.rank.LimitRank.{LimitRank}
use Rattle.dmc_tag.specs.declared.rank.ReadyRank.{ReadyRank}
use Rattle.dmc_index.specs.Index.{slot_of_key}
use Rattle.dmc_head_index.specs.declared.head.Head.{Head}
use Rattle.dmc_head_index.specs.Heads.{tag_rank, limit_rank, ready_rank, head_from, heads_from, IsLeastShare, IsSound}
use Rattle.dmc_head_index.proofs.Slots.{slot_of_key-more, same_slots}
use Rattle.dmc_head_index.proofs.HeadsFrom.{slot_of_key-heads_from}

-- as much capacity, or up to n
abbrev pub with_room : {X : Type 0} → List (Option X) → ℕ → List (Option X)
with_room slots n = slots ++ replicate (n - length slots) None

pub length-with_room : {X : Type 0} (slots : List (Option X)) (n : ℕ) → length (with_room slots n) ≡ length slots + (n - length slots)
length-with_room slots n =
    length-append slots (replicate (n - length slots) None) ∙ ap (λ k. length slots + k) (length-replicate (n - length slots) None)

-- the same keys, and no less capacity
pub record IsGrown {X : Type 0} (old new : List (Option X)) : Type 0 where
  pub same : (key : ℕ) → slot_of_key new key ≡ slot_of_key old key
  pub more : length old ≤ length new

module _ {X : Type 0} {old new : List (Option X)} where
  pub unchanged : new ≡ old → IsGrown old new
  unchanged e = record { same = λ key. ap (λ slots. slot_of_key slots key) e; more = omega (arith, ap length e) }

  pub with_more : (n : ℕ) → new ≡ with_room old n → IsGrown old new
  with_more n e = record {
    same = λ key. ap (λ slots. slot_of_key slots key) e ∙ slot_of_key-more old (n - length old) key;
    more = omega (arith, ap length e, length-with_room old n);
  }

module _ {T : Type 0} where
  least_room : (reservation : List (Option (TagRank T))) (limits : List (Option (LimitRank T))) (ready : List (Option (ReadyRank T))) → length (heads_from reservation limits ready) ≡ min (length reservation) (min (length limits) (length ready))
  least_room [] limits ready = omega arith
  least_room (a ∷ reservation) [] ready = omega arith
  least_room (a ∷ reservation) (b ∷ limits) [] = omega arith
  least_room (a ∷ reservation) (b ∷ limits) (c ∷ ready) = omega (arith, least_room reservation limits ready)

module _ {T : Type 0} (reservation reservation' : List (Option (TagRank T))) (limits limits' : List (Option (LimitRank T))) (ready ready' : List (Option (ReadyRank T))) (e : (key : ℕ) → slot_of_key reservation' key ≡ slot_of_key reservation key) (l : (key : ℕ) → slot_of_key limits' key ≡ slot_of_key limits key) (r : (key : ℕ) → slot_of_key ready' key ≡ slot_of_key ready key) where
  same_held : (key : ℕ) → slot_of_key (heads_from reservation' limits' ready') key ≡ slot_of_key (heads_from reservation limits ready) key
  same_held key =
      slot_of_key-heads_from reservation' limits' ready' key
      ∙ ap (λ a. head_from a (slot_of_key limits' key) (slot_of_key ready' key)) (e key)
      ∙ ap (λ b. head_from (slot_of_key reservation key) b (slot_of_key ready' key)) (l key)
      ∙ ap (head_from (slot_of_key reservation key) (slot_of_key limits key)) (r key)
      ∙ sym (slot_of_key-heads_from reservation limits ready key)

  still_least : (ops : Tagging T) (least : Option T) → IfSome least (IsLeastShare ops (heads_from reservation limits ready)) → IfSome least (IsLeastShare ops (heads_from reservation' limits' ready'))
  still_least ops None was = tt
  still_least ops (Some p) was = record {
    key = was.key;
    head = was.head;
    here = same_held was.key ∙ was.here;
    share = was.share;
    below = λ k other q. was.below k other (sym (same_held k) ∙ q);
  }

  grown : (ops : Tagging T) (least : Option T) (room room' : ℕ) → length ready' ≡ room' → IsSound ops reservation limits ready least room → IsSound ops reservation' limits' ready' least room'
  grown ops least room room' size sound = record {
    reservation_is = λ key. e key ∙ sound.reservation_is key ∙ ap (option_map tag_rank) (sym (same_held key));
    limit_is = λ key. l key ∙ sound.limit_is key ∙ ap (option_map limit_rank) (sym (same_held key));
    weight_is = λ key. r key ∙ sound.weight_is key ∙ ap (option_map ready_rank) (sym (same_held key));
    apart = λ key h q k other ne q'. sound.apart key h (sym (same_held key) ∙ q) k other ne (sym (same_held k) ∙ q');
    least_is = still_least ops least sound.least_is;
    room_is = size;
  }

module _ {T : Type 0} (reservation : List (Option (TagRank T))) (limits : List (Option (LimitRank T))) (ready : List (Option (ReadyRank T))) (n : ℕ) where
  -- capacity for n keys in all three
  all_grown : heads_from (with_room reservation n) (with_room limits n) (with_room ready n) ≡ with_room (heads_from reservation limits ready) n
  all_grown =
      let old = heads_from reservation limits ready in
      same_slots (heads_from (with_room reservation n) (with_room limits n) (with_room ready n)) (with_room old n)
      (omega (arith, least_room (with_room reservation n) (with_room limits n) (with_room ready n), least_room reservation limits ready, length-with_room reservation n, length-with_room limits n, length-with_room ready n, length-with_room old n))
      (λ key. same_held reservation (with_room reservation n) limits (with_room limits n) ready (with_room ready n) (slot_of_key-more reservation (n - length reservation)) (slot_of_key-more limits (n - length limits)) (slot_of_key-more ready (n - length ready)) key ∙ sym (slot_of_key-more old (n - length old) key))

module _ {T : Type 0} {ops : Tagging T} {reservation reservation' : List (Option (TagRank T))} {limits limits' : List (Option (LimitRank T))} {ready ready' : List (Option (ReadyRank T))} {least : Option T} {room : ℕ} {heads : List (Option (Head T))} (sound : IsSound ops reservation limits ready least room) (view : heads_from reservation limits ready ≡ heads) where
  module _ (a : IsGrown reservation reservation') (b : IsGrown limits limits') (d : IsGrown ready ready') where
    pub still_sound : {room' : ℕ} → length ready' ≡ room' → IsSound ops reservation' limits' ready' least room'
    still_sound {room' = room'} size = grown reservation reservation' limits limits' ready ready' a.same b.same d.same ops least room room' size sound

    pub still_held : (key : ℕ) → slot_of_key (heads_from reservation' limits' ready') key ≡ slot_of_key heads key
    still_held key =
        same_held reservation reservation' limits limits' ready ready' a.same b.same d.same key ∙ ap (λ hs. slot_of_key hs key) view

    pub no_less_room : length heads ≤ length (heads_from reservation' limits' ready')
    no_less_room =
        omega (arith, least_room reservation' limits' ready', least_room reservation limits ready, ap length view, a.more, b.more, d.more)

  module _ (n : ℕ) (a : reservation' ≡ with_room reservation n) (b : limits' ≡ with_room limits n) (d : ready' ≡ with_room ready n) where
    pub room_for_all : heads_from reservation' limits' ready' ≡ with_room heads n
    room_for_all = rw (a, b, d) (all_grown reservation limits ready n) ∙ ap (λ hs. with_room hs n) view

    pub size_for_all : {room' : ℕ} → room' ≡ max room n → length ready' ≡ room'
    size_for_all e = omega (arith, e, ap length d, length-with_room ready n, sound.room_is)
