-- The results of the tests of an add, and what the least P of all heads means for the shift.
use Rattle.std.proofs.Common.{◌≡◌, ℕ, Bool, true, false, not, ◌&&◌, List, [], length, Option, Some, None, Result, Ok, Err, refl, sym, ap, ◌∙◌, subst}
use Rattle.std.specs.Prelude.{IfSome, IsSome, is_some, if◌then◌else◌, nat_le, MatchOption}
use Rattle.std.specs.Option.{option_map, ok_or}
use Rattle.std.specs.List.{AllByRecursion}
use Rattle.std.specs.declared.cmp.Ordering.TheVariants.{Equal}
use Rattle.std.specs.Cmp.{IsTotalOrder}
use Rattle.dmc_types.specs.Limits.{max_requests}
use Rattle.dmc_types.specs.Values.{Params}
use Rattle.dmc_types.specs.declared.config.Shares.{Shares}
use Rattle.dmc_types.specs.declared.ids.ClientId.{ClientId}
use Rattle.dmc_types.specs.declared.refusal.Refusal.{Refusal}
use Rattle.dmc_types.specs.declared.refusal.Refusal.TheVariants.{Unknown, QueueFull, Range}
use Rattle.dmc_tag.specs.Tag.{Tagging}
use Rattle.dmc_tag.specs.Outcome.{◌>>=◌, refuse_if, in_range}
use Rattle.dmc_tag.specs.State.{PlainClient, State, client_named, queued_requests}
use Rattle.dmc_tag.specs.Best.{Found, best_of_all, by_weight, is_any, HasNone}
use Rattle.dmc_tag.specs.Rules.{Addition, addition_with, add_tags, can_shift_by, adjusts, shift_of, shift_from, share_floor, assigned}
use Rattle.dmc_tag.specs.declared.reply.Tags.{Tags}
use Rattle.dmc_client.specs.Record.{IsRecord, client_of}
use Rattle.dmc_roster.specs.Entries.{Entry, entry_named, AreDistinct}
use Rattle.dmc_head_index.specs.declared.head.Head.{Head}
use Rattle.dmc_head_index.specs.Heads.{IsLeastShare}
use Rattle.dmc_pull.specs.internal.Adding.{needed_shift, unless_nothing}
use Rattle.dmc_pull.specs.Queue.{AreHeads}
use Rattle.dmc_pull.specs.Represented.{clients_in}
use Rattle.dmc_pull.proofs.Common.Entries.{named}
use Rattle.dmc_tag.proofs.ForCallers.{none_of_all}
use Rattle.dmc_pull.proofs.Add.LeastShare.{best_share}
pub use Rattle.dmc_lemmas.proofs.Orderings.{tag_order}

pub if_all : {X : Type 0} (P : X → Type 0) (o : Option X) → ((x : X) → o ≡ Some x → P x) → IfSome o P
if_all P None h = tt
if_all P (Some x) h = h x refl

pub if_holds : {X : Type 0} (P : X → Type 0) (o : Option X) (x : X) → o ≡ Some x → IfSome o P → P x
if_holds P o x e h = subst (λ o. IfSome o P) e h

-- ---- the client

-- nobody has the name, if no key was found
pub no_entry : {T : Type 0} (id : ClientId) (es : List (Entry T)) → option_map (λ e. e.key) (entry_named id es) ≡ None → entry_named id es ≡ None
no_entry id es h = at (entry_named id es) h where
  at : {T : Type 0} (o : Option (Entry T)) → option_map (λ e. e.key) o ≡ None → o ≡ None
  at None h = refl
  at (Some e) h = cc

pub unnamed : {T : Type 0} (id : ClientId) (es : List (Entry T)) → entry_named id es ≡ None → client_named id (clients_in es) ≡ None
unnamed id es h = named id es ∙ ap (option_map (λ e. client_of e.id e.rec)) h

pub held_entry : {X : Type 0} (o : Option X) → is_some o ≡ true → (x : X) × (o ≡ Some x)
held_entry None h = cc
held_entry (Some x) h = (x, refl)

module _ {T : Type 0} (ops : Tagging T) where
  -- ---- the shift

  -- how far the others are shifted if the least P is this
  abbrev pub shift_past : T → T → Result (Option T) Refusal
  shift_past least t = in_range (ops.minus least t) >>= λ amount. Ok (unless_nothing ops (Some amount))

  past_of : (o : Option T) → (in_range o >>= λ amount. Ok (unless_nothing ops (Some amount))) ≡ ((in_range o >>= λ amount. Ok (Some amount)) >>= λ full. Ok (unless_nothing ops full))
  past_of None = refl
  past_of (Some amount) = refl

  -- the shift of a client that adjusts, or does not
  abbrev shift_if : (clients : List (PlainClient T)) (t : T) → Bool → Result (Option T) Refusal
  shift_if clients t adjusted = (if adjusted then shift_from ops t (best_of_all ops by_weight is_any clients) else Ok None) >>= λ full. Ok (unless_nothing ops full)

  pub shift_idle : (shares : Shares) (clients : List (PlainClient T)) (arriving : PlainClient T) (t : T) (found : Found T) → adjusts shares ≡ true → arriving.idle ≡ true → best_of_all ops by_weight is_any clients ≡ Some found → shift_past found.request.tags.p t ≡ needed_shift ops shares clients arriving t
  shift_idle shares clients arriving t found adjusted idle b =
      past_of (ops.minus found.request.tags.p t)
      ∙ ap (λ o. shift_from ops t o >>= λ full. Ok (unless_nothing ops full)) (sym b)
      ∙ ap (shift_if clients t) (sym (ap (λ a. a && arriving.idle) adjusted ∙ idle))

  -- a client that is not idle shifts no other
  pub shift_busy : (shares : Shares) (clients : List (PlainClient T)) (arriving : PlainClient T) (t : T) → arriving.idle ≡ false → Ok None ≡ needed_shift ops shares clients arriving t
  shift_busy shares clients arriving t busy = at (adjusts shares) ∙ ap (λ i. shift_if clients t (adjusts shares && i)) (sym busy) where
    at : (a : Bool) → Ok None ≡ shift_if clients t (a && false)
    at true = refl
    at false = refl

  -- in virtual time there is no shift
  pub shift_virtual : (shares : Shares) (clients : List (PlainClient T)) (arriving : PlainClient T) (t : T) → adjusts shares ≡ false → Ok None ≡ needed_shift ops shares clients arriving t
  shift_virtual shares clients arriving t unadjusted = ap (λ a. shift_if clients t (a && arriving.idle)) (sym unadjusted)

  pub shift_empty : (shares : Shares) (clients : List (PlainClient T)) (arriving : PlainClient T) (t : T) → queued_requests clients ≡ [] → Ok None ≡ needed_shift ops shares clients arriving t
  shift_empty shares clients arriving t e =
      let none = none_of_all ops by_weight is_any clients (subst (HasNone is_any) (sym e) tt) in
      at (adjusts shares && arriving.idle) ∙ ap (λ o. (if adjusts shares && arriving.idle then shift_from ops t o else Ok None) >>= λ full. Ok (unless_nothing ops full)) (sym none) where
        at : (i : Bool) → Ok None ≡ ((if i then shift_from ops t None else Ok None) >>= λ full. Ok (unless_nothing ops full))
        at true = refl
        at false = refl

  -- others are shifted for an idle client alone
  pub idle_where_shifted : (shares : Shares) (clients : List (PlainClient T)) (arriving : PlainClient T) (t : T) (shift : Option T) → Ok shift ≡ needed_shift ops shares clients arriving t → IsSome shift → arriving.idle ≡ true
  idle_where_shifted shares clients arriving t None e some = cc (some)
  idle_where_shifted shares clients arriving t (Some amount) e some = at (adjusts shares) arriving.idle refl e where
    at : (a i : Bool) → arriving.idle ≡ i → Ok (Some amount) ≡ shift_if clients t (a && i) → arriving.idle ≡ true
    at true true f e = f
    at true false f e = cc
    at false i f e = cc

  module _ (order : IsTotalOrder ops.compare) (same : (a b : T) → ops.compare a b ≡ Equal → a ≡ b)
      (t0 : ℕ) (es : List (Entry T)) (heads : List (Option (Head T))) (are : AreHeads ops t0 es heads) (d : AreDistinct es) (records : AllByRecursion (λ e. IsRecord ops e.rec) es) where
    -- the least P of the heads is what the shift is reckoned from
    pub shift_by_least : (least : T) → IsLeastShare ops heads least → (shares : Shares) (arriving : PlainClient T) (t : T) → adjusts shares ≡ true → arriving.idle ≡ true → shift_past least t ≡ needed_shift ops shares (clients_in es) arriving t
    shift_by_least least is shares arriving t adjusted idle = at (best_of_all ops by_weight is_any (clients_in es)) refl (best_share ops order same t0 es heads are d records least is) where
      at : (o : Option (Found T)) → best_of_all ops by_weight is_any (clients_in es) ≡ o → MatchOption o ⊥ (λ found. found.request.tags.p ≡ least) → shift_past least t ≡ needed_shift ops shares (clients_in es) arriving t
      at None b never = absurd never
      at (Some found) b share = ap (λ p. shift_past p t) (sym share) ∙ shift_idle shares (clients_in es) arriving t found adjusted idle b

  -- ---- the tests

  module _ (s : State T) (id : ClientId) (params : Params) (t : T) where
    -- what is left of them, with a client, and with a shift
    abbrev with_shift : PlainClient T → Option T → Result (Addition T) Refusal
    with_shift client shift = refuse_if (not (can_shift_by ops shift s.clients)) Range >>= λ _. (assigned ops s.config.hz client params t (share_floor ops s t) >>= λ tags. Ok (addition_with ops shift client.previous t (share_floor ops s t) tags))

    abbrev with_client : PlainClient T → Result (Addition T) Refusal
    with_client client = refuse_if (nat_le max_requests (length (queued_requests s.clients))) QueueFull >>= λ _. (shift_of ops s.config.shares s.clients client t >>= with_shift client)

    pub unknown : client_named id s.clients ≡ None → add_tags ops s id params t ≡ Err Unknown
    unknown e = ap (λ o. ok_or o Unknown >>= with_client) e

    module _ (client : PlainClient T) (named : client_named id s.clients ≡ Some client) where
      known : add_tags ops s id params t ≡ with_client client
      known = ap (λ o. ok_or o Unknown >>= with_client) named

      pub full : nat_le max_requests (length (queued_requests s.clients)) ≡ true → add_tags ops s id params t ≡ Err QueueFull
      full e = known ∙ ap (λ b. refuse_if b QueueFull >>= λ _. (shift_of ops s.config.shares s.clients client t >>= with_shift client)) e

      module _ (room : nat_le max_requests (length (queued_requests s.clients)) ≡ false) where
        roomy : add_tags ops s id params t ≡ (shift_of ops s.config.shares s.clients client t >>= with_shift client)
        roomy = known ∙ ap (λ b. refuse_if b QueueFull >>= λ _. (shift_of ops s.config.shares s.clients client t >>= with_shift client)) room

        -- the shift is refused
        pub no_shift : (refusal : Refusal) → Err refusal ≡ needed_shift ops s.config.shares s.clients client t → add_tags ops s id params t ≡ Err refusal
        no_shift refusal e = roomy ∙ at (shift_of ops s.config.shares s.clients client t) e where
          at : (o : Result (Option T) Refusal) → Err refusal ≡ (o >>= λ amount. Ok (unless_nothing ops amount)) → (o >>= with_shift client) ≡ Err refusal
          at (Ok amount) e = cc
          at (Err other) e = let one : refusal ≡ other = cc (e) in ap Err (sym one)

        -- the shift that is not left out if it is nothing
        pub record Whole (shift : Option T) : Type 0 where
          pub amount : Option T
          pub is : shift_of ops s.config.shares s.clients client t ≡ Ok amount
          pub left : shift ≡ unless_nothing ops amount

        pub whole : (shift : Option T) → Ok shift ≡ needed_shift ops s.config.shares s.clients client t → Whole shift
        whole shift e = at (shift_of ops s.config.shares s.clients client t) refl e where
          at : (o : Result (Option T) Refusal) → shift_of ops s.config.shares s.clients client t ≡ o → Ok shift ≡ (o >>= λ amount. Ok (unless_nothing ops amount)) → Whole shift
          at (Ok amount) f e = record { amount = amount; is = f; left = cc (e) }
          at (Err other) f e = cc

        module _ (amount : Option T) (is : shift_of ops s.config.shares s.clients client t ≡ Ok amount) where
          shifts : add_tags ops s id params t ≡ with_shift client amount
          shifts = roomy ∙ ap (λ o. o >>= with_shift client) is

          pub out_of_range : can_shift_by ops amount s.clients ≡ false → add_tags ops s id params t ≡ Err Range
          out_of_range e = shifts ∙ ap (λ b. refuse_if (not b) Range >>= λ _. (assigned ops s.config.hz client params t (share_floor ops s t) >>= λ tags. Ok (addition_with ops amount client.previous t (share_floor ops s t) tags))) e

          module _ (can : can_shift_by ops amount s.clients ≡ true) where
            assigns : add_tags ops s id params t ≡ (assigned ops s.config.hz client params t (share_floor ops s t) >>= λ tags. Ok (addition_with ops amount client.previous t (share_floor ops s t) tags))
            assigns = shifts ∙ ap (λ b. refuse_if (not b) Range >>= λ _. (assigned ops s.config.hz client params t (share_floor ops s t) >>= λ tags. Ok (addition_with ops amount client.previous t (share_floor ops s t) tags))) can

            pub no_tags : in_range None ≡ assigned ops s.config.hz client params t (share_floor ops s t) → add_tags ops s id params t ≡ Err Range
            no_tags e = assigns ∙ ap (λ o. o >>= λ tags. Ok (addition_with ops amount client.previous t (share_floor ops s t) tags)) (sym e)

            pub allowed : (tags : Tags T) → in_range (Some tags) ≡ assigned ops s.config.hz client params t (share_floor ops s t) → add_tags ops s id params t ≡ Ok (addition_with ops amount client.previous t (share_floor ops s t) tags)
            allowed tags e = assigns ∙ ap (λ o. o >>= λ tags. Ok (addition_with ops amount client.previous t (share_floor ops s t) tags)) (sym e)
