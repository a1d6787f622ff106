-- What is granted is the best of its set.
use Rattle.std.proofs.Common.{◌≡◌, ℕ, Bool, true, false, not, List, [], ◌∷◌, Option, Some, None, Result, Ok, Err, refl, sym, ◌∙◌, subst}
use Rattle.std.specs.Prelude.{⊤}
use Rattle.std.specs.Cmp.{IsTotalOrder}
use Rattle.dmc_types.specs.declared.config.AtLimit.{AtLimit}
use Rattle.dmc_types.specs.declared.config.AtLimit.TheVariants.{Wait, Allow, Reject}
use Rattle.dmc_types.specs.declared.config.PhaseType.TheVariants as phases
use Rattle.dmc_types.specs.declared.refusal.Refusal.{Refusal}
use Rattle.dmc_types.specs.declared.refusal.Refusal.TheVariants.{Range}
use Rattle.dmc_tag.specs.Tag.{Tagging, Fraction, IsExact}
use Rattle.dmc_tag.specs.Outcome.{◌>>=◌, refuse_if, in_range}
use Rattle.dmc_tag.specs.State.{State, queued_requests}
use Rattle.dmc_tag.specs.Best.{Found, best_of_all, by_reservation, by_weight, is_early, is_free, is_any, IsBestOfAll, HasNone}
use Rattle.dmc_tag.specs.Rules as rules_of
use Rattle.dmc_tag.specs.Rules.{Outcome}
use Rattle.dmc_tag.specs.Step.{answer_of}
use Rattle.dmc_tag.specs.Laws.{Grants, Pulls, IsNextDue}
use Rattle.dmc_tag.specs.declared.plain.QueuedRequest.{QueuedRequest}
use Rattle.dmc_tag.specs.declared.reply.Reply.{Reply}
use Rattle.dmc_tag.specs.declared.reply.Reply.TheVariants.{Later}
use Rattle.dmc_tag.proofs.BestOfAll.{found_is}
use Rattle.dmc_tag.proofs.Scans.{not_found_has_none}
use Rattle.dmc_tag.proofs.FutureLaw.{next_due}
use Rattle.dmc_tag.proofs.TagOrder.{bound}

-- a value, or a refusal Range
abbrev OnlyRange : {X : Type 0} → Result X Refusal → Type 0
OnlyRange (Ok x) = ⊤
OnlyRange (Err e) = e ≡ Range

range_bind : {X Y : Type 0} (r : Result X Refusal) (f : X → Result Y Refusal) → OnlyRange r → ((x : X) → OnlyRange (f x)) → OnlyRange (r >>= f)
range_bind (Ok x) f h k = k x
range_bind (Err e) f h k = h

range_of : {X : Type 0} (o : Option X) → OnlyRange (in_range o)
range_of None = refl
range_of (Some x) = tt

range_if : {X : Type 0} (b : Bool) (x : X) → OnlyRange (refuse_if b Range >>= (λ _. Ok x))
range_if true x = refl
range_if false x = tt

module _ {T : Type 0} (ops : Tagging T) (fraction : T → Fraction) (is_value : Fraction → Type 0) (exact : IsExact ops fraction is_value) (o : IsTotalOrder ops.compare) where
  range_at : (hz : ℕ) (rate : Option ℕ) (cost : ℕ) → OnlyRange (rules_of.reduction_at ops hz rate cost)
  range_at hz None cost = tt
  range_at hz (Some rate) cost = range_bind (in_range (ops.spacing hz rate)) _ (range_of (ops.spacing hz rate)) (λ spacing. range_bind (in_range (ops.steps spacing cost)) _ (range_of (ops.steps spacing cost)) (λ _. tt))

  can_grant_range : (hz : ℕ) (found : Found T) → OnlyRange (rules_of.can_grant ops hz found)
  can_grant_range hz found = range_bind (rules_of.reduction_at ops hz found.client.info.reservation found.request.cost) _ (range_at hz _ _) (λ amount. range_if (not (rules_of.can_reduce_by ops amount (rules_of.with_requests found.others found.client))) amount)

  -- the state and the reply of an outcome are those of a pull
  abbrev Says : ℕ → State T → Outcome T → Type 0
  Says t s result = Pulls ops t s ((answer_of s result).0) ((answer_of s result).1)

  -- nothing is early, and nothing is free
  abbrev NoneEarly : ℕ → State T → Type 0
  NoneEarly t s = HasNone (is_early ops t) (queued_requests s.clients)

  abbrev NoneFree : ℕ → State T → Type 0
  NoneFree t s = HasNone (is_free ops t) (queued_requests s.clients)

  -- the amount that is taken off is that of the rule
  reduction_given : (hz : ℕ) (found : Found T) (amount : Option T) → rules_of.can_grant ops hz found ≡ Ok amount → rules_of.reduction_at ops hz found.client.info.reservation found.request.cost ≡ Ok amount
  reduction_given hz found amount e =
      let taken = bound (rules_of.reduction_at ops hz found.client.info.reservation found.request.cost) _ amount e in
      let tested = bound (refuse_if (not (rules_of.can_reduce_by ops taken.0 (rules_of.with_requests found.others found.client))) Range) _ amount taken.2 in
      taken.1 ∙ tested.2

  priority_says : (t : ℕ) (s : State T) (found : Found T) (beyond : Bool) (member : QueuedRequest T → Bool) → IsBestOfAll ops by_weight member s.clients found → ((new : State T) → Grants ops t phases.Priority by_weight member s new found.client.id found.request.token found.request.cost → Pulls ops t s new (rules_of.granted found phases.Priority beyond)) → (given : Result (Option T) Refusal) → rules_of.can_grant ops s.config.hz found ≡ given → OnlyRange given → Says t s (given >>= (λ amount. Ok (rules_of.taken_out ops s t found phases.Priority amount, rules_of.granted found phases.Priority beyond)))
  priority_says t s found beyond member is says (Ok amount) e h =
      says _ (record {
        found = found;
        reduction = amount;
        best = is;
        client_is = refl;
        token_is = refl;
        cost_is = refl;
        reduction_is = reduction_given s.config.hz found amount e;
        state_is = refl;
      })
  priority_says t s found beyond member is says (Err f) e h = (h, refl)

  any_found : (t : ℕ) (s : State T) (x : QueuedRequest T) (xs : List (QueuedRequest T)) → queued_requests s.clients ≡ x ∷ xs → NoneEarly t s → NoneFree t s → s.config.at_limit ≡ Allow → (b : Option (Found T)) → best_of_all ops by_weight is_any s.clients ≡ b → Says t s (rules_of.grant_found ops s t true b)
  any_found t s x xs e early free allow None q = let none = subst (HasNone is_any) e (not_found_has_none ops by_weight is_any s.clients q) in let first = none.0 in cc
  any_found t s x xs e early free allow (Some found) q =
      priority_says t s found true is_any (found_is ops o by_weight is_any s.clients found q) (λ new g. (early, free, allow, g)) _ refl (can_grant_range s.config.hz found)

  at_limit_says : (t : ℕ) (s : State T) (x : QueuedRequest T) (xs : List (QueuedRequest T)) → queued_requests s.clients ≡ x ∷ xs → NoneEarly t s → NoneFree t s → (mode : AtLimit) → s.config.at_limit ≡ mode → Says t s (rules_of.at_limit ops s t mode x xs)
  at_limit_says t s x xs e early free Wait m = (early, free, (λ allow. cc), subst (λ zs. IsNextDue ops (rules_of.least_due ops x xs) zs) (sym e) (next_due ops fraction is_value exact x xs), refl)
  at_limit_says t s x xs e early free (Reject threshold) m = (early, free, (λ allow. cc), subst (λ zs. IsNextDue ops (rules_of.least_due ops x xs) zs) (sym e) (next_due ops fraction is_value exact x xs), refl)
  at_limit_says t s x xs e early free Allow m = any_found t s x xs e early free m _ refl

  nothing_says : (t : ℕ) (s : State T) (xs : List (QueuedRequest T)) → queued_requests s.clients ≡ xs → NoneEarly t s → NoneFree t s → Says t s (rules_of.nothing_due ops s t xs)
  nothing_says t s [] e early free = (e, refl)
  nothing_says t s (x ∷ xs) e early free = at_limit_says t s x xs e early free s.config.at_limit refl

  free_says : (t : ℕ) (s : State T) → NoneEarly t s → (b : Option (Found T)) → best_of_all ops by_weight (is_free ops t) s.clients ≡ b → Says t s (rules_of.pulled_free ops s t b)
  free_says t s early None q = nothing_says t s (queued_requests s.clients) refl early (not_found_has_none ops by_weight (is_free ops t) s.clients q)
  free_says t s early (Some found) q = priority_says t s found false (is_free ops t) (found_is ops o by_weight (is_free ops t) s.clients found q) (λ new g. (early, g)) _ refl (can_grant_range s.config.hz found)

  early_says : (t : ℕ) (s : State T) → (b : Option (Found T)) → best_of_all ops by_reservation (is_early ops t) s.clients ≡ b → Says t s (rules_of.pulled_early ops s t b)
  early_says t s None q = free_says t s (not_found_has_none ops by_reservation (is_early ops t) s.clients q) _ refl
  early_says t s (Some found) q = (
    refl,
    record {
      found = found;
      reduction = None;
      best = found_is ops o by_reservation (is_early ops t) s.clients found q;
      client_is = refl;
      token_is = refl;
      cost_is = refl;
      reduction_is = refl;
      state_is = refl;
    },
  )

  pub pull_says : (t : ℕ) (s : State T) → Says t s (rules_of.pulled ops s t)
  pull_says t s = early_says t s _ refl

  later_says : (t m : ℕ) (s new : State T) (reply : Reply T) → reply ≡ Later m → Pulls ops t s new reply → IsNextDue ops m (queued_requests s.clients)
  later_says t m s new reply e says = let p = subst (Pulls ops t s new) e says in p.3

  pub future_says : (t m : ℕ) (s : State T) → (answer_of s (rules_of.pulled ops s t)).1 ≡ Later m → IsNextDue ops m (queued_requests s.clients)
  future_says t m s e = later_says t m s _ _ e (pull_says t s)
