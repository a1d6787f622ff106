-- A cancel: each request is changed, and then those with the token are removed.
use Rattle.std.proofs.Common.{◌≡◌, ℕ, zero, suc, ◌+◌, ◌-◌, ◌==◌, ◌<◌, ◌≤◌, Bool, true, false, not, ◌||◌, cond, List, [], ◌∷◌, ◌++◌, Option, length, take, drop, set, get_or, refl, sym, ap, ◌∙◌, arith, add-one, drop-cons, append-nil, append_assoc}
use Rattle.std.specs.Prelude.{filter}
use Rattle.std.specs.Result.{result_ok}
use Rattle.std.proofs.lemmas.List.{take_all, drop_all, drop-set-lt, take_more_set}
use Rattle.dmc_types.specs.declared.config.Counting.{Counting}
use Rattle.dmc_types.specs.declared.ids.Token.{Token}
use Rattle.dmc_tag.specs.Cancel.{has_token, charges_of, no_befores, staying, befores_next, befores_after, fallen_request, fallen_previous, last_has_token, without_token, charged_to}
use Rattle.dmc_tag.specs.Spacing.{spacings_of}
use Rattle.dmc_tag.specs.State.{PlainClient}
use Rattle.dmc_tag.specs.Tag.{Tagging}
use Rattle.dmc_tag.specs.declared.cancel.Befores.{Befores}
use Rattle.dmc_tag.specs.declared.plain.Previous.{Previous}
use Rattle.dmc_tag.specs.declared.plain.QueuedRequest.{QueuedRequest}
use Rattle.dmc_tag.specs.declared.plain.Slack.{Slack}
use Rattle.dmc_tag.specs.declared.spacing.Spacings.{Spacings}
use Rattle.dmc_plain.specs.internal.Passed.{passed}

module _ {T : Type 0} (ops : Tagging T) (token : Token) (charged : ℕ → Slack T) where
  -- without those with the token, the changed requests are those that stay
  pub stay : (befores : Befores T) (rs : List (QueuedRequest T)) → filter (λ r. not (has_token token r)) (passed ops token charged befores rs) ≡ staying ops token charged befores rs
  stay befores [] = refl
  stay befores (r ∷ rs) = at (has_token token r) (stay (befores_next ops (has_token token r) (charged r.cost) befores r) rs) where
    others : List (QueuedRequest T)
    others = filter (λ r. not (has_token token r)) (passed ops token charged (befores_next ops (has_token token r) (charged r.cost) befores r) rs)

    stayed : List (QueuedRequest T)
    stayed = staying ops token charged (befores_next ops (has_token token r) (charged r.cost) befores r) rs

    at : (b : Bool) → others ≡ stayed → cond (not b) (fallen_request ops befores r ∷ others) others ≡ cond b stayed (fallen_request ops befores r ∷ stayed)
    at true e = e
    at false e = ap (λ rs. fallen_request ops befores r ∷ rs) e

  -- no more stay than there were
  pub stay_count : (befores : Befores T) (rs : List (QueuedRequest T)) → length (staying ops token charged befores rs) ≤ length rs
  stay_count befores [] = omega arith
  stay_count befores (r ∷ rs) = at (has_token token r) (stay_count (befores_next ops (has_token token r) (charged r.cost) befores r) rs) where
    others : List (QueuedRequest T)
    others = staying ops token charged (befores_next ops (has_token token r) (charged r.cost) befores r) rs

    at : (b : Bool) → length others ≤ length rs → length (cond b others (fallen_request ops befores r ∷ others)) ≤ length (r ∷ rs)
    at true fewer = omega (arith, fewer)
    at false fewer = omega (arith, fewer)

  -- ---- request after request, in place

  module _ (before next : Befores T) (rs : List (QueuedRequest T)) (i : ℕ) (r now : QueuedRequest T) (within : i < length rs) (is : r ≡ get_or rs i r)
      (now_is : now ≡ fallen_request ops before r) (next_is : next ≡ befores_next ops (has_token token r) (charged r.cost) before r) where
    here : drop i rs ≡ r ∷ drop (i + 1) rs
    here = drop-cons rs i r within ∙ ap (λ x. x ∷ drop (suc i) rs) (sym is) ∙ ap (λ n. r ∷ drop n rs) (sym (add-one i))

    rest : drop (i + 1) (set rs i now) ≡ drop (i + 1) rs
    rest = drop-set-lt (i + 1) rs i now (omega arith)

    pub pass_more : take i rs ++ passed ops token charged before (drop i rs) ≡ take (i + 1) (set rs i now) ++ passed ops token charged next (drop (i + 1) (set rs i now))
    pass_more =
        ap (λ xs. take i rs ++ passed ops token charged before xs) here
        ∙ ap (λ x. take i rs ++ x ∷ passed ops token charged (befores_next ops (has_token token r) (charged r.cost) before r) (drop (i + 1) rs)) (sym now_is)
        ∙ ap (λ b. take i rs ++ now ∷ passed ops token charged b (drop (i + 1) rs)) (sym next_is)
        ∙ sym (append_assoc (take i rs) (now ∷ []) (passed ops token charged next (drop (i + 1) rs)))
        ∙ ap (λ xs. xs ++ passed ops token charged next (drop (i + 1) rs)) (sym (take_more_set rs i now within))
        ∙ ap (λ xs. take (i + 1) (set rs i now) ++ passed ops token charged next xs) (sym rest)

    pub after_more : befores_after ops token charged before (drop i rs) ≡ befores_after ops token charged next (drop (i + 1) (set rs i now))
    after_more =
        ap (befores_after ops token charged before) here
        ∙ ap (λ b. befores_after ops token charged b (drop (i + 1) rs)) (sym next_is)
        ∙ ap (befores_after ops token charged next) (sym rest)

  -- past all requests
  module _ (before : Befores T) (rs : List (QueuedRequest T)) (i : ℕ) (past : length rs ≤ i) where
    pub pass_end : take i rs ++ passed ops token charged before (drop i rs) ≡ rs
    pass_end = ap (λ xs. take i rs ++ passed ops token charged before xs) (drop_all i rs past) ∙ append-nil (take i rs) ∙ take_all i rs past

    pub after_end : befores_after ops token charged before (drop i rs) ≡ before
    after_end = ap (befores_after ops token charged before) (drop_all i rs past)

-- ---- a client, of its parts

pub without_parts : {T : Type 0} (ops : Tagging T) (token : Token) (hz : ℕ) (counting : Counting) (now old : PlainClient T) → now ≡ old →
    (cancelled : Bool) → cancelled ≡ (old.previous.cancelled || last_has_token token old.requests) → (spacings : Option (Spacings T)) → spacings ≡ result_ok (spacings_of ops hz now.info) →
    (befores : Befores T) (stays : List (QueuedRequest T)) → befores ≡ befores_after ops token (charges_of ops counting spacings) no_befores now.requests →
    stays ≡ staying ops token (charges_of ops counting spacings) no_befores now.requests → (previous : Previous T) → previous ≡ fallen_previous ops befores cancelled now.previous →
    record now { previous = previous; requests = stays } ≡ without_token ops token (charged_to ops hz counting old) old
without_parts ops token hz counting now old view cancelled cs spacings ss befores stays bs ks previous ps = rw (ps, ks, bs, ss, view, cs) refl

-- ---- the last request

-- the last request is that at the last index
last_at : {T : Type 0} (token : Token) (rs : List (QueuedRequest T)) (i : ℕ) (r : QueuedRequest T) → i + 1 ≡ length rs → r ≡ get_or rs i r → last_has_token token rs ≡ has_token token r
last_at token [] i r last is = absurd (omega (arith, last))
last_at token (x ∷ []) zero r last is = sym (ap (has_token token) is)
last_at token (x ∷ []) (suc i) r last is = absurd (omega (arith, last))
last_at token (x ∷ y ∷ rs) zero r last is = absurd (omega (arith, last))
last_at token (x ∷ y ∷ rs) (suc i) r last is = last_at token (y ∷ rs) i r (omega (arith, last)) is

pub last_read : {T : Type 0} (token : Token) (rs : List (QueuedRequest T)) (r : QueuedRequest T) → (length rs == 0) ≡ false → r ≡ get_or rs (length rs - 1) r → last_has_token token rs ≡ has_token token r
last_read token [] r some is = cc
last_read token (x ∷ rs) r some is = last_at token (x ∷ rs) (length (x ∷ rs) - 1) r (omega arith) is
