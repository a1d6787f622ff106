-- Ids that are equal, tests, and the result of a chain of results.
use Rattle.std.proofs.Common.{◌≡◌, ℕ, Bool, true, false, not, ◌||◌, length, Some, Result, Ok, Err, refl, sym, ap, ◌∙◌, subst}
use Rattle.std.specs.List.{find}
use Rattle.std.specs.Result.{result_ok}
use Rattle.std.proofs.lemmas.Bool.{eqb-true, eq-eqb, not-false}
use Rattle.std.specs.Prelude.{List, ◌==◌, ⊤, nat_le}
use Rattle.std.specs.Option.{ok_or}
use Rattle.dmc_types.specs.Limits.{max_requests}
use Rattle.dmc_types.specs.declared.ids.ClientId.{ClientId}
use Rattle.dmc_types.specs.Values.{Params}
use Rattle.dmc_types.specs.declared.refusal.Refusal.{Refusal}
use Rattle.dmc_types.specs.declared.refusal.Refusal.TheVariants.{Unknown, QueueFull, Range}
use Rattle.dmc_tag.specs.Tag.{Tagging}
use Rattle.dmc_tag.specs.Outcome.{◌>>=◌, refuse_if}
use Rattle.dmc_tag.specs.State.{State, PlainClient, is_client, client_named, queued_requests}
use Rattle.dmc_tag.specs.Rules.{Outcome, Addition, share_floor, shift_of, can_shift_by, assigned, slack_of, addition_with, add_tags, can_add, is_over_limit}
use Rattle.dmc_tag.proofs.TagOrder.{bound, from_option}
use Rattle.dmc_tag.proofs.Limited.{was_tagged}
use Rattle.dmc_tag.proofs.Ids.{client_turned}

-- ---- ids

pub same_id : (a b c : ClientId) → is_client a b ≡ true → is_client c b ≡ true → is_client a c ≡ true
same_id a b c p q =
    let x : b.0 ≡ a.0 = eqb-true b.0 a.0 p in
    let y : b.0 ≡ c.0 = eqb-true b.0 c.0 q in
    eq-eqb c.0 a.0 (sym y ∙ x)

pub same_too : (a b c : ClientId) → is_client a b ≡ true → is_client b c ≡ true → is_client a c ≡ true
same_too a b c p q = same_id a b c p (client_turned c b true q)

pub both_id : (a b c : ClientId) → is_client a b ≡ true → is_client a c ≡ true → is_client b c ≡ true
both_id a b c p q = same_too b a c (client_turned b a true p) q

pub named_same : {T : Type 0} (a b : ClientId) (clients : List (PlainClient T)) → is_client a b ≡ true → client_named a clients ≡ client_named b clients
named_same {T} a b clients e = let x : a.0 ≡ b.0 = sym (eqb-true b.0 a.0 e) in ap (λ n. find (λ (c : PlainClient T). c.id.0 == n) clients) x

-- ---- tests

pub or_second : (b c : Bool) → b ≡ true → (not b || c) ≡ true → c ≡ true
or_second true c e h = h
or_second false c e h = cc

-- ---- results

pub allowed : (b : Bool) (refusal : Refusal) (u : ⊤) → refuse_if b refusal ≡ Ok u → b ≡ false
allowed true refusal u e = cc
allowed false refusal u e = refl

pub from_ok : {A E : Type 0} (r : Result A E) (x : A) → result_ok r ≡ Some x → r ≡ Ok x
from_ok (Ok y) x e = ap Ok (cc (e))
from_ok (Err f) x e = cc

-- what holds of each refusal, and of all that comes after a test, holds of both in turn
pub bind_goes : {T X : Type 0} (P : Outcome T → Type 0) (r : Result X Refusal) (f : X → Outcome T) → ((e : Refusal) → P (Err e)) → ((x : X) → r ≡ Ok x → P (f x)) → P (r >>= f)
bind_goes P (Ok x) f h k = k x refl
bind_goes P (Err e) f h k = h e

-- ---- what an accepted add found

-- the client, the shift, the tags and the slack
record TagsGive {T : Type 0} (ops : Tagging T) (s : State T) (id : ClientId) (params : Params) (t : T) (x : Addition T) : Type 0 where
  pub client : PlainClient T
  pub named : client_named id s.clients ≡ Some client
  pub shift : shift_of ops s.config.shares s.clients client t ≡ Ok x.shift
  pub can : can_shift_by ops x.shift s.clients ≡ true
  pub tags : assigned ops s.config.hz client params t (share_floor ops s t) ≡ Ok x.tags
  pub slack : slack_of ops client.previous x.tags t (share_floor ops s t) ≡ x.slack

tags_give : {T : Type 0} (ops : Tagging T) (s : State T) (id : ClientId) (params : Params) (t : T) (x : Addition T) → add_tags ops s id params t ≡ Ok x → TagsGive ops s id params t x
tags_give ops s id params t x e =
    let c = bound (ok_or (client_named id s.clients) Unknown) _ x e in
    let full = bound (refuse_if (nat_le max_requests (length (queued_requests s.clients))) QueueFull) _ x c.2 in
    let shift = bound (shift_of ops s.config.shares s.clients c.0 t) _ x full.2 in
    let range = bound (refuse_if (not (can_shift_by ops shift.0 s.clients)) Range) _ x shift.2 in
    let tags = bound (assigned ops s.config.hz c.0 params t (share_floor ops s t)) _ x range.2 in
    let is : addition_with ops shift.0 c.0.previous t (share_floor ops s t) tags.0 ≡ x = cc (tags.2) in
    let shift_is : shift.0 ≡ x.shift = ap (λ (a : Addition _). a.shift) is in
    let tags_are : tags.0 ≡ x.tags = ap (λ (a : Addition _). a.tags) is in
    record {
      client = c.0;
      named = from_option _ _ _ c.1;
      shift = shift.1 ∙ ap Ok shift_is;
      can = subst (λ o. can_shift_by ops o s.clients ≡ true) shift_is (not-false _ (allowed _ Range range.0 range.1));
      tags = tags.1 ∙ ap Ok tags_are;
      slack = ap (λ tags. slack_of ops c.0.previous tags t (share_floor ops s t)) (sym tags_are) ∙ ap (λ (a : Addition _). a.slack) is;
    }

pub record AddGives {T : Type 0} (ops : Tagging T) (s : State T) (id : ClientId) (params : Params) (at : ℕ) (x : Addition T) : Type 0 where
  pub client : PlainClient T
  pub named : client_named id s.clients ≡ Some client
  pub shift : shift_of ops s.config.shares s.clients client (ops.of_moment at) ≡ Ok x.shift
  pub can : can_shift_by ops x.shift s.clients ≡ true
  pub tags : assigned ops s.config.hz client params (ops.of_moment at) (share_floor ops s (ops.of_moment at)) ≡ Ok x.tags
  pub slack : slack_of ops client.previous x.tags (ops.of_moment at) (share_floor ops s (ops.of_moment at)) ≡ x.slack
  pub within : is_over_limit ops s.config.at_limit at x.tags.l ≡ false

pub add_gives : {T : Type 0} (ops : Tagging T) (s : State T) (id : ClientId) (params : Params) (at : ℕ) (x : Addition T) → can_add ops s id params at ≡ Ok x → AddGives ops s id params at x
add_gives ops s id params at x may =
    let was = was_tagged ops s id params at x may in
    let gives = tags_give ops s id params (ops.of_moment at) x was.0 in
    record { client = gives.client; named = gives.named; shift = gives.shift; can = gives.can; tags = gives.tags; slack = gives.slack; within = was.1 }
