-- Requests that stay as they are while others are taken back.
use Rattle.std.proofs.Common.{◌≡◌, ℕ, ◌+◌, ◌-◌, ◌<◌, ◌≤◌, length, take, get_or, arith, Bool, true, false, not, ◌&&◌, List, [], ◌∷◌, ◌++◌, Option, Some, None, refl, sym, ap, ◌∙◌}
use Rattle.std.specs.Prelude.{is_some, if◌then◌else◌}
use Rattle.std.specs.Cmp.{IsTotalOrder}
use Rattle.std.specs.Option.{option_map, option_map_or}
use Rattle.std.specs.Ordering.{is_eq}
use Rattle.std.specs.declared.cmp.Ordering.{Ordering}
use Rattle.std.specs.declared.cmp.Ordering.TheVariants.{Less, Equal, Greater}
use Rattle.std.proofs.lemmas.Bool.{and_parts}
use Rattle.std.proofs.lemmas.Cmp.{tied_itself}
use Rattle.std.proofs.lemmas.List.{take_more}
use Rattle.dmc_tag.specs.Cancel.{befores_next, before_next, fallen, fallen_request, level, level_after}
use Rattle.dmc_tag.specs.Order.{AtMost}
use Rattle.dmc_tag.specs.Tag.{Fraction, Tagging, IsExact}
use Rattle.dmc_tag.specs.declared.cancel.Before.{Before}
use Rattle.dmc_tag.specs.declared.cancel.Befores.{Befores}
use Rattle.dmc_tag.specs.declared.cancel.Level.{Level}
use Rattle.dmc_tag.specs.declared.plain.QueuedRequest.{QueuedRequest}
use Rattle.dmc_tag.specs.declared.plain.Slack.{Slack}
use Rattle.dmc_tag.proofs.Unfallen.{IsUnfallen, unfallen_behind}
use Rattle.dmc_client.specs.internal.Passed.{IsOfRecord, leaves_tag, leaves_next, unfallen, unchanged, last_unchanged, noted}

module _ {T : Type 0} where
  -- the last of some requests is the one behind the others
  pub last_is : (befores : Befores T) (rs : List (QueuedRequest T)) (r : QueuedRequest T) → last_unchanged befores (rs ++ r ∷ []) ≡ unchanged r
  last_is befores [] r = refl
  last_is befores (q ∷ []) r = refl
  last_is befores (q ∷ s ∷ rs) r = last_is befores (s ∷ rs) r

  pub last_read : (befores : Befores T) (rs : List (QueuedRequest T)) (i : ℕ) (r : QueuedRequest T) → 0 < i → i ≤ length rs → r ≡ get_or rs (i - 1) r → unchanged r ≡ last_unchanged befores (take i rs)
  last_read befores rs i r some within read =
      let before : i - 1 + 1 ≡ i = omega arith in
      let parts : take (i - 1 + 1) rs ≡ take (i - 1) rs ++ r ∷ [] = take_more rs (i - 1) r (omega arith) ∙ ap (λ x. take (i - 1) rs ++ x ∷ []) (sym read) in
      sym (ap (λ n. last_unchanged befores (take n rs)) (sym before) ∙ ap (last_unchanged befores) parts ∙ last_is befores (take (i - 1) rs) r)

module _ {T : Type 0} (ops : Tagging T) (fraction : T → Fraction) (is_value : Fraction → Type 0) (exact : IsExact ops fraction is_value) (order : IsTotalOrder ops.compare) where
  -- ---- what the test says

  tag_left : (before : Option (Before T)) → leaves_tag ops before ≡ true → IsUnfallen before
  tag_left None e = tt
  tag_left (Some before) e = at before.cancelled (ops.compare before.was before.level.tag) refl refl e where
    at : (c : Bool) (o : Ordering) → before.cancelled ≡ c → ops.compare before.was before.level.tag ≡ o → (not c && is_eq o) ≡ true → IsUnfallen (Some before)
    at false Equal p q h = (exact.same before.was before.level.tag q, p)
    at false Less p q h = cc
    at false Greater p q h = cc
    at true o p q h = cc

  pub record Leaves (befores : Befores T) : Type 0 where
    pub r : IsUnfallen befores.r
    pub l : IsUnfallen befores.l
    pub p : IsUnfallen befores.p

  pub all_left : (befores : Befores T) → leaves_next ops befores ≡ true → Leaves befores
  all_left befores e =
      let first = and_parts (leaves_tag ops befores.r) (leaves_tag ops befores.l && leaves_tag ops befores.p) e in
      let rest = and_parts (leaves_tag ops befores.l) (leaves_tag ops befores.p) first.1 in
      record { r = tag_left befores.r first.0; l = tag_left befores.l rest.0; p = tag_left befores.p rest.1 }

  unfallen_leaves : (tag slack : T) → leaves_tag ops (Some (unfallen tag slack)) ≡ true
  unfallen_leaves tag slack = ap is_eq (tied_itself order tag)

  -- a request that is as it was leaves the next one as it is
  pub unchanged_leaves : (r : QueuedRequest T) → leaves_next ops (unchanged r) ≡ true
  unchanged_leaves r =
      ap (λ b. b && (leaves_tag ops (unchanged r).l && leaves_tag ops (unchanged r).p)) (optional r.tags.r)
      ∙ ap (λ b. b && leaves_tag ops (unchanged r).p) (unfallen_leaves r.tags.l r.slack.l)
      ∙ unfallen_leaves r.tags.p r.slack.p
    where
      optional : (o : Option T) → leaves_tag ops (option_map (λ tag. unfallen tag r.slack.r) o) ≡ true
      optional None = refl
      optional (Some tag) = unfallen_leaves tag r.slack.r

  module _ (reserved : Bool) (b : Befores T) (r : QueuedRequest T) (is : IsOfRecord ops reserved r) (fits : reserved ≡ false → b.r ≡ None) where
    absent : r.tags.r ≡ None → b.r ≡ None
    absent e = fits (sym is.has_r ∙ ap is_some e)

    pub next_fits : (cancelled : Bool) (charged : Slack T) → reserved ≡ false → (befores_next ops cancelled charged b r).r ≡ None
    next_fits cancelled charged e = at r.tags.r refl where
      at : (o : Option T) → r.tags.r ≡ o → option_map_or (λ tag. Some (before_next ops cancelled charged.r b.r (level tag r.slack.r))) o b.r ≡ None
      at None p = fits e
      at (Some tag) p = let both : true ≡ false = sym (ap is_some p) ∙ is.has_r ∙ e in cc

    -- ---- a request behind one that leaves it as it is

    module _ (leaves : leaves_next ops b ≡ true) where
      left : Leaves b
      left = all_left b leaves

      tag_r : (tag : T) → fallen ops b.r (level tag r.slack.r) ≡ level tag r.slack.r
      tag_r tag = unfallen_behind ops fraction is_value exact order b.r (level tag r.slack.r) left.r is.slack.r

      tag_l : fallen ops b.l (level r.tags.l r.slack.l) ≡ level r.tags.l r.slack.l
      tag_l = unfallen_behind ops fraction is_value exact order b.l (level r.tags.l r.slack.l) left.l is.slack.l

      tag_p : fallen ops b.p (level r.tags.p r.slack.p) ≡ level r.tags.p r.slack.p
      tag_p = unfallen_behind ops fraction is_value exact order b.p (level r.tags.p r.slack.p) left.p is.slack.p

      abbrev rebuilt : Option T → T → Level T → Level T → QueuedRequest T
      rebuilt tag slack l p = record r { tags = record { r = tag; l = l.tag; p = p.tag }; slack = record { r = slack; l = l.slack; p = p.slack } }

      optional_tag : (o : Option T) → option_map (λ tag. (fallen ops b.r (level tag r.slack.r)).tag) o ≡ o
      optional_tag None = refl
      optional_tag (Some tag) = ap (λ x. Some x.tag) (tag_r tag)

      optional_slack : (o : Option T) → option_map_or (λ tag. (fallen ops b.r (level tag r.slack.r)).slack) o r.slack.r ≡ r.slack.r
      optional_slack None = refl
      optional_slack (Some tag) = ap (λ x. x.slack) (tag_r tag)

      pub stays_as_it_is : fallen_request ops b r ≡ r
      stays_as_it_is =
          ap (λ tag. rebuilt tag (option_map_or (λ tag. (fallen ops b.r (level tag r.slack.r)).slack) r.tags.r r.slack.r) (fallen ops b.l (level r.tags.l r.slack.l)) (fallen ops b.p (level r.tags.p r.slack.p))) (optional_tag r.tags.r)
          ∙ ap (λ slack. rebuilt r.tags.r slack (fallen ops b.l (level r.tags.l r.slack.l)) (fallen ops b.p (level r.tags.p r.slack.p))) (optional_slack r.tags.r)
          ∙ ap (λ l. rebuilt r.tags.r r.slack.r l (fallen ops b.p (level r.tags.p r.slack.p))) tag_l
          ∙ ap (rebuilt r.tags.r r.slack.r (level r.tags.l r.slack.l)) tag_p

      abbrev next : Option (Before T) → Level T → Level T → Befores T
      next before l p = record {
        r = before;
        l = Some (record { was = r.tags.l; level = l; cancelled = false });
        p = Some (record { was = r.tags.p; level = p; cancelled = false });
      }

      pub next_unchanged : (charged : Slack T) → befores_next ops false charged b r ≡ unchanged r
      next_unchanged charged =
          ap (λ before. next before (fallen ops b.l (level r.tags.l r.slack.l)) (fallen ops b.p (level r.tags.p r.slack.p))) (optional r.tags.r absent)
          ∙ ap (λ l. next (option_map (λ tag. unfallen tag r.slack.r) r.tags.r) l (fallen ops b.p (level r.tags.p r.slack.p))) tag_l
          ∙ ap (next (option_map (λ tag. unfallen tag r.slack.r) r.tags.r) (level r.tags.l r.slack.l)) tag_p
        where
          optional : (o : Option T) → (o ≡ None → b.r ≡ None) → option_map_or (λ tag. Some (before_next ops false charged.r b.r (level tag r.slack.r))) o b.r ≡ option_map (λ tag. unfallen tag r.slack.r) o
          optional None h = h refl
          optional (Some tag) h = ap (λ x. Some (record { was = tag; level = x; cancelled = false })) (tag_r tag)

    -- ---- a request that leaves the next one as it is, is as it was itself

    module _ (cancelled : Bool) (charged : Slack T) (leaves : leaves_next ops (befores_next ops cancelled charged b r) ≡ true) where
      tag_settled : (c : Bool) (amount : T) (before : Option (Before T)) (l : Level T) → IsUnfallen (Some (before_next ops c amount before l)) → unfallen (fallen ops before l).tag (fallen ops before l).slack ≡ before_next ops c amount before l
      tag_settled true amount before l h = cc (h.1)
      tag_settled false amount before l h = ap (λ tag. record { was = tag; level = fallen ops before l; cancelled = false }) (sym h.0)

      after : Leaves (befores_next ops cancelled charged b r)
      after = all_left (befores_next ops cancelled charged b r) leaves

      abbrev settled : Option (Before T) → Before T → Before T → Befores T
      settled before l p = record { r = before; l = Some l; p = Some p }

      pub settles : unchanged (fallen_request ops b r) ≡ befores_next ops cancelled charged b r
      settles =
          ap (λ before. settled before (unfallen (fallen ops b.l (level r.tags.l r.slack.l)).tag (fallen ops b.l (level r.tags.l r.slack.l)).slack) (unfallen (fallen ops b.p (level r.tags.p r.slack.p)).tag (fallen ops b.p (level r.tags.p r.slack.p)).slack)) (optional r.tags.r absent after.r)
          ∙ ap (λ l. settled (befores_next ops cancelled charged b r).r l (unfallen (fallen ops b.p (level r.tags.p r.slack.p)).tag (fallen ops b.p (level r.tags.p r.slack.p)).slack)) (tag_settled cancelled charged.l b.l (level r.tags.l r.slack.l) after.l)
          ∙ ap (settled (befores_next ops cancelled charged b r).r (before_next ops cancelled charged.l b.l (level r.tags.l r.slack.l))) (tag_settled cancelled charged.p b.p (level r.tags.p r.slack.p) after.p)
        where
          optional : (o : Option T) → (o ≡ None → b.r ≡ None) → IsUnfallen (option_map_or (λ tag. Some (before_next ops cancelled charged.r b.r (level tag r.slack.r))) o b.r) →
              option_map (λ tag. unfallen tag (option_map_or (λ t. (fallen ops b.r (level t r.slack.r)).slack) o r.slack.r)) (option_map (λ tag. (fallen ops b.r (level tag r.slack.r)).tag) o)
              ≡ option_map_or (λ tag. Some (before_next ops cancelled charged.r b.r (level tag r.slack.r))) o b.r
          optional None h u = sym (h refl)
          optional (Some tag) h u = ap Some (tag_settled cancelled charged.r b.r (level tag r.slack.r) u)

      -- so it need not be noted what became of it
      pub noted_again : (done : List (QueuedRequest T)) (b' : Befores T) → noted true b' (done ++ fallen_request ops b r ∷ []) ≡ befores_next ops cancelled charged b r
      noted_again done b' = last_is b' done (fallen_request ops b r) ∙ settles
