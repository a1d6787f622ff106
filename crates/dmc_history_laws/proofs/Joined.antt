-- A client's record behind one of its accepted adds.
use Rattle.std.proofs.Common.{◌≡◌, ℕ, suc, ◌<◌, ◌≤◌, List, [], ◌∷◌, ◌++◌, length, drop, take, Some, sym, ap, ◌∙◌, subst, arith, length-append}
use Rattle.std.specs.Option.{option_map}
use Rattle.std.specs.Cmp.{IsTotalOrder}
use Rattle.dmc_types.specs.Values.{Setting}
use Rattle.dmc_types.specs.declared.ids.ClientId.{ClientId}
use Rattle.dmc_types.specs.declared.config.Shares.TheVariants.{Virtual}
use Rattle.dmc_tag.specs.Replay.{replays}
use Rattle.dmc_tag.specs.State.{State, PlainClient, client_named}
use Rattle.dmc_tag.specs.Step.{step}
use Rattle.dmc_tag.specs.Tag.{Fraction, Tagging, IsExact}
use Rattle.dmc_tag.specs.declared.event.Event.{Event}
use Rattle.dmc_tag.specs.declared.reply.Tags.{Tags}
use Rattle.dmc_history_laws.specs.Bounds.{arrival_of, arrivals}
use Rattle.dmc_history_laws.specs.Shares.{before, HasWeight, IsArrival, last_arrived}
use Rattle.dmc_history_laws.proofs.Credit.{sound_before, step_at, shares_are}
use Rattle.dmc_history_laws.proofs.Fronts.{joins}
use Rattle.dmc_history_laws.proofs.Parts.{arrivals-append, take_both, take_one, arrival_is}
use Rattle.dmc_history_laws.proofs.TurnSteps.{spacing_rate}

pub arrivals_grow : {T : Type 0} (id : ClientId) (history : List (Event T)) (n m : ℕ) → n ≤ m → length (arrivals id (take n history)) ≤ length (arrivals id (take m history))
arrivals_grow id history n m h =
    let parts = ap length (sym (ap (arrivals id) (take_both n m history h)) ∙ arrivals-append id (take n history) (drop n (take m history))) in
    omega (arith, parts, length-append (arrivals id (take n history)) (arrivals id (drop n (take m history))))

pub weight_of : {T : Type 0} (id : ClientId) (w : ℕ) (s : State T) (c : PlainClient T) → HasWeight id w s → client_named id s.clients ≡ Some c → c.info.weight ≡ w
weight_of {T} id w s c has named = let is = ap (option_map (λ (d : PlainClient T). d.info.weight)) named in cc

-- it is the next arrival
pub one_arrived : {T : Type 0} (id : ClientId) (start : ℕ) (tags : Tags T) (history : List (Event T)) → IsArrival history start id tags → last_arrived id start history ≡ suc (length (arrivals id (take start history)))
one_arrived id start tags history add =
    let a = arrival_is id add.event.command add.event.reply tags add.tags_are add.arrives in
    let up_to = ap (arrivals id) (take_one start history add.event add.here) ∙ arrivals-append id (take start history) (add.event ∷ []) ∙ ap (λ qs. arrivals id (take start history) ++ (qs ++ [])) a.1 in
    ap length up_to ∙ length-append (arrivals id (take start history)) (a.0 ∷ []) ∙ omega arith

module _ {T : Type 0} (ops : Tagging T) (fraction : T → Fraction) (is_value : Fraction → Type 0) (exact : IsExact ops fraction is_value) (order : IsTotalOrder ops.compare) (config : Setting) (some : 0 < config.hz) (virtual : config.shares ≡ Virtual) (history : List (Event T)) (replay : replays ops config history) where
  abbrev state : ℕ → State T
  state n = before ops config history n

  -- the client's record behind an accepted add
  pub joined_at : (id : ClientId) (start : ℕ) (tags : Tags T) → IsArrival history start id tags → (c : PlainClient T) × (client_named id (state (suc start)).clients ≡ Some c) × (c.previous.p ≡ tags.p) × (0 < c.info.weight)
  joined_at id start tags add =
      let sound = sound_before ops fraction is_value exact order config some history start in
      let is_step = step_at ops fraction is_value exact order config some history start add.event replay add.here in
      let s = state start in
      let is : add.event.reply ≡ (step ops s add.event.command).1 = is_step.reply_is in
      let a = arrival_is id add.event.command add.event.reply tags add.tags_are add.arrives in
      let has = joins ops order id s (shares_are ops fraction is_value exact order config some virtual s sound) sound.turn add.event.command a.0 tags (subst (λ r. arrival_of id add.event.command r ≡ a.0 ∷ []) is a.1) (sym is ∙ add.tags_are) in
      (has.client, ap (λ (z : State T). client_named id z.clients) is_step.next ∙ has.named, has.previous, spacing_rate ops fraction is_value exact order s.config.hz has.client.info.weight has.spacing (subst (λ k. 0 < k.hz) (sym sound.same) some) has.spaced)
