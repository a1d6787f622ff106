-- The clients of a simulation: no two have one id, and those without a mark may not send.
use Rattle.std.proofs.Common.{◌≡◌, ◌≢◌, ℕ, ◌+◌, ◌<◌, Bool, true, false, cond, Some, None, List, length, get_or, set, map, nat_lt, refl, sym, ap, ◌∙◌, subst, inl, inr, arith}
use Rattle.std.specs.Prelude.{◌⊎◌, ◌==◌, ◌&&◌, AllPairs, eqb, position}
use Rattle.std.specs.List.{position_or_len}
use Rattle.std.proofs.lemmas.Bool.{ltb-true, ltb-false, false_from_ne_true}
use Rattle.std.proofs.lemmas.Bool.Decides.{eqb_tells}
use Rattle.std.proofs.lemmas.List.Sums.{fails_before_first}
use Rattle.std.proofs.lemmas.List.Quantifiers.{position-Some}
use Rattle.std.proofs.lemmas.List.{get_or-map, get_or_default, get_or-set_same, get_or-set_other, length-map, length-set}
use Rattle.dmc_types.specs.declared.ids.ClientId.{ClientId}
use Rattle.dmc_types.specs.declared.config.PhaseType.{PhaseType}
use Rattle.dmc_types.specs.declared.config.PhaseType.TheVariants.{Reservation}
use Rattle.dmc_tag.specs.State.{is_client}
use Rattle.dmc_tag.proofs.ForCallers.{same_client}
use Rattle.dmc_scene.specs.SceneValue.{ClientValue, AreApart}
use Rattle.dmc_sim.specs.Simulation.{is_phase}
use Rattle.dmc_sim.specs.internal.Simulations.{AreMarked, has_next}
use Rattle.dmc_sim.specs.internal.Turns.{Completes, CompletesOne}
use Rattle.dmc_sim.proofs.Traces.{one_if}
use Rattle.dmc_sim.specs.declared.client.SimClient.{SimClient}

pub scene_at : (clients : List SimClient) (k : ℕ) (d : SimClient) → k < length clients → get_or (map (λ (c : SimClient). c.scene) clients) k d.scene ≡ (get_or clients k d).scene
scene_at clients k d w = get_or-map (λ (c : SimClient). c.scene) clients k d d.scene w

not_same : (a b : ClientId) → a ≢ b → is_client a b ≡ false
not_same a b ne = false_from_ne_true (is_client a b) (λ e. ne (sym (same_client a b e)))

-- two clients have different ids
pub other_id : (clients : List SimClient) → AllPairs AreApart (map (λ c. c.scene) clients) → (k i : ℕ) (d : SimClient) → k < length clients → i < length clients → k ≢ i
    → is_client (get_or clients k d).scene.id (get_or clients i d).scene.id ≡ false
other_id clients apart k i d kw iw ne = by (nat_lt k i) refl
  where
    ids : (n : ℕ) → n < length clients → (get_or (map (λ (c : SimClient). c.scene) clients) n d.scene).id ≡ (get_or clients n d).scene.id
    ids n w = ap (λ (s : ClientValue). s.id) (scene_at clients n d w)

    long : length (map (λ (c : SimClient). c.scene) clients) ≡ length clients
    long = length-map clients (λ (c : SimClient). c.scene)

    by : (b : Bool) → nat_lt k i ≡ b → is_client (get_or clients k d).scene.id (get_or clients i d).scene.id ≡ false
    by true b = not_same _ _ (λ e. apart k i d.scene (ltb-true k i b) (omega (arith, iw, long)) (ids k kw ∙ e ∙ sym (ids i iw)))
    by false b = let past = ltb-false k i b in not_same _ _ (λ e. apart i k d.scene (omega (arith, past, ne)) (omega (arith, kw, long)) (ids i iw ∙ sym e ∙ sym (ids k kw)))

-- a mark is set or taken with its client
pub marked_with : (marks : List Bool) (clients : List SimClient) (i : ℕ) (mark : Bool) (new : SimClient) → length marks ≡ length clients → AreMarked marks clients → (mark ≡ false → has_next new ≡ false) → AreMarked (set marks i mark) (set clients i new)
marked_with marks clients i mark new long h here = λ k d w m. by k d (omega (arith, w, length-set clients i new)) m (eqb_tells k i)
  where
    by : (k : ℕ) (d : SimClient) → k < length clients → get_or (set marks i mark) k false ≡ false → ((eqb k i ≡ true) × (k ≡ i)) ⊎ ((eqb k i ≡ false) × (k ≢ i)) → has_next (get_or (set clients i new) k d) ≡ false
    by k d w m (inl same) =
        let at : i < length clients = omega (arith, w, same.1) in
        let mine : mark ≡ false = sym (get_or-set_same marks i mark false (omega (arith, at, long))) ∙ ap (λ n. get_or (set marks i mark) n false) (sym same.1) ∙ m in
        ap (λ n. has_next (get_or (set clients i new) n d)) same.1 ∙ ap has_next (get_or-set_same clients i new d at) ∙ here mine
    by k d w m (inr other) = ap has_next (get_or-set_other clients i k new d other.1) ∙ h k d w (sym (get_or-set_other marks i k mark false other.1) ∙ m)

-- ---- a completion

-- the client after a completion of its own
pub record IsCompleted (phase : PhaseType) (old new : SimClient) : Type 0 where
  pub scene : new.scene ≡ old.scene
  pub plan : new.plan.items ≡ old.plan.items
  pub sent : new.sent ≡ old.sent
  pub completed : new.completed ≡ old.completed + 1
  pub reservation : new.reservation ≡ old.reservation + one_if (is_phase Reservation phase)

abbrev ids_of : List SimClient → List ClientId
ids_of clients = map (λ (k : ClientValue). k.id) (map (λ (c : SimClient). c.scene) clients)

id_at : (clients : List SimClient) (k : ℕ) (d : SimClient) → k < length clients → get_or (ids_of clients) k d.scene.id ≡ (get_or clients k d).scene.id
id_at clients k d w =
    let long : length (map (λ (c : SimClient). c.scene) clients) ≡ length clients = length-map clients (λ (c : SimClient). c.scene) in
    get_or-map (λ (k : ClientValue). k.id) (map (λ (c : SimClient). c.scene) clients) k d.scene d.scene.id (omega (arith, long, w)) ∙ ap (λ (s : ClientValue). s.id) (scene_at clients k d w)

unchanged : (id : ClientId) (phase : PhaseType) (c : SimClient) → is_client c.scene.id id ≡ false → Completes id phase c c
unchanged id phase c other =
    let none : one_if (is_client c.scene.id id) ≡ 0 = ap one_if other in
    let none_reserved : one_if (is_client c.scene.id id && is_phase Reservation phase) ≡ 0 = ap (λ b. one_if (b && is_phase Reservation phase)) other in
    record { scene = refl; plan = refl; sent = refl; completed = omega (arith, none); reservation = omega (arith, none_reserved) }

changed : (id : ClientId) (phase : PhaseType) (old new : SimClient) → is_client old.scene.id id ≡ true → IsCompleted phase old new → Completes id phase old new
changed id phase old new same is =
    let one : one_if (is_client old.scene.id id) ≡ 1 = ap one_if same in
    let reserved : one_if (is_client old.scene.id id && is_phase Reservation phase) ≡ one_if (is_phase Reservation phase) = ap (λ b. one_if (b && is_phase Reservation phase)) same in
    record { scene = is.scene; plan = is.plan; sent = is.sent; completed = omega (arith, is.completed, one); reservation = omega (arith, is.reservation, reserved) }

all_fail : {X : Type 0} (p : X → Bool) (xs : List X) → position p xs ≡ None → (k : ℕ) (d : X) → k < length xs → p (get_or xs k d) ≡ false
all_fail p xs none k d w = by (nat_lt (position_or_len p xs) (length xs)) refl none
  where
    by : (b : Bool) → nat_lt (position_or_len p xs) (length xs) ≡ b → cond b (Some (position_or_len p xs)) None ≡ None → p (get_or xs k d) ≡ false
    by true b e = cc
    by false b e = let past = ltb-false (position_or_len p xs) (length xs) b in fails_before_first p xs k d (omega (arith, past, w))

module _ (clients : List SimClient) (id : ClientId) (phase : PhaseType) where
  long : length (ids_of clients) ≡ length clients
  long = length-map (map (λ (c : SimClient). c.scene) clients) (λ (k : ClientValue). k.id) ∙ length-map clients (λ (c : SimClient). c.scene)

  -- if no client has the id
  pub completes_none : position (λ (k : ClientId). id.0 == k.0) (ids_of clients) ≡ None → CompletesOne id phase clients clients
  completes_none none = λ k d w.
      let fails = all_fail (λ (k : ClientId). id.0 == k.0) (ids_of clients) none k d.scene.id (omega (arith, w, long)) in
      unchanged id phase (get_or clients k d) (ap (λ (k : ClientId). id.0 == k.0) (sym (id_at clients k d w)) ∙ fails)

  -- if client i is the first that has it, and no two have one id
  pub completes_one : (i : ℕ) (d new : SimClient) → AllPairs AreApart (map (λ c. c.scene) clients) → position (λ (k : ClientId). id.0 == k.0) (ids_of clients) ≡ Some i → IsCompleted phase (get_or clients i d) new → CompletesOne id phase clients (set clients i new)
  completes_one i d new apart first is = λ k e w. by k e w (eqb_tells k i)
    where
      found : (i < length (ids_of clients)) × (((id.0 == (get_or (ids_of clients) i d.scene.id).0) ≡ true) × ((k : ℕ) → k < i → (id.0 == (get_or (ids_of clients) k d.scene.id).0) ≡ false))
      found = let f = position-Some (λ (k : ClientId). id.0 == k.0) (ids_of clients) i d.scene.id first in (f.0, (f.1, f.2))

      within : i < length clients
      within = omega (arith, found.0, long)

      same : is_client (get_or clients i d).scene.id id ≡ true
      same = ap (λ (k : ClientId). id.0 == k.0) (sym (id_at clients i d within)) ∙ found.1.0

      by : (k : ℕ) (e : SimClient) → k < length clients → ((eqb k i ≡ true) × (k ≡ i)) ⊎ ((eqb k i ≡ false) × (k ≢ i)) → Completes id phase (get_or clients k e) (get_or (set clients i new) k e)
      by k e w (inl at) =
          let old_is : get_or clients k e ≡ get_or clients i d = ap (λ n. get_or clients n e) at.1 ∙ get_or_default clients i e d within in
          let new_is : get_or (set clients i new) k e ≡ new = ap (λ n. get_or (set clients i new) n e) at.1 ∙ get_or-set_same clients i new e within in
          subst (λ (o : SimClient). Completes id phase o (get_or (set clients i new) k e)) (sym old_is) (subst (λ (o : SimClient). Completes id phase (get_or clients i d) o) (sym new_is) (changed id phase (get_or clients i d) new same is))
      by k e w (inr other) =
          let named : (get_or clients i d).scene.id ≡ id = sym (same_client (get_or clients i d).scene.id id same) in
          let default : get_or clients i e ≡ get_or clients i d = get_or_default clients i e d within in
          let far : is_client (get_or clients k e).scene.id (get_or clients i e).scene.id ≡ false = other_id clients apart k i e w within other.1 in
          let mine : is_client (get_or clients k e).scene.id id ≡ false = subst (λ (o : ClientId). is_client (get_or clients k e).scene.id o ≡ false) named (subst (λ (o : SimClient). is_client (get_or clients k e).scene.id o.scene.id ≡ false) default far) in
          subst (λ (o : SimClient). Completes id phase (get_or clients k e) o) (sym (get_or-set_other clients i k new e other.1)) (unchanged id phase (get_or clients k e) mine)
