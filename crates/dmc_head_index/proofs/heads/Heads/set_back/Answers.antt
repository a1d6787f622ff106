use Rattle.std.proofs.Common.{◌≡◌, ◌≤◌, None, length, map, refl, sym, ap, ◌∙◌, subst, inl, inr, arith}
use Rattle.std.specs.Option.{option_map}
use Rattle.std.proofs.lemmas.Bool.{cases_lt}
use Rattle.std.proofs.lemmas.List.{length-map, length-set, get_or_past}
use Rattle.dmc_index.specs.Index.{slot_of_key}
use Rattle.dmc_head_index.specs.Heads.{heads_from, set_back}
use Rattle.dmc_head_index.proofs.HeadsFrom.{length-heads_from}
use Rattle.dmc_head_index.proofs.Slots.{same_slots, slot_of_key-map, mapped_more, rest_stays}
use Rattle.dmc_head_index.proofs.heads.Heads.set_back.Goals as goal

pub returns : goal.returns
returns g c =
    let x = c.self.inside in
    let reservation = g.I.ReservationIndex.OrderIndex.slots x.reservation in
    let limits = g.I.LimitIndex.OrderIndex.slots x.limit in
    let ready = g.I.WeightIndex.OrderIndex.slots x.weight in
    let size = length-heads_from reservation limits ready in
    let within : length (heads_from reservation limits ready) ≤ x.room = omega (arith, size.2, c.self.invariant.room_is) in
    let f = set_back g.T.Tag.ops c.args.t in
    let old = c.args.self.now in
    let new = c.loop-key.self in
    same_slots new (map (option_map f) old) (c.loop-key.invariant.room ∙ sym (length-map old (option_map f))) (λ k. elim (cases_lt k c.loop-key.key) [
      | inl l ↦ c.loop-key.invariant.done k l ∙ sym (slot_of_key-map f old k)
      | inr l ↦
          let all : length old ≤ x.room = subst (λ hs. length hs ≤ x.room) c.self.view_is within in
          let past : length old ≤ k = omega arith in
          let none : slot_of_key old k ≡ None = get_or_past old k None past in
          c.loop-key.invariant.rest k l ∙ none ∙ sym (slot_of_key-map f old k ∙ ap (option_map f) none)
    ])

pub loop-key-init : goal.loop-key-init
loop-key-init g c = record { room = refl; done = λ k l. absurd (omega arith); rest = λ k l. refl }

pub loop-key-smaller : goal.loop-key-smaller
loop-key-smaller g c = omega (arith, c.loop-key-test.true)

pub loop-key-preserved : goal.loop-key-preserved
loop-key-preserved g c =
    let f = set_back g.T.Tag.ops c.args.t in
    let old = c.args.self.now in
    let now = c.loop-key.self in
    let n = c.loop-key.key in
    let is = c.loop-key.invariant in
    rw c.set_back_at.ensures (record {
      room = length-set now n (option_map f (slot_of_key now n)) ∙ is.room;
      done = mapped_more f old now n is.rest is.done;
      rest = rest_stays f old now n is.rest (option_map f (slot_of_key now n));
    })
