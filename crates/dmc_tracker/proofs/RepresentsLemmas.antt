-- A step of the numbers is that of the list that they represent.
use Rattle.std.proofs.Common.{◌≡◌, ℕ, ◌<◌, List, [], ◌∷◌, ◌++◌, length, map, set, get_or, refl, sym, ap, ◌∙◌, arith, false, cond, inl, inr, ◌==◌}
use Rattle.std.proofs.lemmas.List.{get_or-set_same, get_or-set_other, get_or-map, get_or-replicate, length-map, length-replicate, length-set}
use Rattle.std.proofs.lemmas.Bool.Decides.{eqb_tells}
use Rattle.std.proofs.lemmas.Bool.{eq-eqb}
use Rattle.dmc_types.specs.Values.{Params, no_counts, counts_of, params_with}
use Rattle.dmc_types.specs.declared.ids.ServerId.{ServerId}
use Rattle.dmc_types.specs.declared.config.Counting.{Counting}
use Rattle.dmc_types.specs.declared.config.Counting.TheVariants.{All, Others}
use Rattle.dmc_types.specs.declared.config.PhaseType.{PhaseType}
use Rattle.dmc_tracker.specs.declared.event.TrackerEvent.{TrackerEvent}
use Rattle.dmc_tracker.specs.declared.event.TrackerEvent.TheVariants.{Stamp, Skip, Response}
use Rattle.dmc_tracker.specs.TrackerList.{plus, completed_in, counted_by, own_share, sent, skipped, pending, demanded}
use Rattle.dmc_tracker.specs.Numbers.{Numbers, ServerNumbers, no_numbers, new_numbers, numbers_at, next_counts, next_params, after_stamp, after_skip, after_response, grown, servers_grown, numbers_of, RepresentsEvents}
use Rattle.dmc_tracker.proofs.ListLemmas.{plus-none, completions-response, completions-stamp, completions-skip, sent-response, sent-stamp_same, sent-stamp_other, sent-skip, pending-response, pending-stamp_same, pending-stamp_other, pending-skip_same, pending-skip_other, skipped-stamp, skipped-response, skipped-skip_same, skipped-skip_other}

pub same_numbers : (a b : ServerNumbers) → a.sent ≡ b.sent → a.skipped ≡ b.skipped → a.pending ≡ b.pending → a ≡ b
same_numbers a b s k p =
    ap (λ x. record { sent = x; skipped = a.skipped; pending = a.pending }) s
    ∙ ap (λ x. record { sent = b.sent; skipped = x; pending = a.pending }) k
    ∙ ap (λ x. record { sent = b.sent; skipped = b.skipped; pending = x }) p

pub same_server : (q s : ServerId) → q.0 ≡ s.0 → q ≡ s
same_server q s e = ap (λ (n : ℕ). let id : ServerId = record { 0 = n } in id) e

module _ (counting : Counting) (events : List TrackerEvent) (s : ServerId) where
  -- the numbers after a stamp to s, of s and of another
  numbers_of-stamp_same : (q : ServerId) (params : Params) → q ≡ s
      → numbers_of counting q (events ++ Stamp s params ∷ [])
      ≡ record { sent = plus (sent s events) (counts_of params); skipped = skipped counting s events; pending = no_counts }
  numbers_of-stamp_same q params e =
      ap (λ x. numbers_of counting x (events ++ Stamp s params ∷ [])) e
      ∙ same_numbers _ _ (sent-stamp_same s events s params (eq-eqb s.0 s.0 refl)) (skipped-stamp counting s events s params)
      (pending-stamp_same counting s events s params (eq-eqb s.0 s.0 refl))

  numbers_of-stamp_other : (q : ServerId) (params : Params) → (s.0 == q.0) ≡ false
      → numbers_of counting q (events ++ Stamp s params ∷ []) ≡ numbers_of counting q events
  numbers_of-stamp_other q params e =
      same_numbers _ _ (sent-stamp_other q events s params e) (skipped-stamp counting q events s params) (pending-stamp_other counting q events s params e)

  -- the numbers after a skip of s, of s and of another
  numbers_of-skip_same : (q : ServerId) → q ≡ s
      → numbers_of counting q (events ++ Skip s ∷ [])
      ≡ record { sent = sent s events; skipped = plus (skipped counting s events) (pending counting s events); pending = no_counts }
  numbers_of-skip_same q e =
      ap (λ x. numbers_of counting x (events ++ Skip s ∷ [])) e
      ∙ same_numbers _ _ (sent-skip s events s) (skipped-skip_same counting s events s (eq-eqb s.0 s.0 refl))
      (pending-skip_same counting s events s (eq-eqb s.0 s.0 refl))

  numbers_of-skip_other : (q : ServerId) → (s.0 == q.0) ≡ false → numbers_of counting q (events ++ Skip s ∷ []) ≡ numbers_of counting q events
  numbers_of-skip_other q e =
      same_numbers _ _ (sent-skip q events s) (skipped-skip_other counting q events s e) (pending-skip_other counting q events s e)

  -- the numbers after a response of s
  numbers_of-response : (q : ServerId) (phase : PhaseType) (cost : ℕ)
      → numbers_of counting q (events ++ Response s phase cost ∷ [])
      ≡ record {
        sent = sent q events;
        skipped = skipped counting q events;
        pending = plus (pending counting q events) (counted_by counting q (Response s phase cost));
      }
  numbers_of-response q phase cost =
      same_numbers _ _ (sent-response q events s phase cost) (skipped-response counting q events s phase cost) (pending-response counting q events s phase cost)

pub next_params-represents : (numbers : Numbers) (events : List TrackerEvent) (s : ServerId) (cost : ℕ) → s.0 < length numbers.servers
    → RepresentsEvents numbers events → next_params numbers s cost ≡ demanded numbers.counting s cost events
next_params-represents numbers events s cost within h =
    ap (λ (x : ServerNumbers). params_with (plus x.pending (own_share numbers.counting cost)) cost) (h.each s within)

get_or_here : (servers : List ServerNumbers) (i j : ℕ) (x : ServerNumbers) → i ≡ j → i < length servers
    → get_or (set servers i x) j no_numbers ≡ x
get_or_here servers i j x e inside = rw (← e) (get_or-set_same servers i x no_numbers inside)

pub RepresentsEvents-stamp : (numbers : Numbers) (events : List TrackerEvent) (s : ServerId) (cost : ℕ) → s.0 < length numbers.servers
    → RepresentsEvents numbers events → RepresentsEvents (after_stamp s cost numbers) (events ++ Stamp s (next_params numbers s cost) ∷ [])
RepresentsEvents-stamp numbers events s cost within h =
    let params = next_params numbers s cost in
    let stamped : ServerNumbers = record { sent = plus (numbers_at numbers s).sent (next_counts numbers s cost); skipped = (numbers_at numbers s).skipped; pending = no_counts } in
    record {
      completed = h.completed ∙ sym (completions-stamp events s params);
      each = λ q inside. elim (eqb_tells s.0 q.0) [
        | inl here ↦
            get_or_here numbers.servers s.0 q.0 stamped here.1 within
            ∙ ap (λ (x : ServerNumbers). let y : ServerNumbers = record { sent = plus x.sent (next_counts numbers s cost); skipped = x.skipped; pending = no_counts } in y) (h.each s within)
            ∙ sym (numbers_of-stamp_same numbers.counting events s q params (sym (same_server s q here.1)))
        | inr there ↦
            get_or-set_other numbers.servers s.0 q.0 stamped no_numbers (λ e. there.1 (sym e))
            ∙ h.each q (omega (arith, length-set numbers.servers s.0 stamped))
            ∙ sym (numbers_of-stamp_other numbers.counting events s q params there.0)
      ];
    }

pub RepresentsEvents-skip : (numbers : Numbers) (events : List TrackerEvent) (s : ServerId) → s.0 < length numbers.servers
    → RepresentsEvents numbers events → RepresentsEvents (after_skip s numbers) (events ++ Skip s ∷ [])
RepresentsEvents-skip numbers events s within h =
    let at = numbers_at numbers s in
    let skipping : ServerNumbers = record { sent = at.sent; skipped = plus at.skipped at.pending; pending = no_counts } in
    record {
      completed = h.completed ∙ sym (completions-skip events s);
      each = λ q inside. elim (eqb_tells s.0 q.0) [
        | inl here ↦
            get_or_here numbers.servers s.0 q.0 skipping here.1 within
            ∙ ap (λ (x : ServerNumbers). let y : ServerNumbers = record { sent = x.sent; skipped = plus x.skipped x.pending; pending = no_counts } in y) (h.each s within)
            ∙ sym (numbers_of-skip_same numbers.counting events s q (sym (same_server s q here.1)))
        | inr there ↦
            get_or-set_other numbers.servers s.0 q.0 skipping no_numbers (λ e. there.1 (sym e))
            ∙ h.each q (omega (arith, length-set numbers.servers s.0 skipping))
            ∙ sym (numbers_of-skip_other numbers.counting events s q there.0)
      ];
    }

pub length-servers_grown : (counting : Counting) (s : ServerId) (phase : PhaseType) (cost : ℕ) (servers : List ServerNumbers)
    → length (servers_grown counting s phase cost servers) ≡ length servers
length-servers_grown All s phase cost servers = length-map servers (grown phase cost)
length-servers_grown Others s phase cost servers =
    length-set (map (grown phase cost) servers) s.0 (get_or servers s.0 no_numbers) ∙ length-map servers (grown phase cost)

-- a response of s at server q
at-servers_grown : (counting : Counting) (s q : ServerId) (phase : PhaseType) (cost : ℕ) (servers : List ServerNumbers) → q.0 < length servers
    → get_or (servers_grown counting s phase cost servers) q.0 no_numbers
    ≡ record {
      sent = (get_or servers q.0 no_numbers).sent;
      skipped = (get_or servers q.0 no_numbers).skipped;
      pending = plus (get_or servers q.0 no_numbers).pending (counted_by counting q (Response s phase cost));
    }
at-servers_grown All s q phase cost servers inside = get_or-map (grown phase cost) servers q.0 no_numbers no_numbers inside
at-servers_grown Others s q phase cost servers inside =
    let all = map (grown phase cost) servers in
    let at_s = get_or servers s.0 no_numbers in
    let at_q = get_or servers q.0 no_numbers in
    elim (eqb_tells s.0 q.0) [
      | inl here ↦
          (let back : get_or (set all s.0 at_s) q.0 no_numbers ≡ at_q =
          rw (← here.1) (get_or-set_same all s.0 at_s no_numbers (omega (arith, length-map servers (grown phase cost), here.1))) in
          back ∙ sym (same_numbers _ _ refl refl (ap (λ b. plus at_q.pending (cond b no_counts (completed_in phase cost))) here.0 ∙ plus-none at_q.pending)))
      | inr there ↦
          get_or-set_other all s.0 q.0 at_s no_numbers (λ e. there.1 (sym e))
          ∙ get_or-map (grown phase cost) servers q.0 no_numbers no_numbers inside
          ∙ sym (same_numbers _ _ refl refl (ap (λ b. plus at_q.pending (cond b no_counts (completed_in phase cost))) there.0))
    ]

pub RepresentsEvents-response : (numbers : Numbers) (events : List TrackerEvent) (s : ServerId) (phase : PhaseType) (cost : ℕ)
    → RepresentsEvents numbers events → RepresentsEvents (after_response s phase cost numbers) (events ++ Response s phase cost ∷ [])
RepresentsEvents-response numbers events s phase cost h = record {
  completed = ap (λ c. plus c (completed_in phase cost)) h.completed ∙ sym (completions-response events s phase cost);
  each = λ q inside.
      let within : q.0 < length numbers.servers = omega (arith, length-servers_grown numbers.counting s phase cost numbers.servers) in
      at-servers_grown numbers.counting s q phase cost numbers.servers within
      ∙ ap (λ (x : ServerNumbers). let y : ServerNumbers = record { sent = x.sent; skipped = x.skipped; pending = plus x.pending (counted_by numbers.counting q (Response s phase cost)) } in y) (h.each q within)
      ∙ sym (numbers_of-response numbers.counting events s q phase cost);
}

pub RepresentsEvents-new : (counting : Counting) (most n : ℕ) → RepresentsEvents (new_numbers counting most n) []
RepresentsEvents-new counting most n = record {
  completed = refl;
  each = λ s inside. get_or-replicate n s.0 no_numbers no_numbers (omega (arith, length-replicate {A = ServerNumbers}));
}
