-- The tests of an add, on the entries.
use Rattle.std.proofs.Common.{◌≡◌, ℕ, ◌≤◌, ◌<◌, true, false, List, length, Option, Some, None, Result, Ok, Err, sym, ap, ◌∙◌, subst, arith}
use Rattle.std.specs.Prelude.{IfSome, is_some, nat_le, ◌==◌}
use Rattle.std.specs.Option.{option_map}
use Rattle.std.specs.List.{AllByRecursion}
use Rattle.std.specs.declared.cmp.Ordering.TheVariants.{Equal}
use Rattle.std.proofs.lemmas.Bool.Decides.{nat_tests}
use Rattle.dmc_types.specs.Limits.{max_requests}
use Rattle.dmc_types.specs.Values.{Params}
use Rattle.dmc_types.specs.declared.ids.ClientId.{ClientId}
use Rattle.dmc_types.specs.declared.ids.Token.{Token}
use Rattle.dmc_types.specs.declared.command.Command.TheVariants.{Add}
use Rattle.dmc_types.specs.declared.refusal.Refusal.{Refusal}
use Rattle.dmc_types.specs.declared.refusal.Refusal.TheVariants.{QueueFull, Range}
use Rattle.dmc_tag.specs.Tag.{Fraction, Tagging}
use Rattle.dmc_tag.specs.Outcome.{◌>>=◌, in_range}
use Rattle.dmc_tag.specs.Spacing.{spacings_of}
use Rattle.dmc_tag.specs.State.{State, client_named, effective, queued_requests, is_nothing_queued}
use Rattle.dmc_tag.specs.Step.{answer_of, step}
use Rattle.dmc_tag.specs.declared.reply.Reply.{Reply}
use Rattle.dmc_tag.specs.declared.reply.Reply.TheVariants.{Tagged}
use Rattle.dmc_tag.specs.Rules as rules_of
use Rattle.dmc_tag.specs.Rules.{add_tags, can_shift_by, shifted_by, change_client, after_arrival, floor_by, share_floor, progress_added, assigned, added, is_over_limit, slack_of}
use Rattle.dmc_tag.specs.declared.reply.Tags.{Tags}
use Rattle.dmc_tag.proofs.ForCallers.{within_limit}
use Rattle.dmc_tag.specs.Order.{AreNext, NotBelow}
use Rattle.dmc_tag.specs.declared.plain.Slack.{Slack}
use Rattle.dmc_client.specs.Record.{Rec, client_of, share_tags}
use Rattle.dmc_roster.specs.Entries.{Entry, entry_named, entry_keyed, record_at}
use Rattle.dmc_pull.specs.internal.Adding.{needed_shift, unless_nothing, Brings, IsTagged}
use Rattle.dmc_pull.specs.Queue.{Queue, IsQueue, IsKept, state_of}
use Rattle.dmc_pull.specs.Represented.{clients_in}
use Rattle.dmc_pull.specs.declared.adding.Addition.{Addition}
use Rattle.dmc_pull.proofs.Common.Parts.{all_as, found_holds}
use Rattle.dmc_pull.proofs.Common.Entries.{named}
use Rattle.dmc_pull.proofs.Common.Keyed.{record_is}
use Rattle.dmc_pull.proofs.Add.Adds.{held_entry, if_holds, full, no_shift, whole, Whole, out_of_range, no_tags, allowed, idle_where_shifted}
use Rattle.dmc_pull.proofs.Add.NothingOff.{all_clients, same_test, same_shifted}

-- the step of an add, from its effect at the effective moment
pub step_of_add : {T : Type 0} (ops : Tagging T) (s : State T) (id : ClientId) (token : Token) (params : Params) (at moment : ℕ) (answer : State T × Reply T) → moment ≡ effective s at → added ops s id token params moment ≡ Ok answer → step ops s (Add id token params at) ≡ answer
step_of_add ops s id token params at moment answer e h = ap (answer_of s) (ap (added ops s id token params) (sym e) ∙ h)

module _ {T : Type 0} (ops : Tagging T) (fraction : T → Fraction) (is_value : Fraction → Type 0) (q : Queue T) (queued : ℕ) (is : IsQueue ops fraction is_value q queued) where
  abbrev entries : List (Entry T)
  entries = q.roster.entries

  -- what the new P is compared with
  pub floor_is : (at : ℕ) (t floor : T) → t ≡ ops.of_moment at → floor ≡ floor_by ops q.config.shares (queued == 0) q.progress t → floor ≡ share_floor ops (state_of q) (ops.of_moment at)
  floor_is at t floor moment e =
      e
      ∙ ap (floor_by ops q.config.shares (queued == 0) q.progress) moment
      ∙ ap (λ (n : ℕ). floor_by ops q.config.shares (n == 0) q.progress (ops.of_moment at)) is.counted

  -- each P is a value
  all_values : AllByRecursion (λ e. AllByRecursion (λ tag. is_value (fraction tag)) (share_tags e.rec)) entries
  all_values = all_as (λ (e : Entry T). IsKept ops fraction is_value q.config.hz e.rec) (λ e. AllByRecursion (λ tag. is_value (fraction tag)) (share_tags e.rec)) (λ e k. k.values) entries is.kept

  module _ (same : (a b : T) → ops.compare a b ≡ Equal → a ≡ b) (off : (a : T) → is_value (fraction a) → ops.minus a (ops.of_moment 0) ≡ Some a) where
    test_left : (amount : Option T) → can_shift_by ops (unless_nothing ops amount) (clients_in entries) ≡ can_shift_by ops amount (clients_in entries)
    test_left = same_test ops (λ tag. is_value (fraction tag)) same off (clients_in entries) (all_clients ops (λ tag. is_value (fraction tag)) entries all_values)

    shifted_left : (amount : Option T) → shifted_by ops (unless_nothing ops amount) (clients_in entries) ≡ shifted_by ops amount (clients_in entries)
    shifted_left = same_shifted ops (λ tag. is_value (fraction tag)) same off (clients_in entries) (all_clients ops (λ tag. is_value (fraction tag)) entries all_values)

    -- the effect of an add within its limit, with the shift left out if it is 0
    pub added_is : (id : ClientId) (params : Params) (at : ℕ) (addition : Addition T) → Brings ops (state_of q) id params at addition → is_over_limit ops q.config.at_limit at addition.tags.l ≡ false → (token : Token) → added ops (state_of q) id token params at ≡ Ok (rules_of.queued ops (state_of q) addition.shift id (record { token = token; cost = params.cost; tags = addition.tags; slack = addition.slack }) at, Tagged addition.tags)
    added_is id params at addition allows within token =
        ap (λ r. r >>= λ brought. Ok (rules_of.queued ops (state_of q) brought.shift id (rules_of.request_of token params.cost brought) at, Tagged brought.tags)) (within_limit ops (state_of q) id params at (record { shift = allows.full; tags = addition.tags; slack = addition.slack }) allows.test within)
        ∙ ap (λ cs. Ok (record (state_of q) { clients = change_client id (after_arrival (record { token = token; cost = params.cost; tags = addition.tags; slack = addition.slack }) at) cs; last_moment = at; progress = progress_added ops q.config.shares (is_nothing_queued (clients_in entries)) addition.tags.p q.progress }, Tagged addition.tags)) (sym (shifted_left allows.full) ∙ ap (λ shift. shifted_by ops shift (clients_in entries)) (sym allows.shift))

    module _ (id : ClientId) (params : Params) (at : ℕ) (key : ℕ) (entry : entry_keyed key entries ≡ entry_named id entries) (held : is_some (entry_keyed key entries) ≡ true) where
      abbrev test : Result (rules_of.Addition T) Refusal
      test = add_tags ops (state_of q) id params (ops.of_moment at)

      found : (e : Entry T) × (entry_keyed key entries ≡ Some e)
      found = held_entry (entry_keyed key entries) held

      known : client_named id (clients_in entries) ≡ Some (client_of found.0.id found.0.rec)
      known = named id entries ∙ ap (option_map (λ e. client_of e.id e.rec)) (sym entry ∙ found.1)

      pub queue_full : max_requests ≤ queued → test ≡ Err QueueFull
      queue_full h =
          let counted = is.counted in
          let le : nat_le max_requests (length (queued_requests (clients_in entries))) ≡ true = grind (arith, nat_tests) in
          full ops (state_of q) id params (ops.of_moment at) (client_of found.0.id found.0.rec) known le

      module _ (below : queued < max_requests) (r : Result (Option T) Refusal) (t : T) (moment : t ≡ ops.of_moment at) (value : IfSome (entry_keyed key entries) (λ e. r ≡ needed_shift ops q.config.shares (clients_in entries) (client_of e.id e.rec) t)) where
        room : nat_le max_requests (length (queued_requests (clients_in entries))) ≡ false
        room = let counted = is.counted in grind (arith, nat_tests)

        shift_is : r ≡ needed_shift ops q.config.shares (clients_in entries) (client_of found.0.id found.0.rec) (ops.of_moment at)
        shift_is = if_holds _ (entry_keyed key entries) found.0 found.1 value ∙ ap (needed_shift ops q.config.shares (clients_in entries) (client_of found.0.id found.0.rec)) moment

        pub shift_refused : (refusal : Refusal) → r ≡ Err refusal → test ≡ Err refusal
        shift_refused refusal e = no_shift ops (state_of q) id params (ops.of_moment at) (client_of found.0.id found.0.rec) known room refusal (sym e ∙ shift_is)

        module _ (shift : Option T) (e : r ≡ Ok shift) where
          whole_is : Whole ops (state_of q) id params (ops.of_moment at) (client_of found.0.id found.0.rec) known room shift
          whole_is = whole ops (state_of q) id params (ops.of_moment at) (client_of found.0.id found.0.rec) known room shift (sym e ∙ shift_is)

          can_is : can_shift_by ops whole_is.amount (clients_in entries) ≡ can_shift_by ops shift (clients_in entries)
          can_is = sym (test_left whole_is.amount) ∙ ap (λ s. can_shift_by ops s (clients_in entries)) (sym whole_is.left)

          pub shift_out_of_range : can_shift_by ops shift (clients_in entries) ≡ false → test ≡ Err Range
          shift_out_of_range h = out_of_range ops (state_of q) id params (ops.of_moment at) (client_of found.0.id found.0.rec) known room whole_is.amount whole_is.is (can_is ∙ h)

          module _ (can : can_shift_by ops shift (clients_in entries) ≡ true) (rec : Rec T) (at_key : record_at key entries ≡ Some rec) (tags : Option (Tags T)) (floor : T) (same_floor : floor ≡ share_floor ops (state_of q) (ops.of_moment at))
              (gives : (hz : ℕ) (id : ClientId) → spacings_of ops hz rec.info ≡ Ok rec.spacings → in_range tags ≡ assigned ops hz (client_of id rec) params t floor) where
            assigned_is : in_range tags ≡ assigned ops q.config.hz (client_of found.0.id found.0.rec) params (ops.of_moment at) (share_floor ops (state_of q) (ops.of_moment at))
            assigned_is =
                let one : found.0.rec ≡ rec = record_is key entries found.0 rec found.1 at_key in
                let kept = found_holds (λ e. IsKept ops fraction is_value q.config.hz e.rec) (λ e. e.key == key) entries found.0 is.kept found.1 in
                gives q.config.hz found.0.id (subst (λ rec. spacings_of ops q.config.hz rec.info ≡ Ok rec.spacings) one kept.spacings)
                ∙ ap (λ rec. assigned ops q.config.hz (client_of found.0.id rec) params t floor) (sym one)
                ∙ ap (λ t. assigned ops q.config.hz (client_of found.0.id found.0.rec) params t floor) moment
                ∙ ap (assigned ops q.config.hz (client_of found.0.id found.0.rec) params (ops.of_moment at)) same_floor

            -- the slack is that of a request of the client
            slack_is : (assigned_tags : Tags T) (slack : Slack T) → slack ≡ slack_of ops rec.previous assigned_tags t floor → slack ≡ slack_of ops (client_of found.0.id found.0.rec).previous assigned_tags (ops.of_moment at) (share_floor ops (state_of q) (ops.of_moment at))
            slack_is assigned_tags slack left =
                left
                ∙ ap (λ rec. slack_of ops rec.previous assigned_tags t floor) (sym (record_is key entries found.0 rec found.1 at_key))
                ∙ ap (λ t. slack_of ops found.0.rec.previous assigned_tags t floor) moment
                ∙ ap (slack_of ops found.0.rec.previous assigned_tags (ops.of_moment at)) same_floor

            pub tags_out_of_range : tags ≡ None → test ≡ Err Range
            tags_out_of_range h = no_tags ops (state_of q) id params (ops.of_moment at) (client_of found.0.id found.0.rec) known room whole_is.amount whole_is.is (can_is ∙ can) (ap in_range (sym h) ∙ assigned_is)

            brings : (assigned_tags : Tags T) (slack : Slack T) → tags ≡ Some assigned_tags → slack ≡ slack_of ops rec.previous assigned_tags t floor → Brings ops (state_of q) id params at (record { key = key; shift = shift; tags = assigned_tags; slack = slack })
            brings assigned_tags slack h left = record {
              full = whole_is.amount;
              test =
                  allowed ops (state_of q) id params (ops.of_moment at) (client_of found.0.id found.0.rec) known room whole_is.amount whole_is.is (can_is ∙ can) assigned_tags (ap in_range (sym h) ∙ assigned_is)
                  ∙ ap (λ slack. Ok (record { shift = whole_is.amount; tags = assigned_tags; slack = slack })) (sym (slack_is assigned_tags slack left));
              shift = whole_is.left;
            }

            -- the tests passed but for that of the limit
            pub is_tagged : (assigned_tags : Tags T) (slack : Slack T) → tags ≡ Some assigned_tags → slack ≡ slack_of ops rec.previous assigned_tags t floor → NotBelow ops slack → IfSome tags (AreNext ops rec.info rec.previous) → is_value (fraction assigned_tags.p) →
                IsTagged ops fraction is_value q id params at (record { key = key; shift = shift; tags = assigned_tags; slack = slack })
            is_tagged assigned_tags slack h left not_below follows value =
                let counted = is.counted in
                let tests = brings assigned_tags slack h left in
                let next = if_holds (AreNext ops rec.info rec.previous) tags assigned_tags h follows in
                let of_key = λ (P : Rec T → Type 0) (holds : P rec). subst (λ o. IfSome o P) (sym at_key) holds in
                let same = record_is key entries found.0 rec found.1 at_key in
                let comes = idle_where_shifted ops q.config.shares (clients_in entries) (client_of found.0.id found.0.rec) (ops.of_moment at) shift (sym e ∙ shift_is) in
                record {
                  tests = tests;
                  added = added_is id params at (record { key = key; shift = shift; tags = assigned_tags; slack = slack }) tests;
                  fits = record {
                    key = entry;
                    held = held;
                    next = of_key (λ rec. AreNext ops rec.info rec.previous assigned_tags) next;
                    slack = not_below;
                    idle = λ some. of_key (λ rec. rec.idle ≡ true) (ap (λ rec. rec.idle) (sym same) ∙ comes some);
                    shiftable = can;
                    value = value;
                    room = subst (λ n. n < max_requests) counted below;
                  };
                }
