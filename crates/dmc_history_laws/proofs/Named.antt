-- One client's record among those of all: what is found of it after a change of the clients.
use Rattle.std.proofs.Common.{◌≡◌, Bool, true, false, cond, List, [], ◌∷◌, ◌++◌, map, Option, Some, None, refl, sym, ap, ◌∙◌}
use Rattle.std.specs.Prelude.{filter, if◌then◌else◌}
use Rattle.std.specs.List.{AllByRecursion}
use Rattle.std.specs.Option.{option_map, option_and_then}
use Rattle.std.proofs.lemmas.Bool.{false_from_ne_true}
use Rattle.dmc_types.specs.declared.ids.ClientId.{ClientId}
use Rattle.dmc_tag.specs.State.{PlainClient, is_client, client_named}
use Rattle.dmc_tag.specs.Rules.{change_client}
use Rattle.dmc_lemmas.proofs.Lists.{found_passes}
use Rattle.dmc_history_laws.proofs.Basics.{same_id, both_id}
use Rattle.dmc_history_laws.proofs.Pairs.{AreDistinct, Differ}

module _ {T : Type 0} (id : ClientId) where
  -- ---- a change of each client

  pub named_mapped : (f : PlainClient T → PlainClient T) → ((c : PlainClient T) → (f c).id ≡ c.id) → (clients : List (PlainClient T)) → client_named id (map f clients) ≡ option_map f (client_named id clients)
  named_mapped f ids [] = refl
  named_mapped f ids (c ∷ clients) = ap (λ b. cond b (Some (f c)) (client_named id (map f clients))) (ap (is_client id) (ids c)) ∙ at (is_client id c.id) (named_mapped f ids clients) where
    at : (b : Bool) → client_named id (map f clients) ≡ option_map f (client_named id clients) → cond b (Some (f c)) (client_named id (map f clients)) ≡ option_map f (cond b (Some c) (client_named id clients))
    at true more = refl
    at false more = more

  -- ---- a change of one client

  changed : (client : ClientId) (f : PlainClient T → PlainClient T) → ((c : PlainClient T) → is_client client c.id ≡ true → (f c).id ≡ c.id) → (c : PlainClient T) → (if is_client client c.id then f c else c).id ≡ c.id
  changed client f ids c = at (is_client client c.id) refl where
    at : (b : Bool) → is_client client c.id ≡ b → (if b then f c else c).id ≡ c.id
    at true e = ids c e
    at false e = refl

  -- it is changed
  pub named_own : (client : ClientId) (f : PlainClient T → PlainClient T) → ((c : PlainClient T) → is_client client c.id ≡ true → (f c).id ≡ c.id) → is_client id client ≡ true → (clients : List (PlainClient T)) (c : PlainClient T) → client_named id clients ≡ Some c → client_named id (change_client client f clients) ≡ Some (f c)
  named_own client f ids own clients c named =
      let mine : is_client client c.id ≡ true = both_id id client c.id own (found_passes (λ d. is_client id d.id) clients c named) in
      named_mapped (λ c. if is_client client c.id then f c else c) (changed client f ids) clients
      ∙ ap (option_map (λ c. if is_client client c.id then f c else c)) named
      ∙ ap (λ b. Some (if b then f c else c)) mine

  -- another is
  pub named_other : (client : ClientId) (f : PlainClient T → PlainClient T) → ((c : PlainClient T) → is_client client c.id ≡ true → (f c).id ≡ c.id) → is_client id client ≡ false → (clients : List (PlainClient T)) → client_named id (change_client client f clients) ≡ client_named id clients
  named_other client f ids other clients = named_mapped (λ c. if is_client client c.id then f c else c) (changed client f ids) clients ∙ at (client_named id clients) refl where
    at : (o : Option (PlainClient T)) → client_named id clients ≡ o → option_map (λ c. if is_client client c.id then f c else c) o ≡ o
    at None e = refl
    at (Some c) e =
        let not_so : is_client client c.id ≡ false = false_from_ne_true _ (λ t. let own = same_id id c.id client (found_passes (λ d. is_client id d.id) clients c e) t in cc) in
        ap (λ b. Some (if b then f c else c)) not_so

  -- ---- one client more

  pub named_next : (clients : List (PlainClient T)) (c : PlainClient T) → is_client id c.id ≡ true → client_named id clients ≡ None → client_named id (clients ++ c ∷ []) ≡ Some c
  named_next [] c own e = ap (λ b. cond b (Some c) None) own
  named_next (d ∷ clients) c own e = at (is_client id d.id) e (named_next clients c own) where
    at : (b : Bool) → cond b (Some d) (client_named id clients) ≡ None → (client_named id clients ≡ None → client_named id (clients ++ c ∷ []) ≡ Some c) → cond b (Some d) (client_named id (clients ++ c ∷ [])) ≡ Some c
    at true e more = cc
    at false e more = more e

  pub named_before : (clients : List (PlainClient T)) (c : PlainClient T) → is_client id c.id ≡ false → client_named id (clients ++ c ∷ []) ≡ client_named id clients
  named_before [] c other = ap (λ b. cond b (Some c) None) other
  named_before (d ∷ clients) c other = ap (λ o. cond (is_client id d.id) (Some d) o) (named_before clients c other)

  -- ---- clients are taken out

  -- none of these has the id
  none_named : (c : PlainClient T) → is_client id c.id ≡ true → (clients : List (PlainClient T)) → AllByRecursion (Differ c) clients → client_named id clients ≡ None
  none_named c own [] h = refl
  none_named c own (d ∷ clients) h =
      let not_so : is_client id d.id ≡ false = false_from_ne_true _ (λ t. let same = both_id id c.id d.id own t in let apart = h.0 in cc) in
      ap (λ b. cond b (Some d) (client_named id clients)) not_so ∙ none_named c own clients h.1

  none_kept : (keep : PlainClient T → Bool) (clients : List (PlainClient T)) → client_named id clients ≡ None → client_named id (filter keep clients) ≡ None
  none_kept keep [] e = refl
  none_kept keep (c ∷ clients) e = at (is_client id c.id) refl e (keep c) (none_kept keep clients) where
    at : (b : Bool) → is_client id c.id ≡ b → cond b (Some c) (client_named id clients) ≡ None → (k : Bool) → (client_named id clients ≡ None → client_named id (filter keep clients) ≡ None) → client_named id (cond k (c ∷ filter keep clients) (filter keep clients)) ≡ None
    at true own e k more = cc
    at false own e true more = ap (λ b. cond b (Some c) (client_named id (filter keep clients))) own ∙ more e
    at false own e false more = more e

  -- it stays if it is kept
  pub named_kept : (keep : PlainClient T → Bool) (clients : List (PlainClient T)) → AreDistinct clients → client_named id (filter keep clients) ≡ option_and_then (λ c. if keep c then Some c else None) (client_named id clients)
  named_kept keep [] h = refl
  named_kept keep (c ∷ clients) h = at (is_client id c.id) refl (keep c) refl (named_kept keep clients h.1) where
    at : (b : Bool) → is_client id c.id ≡ b → (k : Bool) → keep c ≡ k → client_named id (filter keep clients) ≡ option_and_then (λ d. if keep d then Some d else None) (client_named id clients) → client_named id (cond k (c ∷ filter keep clients) (filter keep clients)) ≡ option_and_then (λ d. if keep d then Some d else None) (cond b (Some c) (client_named id clients))
    at true own true k more = ap (λ b. cond b (Some c) (client_named id (filter keep clients))) own ∙ sym (ap (λ b. if b then Some c else None) k)
    at true own false k more = none_kept keep clients (none_named c own clients h.0) ∙ sym (ap (λ b. if b then Some c else None) k)
    at false own true k more = ap (λ b. cond b (Some c) (client_named id (filter keep clients))) own ∙ more
    at false own false k more = more

  -- ---- where it is

  pub named_at : (front : List (PlainClient T)) (c : PlainClient T) (back : List (PlainClient T)) → AreDistinct (front ++ c ∷ back) → is_client id c.id ≡ true → client_named id (front ++ c ∷ back) ≡ Some c
  named_at [] c back h own = ap (λ b. cond b (Some c) (client_named id back)) own
  named_at (d ∷ front) c back h own =
      let not_so : is_client id d.id ≡ false = false_from_ne_true _ (λ t. let same = both_id id d.id c.id t own in let apart = later front h.0 in cc) in
      ap (λ b. cond b (Some d) (client_named id (front ++ c ∷ back))) not_so ∙ named_at front c back h.1 own
    where
      later : (front : List (PlainClient T)) → AllByRecursion (Differ d) (front ++ c ∷ back) → is_client d.id c.id ≡ false
      later [] k = k.0
      later (e ∷ front) k = later front k.1
