-- What the scans for the best find, whatever the order is.
use Rattle.std.proofs.Common.{◌≡◌, Bool, true, false, not, cond, List, [], ◌∷◌, ◌++◌, Option, Some, None, refl, sym, ap, ◌∙◌, subst}
use Rattle.std.specs.Prelude.{if◌then◌else◌}
use Rattle.std.specs.Option.{option_map, option_map_or}
use Rattle.std.specs.List.{AllByRecursion}
use Rattle.dmc_types.specs.declared.ids.ClientId.{ClientId}
use Rattle.dmc_tag.specs.State.{PlainClient, queued_requests}
use Rattle.dmc_tag.specs.Best.{Found, found_in, best, better, is_below, is_before, best_of_one, best_of_all, better_found, IsBest, IsBestOfAll, HasNone}
use Rattle.dmc_tag.specs.declared.plain.QueuedRequest.{QueuedRequest}
use Rattle.dmc_tag.specs.Tag.{Tagging}
use Rattle.dmc_lemmas.proofs.Lists.{all_append, all_first, all_second}

-- ---- the scan of one client's requests

first_is : {R : Type 0} (x : R) (xs : List R) (y : R) (ys : List R) → ◌≡◌ {A = Option (R × List R)} (Some (x, xs)) (Some (y, ys)) → x ≡ y
first_is x xs y ys e = ap (λ o. option_map_or (λ p. p.0) o x) e

module _ {R : Type 0} (before : R → R → Bool) (member : R → Bool) where
  -- what holds of each member holds of the one that is found
  pub found_has : (P : R → Type 0) (xs : List R) (r : R) (others : List R) → AllByRecursion (λ x. member x ≡ true → P x) xs → best before member xs ≡ Some (r, others) → P r
  found_has P [] r others h e = cc
  found_has P (x ∷ xs) r others h e = by (member x) refl (best before member xs) (λ y ys o. found_has P xs y ys h.1 o) e where
    by : (m : Bool) → member x ≡ m → (o : Option (R × List R)) → ((y : R) (ys : List R) → o ≡ Some (y, ys) → P y) → better before m x xs o ≡ Some (r, others) → P r
    by true m None more e = subst P (first_is x xs r others e) (h.0 m)
    by false m None more e = cc
    by true m (Some (y, ys)) more e = at (before y x) e where
      at : (b : Bool) → cond {A = Option (R × List R)} (not b) (Some (x, xs)) (Some (y, x ∷ ys)) ≡ Some (r, others) → P r
      at true e = subst P (first_is y (x ∷ ys) r others e) (more y ys refl)
      at false e = subst P (first_is x xs r others e) (h.0 m)
    by false m (Some (y, ys)) more e = subst P (first_is y (x ∷ ys) r others e) (more y ys refl)

  -- nothing is found if no request is a member
  pub none_found : (xs : List R) → HasNone member xs → best before member xs ≡ None
  none_found [] h = refl
  none_found (x ∷ xs) h = ap (λ b. better before b x xs (best before member xs)) h.0 ∙ ap (better before false x xs) (none_found xs h.1)

  -- and no request is a member if nothing is found
  pub not_found : (xs : List R) → best before member xs ≡ None → HasNone member xs
  not_found [] e = tt
  not_found (x ∷ xs) e = by (member x) refl (best before member xs) (not_found xs) e where
    by : (m : Bool) → member x ≡ m → (o : Option (R × List R)) → (o ≡ None → HasNone member xs) → better before m x xs o ≡ None → HasNone member (x ∷ xs)
    by true m None more e = cc
    by false m None more e = (m, more refl)
    by false m (Some (y, ys)) more e = cc
    by true m (Some (y, ys)) more e = at (before y x) e where
      at : (b : Bool) → cond {A = Option (R × List R)} (not b) (Some (x, xs)) (Some (y, x ∷ ys)) ≡ None → HasNone member (x ∷ xs)
      at true e = cc
      at false e = cc

  -- the best is found
  best_found : (front back : List R) (r : R) → member r ≡ true → AllByRecursion (λ x. member x ≡ true → before r x ≡ true) front → AllByRecursion (λ x. member x ≡ true → before x r ≡ false) back → best before member (front ++ r ∷ back) ≡ Some (r, front ++ back)
  best_found [] back r m ahead behind =
      ap (λ b. better before b r back (best before member back)) m
      ∙ by (best before member back) (λ y ys e. found_has (λ x. before x r ≡ false) back y ys behind e) where
        by : (o : Option (R × List R)) → ((y : R) (ys : List R) → o ≡ Some (y, ys) → before y r ≡ false) → better before true r back o ≡ Some (r, back)
        by None h = refl
        by (Some (y, ys)) h = ap (λ b. if not b then Some (r, back) else Some (y, r ∷ ys)) (h y ys refl)
  best_found (x ∷ front) back r m ahead behind = ap (better before (member x) x (front ++ r ∷ back)) (best_found front back r m ahead.1 behind) ∙ by (member x) ahead.0 where
    by : (b : Bool) → (b ≡ true → before r x ≡ true) → better before b x (front ++ r ∷ back) (Some (r, front ++ back)) ≡ Some (r, x ∷ front ++ back)
    by true h = ap (λ b. if not b then Some (x, front ++ r ∷ back) else Some (r, x ∷ front ++ back)) (h refl)
    by false h = refl

  pub best_is_found : (xs others : List R) (r : R) → IsBest before member xs r others → best before member xs ≡ Some (r, others)
  best_is_found xs others r b = ap (best before member) b.whole ∙ best_found b.front b.back r b.is_member b.ahead b.behind ∙ ap (λ ys. Some (r, ys)) (sym b.rest)

-- ---- the scan of all clients

module _ {T : Type 0} (ops : Tagging T) (tag : QueuedRequest T → Option T) (member : QueuedRequest T → Bool) where
  abbrev one : PlainClient T → Option (Found T)
  one c = best_of_one ops tag member c

  one_has : (P : QueuedRequest T → Type 0) (c : PlainClient T) (found : Found T) → AllByRecursion (λ x. member x ≡ true → P x) c.requests → one c ≡ Some found → (found.client ≡ c) × P found.request
  one_has P c found h e = by (best (is_below ops tag) member c.requests) refl e where
    by : (o : Option (QueuedRequest T × List (QueuedRequest T))) → best (is_below ops tag) member c.requests ≡ o → option_map (found_in c) o ≡ Some found → (found.client ≡ c) × P found.request
    by None o e = cc
    by (Some (r, others)) o e =
        let same : found_in c (r, others) ≡ found = cc (e) in
        (sym (ap (λ f. f.client) same), subst (λ f. P f.request) same (found_has (is_below ops tag) member P c.requests r others h o))

  -- what holds of each member holds of the one that is found
  pub all_found_has : (P : ClientId → QueuedRequest T → Type 0) (clients : List (PlainClient T)) (found : Found T) → AllByRecursion (λ c. AllByRecursion (λ x. member x ≡ true → P c.id x) c.requests) clients → best_of_all ops tag member clients ≡ Some found → P found.client.id found.request
  all_found_has P [] found h e = cc
  all_found_has P (c ∷ clients) found h e = by (one c) own (best_of_all ops tag member clients) (λ g y. all_found_has P clients g h.1 y) e where
    own : (x : Found T) → one c ≡ Some x → P x.client.id x.request
    own x o = let has = one_has (P c.id) c x h.0 o in subst (λ id. P id x.request) (sym (ap (λ c. c.id) has.0)) has.1

    by : (x : Option (Found T)) → ((f : Found T) → x ≡ Some f → P f.client.id f.request) → (y : Option (Found T)) → ((g : Found T) → y ≡ Some g → P g.client.id g.request) → better_found ops tag x y ≡ Some found → P found.client.id found.request
    by None first None later e = cc
    by None first (Some g) later e = let same : g ≡ found = cc (e) in subst (λ f. P f.client.id f.request) same (later g refl)
    by (Some f) first None later e = let same : f ≡ found = cc (e) in subst (λ f. P f.client.id f.request) same (first f refl)
    by (Some f) first (Some g) later e = at (is_before ops tag g.client.id g.request f.client.id f.request) e where
      at : (b : Bool) → (if b then Some g else Some f) ≡ Some found → P found.client.id found.request
      at true e = let same : g ≡ found = cc (e) in subst (λ f. P f.client.id f.request) same (later g refl)
      at false e = let same : f ≡ found = cc (e) in subst (λ f. P f.client.id f.request) same (first f refl)

  -- nothing is found if no request is a member
  pub none_of_all : (clients : List (PlainClient T)) → HasNone member (queued_requests clients) → best_of_all ops tag member clients ≡ None
  none_of_all [] h = refl
  none_of_all (c ∷ clients) h =
      ap (λ o. better_found ops tag (option_map (found_in c) o) (best_of_all ops tag member clients)) (none_found (is_below ops tag) member c.requests (all_first _ c.requests (queued_requests clients) h))
      ∙ none_of_all clients (all_second _ c.requests (queued_requests clients) h)

  pub not_found_has_none : (clients : List (PlainClient T)) → best_of_all ops tag member clients ≡ None → HasNone member (queued_requests clients)
  not_found_has_none [] e = tt
  not_found_has_none (c ∷ clients) e = by (best (is_below ops tag) member c.requests) refl (best_of_all ops tag member clients) (not_found_has_none clients) e where
    by : (x : Option (QueuedRequest T × List (QueuedRequest T))) → best (is_below ops tag) member c.requests ≡ x → (y : Option (Found T)) → (y ≡ None → HasNone member (queued_requests clients)) → better_found ops tag (option_map (found_in c) x) y ≡ None → HasNone member (c.requests ++ queued_requests clients)
    by None x None y e = all_append (λ r. member r ≡ false) c.requests (queued_requests clients) (not_found (is_below ops tag) member c.requests x) (y refl)
    by None x (Some f) y e = cc
    by (Some p) x None y e = cc
    by (Some p) x (Some f) y e = at (is_before ops tag f.client.id f.request c.id p.0) e where
      at : (b : Bool) → (if b then Some f else Some (found_in c p)) ≡ None → HasNone member (c.requests ++ queued_requests clients)
      at true e = cc
      at false e = cc

  module _ (found : Found T) (own : one found.client ≡ Some found) where
    all_found : (front back : List (PlainClient T)) → AllByRecursion (λ c. AllByRecursion (λ x. member x ≡ true → is_before ops tag found.client.id found.request c.id x ≡ true) c.requests) front
        → AllByRecursion (λ c. AllByRecursion (λ x. member x ≡ true → is_before ops tag c.id x found.client.id found.request ≡ false) c.requests) back → best_of_all ops tag member (front ++ found.client ∷ back) ≡ Some found
    all_found [] back ahead behind =
        ap (λ o. better_found ops tag o (best_of_all ops tag member back)) own
        ∙ by (best_of_all ops tag member back) (λ y e. all_found_has (λ id x. is_before ops tag id x found.client.id found.request ≡ false) back y behind e) where
          by : (o : Option (Found T)) → ((y : Found T) → o ≡ Some y → is_before ops tag y.client.id y.request found.client.id found.request ≡ false) → better_found ops tag (Some found) o ≡ Some found
          by None h = refl
          by (Some y) h = ap (λ b. if b then Some y else Some found) (h y refl)
    all_found (c ∷ front) back ahead behind =
        ap (better_found ops tag (one c)) (all_found front back ahead.1 behind)
        ∙ by (one c) (λ x e. let has = one_has (λ x. is_before ops tag found.client.id found.request c.id x ≡ true) c x ahead.0 e in subst (λ c. is_before ops tag found.client.id found.request c.id x.request ≡ true) (sym has.0) has.1) where
          by : (o : Option (Found T)) → ((x : Found T) → o ≡ Some x → is_before ops tag found.client.id found.request x.client.id x.request ≡ true) → better_found ops tag o (Some found) ≡ Some found
          by None h = refl
          by (Some x) h = ap (λ b. if b then Some found else Some x) (h x refl)

  -- the best of all is found
  pub best_of_all_is_found : (clients : List (PlainClient T)) (found : Found T) → IsBestOfAll ops tag member clients found → best_of_all ops tag member clients ≡ Some found
  best_of_all_is_found clients found b =
      let own : one found.client ≡ Some found = ap (option_map (found_in found.client)) (best_is_found (is_below ops tag) member found.client.requests found.others found.request b.own) in
      ap (best_of_all ops tag member) b.whole ∙ all_found found own b.front b.back b.ahead b.behind
