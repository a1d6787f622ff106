-- Lists and histories in parts.
use Rattle.std.proofs.Common.{◌≡◌, ℕ, zero, suc, ◌≤◌, ◌<◌, List, [], ◌∷◌, ◌++◌, map, take, drop, Some, refl, sym, ap, ◌∙◌, subst, arith, append_assoc}
use Rattle.std.specs.Prelude.{slice_get, if◌then◌else◌}
use Rattle.dmc_types.specs.declared.ids.ClientId.{ClientId}
use Rattle.dmc_types.specs.declared.command.Command.{Command}
use Rattle.dmc_types.specs.declared.command.Command.TheVariants.{Register, Update, Add, Pull, Remove, Cancel, Clean}
use Rattle.dmc_tag.specs.declared.event.Event.{Event}
use Rattle.dmc_tag.specs.declared.reply.Reply.{Reply}
use Rattle.dmc_tag.specs.declared.reply.Reply.TheVariants.{Tagged}
use Rattle.dmc_tag.specs.declared.reply.Tags.{Tags}
use Rattle.dmc_history_laws.specs.Bounds.{AllKeep, Arrival, Arrives, Keeps, arrival_of, arrivals}

-- ---- lists

module _ {X : Type 0} where
  pub take_one : (n : ℕ) (xs : List X) (x : X) → slice_get xs n ≡ Some x → take (suc n) xs ≡ take n xs ++ x ∷ []
  take_one n [] x e = cc
  take_one zero (y ∷ xs) x e = let same : y ≡ x = cc in ap (λ z. z ∷ []) same
  take_one (suc n) (y ∷ xs) x e = ap (λ zs. y ∷ zs) (take_one n xs x e)

  pub cut_at : (n : ℕ) (xs : List X) (x : X) → slice_get xs n ≡ Some x → xs ≡ take n xs ++ x ∷ drop (suc n) xs
  cut_at n [] x e = cc
  cut_at zero (y ∷ xs) x e = let same : y ≡ x = cc in ap (λ z. z ∷ xs) same
  cut_at (suc n) (y ∷ xs) x e = ap (λ zs. y ∷ zs) (cut_at n xs x e)

  pub take_both : (n m : ℕ) (xs : List X) → n ≤ m → take n xs ++ drop n (take m xs) ≡ take m xs
  take_both zero m xs h = refl
  take_both (suc n) zero xs h = absurd (omega (arith, h))
  take_both (suc n) (suc m) [] h = refl
  take_both (suc n) (suc m) (x ∷ xs) h = ap (λ zs. x ∷ zs) (take_both n m xs (omega (arith, h)))

  pub earlier : (xs : List X) (n m : ℕ) (x : X) → slice_get xs m ≡ Some x → n ≤ m → (z : X) × (slice_get xs n ≡ Some z)
  earlier [] n m x e h = cc
  earlier (y ∷ xs) zero m x e h = (y, refl)
  earlier (y ∷ xs) (suc n) zero x e h = absurd (omega (arith, h))
  earlier (y ∷ xs) (suc n) (suc m) x e h = earlier xs n m x e (omega (arith, h))

  pub first_mapped : {Y : Type 0} (f : X → Y) (xs : List X) (x : X) → slice_get xs 0 ≡ Some x → slice_get (map f xs) 0 ≡ Some (f x)
  first_mapped f [] x e = cc
  first_mapped f (y ∷ xs) x e = ap (λ z. Some (f z)) (cc (e))

pub arrivals-append : {T : Type 0} (id : ClientId) (xs ys : List (Event T)) → arrivals id (xs ++ ys) ≡ arrivals id xs ++ arrivals id ys
arrivals-append id [] ys = refl
arrivals-append id (x ∷ xs) ys =
    let first = arrival_of id x.command x.reply in
    ap (λ zs. first ++ zs) (arrivals-append id xs ys) ∙ sym (append_assoc first (arrivals id xs) (arrivals id ys))

-- an accepted add is an arrival
pub arrival_is : {T : Type 0} (id : ClientId) (c : Command) (reply : Reply T) (tags : Tags T) → reply ≡ Tagged tags → Arrives id c reply → (a : Arrival) × (arrival_of id c reply ≡ a ∷ [])
arrival_is id c reply tags e arrives = subst (λ r. (a : Arrival) × (arrival_of id c r ≡ a ∷ [])) (sym e) (at c (subst (Arrives id c) e arrives)) where
  at : (c : Command) → Arrives id c (Tagged tags) → (a : Arrival) × (arrival_of id c (Tagged tags) ≡ a ∷ [])
  at (Register client info m) h = absurd h
  at (Update client info m) h = absurd h
  at (Add client token params m) h = (record { token = token; params = params }, ap (λ b. if b then record { token = token; params = params } ∷ [] else []) h)
  at (Pull m) h = absurd h
  at (Remove client) h = absurd h
  at (Cancel client token counting) h = absurd h
  at (Clean m) h = absurd h

-- the event with this number keeps the client's rates
pub kept_at : {T : Type 0} (id : ClientId) (m l n : ℕ) (history : List (Event T)) (e : Event T) → AllKeep id (drop m (take l history)) → m ≤ n → n < l → slice_get history n ≡ Some e → Keeps id e.command e.reply
kept_at id m l n [] e keeps h k here = cc
kept_at id m zero n (x ∷ xs) e keeps h k here = absurd (omega (arith, k))
kept_at id zero (suc l) zero (x ∷ xs) e keeps h k here = let same : x ≡ e = cc in subst (λ z. Keeps id z.command z.reply) same keeps.0
kept_at id zero (suc l) (suc n) (x ∷ xs) e keeps h k here = kept_at id zero l n xs e keeps.1 (omega arith) (omega (arith, k)) here
kept_at id (suc m) (suc l) zero (x ∷ xs) e keeps h k here = absurd (omega (arith, h))
kept_at id (suc m) (suc l) (suc n) (x ∷ xs) e keeps h k here = kept_at id m l n xs e keeps (omega (arith, h)) (omega (arith, k)) here
