-- Ranks of tick tags as numbers.
use Rattle.std.specs.Prelude.{◌≡◌, ℕ, Bool, true, false, ◌+◌, ◌-◌, ◌*◌, ◌/◌, ◌%◌, ◌^◌, ◌<◌, ◌≤◌, ℤ, pos, ◌+ℤ◌, ◌-ℤ◌, unsigned_abs, nat_le, not, Option, Some, None, if◌then◌else◌}
use Rattle.std.proofs.Common.{refl, ap, sym, ◌∙◌, arith}
use Rattle.std.proofs.lemmas.Bool.{leb-true, leb-false, le-leb, lt-leb}
use Rattle.std.proofs.lemmas.Int.{ints}
use Rattle.std.proofs.lemmas.Nat.{div-mul-add, mod-mul-add, div-add-mod'}
use Rattle.dmc_types.specs.declared.ids.ClientId.{ClientId}
use Rattle.dmc_tag.specs.declared.rank.TagRank.{TagRank}
use Rattle.dmc_tag.specs.declared.rank.LimitRank.{LimitRank}
use Rattle.dmc_tag.specs.declared.rank.ReadyRank.{ReadyRank}
use Rattle.dmc_tick.specs.Tick.{greatest}
use Rattle.dmc_tick.specs.Words.{word, raised}

-- above every client
abbrev pub clients : ℕ
clients = 2 ^ 32

-- above every tag plus 2^90
abbrev pub tags : ℕ
tags = 2 ^ 92

abbrev pub marked : Bool → ℕ
marked mark = if mark then tags else 0

-- the number of a limit rank: its mark, which counts if it is ready, then its tag plus 2^90, and then its client
abbrev pub rank_number : Bool → ℕ → ℕ → ℕ
rank_number mark raised client = (marked mark + raised) * clients + client

-- ---- the rank that a number stores, and the number of a rank

abbrev pub client_in : ℕ → ClientId
client_in n = record { 0 = n % clients }

abbrev pub raised_in : ℕ → ℕ
raised_in n = n / clients % tags

abbrev pub mark_in : ℕ → Bool
mark_in n = nat_le tags (n / clients)

abbrev pub limit_rank_in : ℕ → LimitRank ℤ
limit_rank_in n = record { tag = pos (raised_in n) -ℤ pos greatest; client = client_in n; ready = mark_in n }

abbrev pub number_of : LimitRank ℤ → ℕ
number_of p = rank_number p.ready (unsigned_abs (p.tag +ℤ pos greatest)) p.client.0

-- the number is that of a rank, and its tag is a tick tag
pub record IsRankNumber (n : ℕ) : Type 0 where
  pub bound : n < 2 ^ 125
  pub tag : raised_in n ≤ 2 * greatest

pub record IsPacked (high low : ℕ) : Type 0 where
  pub low_fits : low < word
  pub number : IsRankNumber (raised high low)

-- ---- the number of a rank stores this rank

mod_small : (u t : ℕ) → u < t → u % t ≡ u
mod_small u t below = ap (λ n. n % t) (omega arith) ∙ mod-mul-add 0 t u below

mod_once : (u t : ℕ) → u < t → (t + u) % t ≡ u
mod_once u t below = ap (λ n. n % t) (omega arith) ∙ mod-mul-add 1 t u below

upper_of : (mark : Bool) (r c : ℕ) → c < clients → rank_number mark r c / clients ≡ marked mark + r
upper_of mark r c fits = div-mul-add (marked mark + r) clients c fits

client_of : (mark : Bool) (r c : ℕ) → c < clients → rank_number mark r c % clients ≡ c
client_of mark r c fits = mod-mul-add (marked mark + r) clients c fits

nothing_more : (r : ℕ) → 0 + r ≡ r
nothing_more r = omega arith

raised_marked : (mark : Bool) (r : ℕ) → r < tags → (marked mark + r) % tags ≡ r
raised_marked true r below = mod_once r tags below
raised_marked false r below = ap (λ n. n % tags) (nothing_more r) ∙ mod_small r tags below

mark_marked : (mark : Bool) (r : ℕ) → r < tags → nat_le tags (marked mark + r) ≡ mark
mark_marked true r below = le-leb tags (tags + r) (omega arith)
mark_marked false r below = ap (λ n. nat_le tags n) (nothing_more r) ∙ lt-leb tags r below

pub raised_of : (mark : Bool) (r c : ℕ) → r < tags → c < clients → raised_in (rank_number mark r c) ≡ r
raised_of mark r c below fits = ap (λ n. n % tags) (upper_of mark r c fits) ∙ raised_marked mark r below

pub mark_of : (mark : Bool) (r c : ℕ) → r < tags → c < clients → mark_in (rank_number mark r c) ≡ mark
mark_of mark r c below fits = ap (λ n. nat_le tags n) (upper_of mark r c fits) ∙ mark_marked mark r below

lowered : (z : ℤ) (r : ℕ) → pos r ≡ z +ℤ pos greatest → pos r -ℤ pos greatest ≡ z
lowered z r is = omega (arith, ints, is)

pub rank_of_number : (mark : Bool) (z : ℤ) (r : ℕ) (client : ClientId) → pos r ≡ z +ℤ pos greatest → r ≤ 2 * greatest → client.0 < clients →
    limit_rank_in (rank_number mark r client.0) ≡ record { tag = z; client = client; ready = mark }
rank_of_number mark z r client is bound fits =
    let tag = ap (λ n. pos n -ℤ pos greatest) (raised_of mark r client.0 (omega arith) fits) ∙ lowered z r is in
    λ i. record { tag = tag i; client = record { 0 = client_of mark r client.0 fits i }; ready = mark_of mark r client.0 (omega arith) fits i }

-- ---- a rank's number is the number of the rank that it stores

upper_at : (u : ℕ) → u < tags + tags → (b : Bool) → nat_le tags u ≡ b → marked b + u % tags ≡ u
upper_at u bound true is =
    let upto = leb-true tags u is in
    let whole : tags + (u - tags) ≡ u = omega (arith, upto) in
    ap (λ n. tags + n % tags) (sym whole) ∙ ap (λ n. tags + n) (mod_once (u - tags) tags (omega (arith, upto))) ∙ whole
upper_at u bound false is = nothing_more (u % tags) ∙ mod_small u tags (leb-false tags u is)

pub upper_split : (u : ℕ) → u < tags + tags → marked (nat_le tags u) + u % tags ≡ u
upper_split u bound = upper_at u bound (nat_le tags u) refl

raise : (r : ℕ) → unsigned_abs (pos r -ℤ pos greatest +ℤ pos greatest) ≡ r
raise r = omega (arith, ints)

pub number_is : (n : ℕ) → n < 2 ^ 125 → number_of (limit_rank_in n) ≡ n
number_is n bound =
    ap (λ r. rank_number (mark_in n) r (n % clients)) (raise (raised_in n))
    ∙ ap (λ u. u * clients + n % clients) (upper_split (n / clients) (omega (arith, div-add-mod' n clients)))
    ∙ div-add-mod' n clients

pub high_is : (high low : ℕ) → low < word → IsRankNumber (raised high low) → number_of (limit_rank_in (raised high low)) / word ≡ high
high_is high low fits is = ap (λ n. n / word) (number_is (raised high low) is.bound) ∙ div-mul-add high word low fits

pub low_is : (high low : ℕ) → low < word → IsRankNumber (raised high low) → number_of (limit_rank_in (raised high low)) % word ≡ low
low_is high low fits is = ap (λ n. n % word) (number_is (raised high low) is.bound) ∙ mod-mul-add high word low fits

-- ---- a ready rank as the limit rank with the other mark

abbrev pub to_turned : ReadyRank ℤ → LimitRank ℤ
to_turned rank = record { tag = rank.tag; client = rank.client; ready = not rank.ready }

abbrev pub of_turned : LimitRank ℤ → ReadyRank ℤ
of_turned rank = record { tag = rank.tag; client = rank.client; ready = not rank.ready }

not_twice : (b : Bool) → not (not b) ≡ b
not_twice true = refl
not_twice false = refl

pub turned_is : (rank : LimitRank ℤ) → to_turned (of_turned rank) ≡ rank
turned_is rank = ap (λ b. record rank { ready = b }) (not_twice rank.ready)

-- ---- a tag rank as a limit rank that is marked if the tag is absent, and then has the tag 0

abbrev tag_of : LimitRank ℤ → Bool → Option ℤ
tag_of rank true = None
tag_of rank false = Some rank.tag

abbrev pub absent_if_marked : LimitRank ℤ → TagRank ℤ
absent_if_marked rank = record { tag = tag_of rank rank.ready; client = rank.client }

abbrev with_tag : Option ℤ → ClientId → LimitRank ℤ
with_tag None client = record { tag = pos 0; client = client; ready = true }
with_tag (Some tag) client = record { tag = tag; client = client; ready = false }

abbrev pub marked_if_absent : TagRank ℤ → LimitRank ℤ
marked_if_absent rank = with_tag rank.tag rank.client

abbrev pub IsTagged : LimitRank ℤ → Type 0
IsTagged rank = rank.ready ≡ true → rank.tag ≡ pos 0

tagged_at : (tag : ℤ) (client : ClientId) (ready : Bool) → (ready ≡ true → tag ≡ pos 0) → marked_if_absent (absent_if_marked (record { tag = tag; client = client; ready = ready })) ≡ record { tag = tag; client = client; ready = ready }
tagged_at tag client true zero = ap (λ t. record { tag = t; client = client; ready = true }) (sym (zero refl))
tagged_at tag client false zero = refl

pub tagged_is : (rank : LimitRank ℤ) → IsTagged rank → marked_if_absent (absent_if_marked rank) ≡ rank
tagged_is rank zero = tagged_at rank.tag rank.client rank.ready zero
