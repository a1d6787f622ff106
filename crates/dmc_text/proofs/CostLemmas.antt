-- The words of a cost: how long they are, and that they are read again.
use Rattle.std.proofs.Common.{◌≡◌, ℕ, ◌+◌, ◌^◌, ◌<◌, Bool, true, false, cond, eqb, List, [], ◌∷◌, ◌++◌, length, append-nil, refl, sym, ap, ◌∙◌, arith, Option, Some, None, Ok, Err}
use Rattle.std.specs.Prelude.{codes}
use Rattle.std.specs.Fmt.{decimal}
use Rattle.dmc_text.specs.declared.cause.LineCause.TheVariants.{Words}
use Rattle.dmc_text.specs.Commands.{cost_behind}
use Rattle.dmc_text.specs.Replies.{cost_words, beyond_behind}
use Rattle.dmc_text.specs.RoundTrip.{AreWords, begins_with_cost}
use Rattle.dmc_text.proofs.LineWords.{given, shorter, and_more, both_some, small_word}

-- the word of a cost, if it is written
abbrev pub word_of : ℕ → Option (List ℕ)
word_of cost = cond (eqb cost 1) None (Some (decimal cost))

-- ---- reading

-- words that don't begin with `cost` are left
left_all : (ws : List (List ℕ)) → begins_with_cost ws ≡ false → cost_behind ws ≡ Ok (None, ws)
left_all [] h = refl
left_all (w ∷ []) h = ap (λ b. cond b (Err Words) (Ok (None, w ∷ []))) h
left_all (w ∷ n ∷ ws) h = ap (λ b. cond b (Ok (Some n, ws)) (Ok (None, w ∷ n ∷ ws))) h

behind_by : (cost : ℕ) (ws : List (List ℕ)) (one : Bool) → eqb cost 1 ≡ one → begins_with_cost ws ≡ false → cost_behind (cost_words cost ++ ws) ≡ Ok (word_of cost, ws)
behind_by cost ws true e h = rw e (left_all ws h)
behind_by cost ws false e h = rw e refl

-- the words of a cost, and others behind them
pub cost_again : (cost : ℕ) (ws : List (List ℕ)) → begins_with_cost ws ≡ false → cost_behind (cost_words cost ++ ws) ≡ Ok (word_of cost, ws)
cost_again cost ws h = behind_by cost ws (eqb cost 1) refl h

pub cost_last : (cost : ℕ) → cost_behind (cost_words cost) ≡ Ok (word_of cost, [])
cost_last cost = ap cost_behind (sym (append-nil (cost_words cost))) ∙ cost_again cost [] refl

no_beyond_by : (cost : ℕ) (one : Bool) → eqb cost 1 ≡ one → beyond_behind (cost_words cost) ≡ (false, cost_words cost)
no_beyond_by cost true e = rw e refl
no_beyond_by cost false e = rw e refl

-- they do not begin with `beyond`
pub no_beyond : (cost : ℕ) → beyond_behind (cost_words cost) ≡ (false, cost_words cost)
no_beyond cost = no_beyond_by cost (eqb cost 1) refl

-- ---- their length

with_cost_by : (most cost : ℕ) (ws : List (List ℕ)) (one : Bool) → eqb cost 1 ≡ one → 0 < length ws → cost < 2 ^ 32 → AreWords most ws → AreWords (most + 16) (ws ++ cost_words cost)
with_cost_by most cost ws true e some h a = rw (e, append-nil ws) (shorter most (most + 16) a (omega arith))
with_cost_by most cost ws false e some h a =
    let words : AreWords 15 (codes "cost" ∷ decimal cost ∷ []) = and_more 4 10 (given 4 (codes "cost" ∷ []) refl refl refl) (small_word cost h) in
    rw e (shorter (most + 1 + 15) (most + 16) (both_some most 15 ws (codes "cost" ∷ decimal cost ∷ []) some (omega arith) a words) (omega arith))

-- the words of a cost behind others
pub with_cost : (most cost : ℕ) (ws : List (List ℕ)) → 0 < length ws → cost < 2 ^ 32 → AreWords most ws → AreWords (most + 16) (ws ++ cost_words cost)
with_cost most cost ws some h a = with_cost_by most cost ws (eqb cost 1) refl some h a
