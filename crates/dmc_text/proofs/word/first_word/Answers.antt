-- Behind the spaces in front, the text begins with its first word.
use Rattle.std.proofs.Common.{◌≡◌, ◌-◌, ◌≤◌, length, take, drop, length-drop, arith, sym, unwrap_or, position}
use Rattle.std.proofs.lemmas.List.{take_all}
use Rattle.dmc_text.specs.Words.{is_space}
use Rattle.dmc_text.proofs.WordLemmas.{no_word, a_word_at}
use Rattle.dmc_text.proofs.word.first_word.Goals as goal

pub returns-in_err-text : goal.returns-in_err-text
returns-in_err-text c =
    let none = no_word c.args.text.now (sym c.in_err-text.ensures) in
    rw c.from_residual.ensures none

pub returns : goal.returns
returns c =
    let text = c.args.text.now in
    let i = c.in_ok-text.field-0 in
    let ys = take (length text - i) (drop i text) in
    let whole : length (drop i text) ≤ length text - i = omega (arith, length-drop i text) in
    let place = c.first_of.ensures in
    let j-is : c.unwrap_or-end.result ≡ unwrap_or (position is_space ys) (length ys) = cc in
    a_word_at text i c.unwrap_or-end.result ys c.split_at.result.0.now c.split_at.result.1.now c.in_ok-text.ensures (take_all (length text - i) (drop i text) whole) j-is c.split_at.ensures.front c.split_at.ensures.back
