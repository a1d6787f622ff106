-- Digit by digit.
use Rattle.std.proofs.Common.{sym, ◌∙◌, arith}
use Rattle.dmc_text.proofs.NumberLemmas.{reads_number, no_number, no_digit, too_much, next_digit, all_read}
use Rattle.dmc_text.proofs.number.read_u128.Goals as goal

pub returns-then-not-is_led : goal.returns-then-not-is_led
returns-then-not-is_led c = no_number _ c.args.word.now (sym c.if-not-is_led.ensures)

pub loop-byte-init : goal.loop-byte-init
loop-byte-init c = reads_number _ c.args.word.now (sym c.if-not-is_led.ensures) (omega arith)

pub returns-then-not-is_ascii_digit : goal.returns-then-not-is_ascii_digit
returns-then-not-is_ascii_digit c = no_digit _ _ _ _ _ c.loop-byte.invariant c.loop-byte-test.true (sym c.if-not-is_ascii_digit.ensures.value)

pub returns-in_err-checked_mul : goal.returns-in_err-checked_mul
returns-in_err-checked_mul c =
    c.from_residual.ensures ∙ too_much _ _ _ _ _ c.loop-byte.invariant c.loop-byte-test.true (sym c.if-not-is_ascii_digit.ensures.value) (omega (arith, c.in_err-checked_mul.ensures))

pub returns-in_err-value : goal.returns-in_err-value
returns-in_err-value c =
    c.from_residual-in_err-value.ensures ∙ too_much _ _ _ _ _ c.loop-byte.invariant c.loop-byte-test.true (sym c.if-not-is_ascii_digit.ensures.value)
    (omega (arith, c.in_ok-checked_mul.ensures, c.in_err-value.ensures))

pub loop-byte-preserved : goal.loop-byte-preserved
loop-byte-preserved c =
    next_digit _ _ _ _ _ _ c.loop-byte.invariant c.loop-byte-test.true (sym c.if-not-is_ascii_digit.ensures.value)
    (omega (arith, c.in_ok-checked_mul.ensures, c.in_ok-value.ensures)) (omega (arith, c.in_ok-value.ensures))

pub returns : goal.returns
returns c = all_read _ _ _ _ _ c.loop-byte.invariant c.loop-byte-test.false
