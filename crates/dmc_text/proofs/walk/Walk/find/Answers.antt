-- A line is found, or more is fed, or the reader or the writer fails.
use Rattle.std.proofs.Common.{length, refl, sym, ap, subst, ◌∙◌, arith}
use Rattle.std.proofs.KnownBytes.{Keeps-refl}
use Rattle.std.proofs.lemmas.Bool.{ltb-true}
use Rattle.dmc_types.specs.Limits.{max_line_bytes}
use Rattle.dmc_text.specs.Reading.{next_line}
use Rattle.dmc_text.specs.Walks.{Feeds}
use Rattle.dmc_text.proofs.WalkReading.{calm_ok, fails_later, given_err, given_ok, fed_nothing, fed_more, fed_end, fails_read, fails_write}
use Rattle.dmc_text.proofs.walk.Walk.find.Goals as goal

pub loop-self-init : goal.loop-self-init
loop-self-init g c = record {
  feeds = fed_nothing (g.R.Read.remaining c.args.reader.now.stream) (g.W.Write.contents c.args.writer.now.stream) c.args.self.now c.requires;
  reader = refl;
  writer = refl;
}

pub returns-then-is_long-clause-bytes : goal.returns-then-is_long-clause-bytes
returns-then-is_long-clause-bytes g c =
    let walk = c.loop-self.self in
    let r = g.R.Read.remaining in
    let w = g.W.Write.contents in
    let same = c.loop-self-test.ensures.1 in (
      subst (λ l. Feeds (r c.args.reader.now.stream) (w c.args.writer.now.stream) c.args.self.now (r c.loop-self.reader.stream) (w c.loop-self.writer.stream) (record walk { lines = l })) (sym same) c.loop-self.invariant.feeds,
      ap (λ l. next_line l.rest) same ∙ c.loop-self-test.ensures.0,
      ltb-true max_line_bytes (length c.find.new.self.rest) (sym c.if-is_long.ensures.value),
      refl,
      refl,
    )

pub returns-then-is_err-clause-bytes : goal.returns-then-is_err-clause-bytes
returns-then-is_err-clause-bytes g c =
    let r = g.R.Read.remaining c.loop-self.reader.stream in
    let failed = given_err c.drain.result c.if-is_err.ensures.value c.drain.ensures.err in
    let some = given_err c.drain.result c.if-is_err.ensures.value c.drain.ensures.some in
    fails_write c.loop-self.invariant.feeds r (g.W.Write.contents c.drain.new.writer.stream) (record c.loop-self.self { lines = c.find.new.self; out = c.drain.new.out }) (Keeps-refl r) failed some c.drain.ensures.empty

pub loop-self-smaller : goal.loop-self-smaller
loop-self-smaller g c =
    let filled = rw (c.in-Ok-true.field-0-test) at c.in-Ok-true.ensures.bytes in
    omega (arith, c.fill.ensures.taken, filled.3, filled.4, ap (λ l. l.taken) c.loop-self-test.ensures.1)

pub loop-self-preserved : goal.loop-self-preserved
loop-self-preserved g c =
    let sent = given_ok c.drain.result c.if-is_err.ensures.value c.drain.ensures.ok in
    record {
      feeds = fed_more c.loop-self.invariant.feeds (g.R.Read.remaining c.fill.new.reader.stream) (g.W.Write.contents c.drain.new.writer.stream) (record c.loop-self.self { lines = c.fill.new.self; out = c.drain.new.out })
          c.find.new.self c.loop-self-test.ensures.1 sent c.drain.ensures.empty refl c.fill.ensures.taken (rw (c.in-Ok-true.field-0-test) at c.in-Ok-true.ensures.bytes);
      reader = c.in-Ok-true.ensures.note ∙ c.loop-self.invariant.reader;
      writer = calm_ok c.loop-self.writer c.drain.new.writer c.drain.result c.if-is_err.ensures.value c.drain.ensures.note ∙ c.loop-self.invariant.writer;
    }

pub returns-in-Ok-false-clause-bytes : goal.returns-in-Ok-false-clause-bytes
returns-in-Ok-false-clause-bytes g c =
    let sent = given_ok c.drain.result c.if-is_err.ensures.value c.drain.ensures.ok in
    fed_end c.loop-self.invariant.feeds (g.R.Read.remaining c.fill.new.reader.stream) (g.W.Write.contents c.drain.new.writer.stream) (record c.loop-self.self { lines = c.fill.new.self; out = c.drain.new.out })
    c.find.new.self c.loop-self-test.ensures.0 c.loop-self-test.ensures.1 sent c.drain.ensures.empty refl c.fill.ensures.taken (rw (c.in-Ok-false.field-0-test) at c.in-Ok-false.ensures.bytes)

pub returns-in-Err-clause-bytes : goal.returns-in-Err-clause-bytes
returns-in-Err-clause-bytes g c =
    let sent = given_ok c.drain.result c.if-is_err.ensures.value c.drain.ensures.ok in
    fails_read c.loop-self.invariant.feeds (g.R.Read.remaining c.fill.new.reader.stream) (g.W.Write.contents c.drain.new.writer.stream) (record c.loop-self.self { lines = c.fill.new.self; out = c.drain.new.out })
    c.find.new.self c.in-Err.field-0 c.loop-self-test.ensures.1 sent c.drain.ensures.empty c.in-Err.ensures.bytes

pub returns-in-Err-clause-notes : goal.returns-in-Err-clause-notes
returns-in-Err-clause-notes g c =
    let fed = c.loop-self.invariant.feeds in
    let later = ap (λ l. l.taken) c.loop-self-test.ensures.1 ∙ fed.taken in (
      fails_later g.R.Read.remaining c.args.self.now.lines.taken c.find.new.self.taken fed.bytes c.args.reader.now c.loop-self.reader c.fill.new.reader fed.reads later
          c.loop-self.invariant.reader c.in-Err.ensures.note,
      calm_ok c.loop-self.writer c.drain.new.writer c.drain.result c.if-is_err.ensures.value c.drain.ensures.note ∙ c.loop-self.invariant.writer,
    )

pub returns-clause-bytes : goal.returns-clause-bytes
returns-clause-bytes g c = record {
  between = c.loop-self.self;
  feeds = c.loop-self.invariant.feeds;
  found = c.loop-self-test.ensures.0;
  taken = c.loop-self-test.ensures.1;
  out = refl;
  number = refl;
}
