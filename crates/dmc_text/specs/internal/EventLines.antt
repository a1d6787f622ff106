-- Which fields of an event's line were read.
use Rattle.dmc_text.specs.Commands.{seen}
use Rattle.dmc_text.specs.Replies.{seen_reply}
use Rattle.dmc_text.specs.declared.event_line.EventWords.{EventWords}
use Rattle.dmc_text.specs.EventLines.{Spoken}

-- ---- the code's words

abbrev pub seen_event : EventWords → Spoken
seen_event e = record { worker = e.worker.now; command = seen e.command; reply = seen_reply e.reply }
