-- The words of a line.
pub mod Words
-- The numbers of a line.
pub mod Numbers
-- How results are compared, and steps that may fail.
pub mod Answers
-- The commands of a line: which words make one, and what its numbers mean.
pub mod Commands
-- The lines of a script.
pub mod Lines
-- The lines of an event text.
pub mod EventLines
-- The texts of tags: a fraction N, or N/D.
pub mod Tags
-- The texts of replies: words, separated by one space each.
pub mod Replies
-- The lines that are written of a configuration, a command, an event and a segment: words, separated by one space each.
pub mod Written
-- What was written of a reply, a configuration, a command, an event or a segment's header is read as that.
pub mod RoundTrip
-- Whole texts: their lines, what they mean, and what is written for them.
pub mod Texts
-- A text that is read in pieces.
pub mod Reading
-- The lines of a text, one after the other, and how many of its bytes are read.
pub mod LineLaws
-- Watched streams: whether a call of the stream failed, and when a run over a text may report that.
pub mod Watching
-- The loop over the lines of a text.
pub mod Walks
-- The text of a ratio tag: a fraction in lowest terms.
pub mod RatioText
-- What only contracts of private functions and proofs cite.
pub mod internal
