-- What explains a fault: a line behind its own, which names what is wrong and says what was expected.
pub mod Explanations
-- The lines on the keys of a text that are ignored, since no scene has them.
pub mod Ignored
-- The exit status of each fault, and the word of a line's cause.
pub mod Faults
-- Whether the streams of a run failed, by how the run ends. Read and Write are reported only if the reader or the writer
-- failed, or, of a script and of events, at the most bytes of a text.
pub mod Notes
-- The exit status of each way to end without a fault.
pub mod Outcomes
-- The text of a run's report.
pub mod ReportTexts
-- The lines that show how far a command is. How many there are depends on how long it takes, so no contract says that.
pub mod Progress
-- What is remarked on a scene that is read: the lines on its keys that are ignored. They are written behind those of a fault, if an
-- explanation is asked for.
pub mod Remarks
-- What a run of a scene in threads writes, and how it ends.
pub mod RunReports
-- One run of the program, by what its words ask for.
pub mod Runs
-- What a run of a scene in threads reads and writes.
pub mod SceneRuns
-- What reading a scene takes from the reader, and its result.
pub mod Scenes
-- What a simulation reads and writes.
pub mod Sims
-- What is written to the fault writer.
pub mod FaultLine
-- Verdicts on the histories of a report.
pub mod Verdicts
-- What the words of the command line ask for, as clap matches them.
pub mod Words
pub use Rattle.clap.specs.Words as ClapWords
-- What only contracts of private functions and proofs cite.
pub mod internal
