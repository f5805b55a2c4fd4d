pub mod LinesAndWords
pub mod Texts
pub mod ReadingLines
pub mod ScriptAnswers
