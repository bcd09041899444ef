pub mod Steps
pub mod Readings
pub mod Faithfulness
pub mod Judgements
