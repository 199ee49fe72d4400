pub mod ReplyLaws
pub mod SessionLaws
pub mod StreamLaws
pub mod CourseLaws
pub mod CutLaws
pub mod PauseLaws
pub mod LoopLaws
pub mod SessionFacts
