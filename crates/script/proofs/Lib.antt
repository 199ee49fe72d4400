pub mod FieldLaws
pub mod RowLaws
pub mod ScriptLaws
