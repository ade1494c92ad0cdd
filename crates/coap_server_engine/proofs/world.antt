-- Lemmas: each call of a server shows its event, and the messages that a server has processed or rejected after events.
pub mod ShowLaws
pub mod HandledLaws
pub mod RefusedLaws
pub mod AtOnceLaws
