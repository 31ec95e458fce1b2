-- Joint chains by evaluation (its name puts it first, so that a wrong definition is refused there), what is proved of them, and the
-- verdict of a joining.
pub mod Cases
pub mod JoinedLaws
pub mod Meaning
pub mod OneState
pub mod RateLaws
pub mod Verdicts
