pub mod SendingLaws
pub mod SendingSteps
pub mod ReceivingLaws
pub mod JudgingLaws
pub mod ReceivingOpening
pub mod ReceivingSteps
pub mod Agreement
pub mod Answered
