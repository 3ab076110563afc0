pub mod Negotiation
pub mod Blocks
pub mod Answers
pub mod Receiver
pub mod Sender
pub mod Arrival
pub mod Acknowledged
pub mod Laws
