-- The laws that each protocol file states of itself: how it is spelled, and that its length fits its length field. They
-- are proved here, since what an implementation states stands in specs/.
pub mod Lcl
pub mod Lcs
pub mod Lur
pub mod Lus
pub mod Pieces
pub mod Replies
