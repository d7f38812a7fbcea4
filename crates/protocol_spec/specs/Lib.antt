-- What a validator is, in the order of reading: the words of the chain, the execution of a block, a member.
pub mod Chain
pub mod Block
pub mod Member
