-- Words, digests, keys, shapes, quorums, certificates, collecting.
pub mod Words
pub mod Tests
pub mod Keys
pub mod Shape
pub mod Committee
pub mod Certificates
pub mod Collecting
