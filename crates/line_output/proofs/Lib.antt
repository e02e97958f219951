-- Laws for the proofs of this crate: a line's bytes (LineLaws), and whether there is a place for them (RoomLaws).
pub mod LineLaws
pub mod RoomLaws
