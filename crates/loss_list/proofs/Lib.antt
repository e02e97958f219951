-- What a word that is taken leaves to read, and the bytes of all (ListLaws).
pub mod ListLaws
