-- The search for the acknowledge point from a distance on (Advance); what each call, and a base set, makes of the point before it
-- (Increments).
pub mod Advance
pub mod Increments
