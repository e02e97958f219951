-- What the laws and contracts on sound windows speak of: a change of one page and the limits that stay (Change), what retiring changes
-- and the window while it does (Retire).
pub mod Change
pub mod Retire
