-- What a worker that is refused reports as the cause of its stop. A lock's refusal that its callers rule out is a stray one.
pub mod Causes
-- What a server's book is made with, and keeps while the clients are registered.
pub mod Books
-- What contracts see of the desks of a cluster while they are opened.
pub mod Desks
-- The value if no run was opened.
pub mod Origins
