-- To which servers a client's requests go: by the words of a generator, one word a request.
pub mod Plan
