-- The lemmas that the proofs share.
mod ByNeed
mod FirstRefusal
