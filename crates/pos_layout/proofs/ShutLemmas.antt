-- A file with a gate, for what stands on a writer: lemmas that are passed on.
pub use Rattle.pos_gate.proofs.GateLemmas.{on_ok, created_is_fresh, images_weaker}
