-- The one result that establishes the table of 01's (P) entries.
-- Assumes nothing.
use Rattle.galois.proofs.Products.{product_57_83, product_57_13, product_05_52}
use Rattle.examples.specs.PublishedEntries.{PublishedEntries}
use Rattle.examples.proofs.ToyProver.{u_is, v_is, C_is, d_is, ũ_is, Ṽ_is, QS0_is, QS1_is, proof_is, proof-length}
use Rattle.examples.proofs.ToyVerifier.{proof_at_02, QS1_changed_at_02, QS1_changed_at_00, ũ_changed_at_02}
use Rattle.examples.proofs.ToyWitness.{equation_0_fails, test-refused, commit-refused, batch-refused, prove-refused}
use Rattle.examples.proofs.ToyForged.{forged_at_00_and_52}

pub published_entries : PublishedEntries
published_entries = record {
  product_57_83 = product_57_83;
  product_57_13 = product_57_13;
  product_05_52 = product_05_52;
  u_is = u_is;
  v_is = v_is;
  C_is = C_is;
  d_is = d_is;
  ũ_is = ũ_is;
  Ṽ_is = Ṽ_is;
  QS0_is = QS0_is;
  QS1_is = QS1_is;
  proof_is = proof_is;
  proof-length = proof-length;
  proof_at_02 = proof_at_02;
  QS1_changed_at_02 = QS1_changed_at_02;
  QS1_changed_at_00 = QS1_changed_at_00;
  ũ_changed_at_02 = ũ_changed_at_02;
  equation_0_fails = equation_0_fails;
  test-refused = test-refused;
  commit-refused = commit-refused;
  batch-refused = batch-refused;
  prove-refused = prove-refused;
  forged_at_00_and_52 = forged_at_00_and_52;
}
