use Rattle.size_model.proofs.OneReading.{declares_one, fault_apart, fault_one}
use Rattle.size_model.proofs.laws.reading_law.Goals as goal

pub returns : goal.returns
returns c = record { declared = declares_one; fault = fault_one; apart = fault_apart }
